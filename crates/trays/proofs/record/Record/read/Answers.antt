use Rattle.std.proofs.Common.{◌≡◌, ◌-◌, [], map, length, refl, ap, ◌∙◌, arith, rules}
use Rattle.sharing.specs.Calls.{read}
use Rattle.sharing.specs.Dealing.{card_in}
use Rattle.sharing.specs.Promise.{kind_of}
use Rattle.sharing.specs.Steps.{handed}
use Rattle.sharing.specs.Threshold.{scheme_of}
use Rattle.trays.specs.Turns.{holding, told_by}
use Rattle.trays.proofs.Accepted.{card_fits, card_part, card_values, readable, takes_turn}
use Rattle.trays.proofs.record.Record.read.Goals as goal

pub part-requires : goal.part-requires
part-requires g c =
    let p = c.args.self.now.plan in
    let told = readable p 0 c.args.harbour (length c.args.tray.now) (told_by c.args.self.now) refl c.in_ok-judge_read.ensures in
    card_fits p _ c.card_length.result (length c.args.tray.now) c.card_length.ensures told.0 (omega (arith, told.1, told.2))

pub returns : goal.returns
returns g c =
    let p = c.args.self.now.plan in
    let judged = c.in_ok-judge_read.ensures in
    let told = readable p 0 c.args.harbour (length c.args.tray.now) (told_by c.args.self.now) refl judged in
    let own = card_part p c.args.harbour c.card_length.result c.args.tray.now c.card_length.ensures told.1 told.2 in
    let part : c.part.result.now ≡ card_in (scheme_of p) (c.args.harbour - 1) c.args.tray.now = search (rules, own) in
    record {
      turns = λ sheet code number width.
          let s = holding (told_by c.args.self.now) c.args.tray.now sheet in
          takes_turn (kind_of g.E.Element.group g.E.Element.meaning code number width) s s (read c.args.harbour (length c.args.tray.now)) [] _ judged refl
          (ap handed (ap (map g.E.Element.meaning) part ∙ card_values p g.E.Element.meaning c.args.harbour c.args.tray.now), refl, refl);
      part = part;
    }

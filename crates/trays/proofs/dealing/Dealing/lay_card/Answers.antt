use Rattle.std.proofs.Common.{◌-◌, ◌<◌, map, length, get_or, ap, ◌∙◌, arith, rules}
use Rattle.plans.specs.Refusals.{number_of}
use Rattle.sharing.specs.Threshold.{scheme_of}
use Rattle.trays.specs.Dealings.{key_dealt}
use Rattle.trays.proofs.Cards.{Sourced, block_there, card_ends, card_grows}
use Rattle.trays.proofs.Fronts.{laid_still}
use Rattle.trays.proofs.Seats.{Seat, seated, some_number, unseated}
use Rattle.trays.proofs.dealing.Dealing.lay_card.Given as given
use Rattle.trays.proofs.dealing.Dealing.lay_card.Goals as goal
use Rattle.trays.proofs.dealing.Dealing.lay_card.Goals.{In-Ok, in-Ok, in_default}

-- Where the slips lie, and which they are.
seat : (g : given.Over) (c : In-Ok g) → Seat c.args.self.now.table.now.plan c.loop-number.number (c.args.harbour - 1) c.in-Ok.place c.in-Ok.sign
seat g c =
    seated c.args.self.now.table.now.plan c.masks-mask-items.result.now c.loop-number.number c.args.harbour c.in-Ok.place c.in-Ok.sign c.masks-mask-items.ensures.value (search rules)
    c.requires.some c.requires.few c.in-Ok.ensures

pub source-requires : goal.source-requires
source-requires g c = (seat g (goal.at.source-requires g c).In-Ok).low

pub lay_at-requires-clause-room : goal.lay_at-requires-clause-room
lay_at-requires-clause-room g c =
    omega (arith, (seat g (goal.at.lay_at-requires-clause-room g c).In-Ok).room, c.source.ensures.size, c.requires.room, c.loop-number.invariant.long)

pub lay_at-requires-clause-block : goal.lay_at-requires-clause-block
lay_at-requires-clause-block g c =
    let source : Sourced c.args.self.now c.loop-number.number c.source.result =
    record { keyed = c.source.ensures.key; owned = c.source.ensures.own; sized = c.source.ensures.size } in
    block_there c.args.self.now c.loop-number.number c.args.harbour c.in-Ok.place (get_or c.masks-mask-items.result.now c.loop-number.number 0) c.in-Ok.sign c.source.result c.then_some-block.result
    (ap (λ ms. get_or ms c.loop-number.number 0) c.masks-mask-items.ensures.value) c.requires.some source (seat g (goal.at.lay_at-requires-clause-block g c).In-Ok) (search rules)

pub loop-number-preserved : goal.loop-number-preserved
loop-number-preserved g c =
    let d = c.args.self.now in
    let p = d.table.now.plan in
    let ms = c.masks-mask-items.result.now in
    let listed = c.masks-mask-items.ensures.value in
    let n = c.loop-number.number in
    let low : n < length ms = search rules in
    let so_far = c.loop-number.invariant in
    elim c.match-find.branch [
      | in-Ok w ↦
          let here = seated p ms n c.args.harbour w.in-Ok.place w.in-Ok.sign listed low c.requires.some c.requires.few w.in-Ok.ensures in
          let source : Sourced d n w.source.result = record { keyed = w.source.ensures.key; owned = w.source.ensures.own; sized = w.source.ensures.size } in
          rw w.tray-is (record {
            laid = card_grows d g.E.Element.group g.E.Element.meaning n c.args.harbour w.in-Ok.place (get_or ms n 0) w.in-Ok.sign w.source.result w.then_some-block.result
                c.loop-number.tray w.lay_at.new.tray (ap (λ xs. get_or xs n 0) listed) c.requires.some source here (search rules) so_far.laid w.lay_at.ensures.laid;
            long = w.lay_at.ensures.long ∙ so_far.long;
          })
      | in_default w ↦
          let out = unseated p ms n c.args.harbour (number_of w.in_default.field-0) listed low c.requires.some (some_number w.in_default.field-0) w.in_default.ensures in
          rw w.tray-is (record {
            laid = laid_still (scheme_of p) g.E.Element.group (key_dealt g.E.Element.group g.E.Element.meaning d) (map g.E.Element.meaning d.random.now)
                (c.args.harbour - 1) n (map g.E.Element.meaning c.loop-number.tray) out so_far.laid;
            long = so_far.long;
          })
    ]

pub returns-clause-laid : goal.returns-clause-laid
returns-clause-laid g c =
    card_ends c.args.self.now g.E.Element.group g.E.Element.meaning c.masks-mask-items.result.now c.args.harbour c.loop-number.number c.loop-number.tray
    c.masks-mask-items.ensures.value (search rules) c.requires.some c.loop-number.invariant.laid

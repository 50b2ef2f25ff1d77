use Rattle.std.proofs.Common.{◌≡◌, ℕ, [], List, length, refl, arith, rules, tests}
use Rattle.std.proofs.lemmas.Iterator.{first_from_Range}
use Rattle.matrix.proofs.Numbered.{many}
use Rattle.sharing.specs.Calls.{audit, tray_length}
use Rattle.sharing.specs.Promise.{kind_of}
use Rattle.sharing.specs.Threshold.{scheme_of}
use Rattle.trays.specs.Turns.{holding, told_by}
use Rattle.trays.proofs.Accepted.{auditable, audited, restored_in, same_scheme, takes_turn}
use Rattle.trays.proofs.Lengths.{tray_long}
use Rattle.trays.proofs.record.Record.audit.Goals as goal

pub returns : goal.returns
returns g c = λ sheet code number width.
    let p = c.args.self.now.plan in
    let q = c.table-table.result.plan in
    let K = kind_of g.E.Element.group g.E.Element.meaning code number width in
    let s = holding (told_by c.args.self.now) c.args.tray.now sheet in
    let long : length c.args.tray.now ≡ tray_length (scheme_of p) = search (rules, tray_long) in
    let rest : ℕ → List g.E.Element.group.Value = restored_in K c.args.tray.now (scheme_of q) in
    let found = first_from_Range _ _ _ c.find.result (λ h. rest h ≡ rest 0 → ⊥) (λ h. rest h ≡ rest 0) c.find.ensures.ran (λ x q k. search (rules, tests)) (λ x q k. search (rules, tests)) in
    takes_turn K s s (audit (length c.args.tray.now)) [] _ (auditable width (length c.args.tray.now) (told_by c.args.self.now) long) refl
    (audited K c.args.tray.now (told_by c.args.self.now) (scheme_of q) _ _ c.find.result found (same_scheme q p c.table-table.ensures.plan) (omega arith) (omega (arith, many p, c.group_count.ensures.value)), refl, refl)

use Rattle.std.proofs.Common.{◌≡◌, refl, rules, tests}
use Rattle.std.proofs.lemmas.Iterator.{YieldsList-from_range, cases_from_all}
use Rattle.trays.specs.Trays.{one_restored}
use Rattle.trays.proofs.Sums.{all_alike}
use Rattle.trays.proofs.tray.Tray.restores_alike.Goals as goal

pub returns : goal.returns
returns g c =
    let f = one_restored g.E.Element.group g.E.Element.meaning c.args.self.now in
    let k = c.args.self.now.table.now.plan.components in
    all_alike (f c.args.number) (f 0) k c.all.result
    (cases_from_all _ _ _ (λ j. f c.args.number j ≡ f 0 j) (λ j. f c.args.number j ≡ f 0 j → ⊥) c.all.ensures.ran (YieldsList-from_range 0 c.components-components.result k refl (search rules))
    (λ x q h. search (rules, tests)) (λ x q h. search (rules, tests)))

use Rattle.std.proofs.Common.{◌≡◌, rules, tests}
use Rattle.std.proofs.lemmas.Iterator.{YieldsList-from_slice, YieldsList-from_zip, cases_from_all}
use Rattle.clients.proofs.Places.{decided}
use Rattle.clients.proofs.all_same.Goals as goal

pub returns : goal.returns
returns g c =
    let m = g.E.Element.meaning in
    decided m c.args.these.now c.args.others.now c.requires c.all.result
    (cases_from_all c.all.new.self _ _ (λ p. m p.0 ≡ m p.1) (λ p. m p.0 ≡ m p.1 → ⊥) c.all.ensures.ran (YieldsList-from_zip (YieldsList-from_slice c.args.these.now (search rules)) (YieldsList-from_slice c.args.others.now (search rules)))
    (λ x q k. search (rules, tests)) (λ x q k. search (rules, tests)))

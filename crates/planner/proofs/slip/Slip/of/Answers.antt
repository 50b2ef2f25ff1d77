-- A group by its number is found by its mask. Assumes nothing.
use Rattle.std.proofs.Common.{inr, rules}
use Rattle.planner.proofs.Lying.{Grouped, absent, grouped, lies}
use Rattle.planner.proofs.slip.Slip.of.Goals as goal

pub returns-in_err-place : goal.returns-in_err-place
returns-in_err-place c =
    let group : Grouped c.args.table.now.plan c.args.number c.in_ok-mask.mask = search (rules, grouped) in
    rw c.from_residual-in_err-place.ensures
    (inr (absent c.args.table.now.plan c.args.number c.args.harbour c.in_ok-mask.mask group c.find.result c.in_err-place.ensures.value c.find.ensures))

pub returns : goal.returns
returns c =
    let group : Grouped c.args.table.now.plan c.args.number c.in_ok-mask.mask = search (rules, grouped) in
    lies c.args.table.now.plan c.args.number c.args.harbour c.in_ok-mask.mask group
    c.find.result (c.in_ok-place.place, c.in_ok-place.sign) c.in_ok-place.ensures.value c.find.ensures

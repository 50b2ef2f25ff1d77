-- What the code of `entry` leaves to show. Assumes nothing.
use Rattle.plans.specs.Shape.{shape_of}
use Rattle.matrix.proofs.Entries.{inside, entry_byte}
use Rattle.matrix.proofs.Numbered.{numbered}
use Rattle.matrix.proofs.Small.{slips_stay_small, slips_of_a_plan_stay_small}
use Rattle.matrix.proofs.entry.Goals as goal

pub returns-in_err-inside-clause-numbered : goal.returns-in_err-inside-clause-numbered
returns-in_err-inside-clause-numbered c = numbered

pub returns-in_err-inside-clause-small : goal.returns-in_err-inside-clause-small
returns-in_err-inside-clause-small c = (slips_stay_small, slips_of_a_plan_stay_small)

pub returns : goal.returns
returns c =
    let asked = inside (shape_of c.args.plan.now) c.args.row c.args.column c.in_ok-inside.ensures in
    let value = entry_byte c.args.plan.now c.args.row c.args.column c.threshold.result c.row_label.result c.column_label.result c.marked-one.result c.from.result
    asked.0 asked.1 c.row_label.ensures c.column_label.ensures c.threshold.ensures c.marked-one.ensures c.from.ensures in
    record { value = (c.in_ok-inside.ensures, value); numbered = numbered; small = (slips_stay_small, slips_of_a_plan_stay_small) }

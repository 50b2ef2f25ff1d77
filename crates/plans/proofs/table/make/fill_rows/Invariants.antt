use Rattle.plans.proofs.Filling.{Rows}
use Rattle.plans.proofs.table.make.fill_rows.Given as goal

abbrev pub invariant-loop-n : goal.invariant-loop-n
invariant-loop-n l = Rows l.n l.rows

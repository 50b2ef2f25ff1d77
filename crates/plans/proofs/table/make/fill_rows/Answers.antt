use Rattle.std.proofs.Common.{rules}
use Rattle.plans.proofs.Filling.{row_more}
use Rattle.plans.proofs.table.make.fill_rows.Goals as goal

pub loop-n-preserved : goal.loop-n-preserved
loop-n-preserved c = search (rules, row_more)

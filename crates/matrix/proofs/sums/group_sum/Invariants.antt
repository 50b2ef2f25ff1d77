-- What holds at each turn of the loop of `group_sum`. Assumes nothing.
use Rattle.std.proofs.Common.{◌≡◌, ◌-◌}
use Rattle.matrix.specs.Labels.{column_named}
use Rattle.matrix.specs.Restores.{sum_in}
use Rattle.matrix.proofs.sums.group_sum.Given as goal

abbrev pub invariant-loop-position : goal.invariant-loop-position
invariant-loop-position l = l.sum ≡ sum_in l.threshold (l.position - 1) l.group l.component (column_named l.column)

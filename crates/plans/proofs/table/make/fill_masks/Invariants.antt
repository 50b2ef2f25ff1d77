use Rattle.std.proofs.Common.{◌≡◌, length}
use Rattle.plans.proofs.Filling.{Filled}
use Rattle.plans.proofs.table.make.fill_masks.Given as goal

abbrev pub invariant-loop-number : goal.invariant-loop-number
invariant-loop-number l = Filled l.yielded l.masks × (l.count ≡ length l.yielded)

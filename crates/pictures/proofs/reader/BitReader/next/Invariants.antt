-- What holds while next reads on: nothing of what is left has changed. Assumes nothing.
use Rattle.std.proofs.Common.{◌-◌}
use Rattle.pictures.proofs.Unread.{Unchanged}
use Rattle.pictures.proofs.reader.BitReader.next.Given as goal

abbrev pub invariant-loop-self : goal.invariant-loop-self
invariant-loop-self l = Unchanged l.initial.self l.self

abbrev pub decreases-loop-self : goal.decreases-loop-self
decreases-loop-self l = l.self.width - l.self.bits

-- What is read so far stands in front of what is left to read. Assumes nothing.
use Rattle.std.proofs.Common.{◌≡◌, length, vec_items}
use Rattle.cardcheck.specs.Lines.{bytes_by}
use Rattle.cardcheck.proofs.Spelling.{before}
use Rattle.cardcheck.proofs.line.bytes_by.Given as goal

abbrev pub invariant-loop-rest : goal.invariant-loop-rest
invariant-loop-rest l = bytes_by l.text ≡ before (vec_items l.bytes) (bytes_by l.rest)

abbrev pub decreases-loop-rest : goal.decreases-loop-rest
decreases-loop-rest l = length l.rest

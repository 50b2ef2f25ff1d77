-- The opposite of an element means the opposite of what it means. Assumes nothing.
use Rattle.std.proofs.Common.{arith}
use Rattle.kinds.specs.Residue.{same_residue}
use Rattle.kinds.proofs.dial_number.DialNumberElement.opposite.Goals as goal

pub returns : goal.returns
returns c = same_residue _ _ (omega arith)

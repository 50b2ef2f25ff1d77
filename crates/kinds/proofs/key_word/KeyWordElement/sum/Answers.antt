-- The sum of two elements means the sum of what they mean. Assumes nothing.
use Rattle.std.proofs.Common.{arith}
use Rattle.kinds.specs.Residue.{same_residue}
use Rattle.kinds.proofs.key_word.KeyWordElement.sum.Goals as goal

pub returns : goal.returns
returns c = same_residue _ _ (omega arith)

-- The sum of two elements means the sum of what they mean. Assumes nothing.
use Rattle.std.proofs.Common.{arith}
use lib.Bits.{xor_mod}
use Rattle.kinds.specs.Residue.{same_residue}
use Rattle.kinds.proofs.mask_byte.MaskByteElement.sum.Goals as goal

pub returns : goal.returns
returns c = same_residue _ _ (omega (arith, xor_mod c.args.self.now.value c.args.other.now.value 8))

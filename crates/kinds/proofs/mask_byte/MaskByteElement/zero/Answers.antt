-- Zero means zero. Assumes nothing.
use Rattle.std.proofs.Common.{arith}
use Rattle.kinds.specs.Residue.{same_residue}
use Rattle.kinds.proofs.mask_byte.MaskByteElement.zero.Goals as goal

pub returns : goal.returns
returns c = same_residue _ _ (omega arith)

-- The code is the number that the element means. Assumes nothing.
use Rattle.std.proofs.Common.{◌^◌, arith, pow_pos}
use Rattle.kinds.proofs.Means.{means}
use Rattle.kinds.proofs.mask_byte.MaskByteCard.code.Goals as goal

pub returns : goal.returns
returns c = record { value = omega arith; fits = omega arith; all_fit = omega arith; means = λ a b. means (2 ^ 8) (pow_pos 8) a.value b.value }

-- The code is the number that the element means. Assumes nothing.
use Rattle.std.proofs.Common.{◌^◌, arith, pow_pos}
use Rattle.kinds.proofs.Means.{means}
use Rattle.kinds.proofs.key_word.KeyWordCard.code.Goals as goal

pub returns : goal.returns
returns c = record { value = omega arith; fits = omega arith; all_fit = omega arith; means = λ a b. means (2 ^ 32) (pow_pos 32) a.value b.value }

-- Two elements are the same exactly if they mean the same. Assumes nothing.
use Rattle.std.proofs.Common.{◌^◌, pow_pos, rules}
use Rattle.kinds.proofs.Means.{tells}
use Rattle.kinds.proofs.key_word.KeyWordElement.same.Goals as goal

pub returns : goal.returns
returns c = tells (2 ^ 32) (pow_pos 32) _ _ _ (search rules) (search rules)

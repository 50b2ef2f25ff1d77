-- Two elements are the same exactly if they mean the same. Assumes nothing.
use Rattle.std.proofs.Common.{lit<, rules}
use Rattle.kinds.proofs.Means.{tells}
use Rattle.kinds.proofs.dial_number.DialNumberElement.same.Goals as goal

pub returns : goal.returns
returns c = tells 10000 (lit< tt) _ _ _ (search rules) (search rules)

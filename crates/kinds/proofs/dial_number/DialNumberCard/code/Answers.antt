-- The code is the number that the element means. Assumes nothing.
use Rattle.std.proofs.Common.{arith, lit<}
use Rattle.kinds.proofs.Means.{means}
use Rattle.kinds.proofs.dial_number.DialNumberCard.code.Goals as goal

pub returns : goal.returns
returns c = record { value = omega arith; fits = omega arith; all_fit = omega arith; means = λ a b. means 10000 (lit< tt) a.held b.held }

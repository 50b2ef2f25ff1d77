-- The worked cases, by computing. Assumes nothing.
use Rattle.std.proofs.Common.{refl}
use lib.Count.{ones, ones_in}
use Rattle.matrix.specs.Worked.{Worked, TwoOfFour, FiveOfTen, TwoOfTwo}

two_of_four : TwoOfFour
unfolding ones ones_in
two_of_four = (refl, refl, refl)

five_of_ten : FiveOfTen
unfolding ones ones_in
five_of_ten = (refl, refl)

two_of_two : TwoOfTwo
unfolding ones ones_in
two_of_two = refl

pub worked : Worked
worked = (two_of_four, five_of_ten, two_of_two)

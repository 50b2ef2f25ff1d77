-- The worked cases, by computing. Assumes nothing.
use Rattle.std.proofs.Common.{refl}
use lib.Count.{ones, ones_in}
use Rattle.matrix.proofs.Cases.{worked}
use Rattle.sharing.specs.Worked.{WorkedCases, DialsAreDealt, DialsAreRenewed, MasksAreDealt, WordsAreDealt, CardIsPictured}

dials_are_dealt : DialsAreDealt
unfolding ones ones_in
dials_are_dealt = refl

dials_are_renewed : DialsAreRenewed
unfolding ones ones_in
dials_are_renewed = (refl, refl)

masks_are_dealt : MasksAreDealt
unfolding ones ones_in
masks_are_dealt = refl

words_are_dealt : WordsAreDealt
unfolding ones ones_in
words_are_dealt = refl

card_is_pictured : CardIsPictured
unfolding ones ones_in
card_is_pictured = refl

pub worked_cases : WorkedCases
worked_cases = (worked, dials_are_dealt, dials_are_renewed, masks_are_dealt, words_are_dealt, card_is_pictured)

-- Each call gives the next word, and the last says what comes after the third. Assumes nothing.
use Rattle.std.proofs.Common.{refl, inl, inr}
use Rattle.planner.proofs.Cutting.{first_of, one_word, two_words, just_three, four_words}
use Rattle.planner.proofs.request.three_words.Goals as goal

pub returns-in_err-next-2 : goal.returns-in_err-next-2
returns-in_err-next-2 c =
    let one = first_of c.split_whitespace-words.ensures.rest c.in_ok-next.ensures.steps in
    rw c.from_residual-in_err-next-2.ensures (inl (one_word one c.in_err-next-2.ensures.steps.1))

pub returns-in_err-next-3 : goal.returns-in_err-next-3
returns-in_err-next-3 c =
    let one = first_of c.split_whitespace-words.ensures.rest c.in_ok-next.ensures.steps in
    let two = first_of refl c.in_ok-next-2.ensures.steps in
    rw c.from_residual-in_err-next-3.ensures (inl (two_words one two c.in_err-next-3.ensures.steps.1))

pub returns-in-None : goal.returns-in-None
returns-in-None c =
    let one = first_of c.split_whitespace-words.ensures.rest c.in_ok-next.ensures.steps in
    let two = first_of refl c.in_ok-next-2.ensures.steps in
    let three = first_of refl c.in_ok-next-3.ensures.steps in
    just_three one two three c.in-None.ensures.steps.1

pub returns-in-Some : goal.returns-in-Some
returns-in-Some c =
    let one = first_of c.split_whitespace-words.ensures.rest c.in_ok-next.ensures.steps in
    let two = first_of refl c.in_ok-next-2.ensures.steps in
    let three = first_of refl c.in_ok-next-3.ensures.steps in
    inr (four_words one two three (first_of refl c.in-Some.ensures.steps))

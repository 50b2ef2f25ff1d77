-- Which refusal a card meets on the way to its place, and the picture once head and body stand there. Assumes nothing.
use Rattle.std.proofs.Common.{◌≡◌, ℕ, ◌+◌, ◌≤◌, List, map, length, ◌∙◌, ap₂, arith}
use Rattle.std.proofs.lemmas.Nat.{mul-le}
use Rattle.std.proofs.lemmas.List.{length-map}
use Rattle.std.proofs.lemmas.Bool.Decides.{nat_tests}
use Rattle.sharing.specs.Format.{Head, body_length}
use Rattle.pictures.specs.Reading.{slips_of}
use Rattle.pictures.specs.Writing.{write_refusal}

-- a card's codes take few bytes
pub body_small : (width n : ℕ) → width ≤ 32 → n ≤ 2016 → body_length width n ≤ 8064
body_small width n narrow few = omega (arith, mul-le width n 32 2016 narrow few)

-- the length of the body, by a width and a count that are the same
pub body_same : (width width' bytes count n : ℕ) → width' ≡ width → count ≡ n → bytes ≡ body_length width' count → bytes ≡ body_length width n
body_same width width' bytes count n same all body = body ∙ ap₂ body_length same all

module _ {C : Type 0} (coded : C → ℕ) (width : ℕ) (h : Head) (slips : List C) (place count : ℕ) (low : 1 ≤ h.harbour) (high : h.harbour ≤ h.harbours) (card : count ≡ slips_of h) where
  codes_many : length (map coded slips) ≡ length slips
  codes_many = length-map slips coded

  module _ (width' bytes : ℕ) (same : width' ≡ width) (body : bytes ≡ body_length width' count) (all : length slips ≡ count) where
    body_is : bytes ≡ body_length width (slips_of h)
    body_is = body_same width width' bytes count (slips_of h) same card body

    pub refuses_none : place ≡ 9 + bytes → write_refusal width h (length (map coded slips)) place ≡ 0
    refuses_none long =
        let many = codes_many in
        let is = body_is in grind (arith, nat_tests)

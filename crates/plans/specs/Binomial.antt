-- How many ways there are to choose some of a number of things. Assumes nothing.
use Rattle.std.specs.Prelude.{◌≡◌, ℕ, zero, suc, ◌+◌, ◌<◌}

-- C(n, r): with one thing more, it is chosen, with r - 1 of the others, or it is not.
abbrev pub choose : ℕ → ℕ → ℕ
choose zero zero = 1
choose zero (suc r) = 0
choose (suc n) zero = 1
choose (suc n) (suc r) = choose n r + choose n (suc r)

-- The rule by which the count is usually told: 1 at both ends, 0 past n, and otherwise the sum of the two above.
abbrev pub ChoosesByRule : Type 0
ChoosesByRule =
    ((n : ℕ) → choose n 0 ≡ 1) × ((n : ℕ) → choose n n ≡ 1) × ((n r : ℕ) → n < r → choose n r ≡ 0)
    × ((n r : ℕ) → choose (n + 1) (r + 1) ≡ choose n r + choose n (r + 1))

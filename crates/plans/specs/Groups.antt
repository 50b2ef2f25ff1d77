-- Masks of harbours, and the groups of a threshold plan as masks by rising number. Assumes nothing.
use Rattle.std.specs.Prelude.{ℕ, suc, ◌+◌, ◌-◌, ◌/◌, ◌%◌, ◌^◌, Bool, cond, ◌&&◌, List, [], ◌∷◌, length, ℤ, pos, negsuc, filter, ◌==◌, count_ones, nat_eq, nat_lt}
use Rattle.std.specs.List.{range_with_len}
use Rattle.plans.specs.Binomial.{choose}

-- Whether a mask has the bit at a place, counted from 0.
abbrev pub has : ℕ → ℕ → Bool
has mask bit = mask / 2 ^ bit % 2 == 1

-- Whether a mask names a harbour, counted from 1: harbour h has bit h - 1.
abbrev pub member : ℕ → ℕ → Bool
member mask harbour = nat_lt 0 harbour && has mask (harbour - 1)

-- The bits of a mask among the first n, rising.
abbrev pub members : ℕ → ℕ → List ℕ
members n mask = filter (has mask) (range_with_len 0 n)

-- The position of the member at a bit: 1 for the lowest, and one more for each member below.
abbrev pub position : ℕ → ℕ → ℕ
position mask bit = length (members bit mask) + 1

-- The sign of a slip: 1 at position 1 and -1 elsewhere.
abbrev pub sign : ℕ → ℤ
sign i = cond (i == 1) (pos 1) (negsuc 0)

-- The groups of n harbours with threshold t: each mask below 2^n with just t bits, by rising mask.
abbrev pub groups : ℕ → ℕ → List ℕ
groups n t = filter (λ m. nat_eq (count_ones m) t) (range_with_len 0 (2 ^ n))

-- A sum over bits, each with its position, which runs from j.
abbrev pub weighed : (ℕ → ℕ → ℕ) → ℕ → List ℕ → ℕ
weighed w j [] = 0
weighed w j (p ∷ ps) = w p j + weighed w (suc j) ps

-- C(p1, 1) + C(p2, 2) + .. over the bits p1 < p2 < .. of a group: its number.
abbrev pub rank : List ℕ → ℕ
rank ps = weighed choose 1 ps

-- What a bit adds to a group's rank on the card of the harbour at bit p: below p as in its number, at p nothing, and above as if p were left out.
abbrev pub on_card : ℕ → ℕ → ℕ → ℕ
on_card p q j = cond (nat_lt q p) (choose q j) (cond (nat_lt p q) (choose (q - 1) (j - 1)) 0)

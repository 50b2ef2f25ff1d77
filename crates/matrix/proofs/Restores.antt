-- A group's rows of one component, under their signs, sum to the key's own column. Assumes nothing.
use Rattle.std.proofs.Common.{◌≡◌, ℕ, zero, suc, ◌+◌, ◌-◌, ◌<◌, ◌≤◌, Bool, true, cond, ◌&&◌, ◌||◌, eqb, ltb, ◌++◌, ℤ, pos, ◌+ℤ◌, ◌*ℤ◌, fold, sym, refl, ap, ◌∙◌, subst, ap₂, add_comm, add-one, arith, w8, SFits, to_z, of_z}
use lib.Count.{ones}
use Rattle.std.specs.List.{range_with_len}
use Rattle.std.proofs.lemmas.List.Elements.{All-get_or}
use Rattle.std.proofs.lemmas.List.Sums.{fold_push}
use Rattle.std.proofs.lemmas.Int.{to_z-of_z}
use Rattle.std.proofs.lemmas.Bool.{eqb-true, and_parts}
use Rattle.std.proofs.lemmas.Bool.Decides.{nat_tests}
use Rattle.plans.specs.Groups.{sign}
use Rattle.matrix.specs.Matrix.{Column, key, block, marked_in, size_of, signed_sum}
use Rattle.matrix.specs.Restores.{key_only, sum_in, ColumnsRestore}
use Rattle.plans.proofs.Counting.{counting_append}
use Rattle.matrix.proofs.Every.{every_column}

-- The sum over the first n positions: 1 from position 1 on, and at a block of the group only until the position that takes it back.
abbrev pub partly : ℕ → ℕ → ℕ → ℕ → Column → ℕ
partly size n g c (key j) = cond (ltb 0 n && eqb c j) 1 0
partly size n g c (block g' b j) = cond ((ltb 0 n && ltb (b + n) size) && (eqb g g' && eqb c j)) 1 0

-- That a block of the group is one that it has.
abbrev pub Had : ℕ → ℕ → Column → Type 0
Had size g (key j) = Unit {0}
Had size g (block g' b j) = g ≡ g' → b < size - 1

-- Sign times entry at a position.
abbrev pub term : ℕ → ℕ → ℕ → Column → ℕ → ℤ
term size g c j i = sign i *ℤ pos (cond (marked_in size (record { group = g; position = i; component = c }) j) 1 0)

step_key : (n : ℕ) (same : Bool) → pos (cond (ltb 0 n && same) 1 0) +ℤ (sign (n + 1) *ℤ pos (cond (eqb (n + 1) 1 && same) 1 0)) ≡ pos (cond (ltb 0 (n + 1) && same) 1 0)
step_key n same = grind (arith, nat_tests)

step_block : (size b n : ℕ) (same : Bool) → (same ≡ true → b < size - 1)
    → pos (cond ((ltb 0 n && ltb (b + n) size) && same) 1 0) +ℤ (sign (n + 1) *ℤ pos (cond ((eqb (n + 1) 1 || eqb (b + (n + 1)) size) && same) 1 0))
    ≡ pos (cond ((ltb 0 (n + 1) && ltb (b + (n + 1)) size) && same) 1 0)
step_block size b n same had = grind (arith, nat_tests)

-- one position more
sum_more : (size n g c : ℕ) (j : Column) → sum_in size (n + 1) g c j ≡ sum_in size n g c j +ℤ term size g c j (n + 1)
sum_more size n g c j =
    ap (fold (λ s i. s +ℤ term size g c j i) (pos 0)) (counting_append 1 n 1 ∙ ap (λ b. range_with_len 1 n ++ range_with_len b 1) (add_comm 1 n))
    ∙ fold_push (λ s i. s +ℤ term size g c j i) (pos 0) (range_with_len 1 n) (n + 1)

sum_is : (size n g c : ℕ) (j : Column) → Had size g j → sum_in size n g c j ≡ pos (partly size n g c j)
sum_is size zero g c (key j) had = refl
sum_is size zero g c (block g' b j) had = refl
sum_is size (suc n) g c (key j) had =
    ap (λ m. sum_in size m g c (key j)) (sym (add-one n)) ∙ sum_more size n g c (key j)
    ∙ ap (λ s. s +ℤ term size g c (key j) (n + 1)) (sum_is size n g c (key j) had)
    ∙ step_key n (eqb c j) ∙ ap (λ m. pos (partly size m g c (key j))) (add-one n)
sum_is size (suc n) g c (block g' b j) had =
    ap (λ m. sum_in size m g c (block g' b j)) (sym (add-one n)) ∙ sum_more size n g c (block g' b j)
    ∙ ap (λ s. s +ℤ term size g c (block g' b j) (n + 1)) (sum_is size n g c (block g' b j) had)
    ∙ step_block size b n (eqb g g' && eqb c j) (λ e. had (eqb-true g g' (and_parts (eqb g g') (eqb c j) e).0))
    ∙ ap (λ m. pos (partly size m g c (block g' b j))) (add-one n)

partly_small : (size n g c : ℕ) (j : Column) → partly size n g c j ≤ 1
partly_small size n g c (key j) = grind (arith, nat_tests)
partly_small size n g c (block g' b j) = grind (arith, nat_tests)

partly_whole : (size g c : ℕ) (j : Column) → 1 ≤ size → pos (partly size size g c j) ≡ key_only c j
partly_whole size g c (key j) some = grind (arith, nat_tests)
partly_whole size g c (block g' b j) some = grind (arith, nat_tests)

-- a sum so far fits 8 bits
pub sum_fits : (size n g c : ℕ) (j : Column) (z : ℤ) → Had size g j → z ≡ sum_in size n g c j → SFits w8 z
sum_fits size n g c j z had e =
    let small : SFits w8 (pos (partly size n g c j)) = record { sfits = omega (arith, partly_small size n g c j) } in
    subst (SFits w8) (sym (e ∙ sum_is size n g c j had)) small

-- the sum so far with the term of the next position, as it is added in 8 bits and as it is kept in them
pub sum_turn : (size i n g c : ℕ) (j : Column) (bits : ℕ) (y : ℤ) → i ≡ n → Had size g j → 1 ≤ i → to_z w8 bits ≡ sum_in size (i - 1) g c j → y ≡ term size g c j i → SFits w8 y
    → SFits w8 (to_z w8 bits +ℤ to_z w8 (of_z w8 y)) × (to_z w8 (of_z w8 (to_z w8 bits +ℤ to_z w8 (of_z w8 y))) ≡ sum_in size n g c j)
sum_turn size i n g c j bits y is had some e f small =
    let more : i - 1 + 1 ≡ i = omega arith in
    let whole : to_z w8 bits +ℤ to_z w8 (of_z w8 y) ≡ sum_in size n g c j =
    ap₂ ◌+ℤ◌ e (to_z-of_z w8 y small ∙ f ∙ ap (term size g c j) (sym more)) ∙ sym (sum_more size (i - 1) g c j) ∙ ap (λ m. sum_in size m g c j) (more ∙ is) in
    let fits = sum_fits size n g c j _ had whole in
    (fits, to_z-of_z w8 _ fits ∙ whole)

pub sum_whole : (size g c : ℕ) (j : Column) → Had size g j → 1 ≤ size → sum_in size size g c j ≡ key_only c j
sum_whole size g c j had some = sum_is size size g c j had ∙ partly_whole size g c j some

pub columns_restore : ColumnsRestore
columns_restore masks k g c some l =
    every_column (λ j. signed_sum masks g c j ≡ key_only c j) masks k (λ j. sum_whole (size_of masks g) g c (key j) tt one)
    (λ g' b j _ had. sum_whole (size_of masks g) g c (block g' b j) (λ e. rw e had) one)
  where
    one : 1 ≤ size_of masks g
    one = All-get_or (λ m. 1 ≤ ones m) masks g 0 l some

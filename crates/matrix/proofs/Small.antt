-- Slips of zeros and ones stay small. Assumes nothing.
use Rattle.std.proofs.Common.{◌≡◌, ℕ, ◌+◌, ◌-◌, ◌*◌, ◌^◌, ◌≤◌, Bool, true, false, cond, ◌&&◌, ◌||◌, eqb, leb, List, [], ◌∷◌, map, length, All, sum_by, count_by, refl, ap, ◌∙◌, subst, ⊎_elim, le_trans, le_of_eq, arith}
use Rattle.std.specs.List.{range_with_len, flat_map}
use Rattle.std.proofs.lemmas.List.Elements.{All-head, All-tail}
use Rattle.std.proofs.lemmas.List.Sums.{sum_by-append, sum_by-cons}
use Rattle.std.proofs.lemmas.Bool.{cases_eq}
use Rattle.std.proofs.lemmas.Bool.Decides.{nat_tests}
use Rattle.kinds.specs.Kinds.{words}
use Rattle.kinds.specs.Residue.{Residue}
use Rattle.plans.specs.Shape.{shape_of, masks_of}
use Rattle.matrix.specs.Matrix.{Column, key, block, columns, marked_in, size_of, sum_at, slip}
use Rattle.matrix.specs.Small.{SlipsStaySmall, SlipsOfAPlanStaySmall}
use Rattle.matrix.proofs.Every.{every_row}
use Rattle.matrix.proofs.Joined.{sum_by_map, sum_by_joined, sum_by_each, sum_by_at}
use Rattle.matrix.proofs.Numbered.{sized}

-- One input, picked or not.
one_input : (x : Residue (2 ^ 32)) (b : Bool) → x.number ≤ 1 → (cond b x words.nil).number ≤ cond b 1 0
one_input x true h = h
one_input x false h = omega arith

-- A sum of picked inputs is at most how many are picked: the modulus only lowers it.
sum_small : (test : Column → Bool) (js : List Column) (xs : List (Residue (2 ^ 32))) → All (λ w. w.number ≤ 1) xs → (sum_at words test js xs).number ≤ count_by test js
sum_small test [] xs h = omega arith
sum_small test (j ∷ js) [] h = omega arith
sum_small test (j ∷ js) (x ∷ xs) h =
    let small : Residue (2 ^ 32) → Type 0 = λ w. w.number ≤ 1 in
    omega (arith, sum_by-cons (λ y. cond (test y) 1 0) j js, one_input x (test j) (All-head small x xs h), sum_small test js xs (All-tail small x xs h))

-- A test that asks for one component picks at most one column.
one_picked : (k c : ℕ) (f : ℕ → Column) (test : Column → Bool) (here : Bool) → ((x : ℕ) → test (f x) ≡ (here && eqb c x)) → count_by test (map f (range_with_len 0 k)) ≤ cond here 1 0
one_picked k c f test here e =
    only (sum_by_at (λ x. cond (test (f x)) 1 0) c (cond here 1 0) 0 k (λ x. at x (test (f x)) (e x))) (sum_by_map (λ j. cond (test j) 1 0) f (range_with_len 0 k))
  where
    at : (x : ℕ) (b : Bool) → b ≡ (here && eqb c x) → cond b 1 0 ≤ cond (eqb x c) (cond here 1 0) 0
    at x b h = grind (arith, nat_tests)

    only : {m n : ℕ} → m ≤ cond (leb 0 c) (cond here 1 0) 0 → n ≡ m → n ≤ cond here 1 0
    only {m} {n} le h = grind (arith, nat_tests)

and_assoc : (x y z : Bool) → (x && (y && z)) ≡ ((x && y) && z)
and_assoc true y z = refl
and_assoc false y z = refl

-- What the bounds come to, by the cases of the tests.
each_first : (x z : Bool) (n : ℕ) → n ≤ cond (x && z) 1 0 → n ≤ cond z 1 0
each_first x z n h = grind (arith, nat_tests)

each_other : (b i s : ℕ) (z : Bool) (n : ℕ) → (i ≡ 1 → ⊥) → n ≤ cond ((eqb i 1 || eqb (b + i) s) && z) 1 0 → n ≤ cond (eqb b (s - i)) (cond z 1 0) 0
each_other b i s z n ne h = grind (arith, nat_tests)

first_fits : (s s' g g' i n : ℕ) → i ≡ 1 → (g' ≡ g → s' ≡ s) → n ≤ (s' - 1) * cond (eqb g g') 1 0 → n ≤ cond (eqb g' g) (cond (eqb i 1) (s - 1) 1) 0
first_fits s s' g g' i n e same h = grind (arith, nat_tests)

other_fits : (s g g' i n y : ℕ) → (i ≡ 1 → ⊥) → n ≤ cond (leb 0 y) (cond (eqb g g') 1 0) 0 → n ≤ cond (eqb g' g) (cond (eqb i 1) (s - 1) 1) 0
other_fits s g g' i n y ne h = grind (arith, nat_tests)

row_fits : (s i g own rest n : ℕ) → 1 ≤ i → i ≤ s → n ≡ own + rest → own ≤ cond (eqb i 1) 1 0 → rest ≤ cond (leb 0 g) (cond (eqb i 1) (s - 1) 1) 0 → n ≤ cond (eqb i 1) s 1
row_fits s i g own rest n from to e p q = grind (arith, nat_tests)

-- How many columns a row picks: in a block, in the blocks of a group, and in all.
module _ (masks : List ℕ) (k g i c : ℕ) where
  abbrev picks : Column → Bool
  picks = marked_in (size_of masks g) (record { group = g; position = i; component = c })

  abbrev blocks_of : ℕ → List Column
  blocks_of g' = flat_map (λ b. map (block g' b) (range_with_len 0 k)) (range_with_len 0 (size_of masks g' - 1))

  abbrev in_block : ℕ → ℕ → ℕ
  in_block g' b = count_by picks (map (block g' b) (range_with_len 0 k))

  abbrev in_blocks : ℕ → ℕ
  in_blocks g' = sum_by (in_block g') (range_with_len 0 (size_of masks g' - 1))

  in_block_lem : (g' b : ℕ) → in_block g' b ≤ cond ((eqb i 1 || eqb (b + i) (size_of masks g)) && eqb g g') 1 0
  in_block_lem g' b =
      one_picked k c (block g' b) picks ((eqb i 1 || eqb (b + i) (size_of masks g)) && eqb g g') (λ x. and_assoc (eqb i 1 || eqb (b + i) (size_of masks g)) (eqb g g') (eqb c x))

  -- of another group none; at position 1 all of them, and elsewhere one
  in_blocks_lem : (g' : ℕ) → in_blocks g' ≤ cond (eqb g' g) (cond (eqb i 1) (size_of masks g - 1) 1) 0
  in_blocks_lem g' = ⊎_elim first other (cases_eq i 1)
    where
      first : i ≡ 1 → in_blocks g' ≤ cond (eqb g' g) (cond (eqb i 1) (size_of masks g - 1) 1) 0
      first e =
          first_fits (size_of masks g) (size_of masks g') g g' i (in_blocks g') e (ap (size_of masks))
          (sum_by_each (in_block g') (cond (eqb g g') 1 0) 0 (size_of masks g' - 1)
          (λ b. each_first (eqb i 1 || eqb (b + i) (size_of masks g)) (eqb g g') (in_block g' b) (in_block_lem g' b)))

      other : (i ≡ 1 → ⊥) → in_blocks g' ≤ cond (eqb g' g) (cond (eqb i 1) (size_of masks g - 1) 1) 0
      other ne =
          other_fits (size_of masks g) g g' i (in_blocks g') (size_of masks g - i) ne
          (sum_by_at (in_block g') (size_of masks g - i) (cond (eqb g g') 1 0) 0 (size_of masks g' - 1)
          (λ b. each_other b i (size_of masks g) (eqb g g') (in_block g' b) ne (in_block_lem g' b)))

  in_group : (g' : ℕ) → count_by picks (blocks_of g') ≤ cond (eqb g' g) (cond (eqb i 1) (size_of masks g - 1) 1) 0
  in_group g' =
      le_trans (le_of_eq (sum_by_joined (λ j. cond (picks j) 1 0) (λ b. map (block g' b) (range_with_len 0 k)) (range_with_len 0 (size_of masks g' - 1)))) (in_blocks_lem g')

  -- the key's column counts at position 1 only
  in_row : 1 ≤ i → i ≤ size_of masks g → count_by picks (columns masks k) ≤ cond (eqb i 1) (size_of masks g) 1
  in_row from to =
      row_fits (size_of masks g) i g (count_by picks (map key (range_with_len 0 k))) (sum_by (λ g'. count_by picks (blocks_of g')) (range_with_len 0 (length masks))) (count_by picks (columns masks k)) from to
      (sum_by-append (λ j. cond (picks j) 1 0) (map key (range_with_len 0 k)) (flat_map blocks_of (range_with_len 0 (length masks)))
      ∙ ap (λ n. count_by picks (map key (range_with_len 0 k)) + n) (sum_by_joined (λ j. cond (picks j) 1 0) blocks_of (range_with_len 0 (length masks))))
      (one_picked k c key picks (eqb i 1) (λ x. refl))
      (sum_by_at (λ g'. count_by picks (blocks_of g')) g (cond (eqb i 1) (size_of masks g - 1) 1) 0 (length masks) in_group)

row_small : (masks : List ℕ) (k : ℕ) (inputs : List (Residue (2 ^ 32))) → All (λ w. w.number ≤ 1) inputs → (g i c : ℕ) → 1 ≤ i → i ≤ size_of masks g
    → (slip words masks k inputs (record { group = g; position = i; component = c })).number ≤ cond (eqb i 1) (size_of masks g) 1
row_small masks k inputs h g i c from to = le_trans (sum_small (picks masks k g i c) (columns masks k) inputs h) (in_row masks k g i c from to)

pub slips_stay_small : SlipsStaySmall
slips_stay_small masks k inputs h =
    every_row (λ r. (slip words masks k inputs r).number ≤ cond (eqb r.position 1) (size_of masks r.group) 1) masks k
    (λ g i c _ from to. row_small masks k inputs h g i c from to)

pub slips_of_a_plan_stay_small : SlipsOfAPlanStaySmall
slips_of_a_plan_stay_small p inputs h =
    every_row (λ r. (slip words (masks_of (shape_of p)) p.components inputs r).number ≤ cond (eqb r.position 1) p.threshold 1) (masks_of (shape_of p)) p.components
    (λ g i c l from to. subst (λ s. (slip words (masks_of (shape_of p)) p.components inputs (record { group = g; position = i; component = c })).number ≤ cond (eqb i 1) s 1) (sized p g l)
    (row_small (masks_of (shape_of p)) p.components inputs h g i c from to))

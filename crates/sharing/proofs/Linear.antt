-- Dealing is linear: sums, opposites and zeros of inputs give those of slips. Assumes nothing.
use Rattle.std.proofs.Common.{◌≡◌, ℕ, zero, suc, ◌+◌, Bool, true, false, cond, List, [], ◌∷◌, ◌++◌, map, length, sym, refl, ap, ◌∙◌, ap₂, arith, length-append}
use Rattle.kinds.specs.Group.{Group}
use Rattle.kinds.proofs.Groups.{left_unit, middle_four, minus_nil, minus_plus}
use Rattle.plans.specs.Layout.{tray}
use Rattle.matrix.specs.Matrix.{Column, sum_at, marked, columns, row_of}
use Rattle.sharing.specs.Dealing.{Scheme, dealing, added, opposed, zeros}
use Rattle.sharing.proofs.Alike.{map_same}

module _ (G : Group) where
  pub length_added : (xs ys : List G.Value) → length xs ≡ length ys → length (added G xs ys) ≡ length xs
  length_added [] ys e = refl
  length_added (x ∷ xs) [] e = absurd (omega arith)
  length_added (x ∷ xs) (y ∷ ys) e = ap suc (length_added xs ys (omega arith))

  pub added_append : (ws bs cs ds : List G.Value) → length ws ≡ length cs → added G (ws ++ bs) (cs ++ ds) ≡ added G ws cs ++ added G bs ds
  added_append [] bs [] ds e = refl
  added_append [] bs (c ∷ cs) ds e = absurd (omega arith)
  added_append (a ∷ ws) bs [] ds e = absurd (omega arith)
  added_append (a ∷ ws) bs (c ∷ cs) ds e = ap (λ xs. G.plus a c ∷ xs) (added_append ws bs cs ds (omega arith))

  pub added_assoc : (xs ys zs : List G.Value) → added G (added G xs ys) zs ≡ added G xs (added G ys zs)
  added_assoc [] ys zs = refl
  added_assoc (x ∷ xs) [] zs = refl
  added_assoc (x ∷ xs) (y ∷ ys) [] = refl
  added_assoc (x ∷ xs) (y ∷ ys) (z ∷ zs) = ap₂ ◌∷◌ (G.assoc x y z) (added_assoc xs ys zs)

  pub added_comm : (xs ys : List G.Value) → added G xs ys ≡ added G ys xs
  added_comm [] [] = refl
  added_comm [] (y ∷ ys) = refl
  added_comm (x ∷ xs) [] = refl
  added_comm (x ∷ xs) (y ∷ ys) = ap₂ ◌∷◌ (G.comm x y) (added_comm xs ys)

  pub added_zeros : (n : ℕ) (xs : List G.Value) → length xs ≡ n → added G xs (zeros G n) ≡ xs
  added_zeros zero [] e = refl
  added_zeros zero (x ∷ xs) e = absurd (omega arith)
  added_zeros (suc n) [] e = refl
  added_zeros (suc n) (x ∷ xs) e = ap₂ ◌∷◌ (G.unit x) (added_zeros n xs (omega arith))

  pub added_opposed : (xs : List G.Value) → added G xs (opposed G xs) ≡ zeros G (length xs)
  added_opposed [] = refl
  added_opposed (x ∷ xs) = ap₂ ◌∷◌ (G.undone x) (added_opposed xs)

  pub opposed_added : (xs ys : List G.Value) → opposed G (added G xs ys) ≡ added G (opposed G xs) (opposed G ys)
  opposed_added [] ys = refl
  opposed_added (x ∷ xs) [] = refl
  opposed_added (x ∷ xs) (y ∷ ys) = ap₂ ◌∷◌ (minus_plus G x y) (opposed_added xs ys)

  picked_plus : (b : Bool) (x y : G.Value) → cond b (G.plus x y) G.nil ≡ G.plus (cond b x G.nil) (cond b y G.nil)
  picked_plus true x y = refl
  picked_plus false x y = sym (G.unit G.nil)

  picked_minus : (b : Bool) (x : G.Value) → cond b (G.minus x) G.nil ≡ G.minus (cond b x G.nil)
  picked_minus true x = refl
  picked_minus false x = sym (minus_nil G)

  pub sum_at_added : (test : Column → Bool) (js : List Column) (xs ys : List G.Value) → length xs ≡ length ys
      → sum_at G test js (added G xs ys) ≡ G.plus (sum_at G test js xs) (sum_at G test js ys)
  sum_at_added test [] xs ys e = sym (G.unit G.nil)
  sum_at_added test (j ∷ js) [] [] e = sym (G.unit G.nil)
  sum_at_added test (j ∷ js) [] (y ∷ ys) e = absurd (omega arith)
  sum_at_added test (j ∷ js) (x ∷ xs) [] e = absurd (omega arith)
  sum_at_added test (j ∷ js) (x ∷ xs) (y ∷ ys) e =
      ap₂ G.plus (picked_plus (test j) x y) (sum_at_added test js xs ys (omega arith))
      ∙ middle_four G (cond (test j) x G.nil) (cond (test j) y G.nil) (sum_at G test js xs) (sum_at G test js ys)

  pub sum_at_opposed : (test : Column → Bool) (js : List Column) (xs : List G.Value) → sum_at G test js (opposed G xs) ≡ G.minus (sum_at G test js xs)
  sum_at_opposed test [] xs = sym (minus_nil G)
  sum_at_opposed test (j ∷ js) [] = sym (minus_nil G)
  sum_at_opposed test (j ∷ js) (x ∷ xs) =
      ap₂ G.plus (picked_minus (test j) x) (sum_at_opposed test js xs) ∙ sym (minus_plus G (cond (test j) x G.nil) (sum_at G test js xs))

  -- the inputs of the key, and those behind it
  pub sum_at_append : (test : Column → Bool) (js ls : List Column) (xs ys : List G.Value) → length xs ≡ length js
      → sum_at G test (js ++ ls) (xs ++ ys) ≡ G.plus (sum_at G test js xs) (sum_at G test ls ys)
  sum_at_append test [] ls [] ys e = sym (left_unit G (sum_at G test ls ys))
  sum_at_append test [] ls (x ∷ xs) ys e = absurd (omega arith)
  sum_at_append test (j ∷ js) ls [] ys e = absurd (omega arith)
  sum_at_append test (j ∷ js) ls (x ∷ xs) ys e =
      ap (G.plus (cond (test j) x G.nil)) (sum_at_append test js ls xs ys (omega arith))
      ∙ sym (G.assoc (cond (test j) x G.nil) (sum_at G test js xs) (sum_at G test ls ys))

  -- two sums over one list
  map_added : {X : Type 0} (f g : X → G.Value) (xs : List X) → map (λ x. G.plus (f x) (g x)) xs ≡ added G (map f xs) (map g xs)
  map_added f g [] = refl
  map_added f g (x ∷ xs) = ap (λ ys. G.plus (f x) (g x) ∷ ys) (map_added f g xs)

  map_opposed : {X : Type 0} (f : X → G.Value) (xs : List X) → map (λ x. G.minus (f x)) xs ≡ opposed G (map f xs)
  map_opposed f [] = refl
  map_opposed f (x ∷ xs) = ap (λ ys. G.minus (f x) ∷ ys) (map_opposed f xs)

  pub opposed_append : (xs ys : List G.Value) → opposed G (xs ++ ys) ≡ opposed G xs ++ opposed G ys
  opposed_append [] ys = refl
  opposed_append (x ∷ xs) ys = ap (λ zs. G.minus x ∷ zs) (opposed_append xs ys)

  -- the dealing of two sums is the sum of two dealings
  pub dealing_added : (s : Scheme) (key d random e : List G.Value) → length key ≡ length d → length random ≡ length e
      → dealing G s (added G key d) (added G random e) ≡ added G (dealing G s key random) (dealing G s d e)
  dealing_added s key d random e lk lr =
      let js : List Column = columns s.masks s.components in
      let all : length (key ++ random) ≡ length (d ++ e) = length-append key random ∙ ap₂ ◌+◌ lk lr ∙ sym (length-append d e) in
      map_same (λ x. sum_at G (marked s.masks (row_of s.masks x)) js (added G key d ++ added G random e))
      (λ x. G.plus (sum_at G (marked s.masks (row_of s.masks x)) js (key ++ random)) (sum_at G (marked s.masks (row_of s.masks x)) js (d ++ e)))
      (tray s.masks s.harbours s.components)
      (λ x. ap (sum_at G (marked s.masks (row_of s.masks x)) js) (sym (added_append key random d e lk)) ∙ sum_at_added (marked s.masks (row_of s.masks x)) js (key ++ random) (d ++ e) all)
      ∙ map_added (λ x. sum_at G (marked s.masks (row_of s.masks x)) js (key ++ random)) (λ x. sum_at G (marked s.masks (row_of s.masks x)) js (d ++ e)) (tray s.masks s.harbours s.components)

  pub dealing_opposed : (s : Scheme) (key random : List G.Value) → dealing G s (opposed G key) (opposed G random) ≡ opposed G (dealing G s key random)
  dealing_opposed s key random =
      let js : List Column = columns s.masks s.components in
      map_same (λ x. sum_at G (marked s.masks (row_of s.masks x)) js (opposed G key ++ opposed G random))
      (λ x. G.minus (sum_at G (marked s.masks (row_of s.masks x)) js (key ++ random)))
      (tray s.masks s.harbours s.components)
      (λ x. ap (sum_at G (marked s.masks (row_of s.masks x)) js) (sym (opposed_append key random)) ∙ sum_at_opposed (marked s.masks (row_of s.masks x)) js (key ++ random))
      ∙ map_opposed (λ x. sum_at G (marked s.masks (row_of s.masks x)) js (key ++ random)) (tray s.masks s.harbours s.components)

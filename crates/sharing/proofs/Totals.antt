-- Sums of lists of values in any commutative group, and values under signs. Assumes nothing.
use Rattle.std.proofs.Common.{◌≡◌, ℕ, zero, suc, ◌+◌, ◌<◌, ◌≤◌, List, [], ◌∷◌, ◌++◌, map, ℤ, pos, negsuc, All, sym, refl, ap, ◌∙◌, ap₂, ⊎_elim, arith}
use Rattle.std.specs.List.{range_with_len, flat_map}
use Rattle.std.proofs.lemmas.List.{map-append}
use Rattle.std.proofs.lemmas.List.Elements.{All-head, All-tail}
use Rattle.std.proofs.lemmas.Bool.{cases_eq}
use Rattle.kinds.specs.Group.{Group}
use Rattle.kinds.proofs.Groups.{left_unit, left_comm, cancel_left, middle_four, minus_nil, minus_minus, minus_plus}
use Rattle.sharing.specs.Dealing.{total, under}
use Rattle.sharing.proofs.Alike.{all_counting}

module _ (G : Group) where
  pub cancel_right : (a b c : G.Value) → G.plus a c ≡ G.plus b c → a ≡ b
  cancel_right a b c e = cancel_left G c a b (G.comm c a ∙ e ∙ G.comm b c)

  pub total_append : (xs ys : List G.Value) → total G (xs ++ ys) ≡ G.plus (total G xs) (total G ys)
  total_append [] ys = sym (left_unit G (total G ys))
  total_append (x ∷ xs) ys = ap (G.plus x) (total_append xs ys) ∙ sym (G.assoc x (total G xs) (total G ys))

  -- one term taken out to the front
  pub total_out : (xs : List G.Value) (x : G.Value) (ys : List G.Value) → total G (xs ++ (x ∷ ys)) ≡ G.plus x (total G (xs ++ ys))
  total_out [] x ys = refl
  total_out (z ∷ xs) x ys = ap (G.plus z) (total_out xs x ys) ∙ left_comm G z x (total G (xs ++ ys))

  -- Two sums that are the same, and whose terms are the same but for one, have that one the same too.
  pub total_but_one : {X : Type 0} (f g : X → G.Value) (front : List X) (x : X) (back : List X) → map f front ≡ map g front → map f back ≡ map g back
      → total G (map f (front ++ (x ∷ back))) ≡ total G (map g (front ++ (x ∷ back))) → f x ≡ g x
  total_but_one {X} f g front x back before behind e =
      cancel_right (f x) (g x) (total G (map g front ++ map g back))
      (ap₂ (λ us vs. G.plus (f x) (total G (us ++ vs))) (sym before) (sym behind) ∙ sym (out f) ∙ e ∙ out g)
    where
      out : (h : X → G.Value) → total G (map h (front ++ (x ∷ back))) ≡ G.plus (h x) (total G (map h front ++ map h back))
      out h = ap (total G) (map-append h front (x ∷ back)) ∙ total_out (map h front) (h x) (map h back)

  -- a sign does not bring two values together
  pub under_one : (z : ℤ) (x y : G.Value) → under G z x ≡ under G z y → x ≡ y
  under_one (pos n) x y e = e
  under_one (negsuc n) x y e = sym (minus_minus G x) ∙ ap G.minus e ∙ minus_minus G y

  pub under_plus : (z : ℤ) (x y : G.Value) → under G z (G.plus x y) ≡ G.plus (under G z x) (under G z y)
  under_plus (pos n) x y = refl
  under_plus (negsuc n) x y = minus_plus G x y

  pub under_nil : (z : ℤ) → under G z G.nil ≡ G.nil
  under_nil (pos n) = refl
  under_nil (negsuc n) = minus_nil G

  pub total_plus : {X : Type 0} (f h : X → G.Value) (xs : List X) → total G (map (λ x. G.plus (f x) (h x)) xs) ≡ G.plus (total G (map f xs)) (total G (map h xs))
  total_plus f h [] = sym (G.unit G.nil)
  total_plus f h (x ∷ xs) =
      ap (λ y. G.plus (G.plus (f x) (h x)) y) (total_plus f h xs) ∙ middle_four G (f x) (h x) (total G (map f xs)) (total G (map h xs))

  pub total_nil : {X : Type 0} (f : X → G.Value) (xs : List X) → All (λ x. f x ≡ G.nil) xs → total G (map f xs) ≡ G.nil
  total_nil f [] a = refl
  total_nil f (x ∷ xs) a =
      ap₂ G.plus (All-head (λ y. f y ≡ G.nil) x xs a) (total_nil f xs (All-tail (λ y. f y ≡ G.nil) x xs a)) ∙ G.unit G.nil

  -- part by part
  pub total_joined : {X Y : Type 0} (q : Y → G.Value) (f : X → List Y) (xs : List X)
      → total G (map q (flat_map f xs)) ≡ total G (map (λ x. total G (map q (f x))) xs)
  total_joined q f [] = refl
  total_joined q f (x ∷ xs) =
      ap (total G) (map-append q (f x) (flat_map f xs)) ∙ total_append (map q (f x)) (map q (flat_map f xs))
      ∙ ap (G.plus (total G (map q (f x)))) (total_joined q f xs)

  -- zeros only
  pub total_none : (f : ℕ → G.Value) (a n : ℕ) → ((x : ℕ) → a ≤ x → x < a + n → f x ≡ G.nil) → total G (map f (range_with_len a n)) ≡ G.nil
  total_none f a n h = total_nil f (range_with_len a n) (all_counting (λ x. f x ≡ G.nil) a n h)

  -- zeros but at one number
  pub total_one : (f : ℕ → G.Value) (y : G.Value) (j a n : ℕ) → a ≤ j → j < a + n → f j ≡ y → ((x : ℕ) → (x ≡ j → ⊥) → f x ≡ G.nil)
      → total G (map f (range_with_len a n)) ≡ y
  total_one f y j a zero low high at off = absurd (omega arith)
  total_one f y j a (suc n) low high at off = ⊎_elim here (λ ne. later ne (total_one f y j (a + 1) n (omega arith) (omega arith) at off)) (cases_eq a j)
    where
      here : a ≡ j → total G (map f (range_with_len a (suc n))) ≡ y
      here e =
          ap₂ G.plus (ap f e ∙ at) (total_none f (a + 1) n (λ x l u. off x (λ same. omega arith))) ∙ G.unit y

      later : (a ≡ j → ⊥) → total G (map f (range_with_len (a + 1) n)) ≡ y → total G (map f (range_with_len a (suc n))) ≡ y
      later ne rest = ap₂ G.plus (off a ne) rest ∙ left_unit G y

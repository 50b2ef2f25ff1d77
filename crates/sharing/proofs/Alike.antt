-- Lists whose items agree, and what holds of every number counted. Assumes nothing.
use Rattle.std.proofs.Common.{◌≡◌, ℕ, zero, suc, ◌+◌, ◌<◌, ◌≤◌, Bool, true, false, cond, List, [], ◌∷◌, map, get_or, All, filter, refl, ap, ap₂, arith}
use Rattle.std.specs.List.{range_with_len}
use Rattle.std.proofs.lemmas.List.Elements.{All-cons, All-head, All-nil, All-tail}

pub all_of : {X : Type 0} (P : X → Type 0) → ((x : X) → P x) → (xs : List X) → All P xs
all_of P h xs k d lt = h (get_or xs k d)

pub all_counting : (P : ℕ → Type 0) (a n : ℕ) → ((i : ℕ) → a ≤ i → i < a + n → P i) → All P (range_with_len a n)
all_counting P a zero h = All-nil P
all_counting P a (suc n) h =
    All-cons P a (range_with_len (a + 1) n) (h a (omega arith) (omega arith)) (all_counting P (a + 1) n (λ i l u. h i (omega arith) (omega arith)))

pub map_all : {X Y : Type 0} (f h : X → Y) (xs : List X) → All (λ x. f x ≡ h x) xs → map f xs ≡ map h xs
map_all f h [] a = refl
map_all f h (x ∷ xs) a = ap₂ ◌∷◌ (All-head (λ y. f y ≡ h y) x xs a) (map_all f h xs (All-tail (λ y. f y ≡ h y) x xs a))

pub map_same : {X Y : Type 0} (f h : X → Y) (xs : List X) → ((x : X) → f x ≡ h x) → map f xs ≡ map h xs
map_same f h xs e = map_all f h xs (all_of (λ x. f x ≡ h x) e xs)

pub map_map : {X Y Z : Type 0} (f : Y → Z) (g : X → Y) (xs : List X) → map f (map g xs) ≡ map (λ x. f (g x)) xs
map_map f g [] = refl
map_map f g (x ∷ xs) = ap (λ ys. f (g x) ∷ ys) (map_map f g xs)

-- two functions that agree on the numbers from a on that pass a test
pub map_kept_alike : {Y : Type 0} (p : ℕ → Bool) (f g : ℕ → Y) (a n : ℕ) → ((x : ℕ) → a ≤ x → x < a + n → p x ≡ true → f x ≡ g x)
    → map f (filter p (range_with_len a n)) ≡ map g (filter p (range_with_len a n))
map_kept_alike p f g a zero h = refl
map_kept_alike p f g a (suc n) h = go (map_kept_alike p f g (a + 1) n (λ x l u. h x (omega arith) (omega arith))) (p a) refl
  where
    go : map f (filter p (range_with_len (a + 1) n)) ≡ map g (filter p (range_with_len (a + 1) n)) → (t : Bool) → p a ≡ t
        → map f (cond t (a ∷ filter p (range_with_len (a + 1) n)) (filter p (range_with_len (a + 1) n))) ≡ map g (cond t (a ∷ filter p (range_with_len (a + 1) n)) (filter p (range_with_len (a + 1) n)))
    go rest true e = ap₂ ◌∷◌ (h a (omega arith) (omega arith) e) rest
    go rest false e = rest

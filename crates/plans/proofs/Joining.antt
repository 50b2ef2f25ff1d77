-- Lists made of parts end to end: how long they are and what stands where. Assumes nothing.
use Rattle.std.proofs.Common.{◌≡◌, ℕ, zero, suc, ◌+◌, ◌-◌, ◌*◌, ◌<◌, ◌≤◌, Bool, cond, List, [], ◌∷◌, ◌++◌, length, get_or, take, sum_by, count_by, sym, refl, ap, ◌∙◌, ap₂, ⊎_elim, append_assoc, not-suc-le-zero, suc-mul, add_comm, mul-zero, zero-add, zero-mul, mul-add, add-one, arith, length-append}
use Rattle.std.specs.List.{range_with_len, flat_map}
use Rattle.std.proofs.lemmas.List.{get_or_append_left, get_or-append-add}
use Rattle.std.proofs.lemmas.List.Sums.{sum_by-cons, sum_by_more}
use Rattle.std.proofs.lemmas.Bool.{cases_lt}
use Rattle.plans.proofs.Counting.{count_by_more}

pub joined_append : {X A : Type 0} (f : X → List A) (xs ys : List X) → flat_map f (xs ++ ys) ≡ flat_map f xs ++ flat_map f ys
joined_append f [] ys = refl
joined_append f (x ∷ xs) ys = ap (λ zs. f x ++ zs) (joined_append f xs ys) ∙ sym (append_assoc (f x) (flat_map f xs) (flat_map f ys))

pub length_joined : {X A : Type 0} (f : X → List A) (xs : List X) → length (flat_map f xs) ≡ sum_by (λ x. length (f x)) xs
length_joined f [] = refl
length_joined f (x ∷ xs) =
    length-append (f x) (flat_map f xs) ∙ ap (λ n. length (f x) + n) (length_joined f xs) ∙ sym (sum_by-cons (λ y. length (f y)) x xs)

-- what stands in the part of x, behind the parts before it
pub get_or_joined : {X A : Type 0} (f : X → List A) (xs : List X) (x : X) (ys : List X) (i : ℕ) (d : A) → i < length (f x)
    → get_or (flat_map f (xs ++ (x ∷ ys))) (length (flat_map f xs) + i) d ≡ get_or (f x) i d
get_or_joined f xs x ys i d lt =
    ap (λ zs. get_or zs (length (flat_map f xs) + i) d) (joined_append f xs (x ∷ ys))
    ∙ get_or-append-add (flat_map f xs) (f x ++ flat_map f ys) i d ∙ get_or_append_left (f x) (flat_map f ys) d i lt

-- Which part a place falls into.
pub record Falls {X A : Type 0} (f : X → List A) (xs : List X) (i : ℕ) : Type 0 where
  pub front : List X
  pub item : X
  pub back : List X
  pub rest : ℕ
  pub parts : xs ≡ front ++ (item ∷ back)
  pub within : rest < length (f item)
  pub at : length (flat_map f front) + rest ≡ i

pub falls : {X A : Type 0} (f : X → List A) (xs : List X) (i : ℕ) → i < length (flat_map f xs) → Falls f xs i
falls f [] i lt = absurd (not-suc-le-zero lt)
falls f (x ∷ xs) i lt = ⊎_elim here (λ le. later le (falls f xs (i - length (f x)) (omega (arith, length-append (f x) (flat_map f xs))))) (cases_lt i (length (f x)))
  where
    here : i < length (f x) → Falls f (x ∷ xs) i
    here h = record { front = []; item = x; back = xs; rest = i; parts = refl; within = h; at = zero-add i }

    later : length (f x) ≤ i → Falls f xs (i - length (f x)) → Falls f (x ∷ xs) i
    later le r = record {
      front = x ∷ r.front;
      item = r.item;
      back = r.back;
      rest = r.rest;
      parts = ap (λ ys. x ∷ ys) r.parts;
      within = r.within;
      at = omega (arith, r.at, length-append (f x) (flat_map f r.front));
    }

-- a factor of every term
pub sum_by_times : {X : Type 0} (k : ℕ) (f g : X → ℕ) (xs : List X) → ((x : X) → f x ≡ k * g x) → sum_by f xs ≡ k * sum_by g xs
sum_by_times k f g [] h = sym (mul-zero k)
sum_by_times k f g (x ∷ xs) h =
    sum_by-cons f x xs ∙ ap₂ ◌+◌ (h x) (sum_by_times k f g xs h) ∙ sym (mul-add k (g x) (sum_by g xs)) ∙ ap (λ n. k * n) (sym (sum_by-cons g x xs))

-- the same for each of n numbers
pub sum_by_same : (f : ℕ → ℕ) (w a n : ℕ) → ((x : ℕ) → a ≤ x → x < a + n → f x ≡ w) → sum_by f (range_with_len a n) ≡ n * w
sum_by_same f w a zero h = sym (zero-mul w)
sum_by_same f w a (suc n) h =
    sum_by-cons f a (range_with_len (a + 1) n) ∙ ap₂ ◌+◌ (h a (omega arith) (omega arith)) (sum_by_same f w (a + 1) n (λ x l u. h x (omega arith) (omega arith)))
    ∙ add_comm w (n * w) ∙ sym (suc-mul n w)

-- a test of the first g items, by their places
pub count_by_take : (p : ℕ → Bool) (xs : List ℕ) (g : ℕ) → g ≤ length xs → count_by p (take g xs) ≡ count_by (λ i. p (get_or xs i 0)) (range_with_len 0 g)
count_by_take p xs zero le = refl
count_by_take p xs (suc g) le =
    ap (λ n. count_by p (take n xs)) (sym (add-one g)) ∙ sum_by_more (λ x. cond (p x) 1 0) xs g 0 le
    ∙ ap (λ n. n + cond (p (get_or xs g 0)) 1 0) (count_by_take p xs g (omega arith))
    ∙ sym (count_by_more (λ i. p (get_or xs i 0)) g) ∙ ap (λ n. count_by (λ i. p (get_or xs i 0)) (range_with_len 0 n)) (add-one g)

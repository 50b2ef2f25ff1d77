-- Lists that are joined from parts by counting: their length, their places, what holds throughout, and sums over them. Assumes nothing.
use Rattle.std.proofs.Common.{◌≡◌, ℕ, zero, suc, ◌+◌, ◌*◌, ◌<◌, ◌≤◌, cond, eqb, leb, List, [], ◌∷◌, ◌++◌, map, length, get_or, fold, All, sum_by, sym, refl, ap, ◌∙◌, le_refl, not-suc-le-zero, arith}
use Rattle.std.specs.List.{range_with_len, flat_map}
use Rattle.std.proofs.lemmas.List.Elements.{All-append, All-cons, All-nil}
use Rattle.std.proofs.lemmas.List.{length-append, get_or_append_left, get_or-append-add}
use Rattle.std.proofs.lemmas.List.Sums.{sum_by-append, sum_by-cons}
use Rattle.std.proofs.lemmas.Bool.Decides.{nat_tests}

module _ {X : Type 0} where
  -- n parts of w places each
  pub length_joined : (f : ℕ → List X) (w a n : ℕ) → ((x : ℕ) → x < a + n → length (f x) ≡ w) → length (flat_map f (range_with_len a n)) ≡ n * w
  length_joined f w a zero h = omega arith
  length_joined f w a (suc n) h =
      let one : length (f a) ≡ w = h a (omega arith) in
      let rest : length (flat_map f (range_with_len (a + 1) n)) ≡ n * w = length_joined f w (a + 1) n (λ x l. h x (omega arith)) in
      omega (arith, length-append (f a) (flat_map f (range_with_len (a + 1) n)))

  -- place r of part q, which is the part of x
  pub get_or_joined : (f : ℕ → List X) (w a n q r x m : ℕ) (d : X) → ((y : ℕ) → y < a + n → length (f y) ≡ w) → q < n → r < w → a + q ≡ x → m ≡ q * w + r
      → get_or (flat_map f (range_with_len a n)) m d ≡ get_or (f x) r d
  get_or_joined f w a zero q r x m d h p l e i = absurd (not-suc-le-zero p)
  get_or_joined f w a (suc n) zero r x m d h p l e i =
      let one : length (f a) ≡ w = h a (omega arith) in
      let at : m ≡ r = omega arith in
      let same : a ≡ x = omega arith in
      ap (λ k. get_or (f a ++ flat_map f (range_with_len (a + 1) n)) k d) at
      ∙ get_or_append_left (f a) (flat_map f (range_with_len (a + 1) n)) d r (omega arith)
      ∙ ap (λ y. get_or (f y) r d) same
  get_or_joined f w a (suc n) (suc q) r x m d h p l e i =
      let one : length (f a) ≡ w = h a (omega arith) in
      let at : m ≡ length (f a) + (q * w + r) = omega arith in
      ap (λ k. get_or (f a ++ flat_map f (range_with_len (a + 1) n)) k d) at
      ∙ get_or-append-add (f a) (flat_map f (range_with_len (a + 1) n)) (q * w + r) d
      ∙ get_or_joined f w (a + 1) n q r x (q * w + r) d (λ y b. h y (omega arith)) (omega arith) l (omega arith) refl

  pub all_joined : (P : X → Type 0) (f : ℕ → List X) (a n : ℕ) → ((x : ℕ) → a ≤ x → x < a + n → All P (f x)) → All P (flat_map f (range_with_len a n))
  all_joined P f a zero h = All-nil P
  all_joined P f a (suc n) h =
      All-append P (f a) (flat_map f (range_with_len (a + 1) n)) (h a (le_refl a) (omega arith))
      (all_joined P f (a + 1) n (λ x l u. h x (omega arith) (omega arith)))

  pub all_map_counting : (P : X → Type 0) (f : ℕ → X) (a n : ℕ) → ((x : ℕ) → a ≤ x → x < a + n → P (f x)) → All P (map f (range_with_len a n))
  all_map_counting P f a zero h = All-nil P
  all_map_counting P f a (suc n) h =
      All-cons P (f a) (map f (range_with_len (a + 1) n)) (h a (le_refl a) (omega arith)) (all_map_counting P f (a + 1) n (λ x l u. h x (omega arith) (omega arith)))

  pub sum_by_map : (g : X → ℕ) (f : ℕ → X) (xs : List ℕ) → sum_by g (map f xs) ≡ sum_by (λ x. g (f x)) xs
  sum_by_map g f xs = go 0 xs
    where
      go : (s : ℕ) (ys : List ℕ) → fold (λ a x. a + g x) s (map f ys) ≡ fold (λ a x. a + g (f x)) s ys
      go s [] = refl
      go s (y ∷ ys) = go (s + g (f y)) ys

  pub sum_by_joined : (g : X → ℕ) (f : ℕ → List X) (xs : List ℕ) → sum_by g (flat_map f xs) ≡ sum_by (λ x. sum_by g (f x)) xs
  sum_by_joined g f [] = refl
  sum_by_joined g f (x ∷ xs) =
      sum_by-append g (f x) (flat_map f xs) ∙ ap (λ n. sum_by g (f x) + n) (sum_by_joined g f xs) ∙ sym (sum_by-cons (λ y. sum_by g (f y)) x xs)

-- a sum of which each part is at most m
pub sum_by_each : (h : ℕ → ℕ) (m a n : ℕ) → ((x : ℕ) → h x ≤ m) → sum_by h (range_with_len a n) ≤ n * m
sum_by_each h m a zero le = omega arith
sum_by_each h m a (suc n) le = omega (arith, sum_by-cons h a (range_with_len (a + 1) n), le a, sum_by_each h m (a + 1) n le)

-- a sum of which only the part at y counts, with m at most
pub sum_by_at : (h : ℕ → ℕ) (y m a n : ℕ) → ((x : ℕ) → h x ≤ cond (eqb x y) m 0) → sum_by h (range_with_len a n) ≤ cond (leb a y) m 0
sum_by_at h y m a zero le = omega arith
sum_by_at h y m a (suc n) le =
    step (h a) (sum_by h (range_with_len (a + 1) n)) (sum_by h (a ∷ range_with_len (a + 1) n)) (le a) (sum_by_at h y m (a + 1) n le) (sum_by-cons h a (range_with_len (a + 1) n))
  where
    step : (one rest all : ℕ) → one ≤ cond (eqb a y) m 0 → rest ≤ cond (leb (a + 1) y) m 0 → all ≡ one + rest → all ≤ cond (leb a y) m 0
    step one rest all p q e = grind (arith, nat_tests)

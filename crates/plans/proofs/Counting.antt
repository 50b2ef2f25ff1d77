-- The numbers below a limit that pass a test: how many, which comes where, and how they split. Assumes nothing.
use Rattle.std.proofs.Common.{◌≡◌, ℕ, zero, suc, ◌+◌, ◌-◌, ◌<◌, ◌≤◌, Bool, true, false, cond, ◌&&◌, List, [], ◌∷◌, ◌++◌, length, get_or, take, count_by, filter, sym, refl, ap, ◌∙◌, ap₂, not-suc-le-zero, add-zero, add_assoc, suc-add, zero-add, arith}
use Rattle.std.specs.List.{range_with_len}
use Rattle.std.proofs.lemmas.List.FromFn.{length-range_with_len, get_or-range_with_len}
use Rattle.std.proofs.lemmas.List.Elements.{filter-append}
use Rattle.std.proofs.lemmas.List.{get_or_at, take_at, length-append}
use Rattle.std.proofs.lemmas.List.Sums.{sum_by-cons, sum_by-append, length-filter}

pub count_by_cons : {X : Type 0} (q : X → Bool) (x : X) (xs : List X) → count_by q (x ∷ xs) ≡ cond (q x) 1 0 + count_by q xs
count_by_cons q = sum_by-cons (λ x. cond (q x) 1 0)

pub count_by_append : {X : Type 0} (q : X → Bool) (xs ys : List X) → count_by q (xs ++ ys) ≡ count_by q xs + count_by q ys
count_by_append q = sum_by-append (λ x. cond (q x) 1 0)

-- what passes both of two tests
pub count_by_kept : {X : Type 0} (p q : X → Bool) (xs : List X) → count_by p (filter q xs) ≡ count_by (λ x. q x && p x) xs
count_by_kept p q [] = refl
count_by_kept p q (x ∷ xs) = go (count_by_kept p q xs) (q x) ∙ sym (count_by_cons (λ y. q y && p y) x xs)
  where
    go : count_by p (filter q xs) ≡ count_by (λ y. q y && p y) xs
        → (b : Bool) → count_by p (cond b (x ∷ filter q xs) (filter q xs)) ≡ cond (b && p x) 1 0 + count_by (λ y. q y && p y) xs
    go rest true = count_by_cons p x (filter q xs) ∙ ap (λ n. cond (p x) 1 0 + n) rest
    go rest false = rest ∙ sym (zero-add _)

pub counting_append : (a m n : ℕ) → range_with_len a (m + n) ≡ range_with_len a m ++ range_with_len (a + m) n
counting_append a zero n = ap₂ range_with_len (sym (add-zero a)) (zero-add n)
counting_append a (suc m) n =
    let there : a + 1 + m ≡ a + suc m = omega arith in
    ap (range_with_len a) (suc-add m n) ∙ ap (λ xs. a ∷ xs) (counting_append (a + 1) m n ∙ ap (λ b. range_with_len (a + 1) m ++ range_with_len b n) there)

-- two tests that agree on the numbers from a on count the same
pub count_by_alike : (p q : ℕ → Bool) (a n : ℕ) → ((x : ℕ) → a ≤ x → x < a + n → p x ≡ q x) → count_by p (range_with_len a n) ≡ count_by q (range_with_len a n)
count_by_alike p q a zero h = refl
count_by_alike p q a (suc n) h =
    count_by_cons p a (range_with_len (a + 1) n)
    ∙ ap₂ (λ b m. cond b 1 0 + m) (h a (omega arith) (omega arith)) (count_by_alike p q (a + 1) n (λ x l u. h x (omega arith) (omega arith)))
    ∙ sym (count_by_cons q a (range_with_len (a + 1) n))

-- a test on numbers that are all b more
count_by_moved : (q : ℕ → Bool) (b a n : ℕ) → count_by q (range_with_len (b + a) n) ≡ count_by (λ x. q (b + x)) (range_with_len a n)
count_by_moved q b a zero = refl
count_by_moved q b a (suc n) =
    count_by_cons q (b + a) (range_with_len (b + a + 1) n)
    ∙ ap (λ m. cond (q (b + a)) 1 0 + m) (ap (λ x. count_by q (range_with_len x n)) (add_assoc b a 1) ∙ count_by_moved q b (a + 1) n)
    ∙ sym (count_by_cons (λ x. q (b + x)) a (range_with_len (a + 1) n))

-- the numbers below b + n: those below b, and n more
pub count_by_split : (q : ℕ → Bool) (b n : ℕ) → count_by q (range_with_len 0 (b + n)) ≡ count_by q (range_with_len 0 b) + count_by (λ x. q (b + x)) (range_with_len 0 n)
count_by_split q b n =
    ap (count_by q) (counting_append 0 b n) ∙ count_by_append q (range_with_len 0 b) (range_with_len (0 + b) n)
    ∙ ap (λ m. count_by q (range_with_len 0 b) + m) (ap (λ x. count_by q (range_with_len x n)) (zero-add b ∙ sym (add-zero b)) ∙ count_by_moved q b 0 n)

-- one number more
pub kept_more : (q : ℕ → Bool) (n : ℕ) → filter q (range_with_len 0 (n + 1)) ≡ filter q (range_with_len 0 n) ++ cond (q n) (n ∷ []) []
kept_more q n =
    ap (filter q) (counting_append 0 n 1) ∙ filter-append q (range_with_len 0 n) (range_with_len (0 + n) 1)
    ∙ ap (λ x. filter q (range_with_len 0 n) ++ filter q (x ∷ [])) (zero-add n)

pub count_by_more : (q : ℕ → Bool) (n : ℕ) → count_by q (range_with_len 0 (n + 1)) ≡ count_by q (range_with_len 0 n) + cond (q n) 1 0
count_by_more q n =
    count_by_split q n 1 ∙ ap (λ k. count_by q (range_with_len 0 n) + k) (count_by_cons (λ x. q (n + x)) 0 [] ∙ add-zero (cond (q (n + 0)) 1 0) ∙ ap (λ x. cond (q x) 1 0) (add-zero n))

-- none passes
pub count_by_none : (q : ℕ → Bool) (a n : ℕ) → ((x : ℕ) → a ≤ x → x < a + n → q x ≡ false) → count_by q (range_with_len a n) ≡ 0
count_by_none q a zero h = refl
count_by_none q a (suc n) h =
    count_by_cons q a (range_with_len (a + 1) n)
    ∙ ap₂ (λ b m. cond b 1 0 + m) (h a (omega arith) (omega arith)) (count_by_none q (a + 1) n (λ x l u. h x (omega arith) (omega arith)))

-- a number, and those on either side of it
pub counting_around : (n m : ℕ) → m < n → range_with_len 0 n ≡ range_with_len 0 m ++ (m ∷ range_with_len (m + 1) (n - (m + 1)))
counting_around n m lt =
    let sides : n ≡ m + suc (n - (m + 1)) = omega arith in
    ap (range_with_len 0) sides ∙ counting_append 0 m (suc (n - (m + 1))) ∙ ap (λ x. range_with_len 0 m ++ range_with_len x (suc (n - (m + 1)))) (zero-add m)

-- a number that passes, and what passes on either side of it
pub around : (q : ℕ → Bool) (n m : ℕ) → m < n → q m ≡ true
    → filter q (range_with_len 0 n) ≡ filter q (range_with_len 0 m) ++ (m ∷ filter q (range_with_len (m + 1) (n - (m + 1))))
around q n m lt passes =
    ap (filter q) (counting_around n m lt) ∙ filter-append q (range_with_len 0 m) (m ∷ range_with_len (m + 1) (n - (m + 1)))
    ∙ ap (λ b. filter q (range_with_len 0 m) ++ cond b (m ∷ filter q (range_with_len (m + 1) (n - (m + 1)))) (filter q (range_with_len (m + 1) (n - (m + 1))))) passes

-- whatever stands in front of a number counted is what is counted before it
pub counting_front : (n : ℕ) (front : List ℕ) (m : ℕ) (back : List ℕ) → range_with_len 0 n ≡ front ++ (m ∷ back) → (m < n) × (front ≡ range_with_len 0 m)
counting_front n front m back parts =
    let long : n ≡ length front + suc (length back) = sym (length-range_with_len 0 n) ∙ ap length parts ∙ length-append front (m ∷ back) in
    let lt : length front < n = omega arith in
    let is : length front ≡ m = sym (get_or-range_with_len 0 n (length front) 0 lt ∙ zero-add (length front)) ∙ ap (λ xs. get_or xs (length front) 0) parts ∙ get_or_at front m back 0 (length front) refl in
    let fronts : front ≡ range_with_len 0 (length front) =
    sym (take_at front (m ∷ back) (length front) refl) ∙ ap (take (length front)) (sym parts ∙ counting_around n (length front) lt)
    ∙ take_at (range_with_len 0 (length front)) (length front ∷ range_with_len (length front + 1) (n - (length front + 1))) (length front) (length-range_with_len 0 (length front)) in
    (omega arith, fronts ∙ ap (range_with_len 0) is)

-- it comes behind as many as pass below it
pub kept_at : (q : ℕ → Bool) (n m : ℕ) → m < n → q m ≡ true → get_or (filter q (range_with_len 0 n)) (count_by q (range_with_len 0 m)) 0 ≡ m
kept_at q n m lt passes =
    ap (λ xs. get_or xs (count_by q (range_with_len 0 m)) 0) (around q n m lt passes)
    ∙ get_or_at (filter q (range_with_len 0 m)) m (filter q (range_with_len (m + 1) (n - (m + 1)))) 0 (count_by q (range_with_len 0 m)) (length-filter q (range_with_len 0 m))

pub kept_within : (q : ℕ → Bool) (n m : ℕ) → m < n → q m ≡ true → count_by q (range_with_len 0 m) < length (filter q (range_with_len 0 n))
kept_within q n m lt passes =
    let long = ap length (around q n m lt passes) ∙ length-append (filter q (range_with_len 0 m)) (m ∷ filter q (range_with_len (m + 1) (n - (m + 1)))) in
    omega (arith, long, length-filter q (range_with_len 0 m))

pub kept_before : (q : ℕ → Bool) (n m : ℕ) → m < n → q m ≡ true → take (count_by q (range_with_len 0 m)) (filter q (range_with_len 0 n)) ≡ filter q (range_with_len 0 m)
kept_before q n m lt passes =
    ap (take (count_by q (range_with_len 0 m))) (around q n m lt passes)
    ∙ take_at (filter q (range_with_len 0 m)) (m ∷ filter q (range_with_len (m + 1) (n - (m + 1)))) (count_by q (range_with_len 0 m)) (length-filter q (range_with_len 0 m))

-- What stands at place g among those that pass, from a on: it passes, it lies within, and g pass before it.
pub record Stands (q : ℕ → Bool) (a n g x : ℕ) : Type 0 where
  pub low : a ≤ x
  pub high : x < a + n
  pub passes : q x ≡ true
  pub before : count_by q (range_with_len a (x - a)) ≡ g

pub stands : (q : ℕ → Bool) (a n g : ℕ) → g < length (filter q (range_with_len a n)) → Stands q a n g (get_or (filter q (range_with_len a n)) g 0)
stands q a zero g lt = absurd (not-suc-le-zero lt)
stands q a (suc n) g lt = go (λ h l. stands q (a + 1) n h l) (q a) refl g lt
  where
    later : (h x : ℕ) → Stands q (a + 1) n h x → (g : ℕ) → cond (q a) 1 0 + h ≡ g → Stands q a (suc n) g x
    later h x s g e =
        let apart : x - a ≡ suc (x - (a + 1)) = omega (arith, s.low) in
        record {
          low = omega (arith, s.low);
          high = omega (arith, s.high);
          passes = s.passes;
          before = ap (λ m. count_by q (range_with_len a m)) apart ∙ count_by_cons q a (range_with_len (a + 1) (x - (a + 1))) ∙ ap (λ m. cond (q a) 1 0 + m) s.before ∙ e;
        }

    go : ((h : ℕ) → h < length (filter q (range_with_len (a + 1) n)) → Stands q (a + 1) n h (get_or (filter q (range_with_len (a + 1) n)) h 0))
        → (b : Bool) → q a ≡ b → (g : ℕ) → g < length (cond b (a ∷ filter q (range_with_len (a + 1) n)) (filter q (range_with_len (a + 1) n)))
        → Stands q a (suc n) g (get_or (cond b (a ∷ filter q (range_with_len (a + 1) n)) (filter q (range_with_len (a + 1) n))) g 0)
    go rest true e zero lt =
        let none : a - a ≡ 0 = omega arith in
        record { low = omega arith; high = omega arith; passes = e; before = ap (λ m. count_by q (range_with_len a m)) none }
    go rest true e (suc g) lt =
        let one : ◌≡◌ {A = ℕ} (cond (q a) 1 0) 1 = ap (λ b. cond b 1 0) e in
        later g (get_or (filter q (range_with_len (a + 1) n)) g 0) (rest g (omega arith)) (suc g) (omega arith)
    go rest false e g lt =
        let none : ◌≡◌ {A = ℕ} (cond (q a) 1 0) 0 = ap (λ b. cond b 1 0) e in
        later g (get_or (filter q (range_with_len (a + 1) n)) g 0) (rest g lt) g (omega arith)

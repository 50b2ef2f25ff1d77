-- How many groups there are, how many name a harbour, and a group's number, among all and on a card. Assumes nothing.
use Rattle.std.proofs.Common.{◌≡◌, ℕ, zero, suc, ◌+◌, ◌-◌, ◌*◌, ◌^◌, ◌<◌, ◌≤◌, Bool, true, false, cond, ◌&&◌, eqb, ltb, ◌⊎◌, List, [], ◌∷◌, ◌++◌, length, get_or, All, count_by, sum_by, sym, refl, ap, ◌∙◌, ap₂, inl, inr, ⊎_elim, not-suc-le-zero, add-zero, add_assoc, add_comm, pow-suc, zero-add, add-one, arith}
use lib.Count.{ones}
use lib.Dec.{eqb-suc-suc}
use Rattle.std.specs.List.{range_with_len, enumerate_from}
use Rattle.std.proofs.lemmas.List.Elements.{All-cons, All-filter, All-get_or, All-head, All-nil, All-tail, All-weaker}
use Rattle.std.proofs.lemmas.List.{append-nil}
use Rattle.std.proofs.lemmas.List.FromFn.{length-range_with_len, length-enumerate_from, get_or-enumerate_from}
use Rattle.std.proofs.lemmas.List.Sums.{length-filter, count_by-le-length, sum_by-cons}
use Rattle.std.proofs.lemmas.Bool.{ne_eqb, lt-ltb, le-ltb, cases_eq, and_left, and_right, true≢false, cases_Bool}
use Rattle.plans.specs.Binomial.{choose}
use Rattle.plans.specs.Groups.{has, members, groups, weighed, rank, on_card}
use Rattle.plans.proofs.Choose.{choose_none, choose_step, choose_fits}
use Rattle.plans.proofs.Counting.{kept_more, count_by_cons, count_by_alike, count_by_split, count_by_none}
use Rattle.plans.proofs.Halves.{ones_none, ones_more, has_new, has_past, has_below, split_top, members_below, members_count}

double : (n : ℕ) → 2 ^ suc n ≡ 2 ^ n + 2 ^ n
double n = omega (arith, pow-suc 2 n)

-- the masks below 2^n with t bits
pub count_size : (n t : ℕ) → count_by (λ m. eqb (ones m) t) (range_with_len 0 (2 ^ n)) ≡ choose n t
count_size zero t = count_by_cons (λ m. eqb (ones m) t) 0 [] ∙ ap (λ k. cond (eqb k t) 1 0 + 0) ones_none ∙ only t
  where
    only : (t : ℕ) → cond (eqb 0 t) 1 0 + 0 ≡ choose 0 t
    only zero = refl
    only (suc t) = ap (λ b. cond b 1 0 + 0) (ne_eqb 0 (suc t) (λ e. omega arith))
count_size (suc n) zero =
    ap (λ k. count_by (λ m. eqb (ones m) 0) (range_with_len 0 k)) (double n) ∙ count_by_split (λ m. eqb (ones m) 0) (2 ^ n) (2 ^ n)
    ∙ ap₂ ◌+◌ (count_size n zero ∙ choose_none n)
    (count_by_none (λ x. eqb (ones (2 ^ n + x)) 0) 0 (2 ^ n) (λ x l u. let more = ones_more n x (omega arith) in ne_eqb (ones (2 ^ n + x)) 0 (λ e. omega arith)))
count_size (suc n) (suc t) =
    ap (λ k. count_by (λ m. eqb (ones m) (suc t)) (range_with_len 0 k)) (double n) ∙ count_by_split (λ m. eqb (ones m) (suc t)) (2 ^ n) (2 ^ n)
    ∙ ap₂ ◌+◌ (count_size n (suc t))
    (count_by_alike (λ x. eqb (ones (2 ^ n + x)) (suc t)) (λ x. eqb (ones x) t) 0 (2 ^ n) (λ x l u. ap (λ k. eqb k (suc t)) (ones_more n x (omega arith)) ∙ eqb-suc-suc (ones x) t) ∙ count_size n t)
    ∙ add_comm (choose n (suc t)) (choose n t)

-- N, the number of groups
pub groups_count : (n t : ℕ) → length (groups n t) ≡ choose n t
groups_count n t = length-filter (λ m. eqb (ones m) t) (range_with_len 0 (2 ^ n)) ∙ count_size n t

-- a mask with a bit has at least one
pub has_some : (n x p : ℕ) → x < 2 ^ n → has x p ≡ true → 1 ≤ ones x
has_some zero x p lt yes' = absurd (true≢false (sym yes' ∙ has_past 0 x p lt (omega arith)))
has_some (suc n) x p lt yes' = go (λ h. has_some n x p h yes') (split_top n x lt)
  where
    go : (x < 2 ^ n → 1 ≤ ones x) → ((x < 2 ^ n) × (has x n ≡ false)) ⊎ ((y : ℕ) × (y < 2 ^ n) × (x ≡ 2 ^ n + y)) → 1 ≤ ones x
    go rest (inl h) = rest h.0
    go rest (inr h) = omega (arith, ap ones h.2 ∙ ones_more n h.0 h.1)

and_true : (b : Bool) → (b && true) ≡ b
and_true true = refl
and_true false = refl

-- the masks below 2^n with s + 1 bits, the bit p among them
pub count_with : (n p s : ℕ) → p < n → count_by (λ x. eqb (ones x) (suc s) && has x p) (range_with_len 0 (2 ^ n)) ≡ choose (n - 1) s
count_with zero p s lt = absurd (not-suc-le-zero lt)
count_with (suc n) p s lt =
    ap (λ k. count_by (λ x. eqb (ones x) (suc s) && has x p) (range_with_len 0 k)) (double n) ∙ count_by_split (λ x. eqb (ones x) (suc s) && has x p) (2 ^ n) (2 ^ n)
    ∙ halves s (λ r. count_with n p r) (cases_eq p n)
  where
    one_less : suc n - 1 ≡ n
    one_less = omega arith

    upper_new : (s : ℕ) → p ≡ n → (x : ℕ) → x < 2 ^ n → (eqb (ones (2 ^ n + x)) (suc s) && has (2 ^ n + x) p) ≡ eqb (ones x) s
    upper_new s e x u =
        ap₂ ◌&&◌ (ap (λ k. eqb k (suc s)) (ones_more n x u) ∙ eqb-suc-suc (ones x) s) (ap (has (2 ^ n + x)) e ∙ has_new n x u)
        ∙ and_true (eqb (ones x) s)

    never : (x : ℕ) → x < 2 ^ n → (eqb (ones x) 0 && has x p) ≡ false
    never x u = ⊎_elim (λ e. and_left (eqb (ones x) 0) (has x p) (ne_eqb (ones x) 0 (λ z. let some = has_some n x p u e in omega arith))) (λ e. and_right (eqb (ones x) 0) (has x p) e) (cases_Bool (has x p))

    upper_old : (s : ℕ) → p < n → (x : ℕ) → x < 2 ^ n → (eqb (ones (2 ^ n + x)) (suc s) && has (2 ^ n + x) p) ≡ (eqb (ones x) s && has x p)
    upper_old s h x u = ap₂ ◌&&◌ (ap (λ k. eqb k (suc s)) (ones_more n x u) ∙ eqb-suc-suc (ones x) s) (has_below n x p h)

    halves : (s : ℕ) → ((r : ℕ) → p < n → count_by (λ x. eqb (ones x) (suc r) && has x p) (range_with_len 0 (2 ^ n)) ≡ choose (n - 1) r) → (p ≡ n) ⊎ (p ≡ n → ⊥)
        → count_by (λ x. eqb (ones x) (suc s) && has x p) (range_with_len 0 (2 ^ n)) + count_by (λ x. eqb (ones (2 ^ n + x)) (suc s) && has (2 ^ n + x) p) (range_with_len 0 (2 ^ n)) ≡ choose (suc n - 1) s
    halves s rest (inl e) =
        ap₂ ◌+◌ (count_by_none (λ x. eqb (ones x) (suc s) && has x p) 0 (2 ^ n) (λ x l u. and_right (eqb (ones x) (suc s)) (has x p) (has_past n x p (omega arith) (omega arith))))
        (count_by_alike (λ x. eqb (ones (2 ^ n + x)) (suc s) && has (2 ^ n + x) p) (λ x. eqb (ones x) s) 0 (2 ^ n) (λ x l u. upper_new s e x (omega arith)) ∙ count_size n s)
        ∙ zero-add (choose n s) ∙ ap (λ k. choose k s) (sym one_less)
    halves zero rest (inr ne) =
        ap₂ ◌+◌ (rest 0 (omega arith) ∙ choose_none (n - 1))
        (count_by_none (λ x. eqb (ones (2 ^ n + x)) 1 && has (2 ^ n + x) p) 0 (2 ^ n) (λ x l u. upper_old 0 (omega arith) x (omega arith) ∙ never x (omega arith)))
        ∙ sym (choose_none (suc n - 1))
    halves (suc s) rest (inr ne) =
        ap₂ ◌+◌ (rest (suc s) (omega arith))
        (count_by_alike (λ x. eqb (ones (2 ^ n + x)) (suc (suc s)) && has (2 ^ n + x) p) (λ x. eqb (ones x) (suc s) && has x p) 0 (2 ^ n) (λ x l u. upper_old (suc s) (omega arith) x (omega arith)) ∙ rest s (omega arith))
        ∙ add_comm (choose (n - 1) (suc s)) (choose (n - 1) s)
        ∙ ap (λ k. choose (n - 1) k + choose (n - 1) (suc s)) one_back
        ∙ choose_step n (suc s) (omega arith) (omega arith) ∙ ap (λ k. choose k (suc s)) (sym one_less)
      where
        one_back : s ≡ suc s - 1
        one_back = omega arith

pub weighed_push : (w : ℕ → ℕ → ℕ) (j : ℕ) (ps : List ℕ) (p : ℕ) → weighed w j (ps ++ (p ∷ [])) ≡ weighed w j ps + w p (j + length ps)
weighed_push w j [] p = omega (arith, ap (w p) (sym (add-zero j)))
weighed_push w j (q ∷ ps) p =
    let there : suc j + length ps ≡ j + suc (length ps) = omega arith in
    ap (λ n. w q j + n) (weighed_push w (suc j) ps p ∙ ap (λ k. weighed w (suc j) ps + w p k) there)
    ∙ sym (add_assoc (w q j) (weighed w (suc j) ps) (w p (j + suc (length ps))))

-- two weights that agree on the bits of a list
pub weighed_alike : (v w : ℕ → ℕ → ℕ) (j : ℕ) (ps : List ℕ) → All (λ p. (i : ℕ) → v p i ≡ w p i) ps → weighed v j ps ≡ weighed w j ps
weighed_alike v w j [] h = refl
weighed_alike v w j (p ∷ ps) h =
    let same : (x : ℕ) → Type 0 = λ x. (i : ℕ) → v x i ≡ w x i in
    ap₂ ◌+◌ (All-head same p ps h j) (weighed_alike v w (suc j) ps (All-tail same p ps h))

-- the sum over a mask that has the bit n on top
weighed_top : (w : ℕ → ℕ → ℕ) (n m x : ℕ) → x < 2 ^ n → m ≡ 2 ^ n + x → weighed w 1 (members (suc n) m) ≡ weighed w 1 (members n x) + w n (suc (ones x))
weighed_top w n m x lt e =
    let more : members (suc n) m ≡ members n x ++ (n ∷ []) =
    ap (λ k. members k m) (sym (add-one n)) ∙ kept_more (has m) n
    ∙ ap₂ (λ xs b. xs ++ cond b (n ∷ []) []) (ap (members n) e ∙ members_below n x) (ap (λ y. has y n) e ∙ has_new n x lt) in
    let at : 1 + length (members n x) ≡ suc (ones x) = omega (arith, members_count n x lt) in
    ap (weighed w 1) more ∙ weighed_push w 1 (members n x) n ∙ ap (λ k. weighed w 1 (members n x) + w n k) at

-- the members of a mask that has no bit n
members_same : (n m : ℕ) → has m n ≡ false → members (suc n) m ≡ members n m
members_same n m none =
    ap (λ k. members k m) (sym (add-one n)) ∙ kept_more (has m) n ∙ ap (λ b. members n m ++ cond b (n ∷ []) []) none ∙ append-nil (members n m)

-- A group's number, C(p1, 1) + .. + C(pt, t), counts the masks below it with as many bits.
pub rank_is : (n m : ℕ) → m < 2 ^ n → count_by (λ x. eqb (ones x) (ones m)) (range_with_len 0 m) ≡ rank (members n m)
rank_is zero m lt =
    let none : m ≡ 0 = omega arith in
    ap (λ k. count_by (λ x. eqb (ones x) (ones m)) (range_with_len 0 k)) none
rank_is (suc n) m lt = go (λ x u. rank_is n x u) (split_top n m lt)
  where
    go : ((x : ℕ) → x < 2 ^ n → count_by (λ y. eqb (ones y) (ones x)) (range_with_len 0 x) ≡ rank (members n x))
        → ((m < 2 ^ n) × (has m n ≡ false)) ⊎ ((x : ℕ) × (x < 2 ^ n) × (m ≡ 2 ^ n + x))
        → count_by (λ y. eqb (ones y) (ones m)) (range_with_len 0 m) ≡ rank (members (suc n) m)
    go rest (inl h) = rest m h.0 ∙ ap rank (sym (members_same n m h.1))
    go rest (inr h) =
        let x : ℕ = h.0 in
        let size : ones m ≡ suc (ones x) = ap ones h.2 ∙ ones_more n x h.1 in
        ap₂ (λ k s. count_by (λ y. eqb (ones y) s) (range_with_len 0 k)) h.2 size ∙ count_by_split (λ y. eqb (ones y) (suc (ones x))) (2 ^ n) x
        ∙ ap₂ ◌+◌ (count_size n (suc (ones x)))
        (count_by_alike (λ y. eqb (ones (2 ^ n + y)) (suc (ones x))) (λ y. eqb (ones y) (ones x)) 0 x (λ y l u. ap (λ k. eqb k (suc (ones x))) (ones_more n y (omega (arith, h.1))) ∙ eqb-suc-suc (ones y) (ones x))
        ∙ rest x h.1)
        ∙ add_comm (choose n (suc (ones x))) (weighed choose 1 (members n x))
        ∙ sym (weighed_top choose n m x h.1 h.2)

pub on_card_below : (p q j : ℕ) → q < p → on_card p q j ≡ choose q j
on_card_below p q j lt = ap (λ b. cond b (choose q j) (cond (ltb p q) (choose (q - 1) (j - 1)) 0)) (lt-ltb q p lt)

pub on_card_same : (p j : ℕ) → on_card p p j ≡ 0
on_card_same p j = ap (λ b. cond b (choose p j) (cond b (choose (p - 1) (j - 1)) 0)) (le-ltb p p (omega arith))

pub on_card_above : (p q j : ℕ) → p < q → on_card p q j ≡ choose (q - 1) (j - 1)
on_card_above p q j lt =
    ap (λ b. cond b (choose q j) (cond (ltb p q) (choose (q - 1) (j - 1)) 0)) (le-ltb q p (omega arith))
    ∙ ap (λ b. cond b (choose (q - 1) (j - 1)) 0) (lt-ltb p q lt)

-- the members among the first n bits lie below n
pub members_low : (n m : ℕ) → All (λ q. q < n) (members n m)
members_low n m = All-filter (has m) (λ q. q < n) (range_with_len 0 n) (counting_low 0 n n (omega arith))
  where
    counting_low : (a k n : ℕ) → a + k ≤ n → All (λ q. q < n) (range_with_len a k)
    counting_low a zero n h = All-nil (λ q. q < n)
    counting_low a (suc k) n h = All-cons (λ q. q < n) a (range_with_len (a + 1) k) (omega arith) (counting_low (a + 1) k n (omega arith))

-- A group's place on a card counts the masks below it with as many bits that name the harbour.
pub card_rank_is : (n m p : ℕ) → m < 2 ^ n → p < n → has m p ≡ true
    → count_by (λ x. eqb (ones x) (ones m) && has x p) (range_with_len 0 m) ≡ weighed (on_card p) 1 (members n m)
card_rank_is zero m p lt low there = absurd (not-suc-le-zero low)
card_rank_is (suc n) m p lt low there = go (λ x u h. card_rank_is n x p u h) (split_top n m lt)
  where
    counted : ℕ → ℕ
    counted x =
        count_by (λ y. eqb (ones y) (suc (ones x)) && has y p) (range_with_len 0 (2 ^ n))
        + count_by (λ y. eqb (ones (2 ^ n + y)) (suc (ones x)) && has (2 ^ n + y) p) (range_with_len 0 x)

    sized : (x y : ℕ) → y < 2 ^ n → eqb (ones (2 ^ n + y)) (suc (ones x)) ≡ eqb (ones y) (ones x)
    sized x y u = ap (λ k. eqb k (suc (ones x))) (ones_more n y u) ∙ eqb-suc-suc (ones y) (ones x)

    with_top : (x : ℕ) → x < 2 ^ n → p ≡ n → counted x ≡ weighed (on_card p) 1 (members n x) + on_card p n (suc (ones x))
    with_top x u e =
        ap₂ ◌+◌ (count_by_none (λ y. eqb (ones y) (suc (ones x)) && has y p) 0 (2 ^ n) (λ y l v. and_right (eqb (ones y) (suc (ones x))) (has y p) (has_past n y p (omega arith) (omega arith))))
        (count_by_alike (λ y. eqb (ones (2 ^ n + y)) (suc (ones x)) && has (2 ^ n + y) p) (λ y. eqb (ones y) (ones x)) 0 x (λ y l v. ap₂ ◌&&◌ (sized x y (omega arith)) (ap (has (2 ^ n + y)) e ∙ has_new n y (omega arith)) ∙ and_true (eqb (ones y) (ones x)))
        ∙ rank_is n x u
        ∙ weighed_alike choose (on_card p) 1 (members n x) (All-weaker (λ q. q < n) (λ q. (i : ℕ) → choose q i ≡ on_card p q i) (λ q v i. sym (on_card_below p q i (omega arith))) (members n x) (members_low n x)))
        ∙ zero-add (weighed (on_card p) 1 (members n x))
        ∙ sym (add-zero (weighed (on_card p) 1 (members n x)))
        ∙ ap (λ k. weighed (on_card p) 1 (members n x) + k) (sym (ap (λ q. on_card p q (suc (ones x))) (sym e) ∙ on_card_same p (suc (ones x))))

    with_lower : (x : ℕ) → x < 2 ^ n → p < n → count_by (λ y. eqb (ones y) (ones x) && has y p) (range_with_len 0 x) ≡ weighed (on_card p) 1 (members n x)
        → counted x ≡ weighed (on_card p) 1 (members n x) + on_card p n (suc (ones x))
    with_lower x u h rest =
        let one_less : ones x ≡ suc (ones x) - 1 = omega arith in
        ap₂ ◌+◌ (count_with n p (ones x) h)
        (count_by_alike (λ y. eqb (ones (2 ^ n + y)) (suc (ones x)) && has (2 ^ n + y) p) (λ y. eqb (ones y) (ones x) && has y p) 0 x (λ y l v. ap₂ ◌&&◌ (sized x y (omega arith)) (has_below n y p h)) ∙ rest)
        ∙ add_comm (choose (n - 1) (ones x)) (weighed (on_card p) 1 (members n x))
        ∙ ap (λ k. weighed (on_card p) 1 (members n x) + k) (ap (choose (n - 1)) one_less ∙ sym (on_card_above p n (suc (ones x)) h))

    go : ((x : ℕ) → x < 2 ^ n → p < n → has x p ≡ true → count_by (λ y. eqb (ones y) (ones x) && has y p) (range_with_len 0 x) ≡ weighed (on_card p) 1 (members n x))
        → ((m < 2 ^ n) × (has m n ≡ false)) ⊎ ((x : ℕ) × (x < 2 ^ n) × (m ≡ 2 ^ n + x))
        → count_by (λ y. eqb (ones y) (ones m) && has y p) (range_with_len 0 m) ≡ weighed (on_card p) 1 (members (suc n) m)
    go rest (inl h) =
        let lower : p < n = ⊎_elim (λ e. absurd (true≢false (sym there ∙ ap (has m) e ∙ h.1))) (λ ne. omega arith) (cases_eq p n) in
        rest m h.0 lower there ∙ ap (weighed (on_card p) 1) (sym (members_same n m h.1))
    go rest (inr h) =
        let x : ℕ = h.0 in
        let size : ones m ≡ suc (ones x) = ap ones h.2 ∙ ones_more n x h.1 in
        ap₂ (λ k s. count_by (λ y. eqb (ones y) s && has y p) (range_with_len 0 k)) h.2 size
        ∙ count_by_split (λ y. eqb (ones y) (suc (ones x)) && has y p) (2 ^ n) x
        ∙ ⊎_elim (with_top x h.1) (λ ne. with_lower x h.1 (omega arith) (rest x h.1 (omega arith) (sym (has_below n x p (omega arith)) ∙ ap (λ y. has y p) (sym h.2) ∙ there))) (cases_eq p n)
        ∙ sym (weighed_top (on_card p) n m x h.1 h.2)

-- with no bit left out, the rank on a card is the group's number
pub rank_on_none : (n m : ℕ) → weighed (on_card n) 1 (members n m) ≡ rank (members n m)
rank_on_none n m =
    weighed_alike (on_card n) choose 1 (members n m) (All-weaker (λ q. q < n) (λ q. (i : ℕ) → on_card n q i ≡ choose q i) (λ q u i. on_card_below n q i u) (members n m) (members_low n m))

-- a bit among the first ten adds 252 at most
on_card_few : (p q j : ℕ) → q ≤ 10 → on_card p q j ≤ 252
on_card_few p q j h = go (ltb q p) (ltb p q)
  where
    go : (below above : Bool) → cond below (choose q j) (cond above (choose (q - 1) (j - 1)) 0) ≤ 252
    go true above = choose_fits q j h
    go false true = choose_fits (q - 1) (j - 1) (omega arith)
    go false false = omega arith

weighed_few : (p n j : ℕ) (qs : List ℕ) → n ≤ 10 → All (λ q. q < n) qs → weighed (on_card p) j qs ≤ 252 * length qs
weighed_few p n j [] few h = omega arith
weighed_few p n j (q ∷ qs) few h =
    let low : q < n = All-head (λ x. x < n) q qs h in
    omega (arith, on_card_few p q j (omega arith), weighed_few p n (suc j) qs few (All-tail (λ x. x < n) q qs h))

-- no more members than bits
members_few : (n m : ℕ) → length (members n m) ≤ n
members_few n m = omega (arith, length-filter (has m) (range_with_len 0 n), count_by-le-length (has m) (range_with_len 0 n), length-range_with_len 0 n)

-- ten bits add 252 each at most
pub ranked_few : (p n m : ℕ) → n ≤ 10 → weighed (on_card p) 1 (members n m) ≤ 2520
ranked_few p n m few = omega (arith, weighed_few p n 1 (members n m) few (members_low n m), members_few n m)

-- each member comes behind fewer than n others
pub member_numbered : (n m k : ℕ) (x : ℕ × ℕ) → k < length (enumerate_from 0 (members n m)) → x ≡ get_or (enumerate_from 0 (members n m)) k x → (x.0 < n) × (x.1 < n)
member_numbered n m k x lt is =
    let within : k < length (members n m) = omega (arith, length-enumerate_from 0 (members n m)) in
    let found : x ≡ (0 + k, get_or (members n m) k x.1) = is ∙ get_or-enumerate_from 0 (members n m) k x within in
    let number : x.0 ≡ 0 + k = ap (λ p. p.0) found in
    let bit : x.1 ≡ get_or (members n m) k x.1 = ap (λ p. p.1) found in
    (omega (arith, members_few n m), omega (arith, All-get_or (λ q. q < n) (members n m) k x.1 within (members_low n m)))

-- a sum by position, where each bit comes with how many were before it
pub weighed_numbered : (w : ℕ → ℕ → ℕ) (j : ℕ) (ps : List ℕ) → sum_by (λ p. w p.1 (p.0 + 1)) (enumerate_from j ps) ≡ weighed w (j + 1) ps
weighed_numbered w j [] = refl
weighed_numbered w j (p ∷ ps) =
    sum_by-cons (λ x. w x.1 (x.0 + 1)) (j, p) (enumerate_from (j + 1) ps)
    ∙ ap (λ n. w p (j + 1) + n) (weighed_numbered w (j + 1) ps ∙ ap (λ i. weighed w i ps) (add-one (j + 1)))

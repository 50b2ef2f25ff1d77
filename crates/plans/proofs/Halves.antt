-- A mask below 2^(n + 1) is one below 2^n, or 2^n more: its bits and how many it has. Assumes nothing.
use Rattle.std.proofs.Common.{◌≡◌, ℕ, zero, suc, ◌+◌, ◌-◌, ◌*◌, ◌/◌, ◌%◌, ◌^◌, ◌<◌, ◌≤◌, Bool, true, false, cond, eqb, ltb, ◌⊎◌, [], ◌∷◌, length, filter, sym, refl, ap, ◌∙◌, ap₂, inl, inr, ⊎_elim, mod-lt, mul_assoc, mul_comm, one-mul, pow-suc, div-add-mod', add-one, arith, length-append, pow_pos, pow_mono, pow-add}
use native.Mathlib.Nat.{div-eq_of_lt, mul-add-div_right, mul-add-mod_self_left}
use lib.Count.{ones, ones_in, ones_cat}
use Rattle.std.specs.List.{range_with_len}
use Rattle.std.proofs.lemmas.Nat.{div-mul-add}
use Rattle.std.proofs.lemmas.Bool.{cases_lt, and_parts, and_left, and_right, ltb-true, le-ltb, true≢false}
use Rattle.plans.proofs.Counting.{kept_more}
use Rattle.plans.specs.Groups.{has, member, members}

ones_one : ones 1 ≡ 1
unfolding ones ones_in
ones_one = refl

pub ones_none : ones 0 ≡ 0
unfolding ones ones_in
ones_none = refl

-- one bit more
pub ones_more : (n x : ℕ) → x < 2 ^ n → ones (2 ^ n + x) ≡ suc (ones x)
ones_more n x lt =
    let cat : ones (1 * 2 ^ n + x) ≡ ones 1 + ones x = ones_cat n 1 x lt in
    let same : 1 * 2 ^ n ≡ 2 ^ n = one-mul (2 ^ n) in
    ap (λ m. ones (m + x)) (sym same) ∙ cat ∙ ap (λ m. m + ones x) ones_one ∙ omega arith

-- the new bit is there
pub has_new : (n x : ℕ) → x < 2 ^ n → has (2 ^ n + x) n ≡ true
has_new n x lt =
    let top : (2 ^ n + x) / 2 ^ n ≡ 1 = ap (λ m. (m + x) / 2 ^ n) (sym (one-mul (2 ^ n))) ∙ div-mul-add 1 (2 ^ n) x lt in
    ap (λ m. eqb (m % 2) 1) top

-- a mask below 2^n has no bit at n or above
pub has_past : (n x p : ℕ) → x < 2 ^ n → n ≤ p → has x p ≡ false
has_past n x p lt le =
    let far : x < 2 ^ p = omega (arith, pow_mono le) in
    let none : x / 2 ^ p ≡ 0 = div-eq_of_lt far in
    ap (λ m. eqb (m % 2) 1) none

-- the bits below n are those of the rest on division by 2^n
pub has_low : (n a x p : ℕ) → p < n → has (a * 2 ^ n + x) p ≡ has x p
has_low n a x p lt =
    let parts : n ≡ suc (n - suc p) + p = omega arith in
    let whole : 2 ^ n ≡ 2 ^ suc (n - suc p) * 2 ^ p = ap (λ m. 2 ^ m) parts ∙ pow-add 2 (suc (n - suc p)) p in
    let even : a * 2 ^ suc (n - suc p) ≡ 2 * (a * 2 ^ (n - suc p)) = ap (λ m. a * m) (pow-suc 2 (n - suc p)) ∙ sym (mul_assoc a (2 ^ (n - suc p)) 2) ∙ mul_comm (a * 2 ^ (n - suc p)) 2 in
    let shifted : (a * 2 ^ n + x) / 2 ^ p ≡ 2 * (a * 2 ^ (n - suc p)) + x / 2 ^ p =
    ap (λ m. (m + x) / 2 ^ p) (ap (λ m. a * m) whole ∙ sym (mul_assoc a (2 ^ suc (n - suc p)) (2 ^ p)))
    ∙ mul-add-div_right (pow_pos p) (a * 2 ^ suc (n - suc p)) x ∙ ap (λ m. m + x / 2 ^ p) even in
    ap (λ m. eqb m 1) (ap (λ m. m % 2) shifted ∙ mul-add-mod_self_left 2 (a * 2 ^ (n - suc p)) (x / 2 ^ p))

pub has_below : (n x p : ℕ) → p < n → has (2 ^ n + x) p ≡ has x p
has_below n x p lt = ap (λ m. has (m + x) p) (sym (one-mul (2 ^ n))) ∙ has_low n 1 x p lt

-- a mask with bit n, below 2^(n + 1), is 2^n and a mask below 2^n; one without it lies below 2^n
pub split_top : (n m : ℕ) → m < 2 ^ suc n → ((m < 2 ^ n) × (has m n ≡ false)) ⊎ ((x : ℕ) × (x < 2 ^ n) × (m ≡ 2 ^ n + x))
split_top n m lt = ⊎_elim (λ low. inl (low, has_past n m n low (omega arith))) high (cases_lt m (2 ^ n))
  where
    high : 2 ^ n ≤ m → ((m < 2 ^ n) × (has m n ≡ false)) ⊎ ((x : ℕ) × (x < 2 ^ n) × (m ≡ 2 ^ n + x))
    high le = inr (m - 2 ^ n, omega (arith, pow-suc 2 n), omega arith)

-- two tests that agree on the numbers counted keep the same
pub kept_alike : (p q : ℕ → Bool) (a n : ℕ) → ((x : ℕ) → a ≤ x → x < a + n → p x ≡ q x) → filter p (range_with_len a n) ≡ filter q (range_with_len a n)
kept_alike p q a zero h = refl
kept_alike p q a (suc n) h =
    ap₂ (λ b xs. cond b (a ∷ xs) xs) (h a (omega arith) (omega arith)) (kept_alike p q (a + 1) n (λ x l u. h x (omega arith) (omega arith)))

-- the members below n do not change with a bit at n
pub members_below : (n x : ℕ) → members n (2 ^ n + x) ≡ members n x
members_below n x = kept_alike (has (2 ^ n + x)) (has x) 0 n (λ p l u. has_below n x p (omega arith))

-- a mask below 2^n has as many members among its first n bits as it has bits
pub members_count : (n m : ℕ) → m < 2 ^ n → length (members n m) ≡ ones m
members_count zero m lt =
    let none : m ≡ 0 = omega arith in
    sym (ap ones none ∙ ones_none)
members_count (suc n) m lt = go (λ x. members_count n x) (split_top n m lt)
  where
    pushed : length (members (suc n) m) ≡ length (members n m) + length (cond (has m n) (n ∷ []) [])
    pushed = ap (λ k. length (members k m)) (sym (add-one n)) ∙ ap length (kept_more (has m) n) ∙ length-append (members n m) (cond (has m n) (n ∷ []) [])

    go : ((x : ℕ) → x < 2 ^ n → length (members n x) ≡ ones x)
        → ((m < 2 ^ n) × (has m n ≡ false)) ⊎ ((x : ℕ) × (x < 2 ^ n) × (m ≡ 2 ^ n + x)) → length (members (suc n) m) ≡ ones m
    go rest (inl h) =
        let no_more : length (cond (has m n) (n ∷ []) []) ≡ 0 = ap (λ b. length (cond b (n ∷ []) [])) h.1 in
        omega (arith, pushed, no_more, rest m h.0)
    go rest (inr h) =
        let x : ℕ = h.0 in
        let one_more : length (cond (has m n) (n ∷ []) []) ≡ 1 = ap (λ b. length (cond b (n ∷ []) [])) (ap (λ y. has y n) h.2 ∙ has_new n x h.1) in
        let below : length (members n m) ≡ ones x = ap (λ y. length (members n y)) h.2 ∙ ap length (members_below n x) ∙ rest x h.1 in
        let counted : ones m ≡ suc (ones x) = ap ones h.2 ∙ ones_more n x h.1 in
        omega (arith, pushed, one_more, below, counted)

-- a position counts the bits of what is left on division
pub members_rest : (n m : ℕ) → length (members n m) ≡ ones (m % 2 ^ n)
members_rest n m =
    ap length (kept_alike (has m) (has (m % 2 ^ n)) 0 n (λ p l u. ap (λ x. has x p) (sym (div-add-mod' m (2 ^ n))) ∙ has_low n (m / 2 ^ n) (m % 2 ^ n) p (omega arith)))
    ∙ members_count n (m % 2 ^ n) (mod-lt m (pow_pos n))

-- a mask of 16 bits names no harbour above 16
pub member_within : (mask harbour : ℕ) → mask < 2 ^ 16 → member mask harbour ≡ true → (1 ≤ harbour) × (harbour ≤ 16)
member_within mask harbour lt there =
    let parts = and_parts (ltb 0 harbour) (has mask (harbour - 1)) there in
    let low : 0 < harbour = ltb-true 0 harbour parts.0 in
    (low, ⊎_elim (λ high. absurd (true≢false (sym parts.1 ∙ has_past 16 mask (harbour - 1) lt (omega arith)))) (λ le. omega arith) (cases_lt 16 harbour))

pub member_past : (mask harbour : ℕ) → mask < 2 ^ 16 → 16 < harbour → member mask harbour ≡ false
member_past mask harbour lt high = and_right (ltb 0 harbour) (has mask (harbour - 1)) (has_past 16 mask (harbour - 1) lt (omega arith))

pub member_before : (mask harbour : ℕ) → harbour < 1 → member mask harbour ≡ false
member_before mask harbour low = and_left (ltb 0 harbour) (has mask (harbour - 1)) (le-ltb 0 harbour (omega arith))

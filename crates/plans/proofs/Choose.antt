-- The laws of the binomial count, and its bound for the plans that exist. Assumes nothing.
use Rattle.std.proofs.Common.{◌≡◌, ℕ, zero, suc, ◌+◌, ◌-◌, ◌<◌, ◌≤◌, Bool, true, ◌&&◌, leb, Decides, refl, ap₂, ⊎_elim, le_of_suc-le-suc, not-suc-le-zero, add-one, arith}
use Rattle.std.proofs.lemmas.Bool.{leb-true, le-leb, cases_lt}
use Rattle.std.proofs.lemmas.Bool.Decides.{Decides-below_and}
use Rattle.plans.specs.Binomial.{choose, ChoosesByRule}

pub choose_none : (n : ℕ) → choose n 0 ≡ 1
choose_none zero = refl
choose_none (suc n) = refl

pub choose_past : (n r : ℕ) → n < r → choose n r ≡ 0
choose_past zero zero h = absurd (not-suc-le-zero h)
choose_past zero (suc r) h = refl
choose_past (suc n) zero h = absurd (not-suc-le-zero h)
choose_past (suc n) (suc r) h =
    let a : n < r = le_of_suc-le-suc h in
    let b : n < suc r = omega arith in
    ap₂ ◌+◌ (choose_past n r a) (choose_past n (suc r) b)

pub choose_all : (n : ℕ) → choose n n ≡ 1
choose_all zero = refl
choose_all (suc n) = ap₂ ◌+◌ (choose_all n) (choose_past n (suc n) (omega arith))

pub chooses_by_rule : ChoosesByRule
chooses_by_rule = (choose_none, choose_all, choose_past, λ n r. rw (add-one n, add-one r) refl)

-- the two above, where r is neither end
pub choose_step : (n r : ℕ) → 0 < n → 0 < r → choose (n - 1) (r - 1) + choose (n - 1) r ≡ choose n r
choose_step zero r p q = absurd (not-suc-le-zero p)
choose_step (suc n) zero p q = absurd (not-suc-le-zero q)
choose_step (suc n) (suc r) p q =
    let a : suc n - 1 ≡ n = omega arith in
    let b : suc r - 1 ≡ r = omega arith in
    rw (a, b) refl

-- the counts of the first n rows of the triangle, up to the tenth place, are at most 252
row_fits : ℕ → ℕ → Bool
row_fits n zero = true
row_fits n (suc r) = leb (choose n r) 252 && row_fits n r

rows_fit : ℕ → Bool
rows_fit zero = true
rows_fit (suc n) = row_fits n 11 && rows_fit n

row_decides : (n k : ℕ) → Decides (row_fits n k) ((r : ℕ) → r < k → choose n r ≤ 252)
unfolding row_fits
row_decides n = Decides-below_and (λ r. leb (choose n r) 252) (λ r. choose n r ≤ 252) (row_fits n) (λ r. (leb-true (choose n r) 252, le-leb (choose n r) 252)) refl (λ _. refl)

rows_decide : (k : ℕ) → Decides (rows_fit k) ((n : ℕ) → n < k → (r : ℕ) → r < 11 → choose n r ≤ 252)
unfolding rows_fit
rows_decide = Decides-below_and (λ n. row_fits n 11) (λ n. (r : ℕ) → r < 11 → choose n r ≤ 252) rows_fit (λ n. row_decides n 11) refl (λ _. refl)

all_rows_fit : rows_fit 11 ≡ true
unfolding rows_fit row_fits
all_rows_fit = refl

-- no plan has more than 252 groups
pub choose_fits : (n r : ℕ) → n ≤ 10 → choose n r ≤ 252
choose_fits n r h = ⊎_elim small large (cases_lt r 11)
  where
    small : r < 11 → choose n r ≤ 252
    small lt = (rows_decide 11).0 all_rows_fit n (omega arith) r lt

    large : 11 ≤ r → choose n r ≤ 252
    large le = omega (arith, choose_past n r (omega arith))

-- One turn of the loop that fills a table. Assumes nothing.
use Rattle.std.proofs.Common.{◌≡◌, ℕ, suc, ◌+◌, ◌-◌, ◌*◌, ◌%◌, ◌^◌, ◌<◌, ◌≤◌, List, [], ◌∷◌, ◌++◌, map, length, set, replicate, get_or, sym, refl, ap, ◌∙◌, ap₂, subst, subst₂, append_assoc, inl, inr, arith}
use Rattle.std.specs.List.{enumerate_from}
use Rattle.std.proofs.lemmas.Bool.{cases_eq}
use Rattle.std.proofs.lemmas.Grind.{get_or-set_at}
use Rattle.std.proofs.lemmas.List.{set_at, get_or-set_other, length-set, length-map, length_push, map_push, map-id}
use Rattle.std.proofs.lemmas.List.FromFn.{length-enumerate_from, get_or-enumerate_from}
use Rattle.std.proofs.lemmas.Nat.{one_shl}
use Rattle.plans.specs.Binomial.{choose}
use Rattle.plans.specs.Groups.{groups}
use Rattle.plans.specs.Triangle.{IsRow}
use Rattle.plans.proofs.Choose.{choose_fits}
use Rattle.plans.proofs.Ranks.{groups_count}

-- how many masks a shift counts
pub end_is : (n : ℕ) → n ≤ 10 → 1 * 2 ^ n % 65536 - 0 ≡ 2 ^ n
end_is n few = omega (arith, one_shl n 16 (omega arith))

-- the masks so far, each with its number, stand in front, with zeros behind them
abbrev pub Filled : List (ℕ × ℕ) → List ℕ → Type 0
Filled numbered masks = masks ≡ map (λ p. p.1) numbered ++ replicate (252 - length numbered) 0

-- a group's number is how many came before it, and there is a place for it
pub numbered_turn : (n t before number mask : ℕ) → n ≤ 10 → before < length (enumerate_from 0 (groups n t)) → (number, mask) ≡ get_or (enumerate_from 0 (groups n t)) before (number, mask)
    → (number ≡ before) × (number < 252)
numbered_turn n t before number mask few lt is =
    let within : before < length (groups n t) = omega (arith, length-enumerate_from 0 (groups n t)) in
    let same : number ≡ before = ap (λ p. p.0) is ∙ ap (λ p. p.0) (get_or-enumerate_from 0 (groups n t) before (number, mask) within) ∙ omega arith in
    (same, omega (arith, groups_count n t, choose_fits n t few))

-- one mask more
pub filled_more : (numbered : List (ℕ × ℕ)) (masks : List ℕ) (number mask : ℕ) → Filled numbered masks → number ≡ length numbered → number < 252
    → Filled (numbered ++ ((number, mask) ∷ [])) (set masks number mask)
filled_more numbered masks number mask f is lt =
    let front : List ℕ = map (λ p. p.1) numbered in
    let longer : length (numbered ++ ((number, mask) ∷ [])) ≡ length numbered + 1 = length_push numbered (number, mask) in
    let some : 252 - length numbered ≡ suc (252 - length (numbered ++ ((number, mask) ∷ []))) = omega arith in
    let long : length front ≡ number = length-map numbered (λ p. p.1) ∙ sym is in
    let rest : List ℕ = replicate (252 - length (numbered ++ ((number, mask) ∷ []))) 0 in
    ap (λ xs. set xs number mask) (f ∙ ap (λ k. front ++ replicate k 0) some)
    ∙ set_at front 0 rest mask number long
    ∙ sym (append_assoc front (mask ∷ []) rest)
    ∙ ap (λ xs. xs ++ rest) (sym (map_push (λ p. p.1) numbered (number, mask)))

-- the numbers taken away again
unnumbered : (a : ℕ) (xs : List ℕ) → map (λ p. p.1) (enumerate_from a xs) ≡ xs
unnumbered a [] = refl
unnumbered a (x ∷ xs) = ap (λ ys. x ∷ ys) (unnumbered (a + 1) xs)

-- all masks, and how many they are
pub filled_all : (n t count : ℕ) (numbered : List (ℕ × ℕ)) (masks : List ℕ) → n ≤ 10 → map (λ p. (p.0, p.1)) numbered ≡ enumerate_from 0 (groups n t) → Filled numbered masks → count ≡ length numbered
    → (count ≡ choose n t) × (count ≤ 252) × (masks ≡ groups n t ++ replicate (252 - count) 0)
filled_all n t count numbered masks few all f counted =
    let each : numbered ≡ enumerate_from 0 (groups n t) = sym (map-id numbered) ∙ all in
    let many : count ≡ choose n t = counted ∙ ap length each ∙ length-enumerate_from 0 (groups n t) ∙ groups_count n t in (
      many,
      omega (arith, many, choose_fits n t few),
      f ∙ ap₂ (λ xs k. xs ++ replicate (252 - k) 0) (ap (map (λ p. p.1)) each ∙ unnumbered 0 (groups n t)) (sym counted),
    )

-- the rows so far
abbrev pub Rows : ℕ → List (List ℕ) → Type 0
Rows n counts = (length counts ≡ 10) × ((k : ℕ) → k < n → IsRow 11 k (get_or counts k []))

-- one row more
pub row_more : (n : ℕ) (counts : List (List ℕ)) (row : List ℕ) → n < 10 → IsRow 11 n row → Rows n counts → Rows (n + 1) (set counts n row)
row_more n counts row few is r = (
  length-set counts n row ∙ r.0,
  λ k lt.
      elim (cases_eq k n) [
        | inl same ↦ subst₂ (IsRow 11) (sym same) (sym (get_or-set_at counts n k row [] same (omega (arith, few, r.0)))) is
        | inr other ↦ subst (IsRow 11 k) (sym (get_or-set_other counts n k row [] other)) (r.1 k (omega (arith, other)))
      ],
)

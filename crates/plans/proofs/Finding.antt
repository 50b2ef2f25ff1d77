-- A group's number and its place on a card, from its mask. Assumes nothing.
use Rattle.std.proofs.Common.{◌≡◌, ℕ, ◌+◌, ◌-◌, ◌*◌, ◌^◌, ◌<◌, ◌≤◌, Bool, true, false, cond, not, ◌&&◌, ◌||◌, eqb, ltb, leb, get_or, take, count_by, sym, ap, ◌∙◌, ap₂, ⊎_elim, arith}
use lib.Count.{ones}
use Rattle.std.specs.List.{range_with_len}
use Rattle.std.proofs.lemmas.Bool.{cases_Bool, cases_lt, or_parts, eqb-true, eq-eqb, ne_eqb, leb-false, lt-leb, or_from, and_parts, not-false, ltb-true, true≢false}
use Rattle.plans.specs.Binomial.{choose}
use Rattle.plans.specs.Groups.{has, member, members, groups, weighed, rank, on_card}
use Rattle.plans.specs.Layout.{named_by, place}
use Rattle.plans.specs.Numbering.{number_in, Counted, Undoes}
use Rattle.plans.specs.Refusals.{mask_refusal, position_refusal, find_refusal}
use Rattle.plans.specs.Shape.{shape_of, masks_of}
use Rattle.plans.specs.declared.plan.Plan.{Plan}
use Rattle.plans.proofs.Counting.{count_by_kept, kept_at, kept_within, kept_before, Stands, stands}
use Rattle.plans.proofs.Halves.{has_past, ones_none}
use Rattle.plans.proofs.Places.{cards_before}
use Rattle.plans.proofs.Ranks.{groups_count, rank_is, card_rank_is}

-- what a mask that is not refused is
pub passed : (n t m : ℕ) → mask_refusal n t m ≡ 0 → (ones m ≡ t) × (m < 2 ^ n)
passed n t m e =
    let tests : Bool = eqb m 0 || (not (eqb (ones m) t) || leb (2 ^ n) m) in
    let none : tests ≡ false = ⊎_elim (λ yes'. absurd (five yes')) (λ no'. no') (cases_Bool tests) in
    let rest = or_parts (not (eqb (ones m) t)) (leb (2 ^ n) m) (or_parts (eqb m 0) (not (eqb (ones m) t) || leb (2 ^ n) m) none).1 in
    (eqb-true (ones m) t (not-false (eqb (ones m) t) rest.0), leb-false (2 ^ n) m rest.1)
  where
    five : (eqb m 0 || (not (eqb (ones m) t) || leb (2 ^ n) m)) ≡ true → ⊥
    five yes' =
        let z : ◌≡◌ {A = ℕ} 5 0 = ap (λ b. cond b 5 0) (sym yes') ∙ e in
        omega (arith, z)

module _ (n t m : ℕ) (sized : ones m ≡ t) (low : m < 2 ^ n) where
  passes : eqb (ones m) t ≡ true
  passes = eq-eqb (ones m) t sized

  -- the masks of so many bits below it
  number_counts : count_by (λ x. eqb (ones x) t) (range_with_len 0 m) ≡ rank (members n m)
  number_counts = ap (λ s. count_by (λ x. eqb (ones x) s) (range_with_len 0 m)) (sym sized) ∙ rank_is n m low

  pub number_within : rank (members n m) < choose n t
  number_within = omega (arith, number_counts, kept_within (λ x. eqb (ones x) t) (2 ^ n) m low passes, groups_count n t)

  pub number_stands : get_or (groups n t) (rank (members n m)) 0 ≡ m
  number_stands = ap (λ g. get_or (groups n t) g 0) (sym number_counts) ∙ kept_at (λ x. eqb (ones x) t) (2 ^ n) m low passes

  -- the groups before it that name a harbour
  pub named_before_it : (b : ℕ) → has m b ≡ true → named_by (take (rank (members n m)) (groups n t)) b ≡ weighed (on_card b) 1 (members n m)
  named_before_it b there =
      let bit_low : b < n = ⊎_elim (λ lt. lt) (λ le. absurd (true≢false (sym there ∙ has_past n m b low le))) (cases_lt b n) in
      ap (λ g. named_by (take g (groups n t)) b) (sym number_counts)
      ∙ ap (λ ms. named_by ms b) (kept_before (λ x. eqb (ones x) t) (2 ^ n) m low passes)
      ∙ count_by_kept (λ x. has x b) (λ x. eqb (ones x) t) (range_with_len 0 m)
      ∙ ap (λ s. count_by (λ x. eqb (ones x) s && has x b) (range_with_len 0 m)) (sym sized) ∙ card_rank_is n m b low bit_low there

  pub place_is : (k b : ℕ) → 1 ≤ t → has m b ≡ true → place (groups n t) k (rank (members n m)) b ≡ k * (b * choose (n - 1) (t - 1) + weighed (on_card b) 1 (members n m))
  place_is k b some there =
      let bit_low : b < n = ⊎_elim (λ lt. lt) (λ le. absurd (true≢false (sym there ∙ has_past n m b low le))) (cases_lt b n) in
      ap₂ (λ x y. k * (x + y)) (cards_before n t b some (omega arith)) (named_before_it b there)

pub counted : Counted
counted p = groups_count p.harbours p.threshold

pub undoes : Undoes
undoes p = (
  λ m e. let q = passed p.harbours p.threshold m e in (number_within p.harbours p.threshold m q.0 q.1, number_stands p.harbours p.threshold m q.0 q.1),
  λ g lt. back g (stands (λ x. eqb (ones x) p.threshold) 0 (2 ^ p.harbours) g (omega (arith, groups_count p.harbours p.threshold))),
)
  where
    back : (g : ℕ) → Stands (λ x. eqb (ones x) p.threshold) 0 (2 ^ p.harbours) g (get_or (groups p.harbours p.threshold) g 0)
        → (mask_refusal p.harbours p.threshold (get_or (groups p.harbours p.threshold) g 0) ≡ 0) × (rank (members p.harbours (get_or (groups p.harbours p.threshold) g 0)) ≡ g)
    back g s =
        let n : ℕ = p.harbours in
        let t : ℕ = p.threshold in
        let m : ℕ = get_or (groups n t) g 0 in
        let sized : ones m ≡ t = eqb-true (ones m) t s.passes in
        let low : m < 2 ^ n = omega (arith, s.high) in
        let all : m - 0 ≡ m = omega arith in
        let first : eqb m 0 ≡ false = ne_eqb m 0 (λ z. let none : ones m ≡ 0 = ap ones z ∙ ones_none in omega (arith, sized, p.someone)) in (
          ap (λ b. cond b 5 0) (or_from (eqb m 0) (not (eqb (ones m) t) || leb (2 ^ n) m) first (or_from (not (eqb (ones m) t)) (leb (2 ^ n) m) (ap not s.passes) (lt-leb (2 ^ n) m low))),
          sym (number_counts n t m sized low) ∙ ap (λ x. count_by (λ y. eqb (ones y) t) (range_with_len 0 x)) (sym all) ∙ s.before,
        )

-- what a harbour that is not refused is
pub named : (m h : ℕ) → position_refusal m h ≡ 0 → (1 ≤ h) × (has m (h - 1) ≡ true)
named m h e = ⊎_elim there (λ no'. absurd (six no')) (cases_Bool (member m h))
  where
    there : member m h ≡ true → (1 ≤ h) × (has m (h - 1) ≡ true)
    there yes' = let parts = and_parts (ltb 0 h) (has m (h - 1)) yes' in (ltb-true 0 h parts.0, parts.1)

    six : member m h ≡ false → ⊥
    six no' =
        let z : ◌≡◌ {A = ℕ} 6 0 = ap (λ b. cond b 0 6) (sym no') ∙ e in
        omega (arith, z)

pub bit_within : (m h : ℕ) → m < 2 ^ 16 → position_refusal m h ≡ 0 → h - 1 < 16
bit_within m h low placed =
    let is = named m h placed in
    ⊎_elim (λ lt. lt) (λ le. absurd (true≢false (sym is.1 ∙ has_past 16 m (h - 1) low le))) (cases_lt (h - 1) 16)

pub find_passes : (n t m h : ℕ) → mask_refusal n t m ≡ 0 → position_refusal m h ≡ 0 → find_refusal n t m h ≡ 0
find_passes n t m h judged placed = ap (λ b. cond b (position_refusal m h) 5) (eq-eqb (mask_refusal n t m) 0 judged) ∙ placed

pub find_place : (p : Plan) (m h : ℕ) → mask_refusal p.harbours p.threshold m ≡ 0 → position_refusal m h ≡ 0
    → place (masks_of (shape_of p)) p.components (number_in (shape_of p) m) (h - 1)
    ≡ p.components * ((h - 1) * choose (p.harbours - 1) (p.threshold - 1) + weighed (on_card (h - 1)) 1 (members p.harbours m))
find_place p m h judged placed =
    let q = passed p.harbours p.threshold m judged in
    place_is p.harbours p.threshold m q.0 q.1 p.components (h - 1) p.someone (named m h placed).1

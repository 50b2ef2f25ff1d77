-- Fewer than t harbours hold no group of t, and the opposite shift. Assumes nothing.
use Rattle.std.proofs.Common.{◌≡◌, ℕ, suc, ◌+◌, ◌^◌, ◌<◌, ◌≤◌, Bool, true, false, cond, eqb, List, [], ◌∷◌, ◌++◌, length, All, count_by, filter, get_or, sym, refl, ap, ◌∙◌, ap₂, ⊎_elim, arith}
use lib.Count.{ones}
use Rattle.std.specs.List.{range_with_len, prefix_len}
use Rattle.std.proofs.lemmas.List.Elements.{All-cons, All-get_or, All-filter, All-head, All-nil, All-tail, All-weaker, filter_passes}
use Rattle.std.proofs.lemmas.List.Sums.{length-filter}
use Rattle.std.proofs.lemmas.Bool.{cases_lt, eqb-true}
use Rattle.kinds.specs.Group.{Group}
use Rattle.plans.specs.Groups.{has, members}
use Rattle.plans.specs.Layout.{mask_of}
use Rattle.plans.specs.Shape.{shape_of, masks_of}
use Rattle.plans.specs.declared.plan.Plan.{Plan}
use Rattle.plans.proofs.Counting.{count_by_cons}
use Rattle.plans.proofs.Halves.{members_count}
use Rattle.sharing.specs.Calls.{fresh, Told, draw, apply, discard, read, picture, reissue, audit, refusal, Turn, own, other, after_turn}
use Rattle.sharing.specs.Cover.{Readers, cover, HoldNoGroup}
use Rattle.sharing.specs.Dealing.{added, opposed}
use Rattle.sharing.specs.Secrecy.{Agrees, Sound, turn_shift, shifts, read_in, OppositeUndoes}
use Rattle.sharing.specs.Steps.{Kind}
use Rattle.sharing.specs.Threshold.{scheme_of, read_count, SecrecyOfPlans, SecrecyOfPlansAsAsked}
use Rattle.sharing.proofs.Alike.{all_counting}
use Rattle.sharing.proofs.Covering.{cover_opposed}
use Rattle.sharing.proofs.Linear.{opposed_added, opposed_append}
use Rattle.sharing.proofs.Secrets.{secrecy_as_asked}

-- a front that reaches the end passes throughout
leading_all : (p : ℕ → Bool) (xs : List ℕ) → length xs ≤ prefix_len p xs → All (λ x. p x ≡ true) xs
leading_all p [] le = All-nil (λ x. p x ≡ true)
leading_all p (x ∷ xs) le = go (λ h. leading_all p xs h) (p x) refl
  where
    go : (length xs ≤ prefix_len p xs → All (λ y. p y ≡ true) xs) → (b : Bool) → p x ≡ b → All (λ y. p y ≡ true) (x ∷ xs)
    go rest true e = All-cons (λ y. p y ≡ true) x xs e (rest (reach e le))
      where
        reach : p x ≡ true → suc (length xs) ≤ cond (p x) (1 + prefix_len p xs) 0 → length xs ≤ prefix_len p xs
        reach e' h = let is : cond (p x) (1 + prefix_len p xs) 0 ≡ 1 + prefix_len p xs = ap (λ b. cond b (1 + prefix_len p xs) 0) e' in omega arith
    go rest false e = absurd (stop e le)
      where
        stop : p x ≡ false → suc (length xs) ≤ cond (p x) (1 + prefix_len p xs) 0 → ⊥
        stop e' h = let is : cond (p x) (1 + prefix_len p xs) 0 ≡ 0 = ap (λ b. cond b (1 + prefix_len p xs) 0) e' in omega arith

-- what passes p and is read is no more than what is read
count_read : (p q : ℕ → Bool) (xs : List ℕ) → All (λ x. q x ≡ true) (filter p xs) → count_by p xs ≤ count_by q xs
count_read p q [] a = omega arith
count_read p q (x ∷ xs) a = go (λ h. count_read p q xs h) (p x) refl a
  where
    go : (All (λ y. q y ≡ true) (filter p xs) → count_by p xs ≤ count_by q xs) → (b : Bool) → p x ≡ b
        → All (λ y. q y ≡ true) (cond b (x ∷ filter p xs) (filter p xs)) → count_by p (x ∷ xs) ≤ count_by q (x ∷ xs)
    go rest true e h =
        let one : ◌≡◌ {A = ℕ} (cond (p x) 1 0) 1 = ap (λ b. cond b 1 0) e in
        let too : ◌≡◌ {A = ℕ} (cond (q x) 1 0) 1 = ap (λ b. cond b 1 0) (All-head (λ y. q y ≡ true) x (filter p xs) h) in
        omega (arith, count_by_cons p x xs, count_by_cons q x xs, rest (All-tail (λ y. q y ≡ true) x (filter p xs) h))
    go rest false e h =
        let none : ◌≡◌ {A = ℕ} (cond (p x) 1 0) 0 = ap (λ b. cond b 1 0) e in
        omega (arith, count_by_cons p x xs, count_by_cons q x xs, rest h)

-- the groups of a plan have t members, none above the number of harbours
plan_masks : (p : Plan) → All (λ m. (ones m ≡ p.threshold) × (m < 2 ^ p.harbours)) (masks_of (shape_of p))
plan_masks p =
    both (masks_of (shape_of p)) (filter_passes (λ m. eqb (ones m) p.threshold) (range_with_len 0 (2 ^ p.harbours)))
    (All-filter (λ m. eqb (ones m) p.threshold) (λ m. m < 2 ^ p.harbours) (range_with_len 0 (2 ^ p.harbours)) (all_counting (λ m. m < 2 ^ p.harbours) 0 (2 ^ p.harbours) (λ m l u. omega arith)))
  where
    both : (xs : List ℕ) → All (λ m. eqb (ones m) p.threshold ≡ true) xs → All (λ m. m < 2 ^ p.harbours) xs → All (λ m. (ones m ≡ p.threshold) × (m < 2 ^ p.harbours)) xs
    both xs a b k d lt = (eqb-true (ones (get_or xs k d)) p.threshold (a k d lt), b k d lt)

pub plan_sound : (p : Plan) → Sound (scheme_of p)
plan_sound p = All-weaker (λ m. (ones m ≡ p.threshold) × (m < 2 ^ p.harbours)) (λ m. (1 ≤ ones m) × (m < 2 ^ p.harbours)) (λ m h. (omega (arith, h.0, p.someone), h.1)) (masks_of (shape_of p)) (plan_masks p)

-- fewer than t harbours hold no group of t
pub few_hold_none : (p : Plan) (by : Readers) → read_count p.harbours by < p.threshold → HoldNoGroup (scheme_of p) by
few_hold_none p by few g lt =
    let mask : ℕ = mask_of (masks_of (shape_of p)) g in
    let of = All-get_or (λ m. (ones m ≡ p.threshold) × (m < 2 ^ p.harbours)) (masks_of (shape_of p)) g 0 lt (plan_masks p) in
    let size : length (members p.harbours mask) ≡ p.threshold = members_count p.harbours mask of.1 ∙ of.0 in
    ⊎_elim (λ h. h) (λ all_read. absurd (too_many mask size all_read)) (cases_lt (prefix_len by (members p.harbours mask)) (length (members p.harbours mask)))
  where
    too_many : (mask : ℕ) → length (members p.harbours mask) ≡ p.threshold → length (members p.harbours mask) ≤ prefix_len by (members p.harbours mask) → ⊥
    too_many mask size le =
        omega (
          arith,
          few,
          size,
          length-filter (has mask) (range_with_len 0 p.harbours),
          length-filter by (range_with_len 0 p.harbours),
          count_read (has mask) by (range_with_len 0 p.harbours) (leading_all by (members p.harbours mask) le),
        )

pub secrecy_of_plans_as_asked : {E : Type 0} (K : Kind E) → SecrecyOfPlansAsAsked K
secrecy_of_plans_as_asked K p issue turns d long agree few =
    secrecy_as_asked K (scheme_of p) issue turns d (plan_sound p) long agree (λ round. few_hold_none p (read_in K.width (scheme_of p) issue turns round) (few round))

pub secrecy_of_plans : {E : Type 0} (K : Kind E) → Agrees K → SecrecyOfPlans K
secrecy_of_plans K agree p issue turns d long few = secrecy_of_plans_as_asked K p issue turns d long (λ _. agree) few

module _ (G : Group) where
  turn_opposed : (w : ℕ) (by : ℕ → Readers) (d : List G.Value) (t : Told) (x : Turn) → turn_shift G w by (opposed G d) t x ≡ opposed G (turn_shift G w by d t x)
  turn_opposed w by d t (own (draw randoms sheet)) = go (eqb (refusal w t (draw randoms sheet)) 0)
    where
      go : (b : Bool) → cond b (added G (cover G t.scheme (by (t.round + 1)) (opposed G d)) (opposed G (cover G t.scheme (by t.round) (opposed G d)))) []
          ≡ opposed G (cond b (added G (cover G t.scheme (by (t.round + 1)) d) (opposed G (cover G t.scheme (by t.round) d))) [])
      go true =
          ap₂ (λ xs ys. added G xs (opposed G ys)) (cover_opposed G t.scheme (by (t.round + 1)) d) (cover_opposed G t.scheme (by t.round) d)
          ∙ sym (opposed_added G (cover G t.scheme (by (t.round + 1)) d) (opposed G (cover G t.scheme (by t.round) d)))
      go false = refl
  turn_opposed w by d t (own (apply note tray sheet)) = refl
  turn_opposed w by d t (own (discard note sheet)) = refl
  turn_opposed w by d t (own (read harbour tray)) = refl
  turn_opposed w by d t (own (picture harbour tray place)) = refl
  turn_opposed w by d t (own (reissue harbour tray working)) = refl
  turn_opposed w by d t (own (audit tray)) = refl
  turn_opposed w by d t (other u c) = refl

  shifts_opposed : (w : ℕ) (by : ℕ → Readers) (d : List G.Value) (t : Told) (turns : List Turn) → shifts G w by (opposed G d) t turns ≡ opposed G (shifts G w by d t turns)
  shifts_opposed w by d t [] = refl
  shifts_opposed w by d t (x ∷ xs) =
      ap₂ ◌++◌ (turn_opposed w by d t x) (shifts_opposed w by d (after_turn w t x) xs) ∙ sym (opposed_append G (turn_shift G w by d t x) (shifts G w by d (after_turn w t x) xs))

  pub opposite_undoes : OppositeUndoes G
  opposite_undoes w scheme issue turns d =
      (cover_opposed G scheme (read_in w scheme issue turns 0) d, shifts_opposed w (read_in w scheme issue turns) d (fresh scheme issue) turns)

-- One turn of the loop that restores a component from a group's slips. Assumes nothing.
use Rattle.std.proofs.Common.{◌≡◌, ℕ, ◌+◌, ◌-◌, ◌<◌, ◌≤◌, Bool, true, false, cond, eqb, T, ◌↔◌, MatchBool, List, [], ◌∷◌, ◌++◌, map, length, get_or, ℤ, pos, negsuc, sym, refl, ap, ◌∙◌, subst, ap₂, arith, w8, of_z}
use Rattle.std.specs.List.{AllWithin, HoldsAt, range_with_len}
use Rattle.std.proofs.lemmas.List.FromFn.{get_or-map-range_with_len, get_or-range_with_len, length-range_with_len}
use Rattle.std.proofs.lemmas.List.{map-append}
use Rattle.std.proofs.lemmas.Bool.{eq-eqb, ne_eqb}
use Rattle.kinds.specs.Group.{Group}
use Rattle.plans.specs.Groups.{has, members, position, sign}
use Rattle.plans.specs.Layout.{mask_of, place}
use Rattle.plans.specs.Shape.{masks_of, shape_of}
use Rattle.plans.specs.declared.plan.Plan.{Plan}
use Rattle.plans.proofs.Counting.{kept_more}
use Rattle.matrix.proofs.Numbered.{many}
use Rattle.sharing.specs.Dealing.{total, under}
use Rattle.sharing.specs.Threshold.{scheme_of}
use Rattle.sharing.proofs.Alike.{all_counting, map_all}
use Rattle.sharing.proofs.Totals.{total_append}
use Rattle.trays.specs.Laying.{restored_by}
use Rattle.trays.proofs.Fronts.{front_long}
use Rattle.trays.proofs.Seats.{Seat}

module _ (G : Group) (p : Plan) (xs : List G.Value) (g c : ℕ) where
  abbrev term : ℕ → G.Value
  term b = under G (sign (position (mask_of (masks_of (shape_of p)) g) b)) (get_or xs (place (masks_of (shape_of p)) p.components g b + c) G.nil)

  more : (b : ℕ) (t : Bool) → has (mask_of (masks_of (shape_of p)) g) b ≡ t → restored_by G (scheme_of p) xs g (b + 1) c ≡ G.plus (restored_by G (scheme_of p) xs g b c) (total G (map term (cond t (b ∷ []) [])))
  more b t is =
      let mask : ℕ = mask_of (masks_of (shape_of p)) g in
      ap (λ bs. total G (map term bs)) (kept_more (has mask) b ∙ ap (λ u. members b mask ++ cond u (b ∷ []) []) is)
      ∙ ap (total G) (map-append term (members b mask) (cond t (b ∷ []) [])) ∙ total_append G (map term (members b mask)) (map term (cond t (b ∷ []) []))

  -- The harbour behind its bit.
  at_harbour : (h : ℕ) → 1 ≤ h → restored_by G (scheme_of p) xs g (h - 1 + 1) c ≡ restored_by G (scheme_of p) xs g h c
  at_harbour h some = let same : h - 1 + 1 ≡ h = omega arith in ap (λ n. restored_by G (scheme_of p) xs g n c) same

  pub sum_still : (h : ℕ) (v : G.Value) → 1 ≤ h → has (mask_of (masks_of (shape_of p)) g) (h - 1) ≡ false → v ≡ restored_by G (scheme_of p) xs g (h - 1) c → v ≡ restored_by G (scheme_of p) xs g h c
  sum_still h v some out so_far = so_far ∙ sym (more (h - 1) false out ∙ G.unit (restored_by G (scheme_of p) xs g (h - 1) c)) ∙ at_harbour h some

  by_sign : (z : ℤ) (i : ℕ) (x : G.Value) → z ≡ sign i → cond (eqb (of_z w8 z) 1) x (G.minus x) ≡ under G (sign i) x
  by_sign z i x is = ap (λ y. cond (eqb (of_z w8 y) 1) x (G.minus x)) is ∙ by (eqb i 1)
    where
      by : (t : Bool) → cond (eqb (of_z w8 (cond t (pos 1) (negsuc 0))) 1) x (G.minus x) ≡ under G (cond t (pos 1) (negsuc 0)) x
      by true = refl
      by false = refl

  pub sum_more : (b at : ℕ) (z : ℤ) (y : G.Value) → Seat p g b at z → y ≡ get_or xs (at + c) G.nil
      → G.plus (restored_by G (scheme_of p) xs g b c) (cond (eqb (of_z w8 z) 1) y (G.minus y)) ≡ restored_by G (scheme_of p) xs g (b + 1) c
  sum_more b at z y seat is =
      let here : at ≡ place (masks_of (shape_of p)) p.components g b = seat.ends ∙ front_long (scheme_of p) b g (omega (arith, seat.low, many p)) in
      let one : cond (eqb (of_z w8 z) 1) y (G.minus y) ≡ term b =
      by_sign z (position (mask_of (masks_of (shape_of p)) g) b) y seat.signed ∙ ap (under G (sign (position (mask_of (masks_of (shape_of p)) g) b))) (is ∙ ap (λ j. get_or xs (j + c) G.nil) here) in
      sym (more b true seat.in_it ∙ ap (G.plus (restored_by G (scheme_of p) xs g b c)) (G.unit (term b) ∙ sym one))

  -- The sum so far, with one slip more.
  pub sum_step : (h at : ℕ) (z : ℤ) (y v r : G.Value) (t : Bool) → eqb (of_z w8 z) 1 ≡ t → 1 ≤ h → Seat p g (h - 1) at z → y ≡ get_or xs (at + c) G.nil → v ≡ restored_by G (scheme_of p) xs g (h - 1) c
      → r ≡ G.plus v (cond t y (G.minus y)) → r ≡ restored_by G (scheme_of p) xs g h c
  sum_step h at z y v r t is_first some seat is so_far new =
      new ∙ ap₂ (λ x u. G.plus x (cond u y (G.minus y))) so_far (sym is_first) ∙ sum_more (h - 1) at z y seat is ∙ at_harbour h some

  pub sum_first : (h at : ℕ) (z : ℤ) (y v r : G.Value) → 1 ≤ h → Seat p g (h - 1) at z → of_z w8 z ≡ 1 → y ≡ get_or xs (at + c) G.nil → v ≡ restored_by G (scheme_of p) xs g (h - 1) c
      → r ≡ G.plus v y → r ≡ restored_by G (scheme_of p) xs g h c
  sum_first h at z y v r some seat first is so_far new = sum_step h at z y v r true (eq-eqb (of_z w8 z) 1 first) some seat is so_far new

  pub sum_later : (h at : ℕ) (z : ℤ) (y v r : G.Value) → 1 ≤ h → Seat p g (h - 1) at z → (of_z w8 z ≡ 1 → ⊥) → y ≡ get_or xs (at + c) G.nil → v ≡ restored_by G (scheme_of p) xs g (h - 1) c
      → r ≡ G.plus v (G.minus y) → r ≡ restored_by G (scheme_of p) xs g h c
  sum_later h at z y v r some seat later is so_far new = sum_step h at z y v r false (ne_eqb (of_z w8 z) 1 later) some seat is so_far new

-- Component by component.
pub each_component : {V : Type 0} (f h : ℕ → V) (k : ℕ) → ((j : ℕ) → j < k → f j ≡ h j) → map f (range_with_len 0 k) ≡ map h (range_with_len 0 k)
each_component f h k each = map_all f h (range_with_len 0 k) (all_counting (λ j. f j ≡ h j) 0 k (λ j l u. each j (omega arith)))

pub one_component : {V : Type 0} (f h : ℕ → V) (k j : ℕ) → j < k → map f (range_with_len 0 k) ≡ map h (range_with_len 0 k) → f j ≡ h j
one_component f h k j below same =
    sym (get_or-map-range_with_len f 0 k j j (f j) below (omega arith)) ∙ ap (λ vs. get_or vs j (f j)) same ∙ get_or-map-range_with_len h 0 k j j (f j) below (omega arith)

-- What a test of every number below k tells of what two functions make of them.
pub all_alike : {V : Type 0} (f h : ℕ → V) (k : ℕ) (r : Bool)
    → MatchBool r (AllWithin (λ j. f j ≡ h j) (range_with_len 0 k) 0 (length (range_with_len 0 k))) ((i : ℕ) × (i < length (range_with_len 0 k)) × HoldsAt (λ j. f j ≡ h j → ⊥) (range_with_len 0 k) i)
    → T r ↔ (map f (range_with_len 0 k) ≡ map h (range_with_len 0 k))
all_alike f h k r tested = by r tested
  where
    at : (j : ℕ) → j < k → get_or (range_with_len 0 k) j 0 ≡ j
    at j low = let same : 0 + j ≡ j = omega arith in get_or-range_with_len 0 k j 0 low ∙ same

    by : (b : Bool) → MatchBool b (AllWithin (λ j. f j ≡ h j) (range_with_len 0 k) 0 (length (range_with_len 0 k))) ((i : ℕ) × (i < length (range_with_len 0 k)) × HoldsAt (λ j. f j ≡ h j → ⊥) (range_with_len 0 k) i)
        → T b ↔ (map f (range_with_len 0 k) ≡ map h (range_with_len 0 k))
    by true all = (λ _. each_component f h k (λ j low. subst (λ n. f n ≡ h n) (at j low) (all j 0 (omega arith) (omega (arith, length-range_with_len 0 k)))), λ _. tt)
    by false one =
        let low : one.0 < k = omega (arith, one.1, length-range_with_len 0 k) in
        let apart : f one.0 ≡ h one.0 → ⊥ = subst (λ n. f n ≡ h n → ⊥) (at one.0 low) (one.2 0) in
        (λ none. absurd none, λ same. absurd (apart (one_component f h k one.0 low same)))

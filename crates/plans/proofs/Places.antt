-- Where each slip lies in the tray, over any list of groups and in a plan. Assumes nothing.
use Rattle.std.proofs.Common.{◌≡◌, ℕ, suc, ◌+◌, ◌-◌, ◌*◌, ◌^◌, ◌<◌, ◌≤◌, Bool, true, ◌&&◌, eqb, List, [], ◌∷◌, ◌++◌, length, get_or, take, sum_by, count_by, filter, sym, refl, ap, ◌∙◌, subst, ap₂, add_comm, mul-zero, zero-add, mul-suc, mul-add, mul_left_comm, arith, length-append}
use lib.Count.{ones}
use Rattle.std.specs.List.{range_with_len, flat_map}
use Rattle.std.proofs.lemmas.List.FromFn.{length-map-range_with_len, get_or-map-range_with_len}
use Rattle.std.proofs.lemmas.List.{get_or_at, take_all}
use Rattle.std.proofs.lemmas.List.Sums.{length-filter}
use Rattle.plans.specs.Binomial.{choose}
use Rattle.plans.specs.Groups.{has, groups}
use Rattle.plans.specs.Layout.{Slot, mask_of, joined_by, slots, card, tray, named_by, place}
use Rattle.plans.specs.Places.{Names, lies_at, OneSlipAPlace, CardsAreLong}
use Rattle.plans.specs.Shape.{shape_of, masks_of}
use Rattle.plans.proofs.Counting.{counting_around, counting_front, count_by_kept, around, Stands, stands}
use Rattle.plans.proofs.Joining.{joined_append, length_joined, get_or_joined, falls, sum_by_times, sum_by_same, count_by_take}
use Rattle.plans.proofs.Ranks.{count_with}

module _ (masks : List ℕ) (k : ℕ) where
  length_slots : (b g : ℕ) → length (slots k b g) ≡ k
  length_slots b g = length-map-range_with_len (λ c. record { group = g; bit = b; component = c }) 0 k

  -- the slips of some groups on a card
  length_some : (b : ℕ) (gs : List ℕ) → length (flat_map (slots k b) gs) ≡ k * length gs
  length_some b [] = sym (mul-zero k)
  length_some b (g ∷ gs) =
      length-append (slots k b g) (flat_map (slots k b) gs) ∙ ap₂ ◌+◌ (length_slots b g) (length_some b gs) ∙ add_comm k (k * length gs) ∙ sym (mul-suc k (length gs))

  -- the test that a group names a harbour, by its number
  named : ℕ → ℕ → Bool
  named b g = has (mask_of masks g) b

  named_before : (b g : ℕ) → g ≤ length masks → count_by (named b) (range_with_len 0 g) ≡ named_by (take g masks) b
  unfolding named
  named_before b g le = sym (count_by_take (λ m. has m b) masks g le)

  length_joined_by : (b : ℕ) → length (joined_by masks b) ≡ named_by masks b
  unfolding named
  length_joined_by b =
      length-filter (named b) (range_with_len 0 (length masks)) ∙ named_before b (length masks) (omega arith)
      ∙ ap (λ ms. named_by ms b) (take_all (length masks) masks (omega arith))

  pub length_card : (b : ℕ) → length (card masks k b) ≡ k * named_by masks b
  length_card b = length_some b (joined_by masks b) ∙ ap (λ n. k * n) (length_joined_by b)

  pub length_tray : (n : ℕ) → length (tray masks n k) ≡ k * sum_by (named_by masks) (range_with_len 0 n)
  length_tray n =
      length_joined (card masks k) (range_with_len 0 n) ∙ sum_by_times k (λ b. length (card masks k b)) (named_by masks) (range_with_len 0 n) length_card

  -- the slips of the groups before g on a card
  length_front : (b g : ℕ) → g ≤ length masks → length (flat_map (slots k b) (filter (named b) (range_with_len 0 g))) ≡ k * named_by (take g masks) b
  length_front b g le =
      length_some b (filter (named b) (range_with_len 0 g)) ∙ ap (λ n. k * n) (length-filter (named b) (range_with_len 0 g) ∙ named_before b g le)

  -- what lies before a group's slips on a card reaches to their place
  pub length_before : (b g : ℕ) → g ≤ length masks
      → length (tray masks b k ++ flat_map (slots k b) (filter (λ h. has (mask_of masks h) b) (range_with_len 0 g))) ≡ place masks k g b
  unfolding named
  length_before b g le =
      length-append (tray masks b k) (flat_map (slots k b) (filter (named b) (range_with_len 0 g))) ∙ ap₂ ◌+◌ (length_tray b) (length_front b g le)
      ∙ sym (mul-add k (sum_by (named_by masks) (range_with_len 0 b)) (named_by (take g masks) b))

  -- a slip on its card
  lies_on_card : (s : Slot) (d : Slot) → s.group < length masks → has (mask_of masks s.group) s.bit ≡ true → s.component < k
      → (k * named_by (take s.group masks) s.bit + s.component < length (card masks k s.bit))
      × (get_or (card masks k s.bit) (k * named_by (take s.group masks) s.bit + s.component) d ≡ s)
  unfolding named
  lies_on_card s d low member lt =
      let b : ℕ = s.bit in
      let g : ℕ = s.group in
      let front : List ℕ = filter (named b) (range_with_len 0 g) in
      let back : List ℕ = filter (named b) (range_with_len (g + 1) (length masks - (g + 1))) in
      let parts : joined_by masks b ≡ front ++ (g ∷ back) = around (named b) (length masks) g low member in
      let before : length (flat_map (slots k b) front) ≡ k * named_by (take g masks) b = length_front b g (omega arith) in
      let fits : s.component < length (slots k b g) = omega (arith, length_slots b g) in
      let long : length (card masks k b) ≡ length (flat_map (slots k b) front) + (length (slots k b g) + length (flat_map (slots k b) back)) =
      ap (λ gs. length (flat_map (slots k b) gs)) parts ∙ ap length (joined_append (slots k b) front (g ∷ back))
      ∙ length-append (flat_map (slots k b) front) (slots k b g ++ flat_map (slots k b) back)
      ∙ ap (λ n. length (flat_map (slots k b) front) + n) (length-append (slots k b g) (flat_map (slots k b) back)) in (
        omega (arith, long, before, fits),
        ap₂ (λ gs i. get_or (flat_map (slots k b) gs) (i + s.component) d) parts (sym before)
            ∙ get_or_joined (slots k b) front g back s.component d fits
            ∙ get_or-map-range_with_len (λ c. record { group = g; bit = b; component = c }) 0 k s.component s.component d lt (zero-add s.component),
      )

  -- a slip in the tray
  pub lies : (n : ℕ) (s d : Slot) → Names masks n k s → (lies_at masks k s < length (tray masks n k)) × (get_or (tray masks n k) (lies_at masks k s) d ≡ s)
  lies n s d names =
      let b : ℕ = s.bit in
      let back : List ℕ = range_with_len (b + 1) (n - (b + 1)) in
      let there = lies_on_card s d names.of_group names.of_member names.of_component in
      let r : ℕ = named_by (take s.group masks) b in
      let cards : range_with_len 0 n ≡ range_with_len 0 b ++ (b ∷ back) = counting_around n b names.of_harbour in
      let at : length (flat_map (card masks k) (range_with_len 0 b)) + (k * r + s.component) ≡ lies_at masks k s =
      omega (arith, length_tray b, mul-add k (sum_by (named_by masks) (range_with_len 0 b)) r) in
      let long : length (tray masks n k) ≡ length (tray masks b k) + (length (card masks k b) + length (flat_map (card masks k) back)) =
      ap (λ bs. length (flat_map (card masks k) bs)) cards ∙ ap length (joined_append (card masks k) (range_with_len 0 b) (b ∷ back))
      ∙ length-append (tray masks b k) (card masks k b ++ flat_map (card masks k) back)
      ∙ ap (λ m. length (tray masks b k) + m) (length-append (card masks k b) (flat_map (card masks k) back)) in (
        omega (arith, at, long, there.0),
        ap₂ (λ bs i. get_or (flat_map (card masks k) bs) i d) cards (sym at)
            ∙ get_or_joined (card masks k) (range_with_len 0 b) b back (k * r + s.component) d there.0 ∙ there.1,
      )

  -- which slip lies at a place
  found : (n i : ℕ) → i < length (tray masks n k) → (s : Slot) × Names masks n k s × (lies_at masks k s ≡ i)
  unfolding named
  found n i lt =
      let f = falls (card masks k) (range_with_len 0 n) i lt in
      let b : ℕ = f.item in
      let first = counting_front n f.front b f.back f.parts in
      let h = falls (slots k b) (joined_by masks b) f.rest f.within in
      let g : ℕ = h.item in
      let j : ℕ = length h.front in
      let within : j < length (joined_by masks b) = omega (arith, ap length h.parts ∙ length-append h.front (g ∷ h.back)) in
      let is : get_or (joined_by masks b) j 0 ≡ g = ap (λ gs. get_or gs j 0) h.parts ∙ get_or_at h.front g h.back 0 j refl in
      let s : Stands (named b) 0 (length masks) j g = subst (Stands (named b) 0 (length masks) j) is (stands (named b) 0 (length masks) j within) in
      let none : g - 0 ≡ g = omega arith in
      let rank' : named_by (take g masks) b ≡ j = sym (named_before b g (omega (arith, s.high))) ∙ ap (λ m. count_by (named b) (range_with_len 0 m)) (sym none) ∙ s.before in
      let card_front : length (flat_map (slots k b) h.front) ≡ k * named_by (take g masks) b = length_some b h.front ∙ ap (λ m. k * m) (sym rank') in
      let tray_front : length (flat_map (card masks k) f.front) ≡ k * sum_by (named_by masks) (range_with_len 0 b) = ap (λ bs. length (flat_map (card masks k) bs)) first.1 ∙ length_tray b in (
        record { group = g; bit = b; component = h.rest },
        record {
          of_group = omega (arith, s.high);
          of_harbour = first.0;
          of_member = s.passes;
          of_component = omega (arith, h.within, length_slots b g);
        },
        omega (arith, f.at, h.at, card_front, tray_front, mul-add k (sum_by (named_by masks) (range_with_len 0 b)) (named_by (take g masks) b)),
      )

pub one_slip_a_place : OneSlipAPlace
one_slip_a_place masks n k i d lt =
    let f = found masks k n i lt in
    let is : get_or (tray masks n k) i d ≡ f.0 = ap (λ j. get_or (tray masks n k) j d) (sym f.2) ∙ (lies masks k n f.0 d f.1).1 in (
      subst (Names masks n k) (sym is) f.1,
      ap (lies_at masks k) is ∙ f.2,
      λ s names at. sym (lies masks k n s d names).1 ∙ ap (λ j. get_or (tray masks n k) j d) at,
    )

-- in a plan every harbour is named by C(T - 1, t - 1) groups
pub named_count : (n t b : ℕ) → 1 ≤ t → b < n → named_by (groups n t) b ≡ choose (n - 1) (t - 1)
named_count n t b some lt =
    let more : t ≡ suc (t - 1) = omega arith in
    count_by_kept (λ m. has m b) (λ m. eqb (ones m) t) (range_with_len 0 (2 ^ n))
    ∙ ap (λ s. count_by (λ m. eqb (ones m) s && has m b) (range_with_len 0 (2 ^ n))) more ∙ count_with n b (t - 1) lt

-- so many groups are on the cards before
pub cards_before : (n t b : ℕ) → 1 ≤ t → b ≤ n → sum_by (named_by (groups n t)) (range_with_len 0 b) ≡ b * choose (n - 1) (t - 1)
cards_before n t b some le = sum_by_same (named_by (groups n t)) (choose (n - 1) (t - 1)) 0 b (λ x l u. named_count n t x some (omega arith))

pub cards_are_long : CardsAreLong
cards_are_long p = (
  λ b lt. length_card (masks_of (shape_of p)) p.components b ∙ ap (λ m. p.components * m) (named_count p.harbours p.threshold b p.someone lt),
  length_tray (masks_of (shape_of p)) p.components p.harbours
      ∙ ap (λ m. p.components * m) (cards_before p.harbours p.threshold p.harbours p.someone (omega arith))
      ∙ mul_left_comm p.components p.harbours (choose (p.harbours - 1) (p.threshold - 1)),
)

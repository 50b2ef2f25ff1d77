-- Who knows a tray but for one card knows that card from what its groups restore. Assumes nothing.
use Rattle.std.proofs.Common.{◌≡◌, ℕ, ◌+◌, ◌-◌, ◌<◌, ◌≤◌, Bool, true, ◌⊎◌, List, ◌∷◌, ◌++◌, map, length, get_or, take, drop, sum_by, filter, sym, ap, ◌∙◌, subst, inl, inr, ⊎_elim, mul-add, arith, length-append}
use Rattle.std.specs.List.{range_with_len, flat_map}
use Rattle.std.proofs.lemmas.List.{ext_get_or, get_or-take, get_or-drop}
use Rattle.std.proofs.lemmas.Bool.{cases_eq, cases_order}
use Rattle.kinds.specs.Group.{Group}
use Rattle.plans.specs.Groups.{has, members, position, sign}
use Rattle.plans.specs.Layout.{Slot, mask_of, card, tray, named_by, place}
use Rattle.plans.specs.Places.{Names, lies_at}
use Rattle.plans.proofs.Counting.{counting_append, around}
use Rattle.plans.proofs.Joining.{joined_append}
use Rattle.plans.proofs.Places.{length_tray, lies, one_slip_a_place}
use Rattle.sharing.specs.Dealing.{Scheme, card_start, total, under, restored}
use Rattle.sharing.proofs.Alike.{map_kept_alike}
use Rattle.sharing.proofs.Totals.{total_but_one, under_one}

module _ (masks : List ℕ) (k : ℕ) where
  -- more harbours have no fewer slips
  pub tray_grows : (a b : ℕ) → a ≤ b → length (tray masks a k) ≤ length (tray masks b k)
  tray_grows a b le =
      let sides : b ≡ a + (b - a) = omega arith in
      let more : List Slot = flat_map (card masks k) (range_with_len (0 + a) (b - a)) in
      let parts : length (tray masks b k) ≡ length (tray masks a k) + length more =
      ap (λ n. length (tray masks n k)) sides ∙ ap (λ bs. length (flat_map (card masks k) bs)) (counting_append 0 a (b - a))
      ∙ ap length (joined_append (card masks k) (range_with_len 0 a) (range_with_len (0 + a) (b - a))) ∙ length-append (tray masks a k) more in
      omega (arith, parts)

  -- a slip lies on the card of its own harbour
  pub own_card : (n : ℕ) (x : Slot) → Names masks n k x → (length (tray masks x.bit k) ≤ lies_at masks k x) × (lies_at masks k x < length (tray masks (x.bit + 1) k))
  own_card n x names =
      let own : Names masks (x.bit + 1) k x = record {
        of_group = names.of_group;
        of_harbour = omega arith;
        of_member = names.of_member;
        of_component = names.of_component;
      } in (
        omega (arith, length_tray masks k x.bit, mul-add k (sum_by (named_by masks) (range_with_len 0 x.bit)) (named_by (take x.group masks) x.bit)),
        (lies masks k (x.bit + 1) x x own).0,
      )

  -- a slip before the card of another harbour, on it, or behind it
  pub which_card : (n b : ℕ) (x : Slot) → Names masks n k x
      → (x.bit ≡ b) ⊎ ((lies_at masks k x < length (tray masks b k)) ⊎ (length (tray masks (b + 1) k) ≤ lies_at masks k x))
  which_card n b x names = go (own_card n x names) (cases_order x.bit b)
    where
      go : (length (tray masks x.bit k) ≤ lies_at masks k x) × (lies_at masks k x < length (tray masks (x.bit + 1) k))
          → (x.bit ≡ b) ⊎ ((x.bit < b) ⊎ (b < x.bit))
          → (x.bit ≡ b) ⊎ ((lies_at masks k x < length (tray masks b k)) ⊎ (length (tray masks (b + 1) k) ≤ lies_at masks k x))
      go own (inl e) = inl e
      go own (inr (inl lt)) = inr (inl (omega (arith, own.1, tray_grows (x.bit + 1) b (omega arith))))
      go own (inr (inr lt)) = inr (inr (omega (arith, own.0, tray_grows (b + 1) x.bit (omega arith))))

-- What a member adds to what its group restores.
abbrev pub adds : (G : Group) → Scheme → List G.Value → ℕ → ℕ → ℕ → G.Value
adds G s xs g c b = under G (sign (position (mask_of s.masks g) b)) (get_or xs (place s.masks s.components g b + c) G.nil)

module _ (G : Group) (s : Scheme) (b : ℕ) (xs ys : List G.Value)
    (before : take (card_start s b) ys ≡ take (card_start s b) xs)
    (behind : drop (card_start s (b + 1)) ys ≡ drop (card_start s (b + 1)) xs) where
  same_before : (i : ℕ) (d : G.Value) → i < card_start s b → get_or ys i d ≡ get_or xs i d
  same_before i d lt =
      sym (get_or-take (card_start s b) ys i d lt) ∙ ap (λ zs. get_or zs i d) before ∙ get_or-take (card_start s b) xs i d lt

  same_behind : (i : ℕ) (d : G.Value) → card_start s (b + 1) ≤ i → get_or ys i d ≡ get_or xs i d
  same_behind i d le =
      let from : ℕ = card_start s (b + 1) in
      let there : from + (i - from) ≡ i = omega arith in
      ap (λ j. get_or ys j d) (sym there) ∙ sym (get_or-drop from ys (i - from) d) ∙ ap (λ zs. get_or zs (i - from) d) behind
      ∙ get_or-drop from xs (i - from) d ∙ ap (λ j. get_or xs j d) there

  -- a slip of another harbour
  same_other : (x : Slot) → Names s.masks s.harbours s.components x → (x.bit ≡ b → ⊥)
      → get_or ys (lies_at s.masks s.components x) G.nil ≡ get_or xs (lies_at s.masks s.components x) G.nil
  same_other x names other =
      ⊎_elim (λ e. absurd (other e)) (⊎_elim (same_before (lies_at s.masks s.components x) G.nil) (same_behind (lies_at s.masks s.components x) G.nil))
      (which_card s.masks s.components s.harbours b x names)

  -- what another member adds
  adds_other : (g c h : ℕ) → g < length s.masks → c < s.components → h < s.harbours → has (mask_of s.masks g) h ≡ true → (h ≡ b → ⊥)
      → adds G s ys g c h ≡ adds G s xs g c h
  adds_other g c h low part lt member other =
      ap (under G (sign (position (mask_of s.masks g) h)))
      (same_other (record { group = g; bit = h; component = c }) (record { of_group = low; of_harbour = lt; of_member = member; of_component = part }) other)

  -- what the harbour itself adds, where the group restores the same
  adds_own : (g c : ℕ) → g < length s.masks → c < s.components → b < s.harbours → has (mask_of s.masks g) b ≡ true
      → restored G s ys g c ≡ restored G s xs g c → adds G s ys g c b ≡ adds G s xs g c b
  adds_own g c low part lt member same =
      let p : ℕ → Bool = has (mask_of s.masks g) in
      let rest : ℕ = s.harbours - (b + 1) in
      let front : List ℕ = filter p (range_with_len 0 b) in
      let back : List ℕ = filter p (range_with_len (b + 1) rest) in
      let parts : members s.harbours (mask_of s.masks g) ≡ front ++ (b ∷ back) = around p s.harbours b lt member in
      let fronts : map (adds G s ys g c) front ≡ map (adds G s xs g c) front =
      map_kept_alike p (adds G s ys g c) (adds G s xs g c) 0 b (λ h l u passes. adds_other g c h low part (omega arith) passes (λ e. omega arith)) in
      let backs : map (adds G s ys g c) back ≡ map (adds G s xs g c) back =
      map_kept_alike p (adds G s ys g c) (adds G s xs g c) (b + 1) rest (λ h l u passes. adds_other g c h low part (omega arith) passes (λ e. omega arith)) in
      total_but_one G (adds G s ys g c) (adds G s xs g c) front b back fronts backs
      (ap (λ hs. total G (map (adds G s ys g c) hs)) (sym parts) ∙ same ∙ ap (λ hs. total G (map (adds G s xs g c) hs)) parts)

  -- a slip of the harbour itself
  same_own : (x : Slot) → Names s.masks s.harbours s.components x → x.bit ≡ b
      → ((g c : ℕ) → g < length s.masks → has (mask_of s.masks g) b ≡ true → c < s.components → restored G s ys g c ≡ restored G s xs g c)
      → get_or ys (lies_at s.masks s.components x) G.nil ≡ get_or xs (lies_at s.masks s.components x) G.nil
  same_own x names e same =
      let g : ℕ = x.group in
      let c : ℕ = x.component in
      let member : has (mask_of s.masks g) b ≡ true = ap (has (mask_of s.masks g)) (sym e) ∙ names.of_member in
      let lt : b < s.harbours = subst (λ h. h < s.harbours) e names.of_harbour in
      let own : adds G s ys g c b ≡ adds G s xs g c b = adds_own g c names.of_group names.of_component lt member (same g c names.of_group member names.of_component) in
      under_one G (sign (position (mask_of s.masks g) x.bit)) (get_or ys (lies_at s.masks s.components x) G.nil) (get_or xs (lies_at s.masks s.components x) G.nil)
      (subst (λ h. adds G s ys g c h ≡ adds G s xs g c h) (sym e) own)

-- A tray that differs from another on at most one card, and whose groups with that card restore the same, is the other.
pub reissue_same : (G : Group) (s : Scheme) (b : ℕ) (xs ys : List G.Value)
    → b < s.harbours
    → length xs ≡ length (tray s.masks s.harbours s.components) → length ys ≡ length xs
    → take (card_start s b) ys ≡ take (card_start s b) xs
    → drop (card_start s (b + 1)) ys ≡ drop (card_start s (b + 1)) xs
    → ((g c : ℕ) → g < length s.masks → has (mask_of s.masks g) b ≡ true → c < s.components → restored G s ys g c ≡ restored G s xs g c)
    → ys ≡ xs
reissue_same G s b xs ys lt long alike before behind same =
    ext_get_or G.nil ys xs alike (λ i u. at i (omega arith))
  where
    none : Slot
    none = record { group = 0; bit = 0; component = 0 }

    here : (x : Slot) → Names s.masks s.harbours s.components x → (x.bit ≡ b) ⊎ (x.bit ≡ b → ⊥)
        → get_or ys (lies_at s.masks s.components x) G.nil ≡ get_or xs (lies_at s.masks s.components x) G.nil
    here x names (inl e) = same_own G s b xs ys before behind x names e same
    here x names (inr ne) = same_other G s b xs ys before behind x names ne

    at : (i : ℕ) → i < length (tray s.masks s.harbours s.components) → get_or ys i G.nil ≡ get_or xs i G.nil
    at i u =
        let x : Slot = get_or (tray s.masks s.harbours s.components) i none in
        let there = one_slip_a_place s.masks s.harbours s.components i none u in
        subst (λ j. get_or ys j G.nil ≡ get_or xs j G.nil) there.1 (here x there.0 (cases_eq x.bit b))

-- Every group of a dealing restores the key. Assumes nothing.
use Rattle.std.proofs.Common.{◌≡◌, ℕ, zero, suc, ◌+◌, ◌-◌, ◌^◌, ◌<◌, ◌≤◌, Bool, true, false, cond, ◌&&◌, ◌||◌, eqb, List, [], ◌∷◌, ◌++◌, map, length, get_or, pos, negsuc, All, sym, refl, ap, ◌∙◌, ap₂, add_comm, zero-add, add-one, arith}
use lib.Count.{ones}
use Rattle.std.specs.List.{range_with_len, flat_map}
use Rattle.std.proofs.lemmas.List.FromFn.{length-map-range_with_len, fill_by_all}
use Rattle.std.proofs.lemmas.List.Elements.{All-get_or, All-head, All-tail, All-weaker, filter_passes}
use Rattle.std.proofs.lemmas.List.{append-nil, get_or-map, length_push, map_push}
use Rattle.std.proofs.lemmas.Bool.{eq-eqb, ne_eqb, eqb-true, and_parts}
use Rattle.kinds.specs.Group.{Group}
use Rattle.kinds.proofs.Groups.{left_unit, minus_nil}
use Rattle.plans.specs.Groups.{has, members, position, sign}
use Rattle.plans.specs.Layout.{Slot, mask_of, tray, place}
use Rattle.plans.proofs.Counting.{kept_more, counting_append}
use Rattle.plans.proofs.Halves.{members_count}
use Rattle.plans.proofs.Places.{lies}
use Rattle.plans.proofs.Ranks.{members_low}
use Rattle.matrix.specs.Matrix.{Column, key, block, columns, marked_in, marked, size_of, sum_at, slip, row_of}
use Rattle.matrix.proofs.Every.{every_column}
use Rattle.matrix.proofs.Joined.{all_joined, all_map_counting}
use Rattle.sharing.specs.Dealing.{Scheme, dealing, total, under, restored, restores}
use Rattle.sharing.proofs.Alike.{all_counting, all_of, map_all, map_map, map_same}
use Rattle.sharing.proofs.Linear.{sum_at_append}
use Rattle.sharing.proofs.Totals.{under_plus, under_nil, total_plus, total_nil, total_one}

module _ (G : Group) where
  -- sums over rows and over columns change places
  exchange : (at : List ℕ) (test : ℕ → Column → Bool) (only : Column → Bool) (js : List Column) (xs : List G.Value)
      → All (λ j. (x : G.Value) → total G (map (λ i. under G (sign i) (cond (test i j) x G.nil)) at) ≡ cond (only j) x G.nil) js
      → total G (map (λ i. under G (sign i) (sum_at G (test i) js xs)) at) ≡ sum_at G only js xs
  exchange at test only [] xs a = total_nil G (λ i. under G (sign i) G.nil) at (all_of (λ i. under G (sign i) G.nil ≡ G.nil) (λ i. under_nil G (sign i)) at)
  exchange at test only (j ∷ js) [] a = total_nil G (λ i. under G (sign i) G.nil) at (all_of (λ i. under G (sign i) G.nil ≡ G.nil) (λ i. under_nil G (sign i)) at)
  exchange at test only (j ∷ js) (x ∷ xs) a =
      let sums : Column → Type 0 = λ l. (y : G.Value) → total G (map (λ i. under G (sign i) (cond (test i l) y G.nil)) at) ≡ cond (only l) y G.nil in
      ap (total G)
      (map_same (λ i. under G (sign i) (G.plus (cond (test i j) x G.nil) (sum_at G (test i) js xs)))
      (λ i. G.plus (under G (sign i) (cond (test i j) x G.nil)) (under G (sign i) (sum_at G (test i) js xs))) at
      (λ i. under_plus G (sign i) (cond (test i j) x G.nil) (sum_at G (test i) js xs)))
      ∙ total_plus G (λ i. under G (sign i) (cond (test i j) x G.nil)) (λ i. under G (sign i) (sum_at G (test i) js xs)) at
      ∙ ap₂ G.plus (All-head sums j js a x) (exchange at test only js xs (All-tail sums j js a))

  -- the columns of the key's component c
  pub key_test : ℕ → Column → Bool
  key_test c (key j) = eqb c j
  key_test c (block g b j) = false

  late_sign : (i : ℕ) → 2 ≤ i → sign i ≡ negsuc 0
  late_sign i le = ap (λ t. cond t (pos 1) (negsuc 0)) (ne_eqb i 1 (λ e. omega arith))

  -- from position 2 on a row has no entry at the key
  late_key : (c j : ℕ) (x : G.Value) (i : ℕ) → 2 ≤ i → under G (sign i) (cond (eqb i 1 && eqb c j) x G.nil) ≡ G.nil
  late_key c j x i le =
      ap (λ t. under G (sign i) (cond (t && eqb c j) x G.nil)) (ne_eqb i 1 (λ e. omega arith)) ∙ under_nil G (sign i)

  -- and at a block of its group one that takes back what position 1 has
  late_block : (size b : ℕ) (x : G.Value) (i : ℕ) → 2 ≤ i
      → under G (sign i) (cond ((eqb i 1 || eqb (b + i) size) && true) x G.nil) ≡ cond (eqb (b + i) size) (G.minus x) G.nil
  late_block size b x i le =
      ap₂ (λ z t. under G z (cond ((t || eqb (b + i) size) && true) x G.nil)) (late_sign i le) (ne_eqb i 1 (λ e. omega arith)) ∙ taken (eqb (b + i) size)
    where
      taken : (t : Bool) → G.minus (cond (t && true) x G.nil) ≡ cond t (G.minus x) G.nil
      taken true = refl
      taken false = minus_nil G

  no_mark : (t : Bool) → (t && false) ≡ false
  no_mark true = refl
  no_mark false = refl

  -- What a column adds to what a group restores: itself, where it is the key's own, and otherwise nothing.
  column_sum : (size g c : ℕ) (j : Column) (x : G.Value) → 1 ≤ size → ((b : ℕ) (c' : ℕ) → j ≡ block g b c' → b < size - 1)
      → total G (map (λ i. under G (sign i) (cond (marked_in size (record { group = g; position = i; component = c }) j) x G.nil)) (range_with_len 1 size)) ≡ cond (key_test c j) x G.nil
  unfolding key_test
  column_sum zero g c j x some low = absurd (omega arith)
  column_sum (suc m) g c (key j) x some low =
      ap (λ y. G.plus (cond (eqb c j) x G.nil) y)
      (total_nil G (λ i. under G (sign i) (cond (eqb i 1 && eqb c j) x G.nil)) (range_with_len 2 m)
      (all_counting (λ i. under G (sign i) (cond (eqb i 1 && eqb c j) x G.nil) ≡ G.nil) 2 m (λ i l u. late_key c j x i l)))
      ∙ G.unit (cond (eqb c j) x G.nil)
  column_sum (suc m) g c (block g' b c') x some low = go (eqb g g' && eqb c c') refl
    where
      go : (t : Bool) → (eqb g g' && eqb c c') ≡ t
          → total G (map (λ i. under G (sign i) (cond ((eqb i 1 || eqb (b + i) (suc m)) && (eqb g g' && eqb c c')) x G.nil)) (range_with_len 1 (suc m))) ≡ G.nil
      go true e =
          let same = and_parts (eqb g g') (eqb c c') e in
          let within : b < suc m - 1 = low b c' (ap (λ h. block h b c') (sym (eqb-true g g' same.0))) in
          ap₂ G.plus (ap (λ t. cond t x G.nil) e)
          (ap (total G)
          (map_all (λ i. under G (sign i) (cond ((eqb i 1 || eqb (b + i) (suc m)) && (eqb g g' && eqb c c')) x G.nil)) (λ i. cond (eqb (b + i) (suc m)) (G.minus x) G.nil) (range_with_len 2 m)
          (all_counting (λ i. under G (sign i) (cond ((eqb i 1 || eqb (b + i) (suc m)) && (eqb g g' && eqb c c')) x G.nil) ≡ cond (eqb (b + i) (suc m)) (G.minus x) G.nil) 2 m
          (λ i l u. ap (λ t. under G (sign i) (cond ((eqb i 1 || eqb (b + i) (suc m)) && t) x G.nil)) e ∙ late_block (suc m) b x i l)))
          ∙ total_one G (λ i. cond (eqb (b + i) (suc m)) (G.minus x) G.nil) (G.minus x) (suc m - b) 2 m (omega arith) (omega arith)
          (ap (λ t. cond t (G.minus x) G.nil) (eq-eqb (b + (suc m - b)) (suc m) (omega arith)))
          (λ i ne. ap (λ t. cond t (G.minus x) G.nil) (ne_eqb (b + i) (suc m) (λ e'. ne (omega arith)))))
          ∙ G.undone x
      go false e =
          total_nil G (λ i. under G (sign i) (cond ((eqb i 1 || eqb (b + i) (suc m)) && (eqb g g' && eqb c c')) x G.nil)) (range_with_len 1 (suc m))
          (all_of (λ i. under G (sign i) (cond ((eqb i 1 || eqb (b + i) (suc m)) && (eqb g g' && eqb c c')) x G.nil) ≡ G.nil)
          (λ i. ap (λ t. under G (sign i) (cond ((eqb i 1 || eqb (b + i) (suc m)) && t) x G.nil)) e
          ∙ ap (λ t. under G (sign i) (cond t x G.nil)) (no_mark (eqb i 1 || eqb (b + i) (suc m))) ∙ under_nil G (sign i)) (range_with_len 1 (suc m)))

  sum_at_none : (test : Column → Bool) (js : List Column) (xs : List G.Value) → All (λ j. test j ≡ false) js → sum_at G test js xs ≡ G.nil
  sum_at_none test [] xs a = refl
  sum_at_none test (j ∷ js) [] a = refl
  sum_at_none test (j ∷ js) (x ∷ xs) a =
      ap₂ (λ t y. G.plus (cond t x G.nil) y) (All-head (λ k. test k ≡ false) j js a) (sum_at_none test js xs (All-tail (λ k. test k ≡ false) j js a)) ∙ G.unit G.nil

  -- of the key's columns only one counts
  key_none : (c a n : ℕ) (xs : List G.Value) → c < a → sum_at G (key_test c) (map key (range_with_len a n)) xs ≡ G.nil
  unfolding key_test
  key_none c a zero xs lt = refl
  key_none c a (suc n) [] lt = refl
  key_none c a (suc n) (x ∷ xs) lt =
      ap₂ (λ t y. G.plus (cond t x G.nil) y) (ne_eqb c a (λ e. omega arith)) (key_none c (a + 1) n xs (omega arith)) ∙ G.unit G.nil

  key_one : (c a n i : ℕ) (xs : List G.Value) → length xs ≡ n → a + i ≡ c → i < n → sum_at G (key_test c) (map key (range_with_len a n)) xs ≡ get_or xs i G.nil
  unfolding key_test
  key_one c a zero i xs long at lt = absurd (omega arith)
  key_one c a (suc n) i [] long at lt = absurd (omega arith)
  key_one c a (suc n) zero (x ∷ xs) long at lt =
      ap₂ (λ t y. G.plus (cond t x G.nil) y) (eq-eqb c a (omega arith)) (key_none c (a + 1) n xs (omega arith)) ∙ G.unit x
  key_one c a (suc n) (suc i) (x ∷ xs) long at lt =
      ap₂ (λ t y. G.plus (cond t x G.nil) y) (ne_eqb c a (λ e. omega arith)) (key_one c (a + 1) n i xs (omega arith) (omega arith) (omega arith))
      ∙ left_unit G (get_or xs i G.nil)

  key_alone : (masks : List ℕ) (k c : ℕ) (key' random : List G.Value) → length key' ≡ k → c < k
      → sum_at G (key_test c) (columns masks k) (key' ++ random) ≡ get_or key' c G.nil
  unfolding key_test
  key_alone masks k c key' random long lt =
      let blocks : List Column = flat_map (λ g. flat_map (λ b. map (block g b) (range_with_len 0 k)) (range_with_len 0 (size_of masks g - 1))) (range_with_len 0 (length masks)) in
      sum_at_append G (key_test c) (map key (range_with_len 0 k)) blocks key' random (long ∙ sym (length-map-range_with_len key 0 k))
      ∙ ap₂ G.plus (key_one c 0 k c key' long (zero-add c) lt)
      (sum_at_none (key_test c) blocks random
      (all_joined (λ j. key_test c j ≡ false) (λ g. flat_map (λ b. map (block g b) (range_with_len 0 k)) (range_with_len 0 (size_of masks g - 1))) 0 (length masks)
      (λ g l u. all_joined (λ j. key_test c j ≡ false) (λ b. map (block g b) (range_with_len 0 k)) 0 (size_of masks g - 1)
      (λ b l' u'. all_map_counting (λ j. key_test c j ≡ false) (block g b) 0 k (λ x l'' u''. refl)))))
      ∙ G.unit (get_or key' c G.nil)

  -- a group's rows of one component, under their signs
  pub rows_restore : (masks : List ℕ) (k g c : ℕ) (key' random : List G.Value) → 1 ≤ size_of masks g → length key' ≡ k → c < k
      → total G (map (λ i. under G (sign i) (slip G masks k (key' ++ random) (record { group = g; position = i; component = c }))) (range_with_len 1 (size_of masks g)))
      ≡ get_or key' c G.nil
  rows_restore masks k g c key' random some long lt =
      exchange (range_with_len 1 (size_of masks g)) (λ i. marked masks (record { group = g; position = i; component = c })) (key_test c) (columns masks k) (key' ++ random)
      (every_column (λ j. (x : G.Value) → total G (map (λ i. under G (sign i) (cond (marked masks (record { group = g; position = i; component = c }) j) x G.nil)) (range_with_len 1 (size_of masks g))) ≡ cond (key_test c j) x G.nil) masks k
      (λ j x. column_sum (size_of masks g) g c (key j) x some (λ b c' e. absurd (apart j b c' e)))
      (λ h b j in_masks within x. column_sum (size_of masks g) g c (block h b j) x some (λ b' c' e. inside h b j b' c' e within)))
      ∙ key_alone masks k c key' random long lt
    where
      apart : (j b c' : ℕ) → key j ≡ block g b c' → ⊥
      apart j b c' e = let z : ◌≡◌ {A = ℕ} 0 1 = cc in omega arith

      inside : (h b j b' c' : ℕ) → block h b j ≡ block g b' c' → b < size_of masks h - 1 → b' < size_of masks g - 1
      inside h b j b' c' e within =
          let same : h ≡ g = cc in
          let here : b ≡ b' = cc in
          omega (arith, within, ap (size_of masks) same)

-- the positions of a group's members are 1 to its size
pub positions : (n mask : ℕ) → map (position mask) (members n mask) ≡ range_with_len 1 (length (members n mask))
positions zero mask = refl
positions (suc n) mask = ap (λ m. map (position mask) (members m mask)) (sym (add-one n)) ∙ go (positions n mask) (has mask n) refl ∙ ap (λ m. range_with_len 1 (length (members m mask))) (add-one n)
  where
    more : (t : Bool) → has mask n ≡ t → members (n + 1) mask ≡ members n mask ++ cond t (n ∷ []) []
    more t e = kept_more (has mask) n ∙ ap (λ b. members n mask ++ cond b (n ∷ []) []) e

    go : map (position mask) (members n mask) ≡ range_with_len 1 (length (members n mask)) → (t : Bool) → has mask n ≡ t
        → map (position mask) (members (n + 1) mask) ≡ range_with_len 1 (length (members (n + 1) mask))
    go rest true e =
        ap (map (position mask)) (more true e) ∙ map_push (position mask) (members n mask) n
        ∙ ap₂ (λ xs y. xs ++ (y ∷ [])) rest (add_comm (length (members n mask)) 1)
        ∙ sym (counting_append 1 (length (members n mask)) 1)
        ∙ ap (range_with_len 1) (sym (ap length (more true e) ∙ length_push (members n mask) n))
    go rest false e =
        ap (map (position mask)) (more false e ∙ append-nil (members n mask)) ∙ rest
        ∙ ap (λ xs. range_with_len 1 (length xs)) (sym (more false e ∙ append-nil (members n mask)))

-- what a member of a list of groups is
pub member_facts : (n mask : ℕ) → All (λ b. (b < n) × (has mask b ≡ true)) (members n mask)
member_facts n mask = both (members n mask) (members_low n mask) (filter_passes (has mask) (range_with_len 0 n))
  where
    both : (xs : List ℕ) → All (λ b. b < n) xs → All (λ b. has mask b ≡ true) xs → All (λ b. (b < n) × (has mask b ≡ true)) xs
    both xs p q k d lt = (p k d lt, q k d lt)

module _ (G : Group) (s : Scheme) where
  -- a slip of a dealing, at its place in the tray
  pub slip_at_place : (key' random : List G.Value) (g b c : ℕ) → g < length s.masks → b < s.harbours → has (mask_of s.masks g) b ≡ true → c < s.components
      → get_or (dealing G s key' random) (place s.masks s.components g b + c) G.nil
      ≡ slip G s.masks s.components (key' ++ random) (record { group = g; position = position (mask_of s.masks g) b; component = c })
  slip_at_place key' random g b c in_masks in_harbours member in_key =
      let x : Slot = record { group = g; bit = b; component = c } in
      let there = lies s.masks s.components s.harbours x x (record { of_group = in_masks; of_harbour = in_harbours; of_member = member; of_component = in_key }) in
      get_or-map (λ y. slip G s.masks s.components (key' ++ random) (row_of s.masks y)) (tray s.masks s.harbours s.components)
      (place s.masks s.components g b + c) x G.nil there.0
      ∙ ap (λ y. slip G s.masks s.components (key' ++ random) (row_of s.masks y)) there.1

  -- every group of a dealing restores each component of the key
  pub dealing_restores : (key' random : List G.Value) (g c : ℕ) → All (λ m. (1 ≤ ones m) × (m < 2 ^ s.harbours)) s.masks
      → length key' ≡ s.components → g < length s.masks → c < s.components
      → restored G s (dealing G s key' random) g c ≡ get_or key' c G.nil
  dealing_restores key' random g c sound long in_masks in_key =
      let mask : ℕ = mask_of s.masks g in
      let of : (1 ≤ ones mask) × (mask < 2 ^ s.harbours) = All-get_or (λ m. (1 ≤ ones m) × (m < 2 ^ s.harbours)) s.masks g 0 in_masks sound in
      let row : ℕ → G.Value = λ i. under G (sign i) (slip G s.masks s.components (key' ++ random) (record { group = g; position = i; component = c })) in
      ap (total G)
      (map_all (λ b. under G (sign (position mask b)) (get_or (dealing G s key' random) (place s.masks s.components g b + c) G.nil)) (λ b. row (position mask b)) (members s.harbours mask)
      (All-weaker (λ b. (b < s.harbours) × (has mask b ≡ true)) (λ b. under G (sign (position mask b)) (get_or (dealing G s key' random) (place s.masks s.components g b + c) G.nil) ≡ row (position mask b))
      (λ b h. ap (under G (sign (position mask b))) (slip_at_place key' random g b c in_masks h.0 h.1 in_key)) (members s.harbours mask) (member_facts s.harbours mask))
      ∙ sym (map_map row (position mask) (members s.harbours mask))
      ∙ ap (map row) (positions s.harbours mask ∙ ap (range_with_len 1) (members_count s.harbours mask of.1)))
      ∙ rows_restore G s.masks s.components g c key' random of.0 long in_key

  -- so it restores the key
  pub dealing_restores_key : (key' random : List G.Value) (g : ℕ) → All (λ m. (1 ≤ ones m) × (m < 2 ^ s.harbours)) s.masks
      → length key' ≡ s.components → g < length s.masks → restores G s (dealing G s key' random) g ≡ key'
  dealing_restores_key key' random g sound long in_masks =
      map_all (restored G s (dealing G s key' random) g) (λ c. get_or key' c G.nil) (range_with_len 0 s.components)
      (all_counting (λ c. restored G s (dealing G s key' random) g c ≡ get_or key' c G.nil) 0 s.components (λ c l u. dealing_restores key' random g c sound long in_masks (omega arith)))
      ∙ sym (fill_by_all (λ c. get_or key' c G.nil) key' s.components G.nil long (λ c lt. refl))

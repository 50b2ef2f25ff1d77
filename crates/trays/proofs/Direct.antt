-- A slip without the matrix: the key with every block of its group, or one block alone. Assumes nothing.
use Rattle.std.proofs.Common.{◌≡◌, ℕ, zero, suc, ◌+◌, ◌-◌, ◌*◌, ◌/◌, ◌%◌, ◌<◌, ◌≤◌, Bool, true, false, cond, ◌&&◌, ◌||◌, eqb, List, ◌++◌, map, length, get_or, drop, sym, refl, ap, ◌∙◌, ap₂, mul_assoc, mul_comm, arith}
use Rattle.std.specs.List.{range_with_len}
use Rattle.std.proofs.lemmas.Nat.{div_below, mod_below, div-add-mod'}
use Rattle.std.proofs.lemmas.List.FromFn.{fill_by_all, length-map-range_with_len}
use Rattle.std.proofs.lemmas.List.{ext_get_or, get_or-drop, get_or-map, length-map, map-id}
use Rattle.std.proofs.lemmas.Bool.{eq-eqb, ne_eqb}
use Rattle.kinds.specs.Group.{Group}
use Rattle.kinds.proofs.Groups.{left_unit}
use Rattle.plans.specs.Shape.{group_count, masks_of, shape_of}
use Rattle.plans.specs.declared.plan.Plan.{Plan}
use Rattle.matrix.specs.Matrix.{Column, Row, block, columns, key, marked, marked_in, size_of, slip, sum_at}
use Rattle.matrix.proofs.Numbered.{many, numbered, sized}
use Rattle.sharing.specs.Calls.{random_count}
use Rattle.sharing.specs.Dealing.{total}
use Rattle.sharing.specs.Threshold.{scheme_of}
use Rattle.sharing.proofs.Alike.{map_same}
use Rattle.sharing.proofs.Covering.{blocks, blocks_total, columns_blocks, sum_at_map}
use Rattle.sharing.proofs.Linear.{sum_at_append}
use Rattle.sharing.proofs.Totals.{total_none, total_one}
use Rattle.trays.proofs.Lengths.{random_long}

module _ (G : Group) where
  -- The random value of a column.
  abbrev pub by_label : ℕ → ℕ → List G.Value → Column → G.Value
  by_label k u xs (key c) = G.nil
  by_label k u xs (block g b c) = get_or xs (g * k * u + b * k + c) G.nil

  module _ (p : Plan) where
    random_is : (xs : List G.Value) → length xs ≡ random_count (scheme_of p)
        → map (by_label p.components (p.threshold - 1) xs) (blocks (masks_of (shape_of p)) p.components) ≡ xs
    random_is xs long =
        let k : ℕ = p.components in
        let u : ℕ = p.threshold - 1 in
        let f : Column → G.Value = by_label k u xs in
        let labels : List Column = drop k (columns (masks_of (shape_of p)) k) in
        let same : length (map f labels) ≡ length xs = length-map labels f ∙ sym long in
        let each : (i : ℕ) → i < length (map f labels) → get_or (map f labels) i G.nil ≡ get_or xs i G.nil =
        λ i below. at k u xs i (omega (arith, same, long, random_long p)) (omega (arith, length-map labels f)) in
        ap (map f) (sym (columns_blocks (masks_of (shape_of p)) k)) ∙ ext_get_or G.nil (map f labels) xs same each
      where
        at : (k u : ℕ) (ys : List G.Value) (i : ℕ) → i < group_count (shape_of p) * p.components * (p.threshold - 1)
            → i < length (drop p.components (columns (masks_of (shape_of p)) p.components))
            → get_or (map (by_label p.components (p.threshold - 1) ys) (drop p.components (columns (masks_of (shape_of p)) p.components))) i G.nil ≡ get_or ys i G.nil
        at k u ys i below within =
            let n : ℕ = group_count (shape_of p) in
            let l : ℕ = p.components in
            let v : ℕ = p.threshold - 1 in
            let w : ℕ = l * v in
            let some : 0 < w = positive n l v i below in
            let g : ℕ = i / w in
            let r : ℕ = i % w in
            let b : ℕ = r / l in
            let c : ℕ = r % l in
            let whole : g * w + r ≡ i = div-add-mod' i w in
            let part : b * l + c ≡ r = div-add-mod' r l in
            let in_group : r < w = mod_below i w some in
            let lg : g < n = div_below i w n some (omega (arith, mul_assoc n l v)) in
            let lb : b < v = div_below r l v p.keyed (omega (arith, mul_comm l v)) in
            let lc : c < l = mod_below r l p.keyed in
            let place : g * l * v + b * l + c ≡ i = omega (arith, mul_assoc g l v) in
            let labels : List Column = drop l (columns (masks_of (shape_of p)) l) in
            let at_column : get_or labels i (key 0) ≡ block g b c =
            get_or-drop l (columns (masks_of (shape_of p)) l) i (key 0)
            ∙ ap (λ j. get_or (columns (masks_of (shape_of p)) l) j (key 0)) (shifted l g v b c i place)
            ∙ (numbered p).4 g b c (key 0) lg lb lc in
            get_or-map (by_label l v ys) labels i (key 0) G.nil within ∙ ap (by_label l v ys) at_column ∙ ap (λ j. get_or ys j G.nil) place
          where
            positive : (n l v j : ℕ) → j < n * l * v → 0 < l * v
            positive n l zero j lt = absurd (omega (arith, mul_assoc n l zero, mul_comm (n * l) zero))
            positive n zero (suc v) j lt = absurd (omega (arith, mul_comm n zero, mul_assoc n zero (suc v)))
            positive n (suc l) (suc v) j lt = omega (arith, mul_comm (suc l) (suc v))

            shifted : (l g v b c j : ℕ) → g * l * v + b * l + c ≡ j → l + j ≡ l + g * l * v + b * l + c
            shifted l g v b c j e = omega arith

  as_counted : (xs : List G.Value) (k : ℕ) → length xs ≡ k → map (λ c. get_or xs c G.nil) (range_with_len 0 k) ≡ xs
  as_counted xs k long = sym (fill_by_all (λ c. get_or xs c G.nil) xs k G.nil long (λ c low. refl))

  -- the key's columns
  key_half : (size g i c k : ℕ) (xs : List G.Value) → length xs ≡ k → c < k
      → sum_at G (marked_in size (record { group = g; position = i; component = c })) (map key (range_with_len 0 k)) xs ≡ cond (eqb i 1) (get_or xs c G.nil) G.nil
  key_half size g i c k xs long below =
      let row : Row = record { group = g; position = i; component = c } in
      let f : ℕ → G.Value = λ j. get_or xs j G.nil in
      ap (sum_at G (marked_in size row) (map key (range_with_len 0 k))) (sym (as_counted xs k long))
      ∙ sum_at_map G (marked_in size row) key f (range_with_len 0 k)
      ∙ by (eqb i 1) f
    where
      by : (b : Bool) (f : ℕ → G.Value) → total G (map (λ x. cond (b && eqb c x) (f x) G.nil) (range_with_len 0 k)) ≡ cond b (f c) G.nil
      by true f =
          total_one G (λ x. cond (eqb c x) (f x) G.nil) (f c) c 0 k (omega arith) (omega arith) (ap (λ t. cond t (f c) G.nil) (eq-eqb c c refl))
          (λ x ne. ap (λ t. cond t (f x) G.nil) (ne_eqb c x (λ e. ne (sym e))))
      by false f = total_none G (λ x. G.nil) 0 k (λ x l u. refl)

  -- the columns of the random blocks
  block_half : (masks : List ℕ) (k g i c : ℕ) (f : Column → G.Value) → g < length masks → c < k
      → sum_at G (marked masks (record { group = g; position = i; component = c })) (blocks masks k) (map f (blocks masks k))
      ≡ total G (map (λ b. cond (eqb i 1 || eqb (b + i) (size_of masks g)) (f (block g b c)) G.nil) (range_with_len 0 (size_of masks g - 1)))
  block_half masks k g i c f low below =
      let row : Row = record { group = g; position = i; component = c } in
      let q : Column → G.Value = λ j. cond (marked masks row j) (f j) G.nil in
      ap (λ js. sum_at G (marked masks row) js (map f (blocks masks k))) (sym (map-id (blocks masks k)))
      ∙ sum_at_map G (marked masks row) (λ j. j) f (blocks masks k)
      ∙ blocks_total G masks k g c q low below
      (λ h b j ne. ap (λ t. cond t (f (block h b j)) G.nil) (off (eqb i 1 || eqb (b + i) (size_of masks g)) (eqb g h) (eqb c j) (ne_eqb g h (λ e. ne (sym e)))))
      (λ h b j ne. ap (λ t. cond t (f (block h b j)) G.nil) (out (eqb i 1 || eqb (b + i) (size_of masks g)) (eqb g h) (eqb c j) (ne_eqb c j (λ e. ne (sym e)))))
      ∙ ap (total G) (map_same (λ b. q (block g b c)) (λ b. cond (eqb i 1 || eqb (b + i) (size_of masks g)) (f (block g b c)) G.nil) (range_with_len 0 (size_of masks g - 1))
      (λ b. ap (λ t. cond t (f (block g b c)) G.nil) (on (eqb i 1 || eqb (b + i) (size_of masks g)) (eqb g g) (eqb c c) (eq-eqb g g refl) (eq-eqb c c refl))))
    where
      off : (x y z : Bool) → y ≡ false → x && (y && z) ≡ false
      off true y z e = ap (λ t. t && z) e
      off false y z e = refl

      out : (x y z : Bool) → z ≡ false → x && (y && z) ≡ false
      out true true z e = e
      out true false z e = refl
      out false y z e = refl

      on : (x y z : Bool) → y ≡ true → z ≡ true → x && (y && z) ≡ x
      on true y z e f' = ap₂ (λ s t. s && t) e f'
      on false y z e f' = refl

  module _ (p : Plan) where
    abbrev row_at : ℕ → ℕ → ℕ → Row
    row_at g i c = record { group = g; position = i; component = c }

    halves : (key' random : List G.Value) (g i c : ℕ) → length key' ≡ p.components → length random ≡ random_count (scheme_of p) → g < group_count (shape_of p) → c < p.components
        → slip G (masks_of (shape_of p)) p.components (key' ++ random) (row_at g i c)
        ≡ G.plus (cond (eqb i 1) (get_or key' c G.nil) G.nil)
        (total G (map (λ b. cond (eqb i 1 || eqb (b + i) p.threshold) (by_label p.components (p.threshold - 1) random (block g b c)) G.nil) (range_with_len 0 (p.threshold - 1))))
    halves key' random g i c long longer low below =
        let masks : List ℕ = masks_of (shape_of p) in
        let k : ℕ = p.components in
        let f : Column → G.Value = by_label k (p.threshold - 1) random in
        let within : g < length masks = omega (arith, many p) in
        let size : size_of masks g ≡ p.threshold = sized p g within in
        let halved : sum_at G (marked masks (row_at g i c)) (columns masks k) (key' ++ random) ≡ G.plus (sum_at G (marked masks (row_at g i c)) (map key (range_with_len 0 k)) key') (sum_at G (marked masks (row_at g i c)) (blocks masks k) random) =
        sum_at_append G (marked masks (row_at g i c)) (map key (range_with_len 0 k)) (blocks masks k) key' random (long ∙ sym (length-map-range_with_len key 0 k)) in
        let second : sum_at G (marked masks (row_at g i c)) (blocks masks k) random ≡ total G (map (λ b. cond (eqb i 1 || eqb (b + i) p.threshold) (f (block g b c)) G.nil) (range_with_len 0 (p.threshold - 1))) =
        ap (sum_at G (marked masks (row_at g i c)) (blocks masks k)) (sym (random_is p random longer)) ∙ block_half masks k g i c f within below
        ∙ ap (λ s. total G (map (λ b. cond (eqb i 1 || eqb (b + i) s) (f (block g b c)) G.nil) (range_with_len 0 (s - 1)))) size in
        halved ∙ ap₂ G.plus (key_half (size_of masks g) g i c k key' long below) second

    -- The slip of a group's first member: the key and every block of the group.
    pub first_slip : (key' random : List G.Value) (g c : ℕ) → length key' ≡ p.components → length random ≡ random_count (scheme_of p) → g < group_count (shape_of p) → c < p.components
        → slip G (masks_of (shape_of p)) p.components (key' ++ random) (row_at g 1 c)
        ≡ G.plus (get_or key' c G.nil) (total G (map (λ b. get_or random (g * p.components * (p.threshold - 1) + b * p.components + c) G.nil) (range_with_len 0 (p.threshold - 1))))
    first_slip key' random g c long longer low below = halves key' random g 1 c long longer low below

    -- The slip of any other member: one block of the group.
    pub later_slip : (key' random : List G.Value) (g i c : ℕ) → length key' ≡ p.components → length random ≡ random_count (scheme_of p) → g < group_count (shape_of p) → c < p.components
        → 2 ≤ i → i ≤ p.threshold
        → slip G (masks_of (shape_of p)) p.components (key' ++ random) (row_at g i c) ≡ get_or random (g * p.components * (p.threshold - 1) + (p.threshold - i) * p.components + c) G.nil
    later_slip key' random g i c long longer low below some few =
        let k : ℕ = p.components in
        let t : ℕ = p.threshold in
        let f : ℕ → G.Value = λ b. get_or random (g * k * (t - 1) + b * k + c) G.nil in
        let no : eqb i 1 ≡ false = ne_eqb i 1 (λ e. omega arith) in
        halves key' random g i c long longer low below
        ∙ ap₂ (λ x y. G.plus (cond x (get_or key' c G.nil) G.nil) (total G (map (λ b. cond (y || eqb (b + i) t) (f b) G.nil) (range_with_len 0 (t - 1))))) no no
        ∙ left_unit G (total G (map (λ b. cond (eqb (b + i) t) (f b) G.nil) (range_with_len 0 (t - 1))))
        ∙ total_one G (λ b. cond (eqb (b + i) t) (f b) G.nil) (f (t - i)) (t - i) 0 (t - 1) (omega arith) (omega arith)
        (ap (λ x. cond x (f (t - i)) G.nil) (eq-eqb (t - i + i) t (omega arith)))
        (λ b ne. ap (λ x. cond x (f b) G.nil) (ne_eqb (b + i) t (λ e. ne (omega arith))))

-- Which row and which column has which number, where all groups are of one size. Assumes nothing.
use Rattle.std.proofs.Common.{◌≡◌, ℕ, ◌+◌, ◌-◌, ◌*◌, ◌<◌, ◌≤◌, List, map, length, get_or, refl, ap, ◌∙◌, arith}
use Rattle.std.specs.List.{range_with_len, flat_map}
use Rattle.std.proofs.lemmas.Nat.{mul-add-lt}
use Rattle.std.proofs.lemmas.List.FromFn.{length-map-range_with_len, get_or-map-range_with_len}
use Rattle.std.proofs.lemmas.List.{length-append, get_or_append_left, get_or-append_right}
use Rattle.plans.specs.Shape.{shape_of, masks_of, group_count}
use Rattle.plans.specs.declared.plan.Plan.{Plan}
use Rattle.matrix.specs.Matrix.{Row, Column, key, block, rows, columns, size_of}
use Rattle.matrix.specs.Numbers.{Numbered}
use Rattle.plans.proofs.Ranks.{groups_count}
use Rattle.matrix.proofs.Joined.{length_joined, get_or_joined}
use Rattle.matrix.proofs.Sizes.{size_is}

row_place : (g j c k w : ℕ) → g * k * w + j * k + c ≡ (g * w + j) * k + c
row_place g j c k w = omega arith

block_place : (g b c k w : ℕ) → k + g * k * w + b * k + c ≡ k + ((g * w + b) * k + c)
block_place g b c k w = omega arith

swapped : (n w k : ℕ) → n * (w * k) ≡ n * k * w
swapped n w k = omega arith

-- Parts of parts: n groups, each of w parts of k places.
module _ {X : Type 0} (make : ℕ → ℕ → ℕ → X) (size : ℕ → ℕ) (a k w n : ℕ) (same : (g : ℕ) → g < n → size g ≡ w) where
  abbrev part : ℕ → ℕ → List X
  part g i = map (make g i) (range_with_len 0 k)

  abbrev parts : ℕ → List X
  parts g = flat_map (part g) (range_with_len a (size g))

  length_parts : (g : ℕ) → g < 0 + n → length (parts g) ≡ w * k
  length_parts g l =
      length_joined (part g) k a (size g) (λ i _. length-map-range_with_len (make g i) 0 k) ∙ ap (λ s. s * k) (same g (omega arith))

  length_all : length (flat_map parts (range_with_len 0 n)) ≡ n * (w * k)
  length_all = length_joined parts (w * k) 0 n length_parts

  get_or_all : (g j c m : ℕ) (d : X) → g < n → j < w → c < k → m ≡ (g * w + j) * k + c → get_or (flat_map parts (range_with_len 0 n)) m d ≡ make g (a + j) c
  get_or_all g j c m d in_n in_w in_k e =
      get_or_joined parts (w * k) 0 n g (j * k + c) g m d length_parts in_n (omega (arith, mul-add-lt j k c w in_w in_k)) (omega arith) (omega arith)
      ∙ get_or_joined (part g) k a (size g) j c (a + j) (j * k + c) d (λ i _. length-map-range_with_len (make g i) 0 k) (omega (arith, same g in_n)) in_k refl refl
      ∙ get_or-map-range_with_len (make g (a + j)) 0 k c c d in_k (omega arith)

module _ (masks : List ℕ) (k t : ℕ) (same : (g : ℕ) → g < length masks → size_of masks g ≡ t) where
  fewer : (g : ℕ) → g < length masks → size_of masks g - 1 ≡ t - 1
  fewer g l = ap (λ s. s - 1) (same g l)

  pub rows_long : length (rows masks k) ≡ length masks * (t * k)
  rows_long = length_all (λ g i c. record { group = g; position = i; component = c }) (size_of masks) 1 k t (length masks) same

  pub row_at : (g i c m : ℕ) (d : Row) → g < length masks → 1 ≤ i → i ≤ t → c < k → m ≡ (g * t + (i - 1)) * k + c
      → get_or (rows masks k) m d ≡ record { group = g; position = i; component = c }
  row_at g i c m d in_n from to in_k e =
      let at : 1 + (i - 1) ≡ i = omega arith in
      get_or_all (λ g i c. record { group = g; position = i; component = c }) (size_of masks) 1 k t (length masks) same g (i - 1) c m d in_n (omega arith) in_k e
      ∙ ap (λ x. record { group = g; position = x; component = c }) at

  pub columns_long : length (columns masks k) ≡ k + length masks * ((t - 1) * k)
  columns_long =
      omega (
        arith,
        length-append (map key (range_with_len 0 k)) (flat_map (λ g. flat_map (λ b. map (block g b) (range_with_len 0 k)) (range_with_len 0 (size_of masks g - 1))) (range_with_len 0 (length masks))),
        length-map-range_with_len key 0 k,
        length_all block (λ g. size_of masks g - 1) 0 k (t - 1) (length masks) fewer,
      )

  pub key_at : (c : ℕ) (d : Column) → c < k → get_or (columns masks k) c d ≡ key c
  key_at c d in_k =
      get_or_append_left (map key (range_with_len 0 k)) (flat_map (λ g. flat_map (λ b. map (block g b) (range_with_len 0 k)) (range_with_len 0 (size_of masks g - 1))) (range_with_len 0 (length masks))) d c
      (omega (arith, length-map-range_with_len key 0 k))
      ∙ get_or-map-range_with_len key 0 k c c d in_k (omega arith)

  pub block_at : (g b c m : ℕ) (d : Column) → g < length masks → b < t - 1 → c < k → m ≡ k + ((g * (t - 1) + b) * k + c)
      → get_or (columns masks k) m d ≡ block g b c
  block_at g b c m d in_n in_t in_k e =
      let zero_more : 0 + b ≡ b = omega arith in
      get_or-append_right (map key (range_with_len 0 k)) (flat_map (λ g. flat_map (λ b. map (block g b) (range_with_len 0 k)) (range_with_len 0 (size_of masks g - 1))) (range_with_len 0 (length masks))) k m d
      (length-map-range_with_len key 0 k) (omega arith)
      ∙ get_or_all block (λ g. size_of masks g - 1) 0 k (t - 1) (length masks) fewer g b c (m - k) d in_n in_t in_k (omega arith)
      ∙ ap (λ x. block g x c) zero_more

-- a plan has as many groups as counted
pub many : (p : Plan) → length (masks_of (shape_of p)) ≡ group_count (shape_of p)
many p = groups_count p.harbours p.threshold

-- and each of them as many members as the threshold
pub sized : (p : Plan) (g : ℕ) → g < length (masks_of (shape_of p)) → size_of (masks_of (shape_of p)) g ≡ p.threshold
sized p = size_is p.harbours p.threshold

pub numbered : Numbered
numbered p = (
  rows_long (masks_of (shape_of p)) p.components p.threshold (sized p) ∙ over p.threshold,
  columns_long (masks_of (shape_of p)) p.components p.threshold (sized p) ∙ ap (λ n. p.components + n) (over (p.threshold - 1)),
  λ g i c d l from to in_k. row_at (masks_of (shape_of p)) p.components p.threshold (sized p) g i c (g * p.components * p.threshold + (i - 1) * p.components + c) d
      (omega (arith, many p)) from to in_k (row_place g (i - 1) c p.components p.threshold),
  key_at (masks_of (shape_of p)) p.components p.threshold (sized p),
  λ g b c d l in_t in_k. block_at (masks_of (shape_of p)) p.components p.threshold (sized p) g b c (p.components + g * p.components * (p.threshold - 1) + b * p.components + c) d
      (omega (arith, many p)) in_t in_k (block_place g b c p.components (p.threshold - 1)),
)
  where
    over : (w : ℕ) → length (masks_of (shape_of p)) * (w * p.components) ≡ group_count (shape_of p) * p.components * w
    over w = ap (λ n. n * (w * p.components)) (many p) ∙ swapped (group_count (shape_of p)) w p.components

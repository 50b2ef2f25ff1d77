-- What holds of every label holds all along the rows, and the columns. Assumes nothing.
use Rattle.std.proofs.Common.{ℕ, ◌-◌, ◌<◌, ◌≤◌, List, map, length, All, arith}
use Rattle.std.specs.List.{range_with_len, flat_map}
use Rattle.std.proofs.lemmas.List.Elements.{All-append}
use Rattle.matrix.specs.Matrix.{Row, Column, key, block, rows, columns, size_of}
use Rattle.matrix.proofs.Joined.{all_joined, all_map_counting}

pub every_row : (P : Row → Type 0) (masks : List ℕ) (k : ℕ)
    → ((g i c : ℕ) → g < length masks → 1 ≤ i → i ≤ size_of masks g → P (record { group = g; position = i; component = c })) → All P (rows masks k)
every_row P masks k h =
    all_joined P (λ g. flat_map (λ i. map (λ c. record { group = g; position = i; component = c }) (range_with_len 0 k)) (range_with_len 1 (size_of masks g))) 0 (length masks)
    (λ g _ in_masks. all_joined P (λ i. map (λ c. record { group = g; position = i; component = c }) (range_with_len 0 k)) 1 (size_of masks g)
    (λ i from to. all_map_counting P (λ c. record { group = g; position = i; component = c }) 0 k (λ c _ _. h g i c (omega arith) from (omega arith))))

pub every_column : (P : Column → Type 0) (masks : List ℕ) (k : ℕ)
    → ((c : ℕ) → P (key c)) → ((g b c : ℕ) → g < length masks → b < size_of masks g - 1 → P (block g b c)) → All P (columns masks k)
every_column P masks k h₁ h₂ =
    All-append P (map key (range_with_len 0 k)) (flat_map (λ g. flat_map (λ b. map (block g b) (range_with_len 0 k)) (range_with_len 0 (size_of masks g - 1))) (range_with_len 0 (length masks)))
    (all_map_counting P key 0 k (λ c _ _. h₁ c))
    (all_joined P (λ g. flat_map (λ b. map (block g b) (range_with_len 0 k)) (range_with_len 0 (size_of masks g - 1))) 0 (length masks)
    (λ g _ in_masks. all_joined P (λ b. map (block g b) (range_with_len 0 k)) 0 (size_of masks g - 1)
    (λ b _ to. all_map_counting P (block g b) 0 k (λ c _ _. h₂ g b c (omega arith) (omega arith)))))

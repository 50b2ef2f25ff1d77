-- Why a group restores the key: its rows under their signs come to the key's own column. Assumes nothing.
use Rattle.std.specs.Prelude.{◌≡◌, ℕ, ◌<◌, ◌≤◌, cond, List, length, ℤ, pos, ◌+ℤ◌, ◌*ℤ◌, fold, All, ◌==◌, count_ones}
use Rattle.std.specs.List.{range_with_len}
use Rattle.plans.specs.Groups.{sign}
use Rattle.matrix.specs.Matrix.{Column, key, block, columns, marked_in, signed_sum}

-- 1 at the column of the key's component c, and 0 at every other.
abbrev pub key_only : ℕ → Column → ℤ
key_only c (key j) = cond (j == c) (pos 1) (pos 0)
key_only c (block g b j) = pos 0

-- The same sum over the first n positions of a group of so many members.
abbrev pub sum_in : ℕ → ℕ → ℕ → ℕ → Column → ℤ
sum_in size n g c j =
    fold (λ s i. s +ℤ (sign i *ℤ pos (cond (marked_in size (record { group = g; position = i; component = c }) j) 1 0))) (pos 0)
    (range_with_len 1 n)

-- Over any list of groups with a member each: sign times entry, over a group's rows of component c, sums to 1 at column c and to 0 elsewhere.
abbrev pub ColumnsRestore : Type 0
ColumnsRestore =
    (masks : List ℕ) (k g c : ℕ) → All (λ m. 1 ≤ count_ones m) masks → g < length masks
    → All (λ j. signed_sum masks g c j ≡ key_only c j) (columns masks k)

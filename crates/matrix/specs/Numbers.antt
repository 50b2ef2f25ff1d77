-- The matrix by numbers: which row and which column is which, for a plan of groups that are all of one size. Assumes nothing.
use Rattle.std.specs.Prelude.{◌≡◌, ℕ, ◌+◌, ◌-◌, ◌*◌, ◌<◌, ◌≤◌, cond, ◌||◌, length, nat_le, slice_index_or}
use Rattle.plans.specs.Shape.{Shape, shape_of, masks_of, group_count}
use Rattle.plans.specs.declared.plan.Plan.{Plan}
use Rattle.matrix.specs.Matrix.{Row, Column, key, block, rows, columns, entry}

-- The number of rows: N groups of t members, each with k components.
abbrev pub row_count : Shape → ℕ
row_count s = group_count s * s.components * s.threshold

-- The number of columns: the key, and for each group t - 1 blocks of k components.
abbrev pub column_count : Shape → ℕ
column_count s = s.components + group_count s * s.components * (s.threshold - 1)

-- The entry at a row and a column by their numbers.
abbrev pub entry_at : Shape → ℕ → ℕ → ℕ
entry_at s row column =
    entry (masks_of s) (slice_index_or (rows (masks_of s) s.components) row (record { group = 0; position = 0; component = 0 }))
    (slice_index_or (columns (masks_of s) s.components) column (key 0))

-- An entry past the matrix is refused with 7.
abbrev pub entry_refusal : Shape → ℕ → ℕ → ℕ
entry_refusal s row column = cond (nat_le (row_count s) row || nat_le (column_count s) column) 7 0

-- Of a sum over a group's rows: 4 where there is no such group, then 7 where the component or the column is past the matrix.
abbrev pub sum_refusal : Shape → ℕ → ℕ → ℕ → ℕ
sum_refusal s g c column = cond (nat_le (group_count s) g) 4 (cond (nat_le s.components c || nat_le (column_count s) column) 7 0)

-- In every plan the rows and the columns are as many as counted, row g·k·t + (i - 1)·k + c is group g, position i, component c,
-- column c is component c of the key, and column k + g·k·(t - 1) + b·k + c is component c of block b of group g.
abbrev pub Numbered : Type 0
Numbered =
    (p : Plan) → let s = shape_of p in let k = s.components in let t = s.threshold in
    (length (rows (masks_of s) k) ≡ row_count s) × (length (columns (masks_of s) k) ≡ column_count s)
    × ((g i c : ℕ) (d : Row) → g < group_count s → 1 ≤ i → i ≤ t → c < k
    → slice_index_or (rows (masks_of s) k) (g * k * t + (i - 1) * k + c) d ≡ record { group = g; position = i; component = c })
    × ((c : ℕ) (d : Column) → c < k → slice_index_or (columns (masks_of s) k) c d ≡ key c)
    × ((g b c : ℕ) (d : Column) → g < group_count s → b < t - 1 → c < k
    → slice_index_or (columns (masks_of s) k) (k + g * k * (t - 1) + b * k + c) d ≡ block g b c)

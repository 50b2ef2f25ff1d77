-- The labels of rows and columns as the code holds them, and which number each has. Assumes nothing.
use Rattle.std.specs.Prelude.{◌≡◌, ℕ, ◌+◌, ◌-◌, ◌*◌, ◌<◌, ◌≤◌}
use Rattle.plans.specs.Shape.{Shape}
use Rattle.matrix.specs.Matrix.{Row, Column, key, block}
use Rattle.matrix.specs.declared.labels.RowLabel.{RowLabel}
use Rattle.matrix.specs.declared.labels.ColumnLabel.{ColumnLabel}
use Rattle.matrix.specs.declared.labels.ColumnLabel.TheVariants.{Key, Block}

abbrev pub row_named : RowLabel → Row
row_named r = record { group = r.group; position = r.position; component = r.component }

abbrev pub column_named : ColumnLabel → Column
column_named (Key c) = key c
column_named (Block g b c) = block g b c

-- That a label is the one of a row's number: k slips to a position, and t positions to a group.
abbrev pub RowAt : Shape → ℕ → RowLabel → Type 0
RowAt s n r =
    (n ≡ (r.group * s.threshold + (r.position - 1)) * s.components + r.component)
    × (1 ≤ r.position) × (r.position ≤ s.threshold) × (r.component < s.components)

-- That a label is the one of a column's number: the key, then k columns to a block, and t - 1 blocks to a group.
abbrev pub ColumnAt : Shape → ℕ → ColumnLabel → Type 0
ColumnAt s n (Key c) = (n ≡ c) × (c < s.components)
ColumnAt s n (Block g b c) =
    (n ≡ s.components + ((g * (s.threshold - 1) + b) * s.components + c)) × (b < s.threshold - 1) × (c < s.components)

-- That a column's block is one of a group of so many members.
abbrev pub BlockIn : ℕ → ColumnLabel → Type 0
BlockIn size (Key c) = Unit {0}
BlockIn size (Block g b c) = b < size - 1

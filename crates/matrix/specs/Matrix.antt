-- The distribution matrix over any list of groups: its rows, its columns, its entries, and the slips that it gives. Assumes nothing.
use Rattle.std.specs.Prelude.{ℕ, ◌+◌, ◌-◌, Bool, cond, ◌&&◌, ◌||◌, List, [], ◌∷◌, ◌++◌, map, length, ℤ, pos, ◌+ℤ◌, ◌*ℤ◌, fold, ◌==◌, count_ones}
use Rattle.std.specs.List.{range_with_len, flat_map}
use Rattle.kinds.specs.Group.{Group}
use Rattle.plans.specs.Groups.{sign, position}
use Rattle.plans.specs.Layout.{Slot, mask_of}

-- A row's label: its group's number, the member's position in the group from 1, and the component.
pub record Row : Type 0 where
  pub group : ℕ
  pub position : ℕ
  pub component : ℕ

-- A column's label: a component of the key, or a component of a random block of a group.
pub data Column : Type 0 where
  key : ℕ → Column
  block : ℕ → ℕ → ℕ → Column

-- How many members a group has.
abbrev pub size_of : List ℕ → ℕ → ℕ
size_of masks g = count_ones (mask_of masks g)

-- The rows in order: group by group, position by position, component by component.
abbrev pub rows : List ℕ → ℕ → List Row
rows masks k =
    flat_map (λ g. flat_map (λ i. map (λ c. record { group = g; position = i; component = c }) (range_with_len 0 k)) (range_with_len 1 (size_of masks g)))
    (range_with_len 0 (length masks))

-- The columns in order: the key, then group by group its blocks, one fewer than it has members.
abbrev pub columns : List ℕ → ℕ → List Column
columns masks k =
    map key (range_with_len 0 k)
    ++ flat_map (λ g. flat_map (λ b. map (block g b) (range_with_len 0 k)) (range_with_len 0 (size_of masks g - 1))) (range_with_len 0 (length masks))

-- Whether an entry is 1, in a group of so many members. Position 1 has the key and every block of its group; position i from 2 has the block size - i; each at its component.
abbrev pub marked_in : ℕ → Row → Column → Bool
marked_in size r (key c) = r.position == 1 && r.component == c
marked_in size r (block g b c) =
    (r.position == 1 || b + r.position == size) && (r.group == g && r.component == c)

-- Whether an entry is 1, over a list of groups.
abbrev pub marked : List ℕ → Row → Column → Bool
marked masks r j = marked_in (size_of masks r.group) r j

-- The entry at a row and a column: 0 or 1.
abbrev pub entry : List ℕ → Row → Column → ℕ
entry masks r j = cond (marked masks r j) 1 0

-- The sum of the inputs at the places that a test picks.
abbrev pub sum_at : (G : Group) → (Column → Bool) → List Column → List G.Value → G.Value
sum_at G test [] xs = G.nil
sum_at G test (j ∷ js) [] = G.nil
sum_at G test (j ∷ js) (x ∷ xs) = G.plus (cond (test j) x G.nil) (sum_at G test js xs)

-- A slip is the sum of the inputs, the key and then the random elements, at its row's ones.
abbrev pub slip : (G : Group) → List ℕ → ℕ → List G.Value → Row → G.Value
slip G masks k inputs r = sum_at G (marked masks r) (columns masks k) inputs

-- The row of a slip that lies in the tray.
abbrev pub row_of : List ℕ → Slot → Row
row_of masks s = record { group = s.group; position = position (mask_of masks s.group) s.bit; component = s.component }

-- Over a group's rows of one component, sign times entry, summed.
abbrev pub signed_sum : List ℕ → ℕ → ℕ → Column → ℤ
signed_sum masks g c j =
    fold (λ s i. s +ℤ (sign i *ℤ pos (entry masks (record { group = g; position = i; component = c }) j))) (pos 0)
    (range_with_len 1 (size_of masks g))

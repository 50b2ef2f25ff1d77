-- The cover: random values that hide a difference of keys from harbours that hold no whole group. Assumes nothing.
use Rattle.std.specs.Prelude.{ℕ, ◌+◌, ◌<◌, Bool, cond, List, map, length, drop, ◌==◌, slice_index_or}
use Rattle.std.specs.List.{prefix_len}
use Rattle.kinds.specs.Group.{Group}
use Rattle.plans.specs.Groups.{members}
use Rattle.plans.specs.Layout.{mask_of}
use Rattle.matrix.specs.Matrix.{Column, key, block, columns, size_of}
use Rattle.sharing.specs.Dealing.{Scheme}

-- The harbours that are read, each told by its bit.
abbrev pub Readers : Type 0
Readers = ℕ → Bool

-- The position, from 1, of a group's lowest member that is not read.
abbrev pub first_unread : Scheme → Readers → ℕ → ℕ
first_unread s read g = prefix_len read (members s.harbours (mask_of s.masks g)) + 1

-- One random value of the cover of a difference: the block that the lowest unread member of a group alone sees takes the difference back.
abbrev pub cover_at : (G : Group) → Scheme → Readers → List G.Value → Column → G.Value
cover_at G s read d (key c) = G.nil
cover_at G s read d (block g b c) = cond (b + first_unread s read g == size_of s.masks g) (G.minus (slice_index_or d c G.nil)) G.nil

-- The cover, for each random element of a dealing one value.
abbrev pub cover : (G : Group) → Scheme → Readers → List G.Value → List G.Value
cover G s read d = map (cover_at G s read d) (drop s.components (columns s.masks s.components))

-- A group holds a harbour that is not read.
abbrev pub Unread : Scheme → Readers → ℕ → Type 0
Unread s read g = prefix_len read (members s.harbours (mask_of s.masks g)) < length (members s.harbours (mask_of s.masks g))

-- The harbours that are read hold no whole group.
abbrev pub HoldNoGroup : Scheme → Readers → Type 0
HoldNoGroup s read = (g : ℕ) → g < length s.masks → Unread s read g

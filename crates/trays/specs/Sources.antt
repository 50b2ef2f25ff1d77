-- The slips that are laid from the key and a group's random blocks. Assumes nothing.
use Rattle.std.specs.Prelude.{ℕ, ◌/◌, List, map, length, Option, None, Some}
use Rattle.kinds.specs.Group.{Group}
use Rattle.trays.specs.Laying.{block_of, key_of, with_blocks}
use Rattle.trays.specs.declared.dealing.source.Source.{Source}

-- The slips of a group's first member: the key, and every one of the group's blocks.
abbrev pub first_slips : {E : Type 0} → (G : Group) → (E → G.Value) → Source E → List G.Value
first_slips G meaning s = with_blocks G s.size (length s.own.now / s.size) (key_of G meaning s.size s.key) (map meaning s.own.now)

-- A member's slips: those of the first member, or the block that is the member's.
abbrev pub slips_of : {E : Type 0} → (G : Group) → (E → G.Value) → Source E → Option ℕ → List G.Value
slips_of G meaning s None = first_slips G meaning s
slips_of G meaning s (Some b) = block_of s.size b (map meaning s.own.now)

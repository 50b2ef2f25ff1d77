-- Groups and their numbers undo each other. Assumes nothing.
use Rattle.std.specs.Prelude.{◌≡◌, ℕ, ◌<◌, length, slice_index}
use Rattle.plans.specs.Groups.{members, rank}
use Rattle.plans.specs.Refusals.{mask_refusal}
use Rattle.plans.specs.Shape.{Shape, shape_of, masks_of, group_count}
use Rattle.plans.specs.declared.plan.Plan.{Plan}

-- The number of a group by its mask: C(p1, 1) + .. + C(pt, t) over its bits.
abbrev pub number_in : Shape → ℕ → ℕ
number_in s mask = rank (members s.harbours mask)

-- The group by its number.
abbrev pub group_in : Shape → ℕ → ℕ
group_in s g = slice_index (masks_of s) g

-- In every plan the groups are as many as counted.
abbrev pub Counted : Type 0
Counted = (p : Plan) → length (masks_of (shape_of p)) ≡ group_count (shape_of p)

-- In every plan, whatever is a group has a number, at which it stands; whatever has a number is a group, and that is its number.
abbrev pub Undoes : Type 0
Undoes =
    (p : Plan) → let s = shape_of p in
    ((mask : ℕ) → mask_refusal s.harbours s.threshold mask ≡ 0 → (number_in s mask < group_count s) × (group_in s (number_in s mask) ≡ mask))
    × ((g : ℕ) → g < group_count s → (mask_refusal s.harbours s.threshold (group_in s g) ≡ 0) × (number_in s (group_in s g) ≡ g))

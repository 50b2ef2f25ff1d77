-- Where the slips of a group lie on a card, by the group's number. Assumes nothing.
use Rattle.std.specs.Prelude.{◌≡◌, ℕ, ◌-◌, ◌<◌, ◌≤◌, true, false, ◌⊎◌}
use Rattle.plans.specs.Groups.{member, position, sign}
use Rattle.plans.specs.Layout.{place}
use Rattle.plans.specs.Numbering.{group_in}
use Rattle.plans.specs.Shape.{Shape, group_count, masks_of}
use Rattle.planner.specs.declared.slip.Slip.{Slip}

-- A group is on no card of this harbour: there is no such group, or the harbour is no member.
abbrev pub Absent : Shape → ℕ → ℕ → Type 0
Absent s g harbour = (group_count s ≤ g) ⊎ (member (group_in s g) harbour ≡ false)

-- A group's slips on a member's card: where the first lies in the tray, and their sign.
pub record Lies (s : Shape) (g harbour : ℕ) (x : Slip) : Type 0 where
  pub of_group : g < group_count s
  pub of_member : member (group_in s g) harbour ≡ true
  pub at_place : x.place ≡ place (masks_of s) s.components g (harbour - 1)
  pub with_sign : x.sign ≡ sign (position (group_in s g) (harbour - 1))

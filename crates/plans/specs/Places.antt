-- The tray holds each slip once. Assumes nothing.
use Rattle.std.specs.Prelude.{◌≡◌, ℕ, ◌+◌, ◌<◌, true, List, length, slice_index_or}
use Rattle.plans.specs.Groups.{has}
use Rattle.plans.specs.Layout.{Slot, mask_of, tray, place, card}
use Rattle.plans.specs.Shape.{shape_of, masks_of, card_length, tray_length}
use Rattle.plans.specs.declared.plan.Plan.{Plan}

-- A group, a member of it among the first n harbours, and a component.
pub record Names (masks : List ℕ) (n k : ℕ) (s : Slot) : Type 0 where
  pub of_group : s.group < length masks
  pub of_harbour : s.bit < n
  pub of_member : has (mask_of masks s.group) s.bit ≡ true
  pub of_component : s.component < k

-- Where a slip lies: the place of its group's component 0 on the harbour's card, and its component.
abbrev pub lies_at : List ℕ → ℕ → Slot → ℕ
lies_at masks k s = place masks k s.group s.bit + s.component

-- Over any list of groups, each place of the tray is the place of the one group, member and component that the layout has there, and of no other.
abbrev pub OneSlipAPlace : Type 0
OneSlipAPlace =
    (masks : List ℕ) (n k i : ℕ) (d : Slot) → i < length (tray masks n k)
    → Names masks n k (slice_index_or (tray masks n k) i d) × (lies_at masks k (slice_index_or (tray masks n k) i d) ≡ i)
    × ((s : Slot) → Names masks n k s → lies_at masks k s ≡ i → s ≡ slice_index_or (tray masks n k) i d)

-- In every plan each card has L slips and the tray T times as many.
abbrev pub CardsAreLong : Type 0
CardsAreLong =
    (p : Plan) → ((bit : ℕ) → bit < p.harbours → length (card (masks_of (shape_of p)) p.components bit) ≡ card_length (shape_of p))
    × (length (tray (masks_of (shape_of p)) p.harbours p.components) ≡ tray_length (shape_of p))

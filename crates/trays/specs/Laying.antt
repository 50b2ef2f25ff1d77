-- How a tray is laid, slip by slip in its own order, and how a group's slips are summed. Assumes nothing.
use Rattle.std.specs.Prelude.{◌≡◌, Option, None, Some, ℕ, zero, suc, ◌+◌, ◌*◌, List, ◌++◌, map, length, take, drop, filter, slice_index_or}
use Rattle.std.specs.Borrow.{Bor}
use Rattle.std.specs.List.{range_with_len, flat_map}
use Rattle.std.specs.Option.{ForSome}
use Rattle.kinds.specs.Group.{Group}
use Rattle.plans.specs.Groups.{has, members, position, sign}
use Rattle.plans.specs.Layout.{Slot, mask_of, place, slots, tray}
use Rattle.matrix.specs.Matrix.{row_of, slip}
use Rattle.sharing.specs.Dealing.{Scheme, added, total, under, zeros}

-- The slip that lies under a label.
abbrev pub slip_at : (G : Group) → Scheme → List G.Value → List G.Value → Slot → G.Value
slip_at G s key random x = slip G s.masks s.components (key ++ random) (row_of s.masks x)

-- The values of a key of so many components; where there is none, of the all-zero key.
abbrev pub key_of : {E : Type 0} → (G : Group) → (E → G.Value) → ℕ → Option (Bor (List E)) → List G.Value
key_of G meaning k None = zeros G k
key_of G meaning k (Some key) = map meaning key.now

-- A key has so many components, if there is one.
abbrev pub OfSize : {E : Type 0} → Option (Bor (List E)) → ℕ → Type 0
OfSize key k = ForSome key (λ x. length x.now ≡ k)

-- The labels of the first so many cards.
abbrev pub cards : Scheme → ℕ → List Slot
cards s n = tray s.masks n s.components

-- The labels of the tray before a group's slips on the card of the harbour at a bit.
abbrev pub front : Scheme → ℕ → ℕ → List Slot
front s bit g =
    cards s bit ++ flat_map (slots s.components bit) (filter (λ h. has (mask_of s.masks h) bit) (range_with_len 0 g))

-- The tray is laid as far as some labels reach.
abbrev pub Laid : (G : Group) → Scheme → List G.Value → List G.Value → List Slot → List G.Value → Type 0
Laid G s key random labels xs = take (length labels) xs ≡ map (slip_at G s key random) labels

-- The block of k values with a number.
abbrev pub block_of : {X : Type 0} → ℕ → ℕ → List X → List X
block_of k b xs = take k (drop (b * k) xs)

-- Values to which the first so many blocks are added.
abbrev pub with_blocks : (G : Group) → ℕ → ℕ → List G.Value → List G.Value → List G.Value
with_blocks G k zero xs blocks = xs
with_blocks G k (suc n) xs blocks = added G (with_blocks G k n xs blocks) (block_of k n blocks)

-- What the members of a group among the first so many harbours make of a component: their slips under their signs, summed.
abbrev pub restored_by : (G : Group) → Scheme → List G.Value → ℕ → ℕ → ℕ → G.Value
restored_by G s xs g n c =
    total G
    (map (λ b. under G (sign (position (mask_of s.masks g) b)) (slice_index_or xs (place s.masks s.components g b + c) G.nil))
    (members n (mask_of s.masks g)))

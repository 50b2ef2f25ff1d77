-- Dealings, cards, and what a group restores, over any list of groups and any commutative group. Assumes nothing.
use Rattle.std.specs.Prelude.{ℕ, ◌+◌, List, [], ◌∷◌, ◌++◌, map, length, take, drop, replicate, ℤ, pos, negsuc, slice_index_or}
use Rattle.std.specs.List.{range_with_len}
use Rattle.kinds.specs.Group.{Group}
use Rattle.plans.specs.Groups.{members, position, sign}
use Rattle.plans.specs.Layout.{mask_of, card, tray, place}
use Rattle.matrix.specs.Matrix.{slip, row_of}

-- Who holds slips: any list of groups, among so many harbours, for a key of so many components; and the threshold that a picture names.
pub record Scheme : Type 0 where
  pub masks : List ℕ
  pub harbours : ℕ
  pub components : ℕ
  pub threshold : ℕ

-- The tray of a dealing: each slip, in the order of the tray, by the matrix.
abbrev pub dealing : (G : Group) → Scheme → List G.Value → List G.Value → List G.Value
dealing G s key random =
    map (λ x. slip G s.masks s.components (key ++ random) (row_of s.masks x)) (tray s.masks s.harbours s.components)

-- Where the card of the harbour at a bit begins in the tray: behind the cards before it.
abbrev pub card_start : Scheme → ℕ → ℕ
card_start s bit = length (tray s.masks bit s.components)

-- The part of a tray that is the card of the harbour at a bit.
abbrev pub card_in : {X : Type 0} → Scheme → ℕ → List X → List X
card_in s bit xs = take (length (card s.masks s.components bit)) (drop (card_start s bit) xs)

-- The sum of a list of values.
abbrev pub total : (G : Group) → List G.Value → G.Value
total G [] = G.nil
total G (x ∷ xs) = G.plus x (total G xs)

-- A value under a sign.
abbrev pub under : (G : Group) → ℤ → G.Value → G.Value
under G (pos n) x = x
under G (negsuc n) x = G.minus x

-- What a group of a tray restores for a component: the sum of its slips under their signs.
abbrev pub restored : (G : Group) → Scheme → List G.Value → ℕ → ℕ → G.Value
restored G s xs g c =
    total G
    (map (λ b. under G (sign (position (mask_of s.masks g) b)) (slice_index_or xs (place s.masks s.components g b + c) G.nil))
    (members s.harbours (mask_of s.masks g)))

-- What a group restores, component by component.
abbrev pub restores : (G : Group) → Scheme → List G.Value → ℕ → List G.Value
restores G s xs g = map (restored G s xs g) (range_with_len 0 s.components)

-- Two lists of values, added place by place.
abbrev pub added : (G : Group) → List G.Value → List G.Value → List G.Value
added G [] ys = []
added G (x ∷ xs) [] = []
added G (x ∷ xs) (y ∷ ys) = G.plus x y ∷ added G xs ys

-- The opposites of a list of values.
abbrev pub opposed : (G : Group) → List G.Value → List G.Value
opposed G xs = map G.minus xs

-- So many zeros.
abbrev pub zeros : (G : Group) → ℕ → List G.Value
zeros G n = replicate n G.nil

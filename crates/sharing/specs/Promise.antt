-- The promises for a kind of element, with whatever coding agrees with its meaning. Assumes nothing.
use Rattle.std.specs.Prelude.{ℕ}
use Rattle.kinds.specs.Group.{Group}
use Rattle.sharing.specs.Elements.{ShiftIsOfElements}
use Rattle.sharing.specs.Restoring.{RunsRestore}
use Rattle.sharing.specs.Secrecy.{Agrees, Secrecy, SecrecyAsAsked}
use Rattle.sharing.specs.Steps.{Kind}
use Rattle.sharing.specs.Threshold.{SecrecyOfPlans, SecrecyOfPlansAsAsked}

-- Elements that mean values of a group, with a coding: a code for each element, of so many bits, under a kind code.
abbrev pub kind_of : {E : Type 0} → (G : Group) → (E → G.Value) → (E → ℕ) → ℕ → ℕ → Kind E
kind_of G meaning code number width = record { group = G; meaning = meaning; code = code; number = number; width = width }

-- Whoever reads no whole group in any round learns nothing, pictures included.
abbrev pub Hides : {E : Type 0} → (G : Group) → (E → G.Value) → Type 0
Hides {E} G meaning =
    (code : E → ℕ) (number width : ℕ) → Agrees (kind_of G meaning code number width)
    → Secrecy (kind_of G meaning code number width) × SecrecyOfPlans (kind_of G meaning code number width)

-- The same, where code and meaning need agree only if pictures are asked for, so that it serves kinds with no coding too.
abbrev pub HidesAsAsked : {E : Type 0} → (G : Group) → (E → G.Value) → Type 0
HidesAsAsked {E} G meaning =
    (code : E → ℕ) (number width : ℕ)
    → SecrecyAsAsked (kind_of G meaning code number width) × SecrecyOfPlansAsAsked (kind_of G meaning code number width)

-- After any run every group restores the key dealt.
abbrev pub Restores : {E : Type 0} → (G : Group) → (E → G.Value) → Type 0
Restores {E} G meaning = (code : E → ℕ) (number width : ℕ) → RunsRestore (kind_of G meaning code number width)

-- The shift can be had in elements.
abbrev pub ShiftsByElements : {E : Type 0} → (G : Group) → (E → G.Value) → Type 0
ShiftsByElements {E} G meaning = (code : E → ℕ) (number width : ℕ) → ShiftIsOfElements (kind_of G meaning code number width)

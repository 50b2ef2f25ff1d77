-- What the groups of a whole tray restore. Assumes nothing.
use Rattle.std.specs.Prelude.{ℕ, ◌<◌, List, map}
use Rattle.kinds.specs.Group.{Group}
use Rattle.plans.specs.Shape.{group_count, shape_of}
use Rattle.sharing.specs.Dealing.{restored, restores}
use Rattle.sharing.specs.Threshold.{scheme_of}
use Rattle.trays.specs.Laying.{restored_by}
use Rattle.trays.specs.declared.tray.Tray.{Tray}

-- A group of the tray's plan, and a component of its key.
abbrev pub Asks : {E : Type 0} → Tray E → ℕ → ℕ → Type 0
Asks t g c = (g < group_count (shape_of t.table.now.plan)) × (c < t.table.now.plan.components)

-- What a group's members among the first so many harbours make of a component.
abbrev pub restored_so_far : {E : Type 0} → (G : Group) → (E → G.Value) → Tray E → ℕ → ℕ → ℕ → G.Value
restored_so_far G meaning t g n c = restored_by G (scheme_of t.table.now.plan) (map meaning t.slips.now) g n c

-- What a group restores for a component.
abbrev pub one_restored : {E : Type 0} → (G : Group) → (E → G.Value) → Tray E → ℕ → ℕ → G.Value
one_restored G meaning t g c = restored G (scheme_of t.table.now.plan) (map meaning t.slips.now) g c

-- What a group restores, component by component.
abbrev pub all_restored : {E : Type 0} → (G : Group) → (E → G.Value) → Tray E → ℕ → List G.Value
all_restored G meaning t g = restores G (scheme_of t.table.now.plan) (map meaning t.slips.now) g

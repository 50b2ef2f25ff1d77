-- What is laid of a tray from a table, a key and random elements. Assumes nothing.
use Rattle.std.specs.Prelude.{ℕ, List, map}
use Rattle.kinds.specs.Group.{Group}
use Rattle.plans.specs.Layout.{Slot}
use Rattle.sharing.specs.Dealing.{dealing}
use Rattle.sharing.specs.Threshold.{scheme_of}
use Rattle.trays.specs.Laying.{Laid, cards, key_of}
use Rattle.trays.specs.declared.dealing.Dealing.{Dealing}

-- The values of the key dealt.
abbrev pub key_dealt : {E : Type 0} → (G : Group) → (E → G.Value) → Dealing E → List G.Value
key_dealt G meaning d = key_of G meaning d.table.now.plan.components d.key

-- The tray is laid as far as some labels reach.
abbrev pub LaidTo : {E : Type 0} → (G : Group) → (E → G.Value) → Dealing E → List Slot → List E → Type 0
LaidTo G meaning d labels tray =
    Laid G (scheme_of d.table.now.plan) (key_dealt G meaning d) (map meaning d.random.now) labels (map meaning tray)

-- The first so many cards of the tray are laid.
abbrev pub LaidCards : {E : Type 0} → (G : Group) → (E → G.Value) → Dealing E → ℕ → List E → Type 0
LaidCards G meaning d n tray = LaidTo G meaning d (cards (scheme_of d.table.now.plan) n) tray

-- The values of the whole tray.
abbrev pub dealt_tray : {E : Type 0} → (G : Group) → (E → G.Value) → Dealing E → List G.Value
dealt_tray G meaning d = dealing G (scheme_of d.table.now.plan) (key_dealt G meaning d) (map meaning d.random.now)

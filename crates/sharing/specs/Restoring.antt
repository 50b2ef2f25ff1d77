-- What restoring rests on: dealing is linear, every group restores the key dealt, whatever calls come after the deal. Assumes nothing.
use Rattle.std.specs.Prelude.{◌≡◌, ℕ, ◌<◌, true, List, length}
use Rattle.kinds.specs.Group.{Group}
use Rattle.plans.specs.Layout.{card}
use Rattle.sharing.specs.Calls.{Turn, refusal, reissue}
use Rattle.sharing.specs.Cover.{Readers, cover, HoldNoGroup}
use Rattle.sharing.specs.Dealing.{Scheme, dealing, card_in, restores, added, opposed, zeros}
use Rattle.sharing.specs.Secrecy.{Sound}
use Rattle.sharing.specs.Steps.{Kind, Seen, agrees, State, values, Audits, Reissues, Run, Dealt}

-- The dealing of sums is the sum of the dealings, and that of opposites their opposite.
abbrev pub DealingIsLinear : Group → Type 0
DealingIsLinear G =
    (s : Scheme) (key₁ key₂ random₁ random₂ : List G.Value) → length key₁ ≡ length key₂ → length random₁ ≡ length random₂
    → (dealing G s (added G key₁ key₂) (added G random₁ random₂) ≡ added G (dealing G s key₁ random₁) (dealing G s key₂ random₂))
    × (dealing G s (opposed G key₁) (opposed G random₁) ≡ opposed G (dealing G s key₁ random₁))

-- Every group restores the key from a dealing.
abbrev pub DealingRestores : Group → Type 0
DealingRestores G =
    (s : Scheme) (key random : List G.Value) (g : ℕ) → Sound s → length key ≡ s.components → g < length s.masks
    → restores G s (dealing G s key random) g ≡ key

-- The dealing of a difference and its cover is zero on every card that is read, where the readers hold no whole group.
abbrev pub CoverHides : Group → Type 0
CoverHides G =
    (s : Scheme) (by : Readers) (d : List G.Value) (b : ℕ) → Sound s → length d ≡ s.components → HoldNoGroup s by → b < s.harbours → by b ≡ true
    → (card_in s b (dealing G s d (cover G s by d)) ≡ zeros G (length (card s.masks s.components b)))
    × (cover G s by (opposed G d) ≡ opposed G (cover G s by d))

-- After any run every group of the tray restores the key dealt; so an audit agrees, and a reissue leaves every slip's meaning as it was.
abbrev pub RunsRestore : {E : Type 0} → Kind E → Type 0
RunsRestore {E} K =
    (scheme : Scheme) (issue : ℕ) (turns : List Turn) (key dealt drawn : List E) (s e : State E) (seen : List (Seen K.group.Value))
    → Sound scheme → Dealt K scheme issue key dealt s → Run K s turns drawn seen e
    → (e.told.scheme ≡ scheme)
    × ((g : ℕ) → g < length scheme.masks → restores K.group scheme (values K e.tray) g ≡ values K key)
    × ((v : Seen K.group.Value) → Audits K e.told e.tray v → v ≡ agrees)
    × ((harbour tray_long working : ℕ) (tray' : List E) (v : Seen K.group.Value)
    → refusal K.width e.told (reissue harbour tray_long working) ≡ 0 → Reissues K e.told harbour e.tray tray' v → values K tray' ≡ values K e.tray)

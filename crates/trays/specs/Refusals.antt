-- The number of each refusal of a call on a tray. Assumes nothing.
use Rattle.std.specs.Prelude.{◌≡◌, ℕ, Result, MatchResult}
use Rattle.trays.specs.declared.refusal.Refusal.{Refusal}
use Rattle.trays.specs.declared.refusal.Refusal.TheVariants.{Key, Random, Tray, DrawIsOpen, LastRound, Sheet, NotCurrent, NoSuchHarbour}

abbrev pub number_of : Refusal → ℕ
number_of Key = 8
number_of Random = 9
number_of Tray = 10
number_of DrawIsOpen = 11
number_of LastRound = 12
number_of Sheet = 13
number_of NotCurrent = 14
number_of NoSuchHarbour = 15

-- A call is let through only where the number of its refusal is 0, and otherwise turned away by the refusal with that number.
abbrev pub Passes : ℕ → Result Unit Refusal → Type 0
Passes number r = MatchResult r (λ _. number ≡ 0) (λ e. number_of e ≡ number)

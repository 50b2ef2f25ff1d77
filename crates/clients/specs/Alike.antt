-- What a client may expect that deals two keys and reads the same card from both. Assumes nothing.
use Rattle.std.specs.Prelude.{◌≡◌, ℕ, ◌≤◌, List, [], ◌∷◌, map, length}
use Rattle.kinds.specs.Group.{Group}
use Rattle.plans.specs.declared.plan.Plan.{Plan}
use Rattle.sharing.specs.Calls.{Turn, own, read, tray_length}
use Rattle.sharing.specs.Dealing.{added}
use Rattle.sharing.specs.Promise.{kind_of}
use Rattle.sharing.specs.Secrecy.{deal_shift}
use Rattle.sharing.specs.Steps.{Dealt}
use Rattle.sharing.specs.Threshold.{scheme_of}
use Rattle.trays.specs.Turns.{holding, told_by}
use Rattle.trays.specs.declared.record.Record.{Record}
use Rattle.clients.specs.declared.Lent.{Lent}

-- The one turn of such a client: the harbour is read.
abbrev pub one_reading : Plan → ℕ → List Turn
one_reading p harbour = own (read harbour (tray_length (scheme_of p))) ∷ []

-- With a threshold of two or more, and random elements shifted for the difference of the keys, the two cards are the same.
abbrev pub SameCard : {E : Type 0} → (G : Group) → (E → G.Value) → Plan → ℕ → ℕ → Lent E → Lent E → Type 0 → Type 0
SameCard G meaning p issue harbour first second same =
    (d : List G.Value) → length d ≡ p.components → 2 ≤ p.threshold
    → map meaning second.key.now ≡ added G (map meaning first.key.now) d
    → map meaning second.random.now ≡ added G (map meaning first.random.now) (deal_shift G 0 (scheme_of p) issue (one_reading p harbour) d)
    → same

-- A key is dealt from what is lent: a record and its tray follow the deal, whatever sheet lies beside them.
abbrev pub DealtFrom : {E : Type 0} → (G : Group) → (E → G.Value) → Plan → ℕ → Lent E → Record → List E → Type 0
DealtFrom {E} G meaning p issue lent made tray =
    (sheet : List E) → Dealt (kind_of G meaning (λ _. 0) 0 0) (scheme_of p) issue lent.key.now lent.random.now (holding (told_by made) tray sheet)

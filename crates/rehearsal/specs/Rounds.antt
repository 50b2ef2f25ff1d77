-- What a round does to a tray, whose note is spent by an apply or a discard. Assumes nothing.
use Rattle.std.specs.Prelude.{◌≡◌, ℕ, ◌+◌, false, cond, List, map, length, ◌==◌, Result, MatchResult}
use Rattle.kinds.specs.Group.{Group}
use Rattle.plans.specs.Shape.{shape_of}
use Rattle.plans.specs.declared.plan.Plan.{Plan}
use Rattle.sharing.specs.Calls.{Call, Told, after, apply, draw, refusal, tray_length, turned}
use Rattle.sharing.specs.Dealing.{added, dealing, zeros}
use Rattle.sharing.specs.Threshold.{scheme_of}
use Rattle.trays.specs.Refusals.{number_of}
use Rattle.trays.specs.Turns.{told_by}
use Rattle.trays.specs.declared.answer.Discarded.{Discarded}
use Rattle.trays.specs.declared.answer.Discarded.TheVariants.{Wiped}
use Rattle.trays.specs.declared.record.Record.{Record}
use Rattle.trays.specs.declared.refusal.Refusal.{Refusal}
use Rattle.rehearsal.specs.declared.rounds.Lent.{Lent}

-- A plan has these three numbers.
abbrev pub Asked : ℕ → ℕ → ℕ → Plan → Type 0
Asked n t k p = shape_of p ≡ record { harbours = n; threshold = t; components = k }

-- What was lent is lent still: the record, the tray and the sheet are the same ones.
abbrev pub StillLends : {E : Type 0} → Lent E → Lent E → Type 0
StillLends l l' =
    (l'.book.ghost_name ≡ l.book.ghost_name) × (l'.tray.ghost_name ≡ l.tray.ghost_name) × (l'.sheet.ghost_name ≡ l.sheet.ghost_name)

-- So many places are as many as the tray of a record has.
abbrev pub Fits : Record → ℕ → Type 0
Fits r n = n ≡ tray_length (scheme_of r.plan)

-- The number with which the second of two calls is refused, upon what the first leaves, and 0 where it is not.
abbrev pub second_refusal : Told → Call → Call → ℕ
second_refusal t c d = refusal 0 (after t c) d

-- The number with which one of two calls is refused, the second upon what the first leaves, and 0 where neither is.
abbrev pub refusal_of_both : Told → Call → Call → ℕ
refusal_of_both t c d = cond (refusal 0 t c == 0) (second_refusal t c d) (refusal 0 t c)

-- The calls of a round.
abbrev pub renewal : {E : Type 0} → Told → List E → List E → List E → ℕ
renewal t random tray sheet = refusal_of_both t (draw (length random) (length sheet)) (apply t.round (length tray) (length sheet))

-- A record tells of the same tray.
abbrev pub SameTray : Told → Told → Type 0
SameTray t t' = t'.scheme ≡ t.scheme

-- A record tells of the same tray and the same round, with a draw open or not as before.
pub record Undone (t t' : Told) : Type 0 where
  pub scheme : t'.scheme ≡ t.scheme
  pub issue : t'.issue ≡ t.issue
  pub round : t'.round ≡ t.round
  pub drawn : t'.drawn ≡ t.drawn

module _ {E : Type 0} (G : Group) (meaning : E → G.Value) where
  -- A round that was drawn and applied: a dealing of the all-zero key is added to the tray.
  pub record Renewed (t : Told) (random tray sheet : List E) (t' : Told) (tray' sheet' : List E) (bore : ℕ) : Type 0 where
    pub bears : bore ≡ t.round
    pub told : t' ≡ turned t (t.round + 1) false
    pub sum : map meaning tray' ≡ added G (map meaning tray) (dealing G t.scheme (zeros G t.scheme.components) (map meaning random))
    pub zero : map meaning sheet' ≡ zeros G (length sheet)

  -- A draw that was discarded.
  pub record Withdrawn (t : Told) (sheet : List E) (t' : Told) (sheet' : List E) (bore : ℕ) (answer : Discarded) : Type 0 where
    pub bears : bore ≡ t.round
    pub wiped : answer ≡ Wiped
    pub undone : Undone t t'
    pub zero : map meaning sheet' ≡ zeros G (length sheet)

-- A call or two that were refused, and left the record as it was.
pub record TurnedBack (t t' : Told) (number : ℕ) (e : Refusal) : Type 0 where
  pub why : number_of e ≡ number
  pub undone : Undone t t'

-- A renewal of what is lent: a round was drawn and applied, or one of the two calls was refused.
abbrev pub Renews : {E : Type 0} → (G : Group) → (E → G.Value) → List E → Lent E → Lent E → Result ℕ Refusal → Type 0
Renews G meaning random l l' r =
    MatchResult r
    (λ bore. Renewed G meaning (told_by l.book.now) random l.tray.now l.sheet.now (told_by l'.book.now) l'.tray.now l'.sheet.now bore)
    (λ e. TurnedBack (told_by l.book.now) (told_by l'.book.now) (renewal (told_by l.book.now) random l.tray.now l.sheet.now) e)

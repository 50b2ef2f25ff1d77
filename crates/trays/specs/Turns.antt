-- What each call promises: it is one turn of a run, on whatever record, with whatever lengths, and for every coding of its elements. Assumes nothing.
use Rattle.std.specs.Prelude.{◌≡◌, ℕ, ◌-◌, List, [], map, length, IfOk, IfErr, Ok, Err, Result, MatchResult, Option, None, Some}
use Rattle.std.specs.Borrow.{Bor}
use Rattle.kinds.specs.Group.{Group}
use Rattle.sharing.specs.Calls.{Call, Told, apply, audit, deal_refusal, discard, draw, own, read}
use Rattle.sharing.specs.Dealing.{card_in}
use Rattle.sharing.specs.Promise.{kind_of}
use Rattle.sharing.specs.Steps.{Dealt, Seen, State, Step, agrees, differs, done, handed, noted, refused, stale, wiped}
use Rattle.sharing.specs.Threshold.{scheme_of}
use Rattle.plans.specs.declared.plan.Plan.{Plan}
use Rattle.trays.specs.Refusals.{number_of}
use Rattle.trays.specs.declared.note.Note.{Note}
use Rattle.trays.specs.declared.note.Returned.{Returned}
use Rattle.trays.specs.declared.record.Record.{Record}
use Rattle.trays.specs.declared.refusal.Refusal.{Refusal}
use Rattle.trays.specs.declared.answer.Discarded.{Discarded}
use Rattle.trays.specs.declared.answer.Discarded.TheVariants.{Stale, Wiped}

-- What a record of the program tells.
abbrev pub told_by : Record → Told
told_by r = record { scheme = scheme_of r.plan; issue = r.issue; round = r.round; drawn = r.drawn }

abbrev pub holding : {E : Type 0} → Told → List E → List E → State E
holding t tray sheet = record { told = t; tray = tray; sheet = sheet }

-- A call upon a tray's own record is one turn of a run, for every coding of elements.
abbrev pub Turns : {E : Type 0} → (G : Group) → (E → G.Value) → State E → Call → List E → Seen G.Value → State E → Type 0
Turns {E} G meaning s c random v s' = (code : E → ℕ) (number width : ℕ) → Step (kind_of G meaning code number width) s (own c) random v s'

-- What is seen of each call's answer.
abbrev pub seen_draw : {V : Type 0} → Result Note Refusal → Seen V
seen_draw (Ok note) = noted note.round
seen_draw (Err e) = refused (number_of e)

abbrev pub seen_apply : {V : Type 0} → Result Unit Returned → Seen V
seen_apply (Ok x) = done
seen_apply (Err e) = refused (number_of e.refusal)

abbrev pub seen_discard : {V : Type 0} → Result Discarded Returned → Seen V
seen_discard (Ok Wiped) = wiped
seen_discard (Ok Stale) = stale
seen_discard (Err e) = refused (number_of e.refusal)

abbrev pub seen_read : {E V : Type 0} → (E → V) → Result (Bor (List E)) Refusal → Seen V
seen_read meaning (Ok part) = handed (map meaning part.now)
seen_read meaning (Err e) = refused (number_of e)

abbrev pub seen_audit : {V : Type 0} → Result (Option ℕ) Refusal → Seen V
seen_audit (Ok None) = agrees
seen_audit (Ok (Some g)) = differs g
seen_audit (Err e) = refused (number_of e)

-- Deal: the tray is that of the matrix and the record a fresh one, or, refused, the tray is as it was.
abbrev pub Deals : {E : Type 0} → (G : Group) → (E → G.Value) → Plan → ℕ → List E → List E → List E → List E → Result Record Refusal → Type 0
Deals {E} G meaning plan issue key random tray tray' r =
    MatchResult r
    (λ made. (length tray' ≡ length tray) × ((code : E → ℕ) (number width : ℕ) (sheet : List E) → Dealt (kind_of G meaning code number width) (scheme_of plan) issue key random (holding (told_by made) tray' sheet)))
    (λ e. (number_of e ≡ deal_refusal (scheme_of plan) (length key) (length random) (length tray)) × (tray' ≡ tray))

-- Draw, whatever tray lies beside the sheet.
abbrev pub DrawTurns : {E : Type 0} → (G : Group) → (E → G.Value) → Told → List E → List E → Told → List E → Result Note Refusal → Type 0
DrawTurns {E} G meaning t random sheet t' sheet' r =
    (tray : List E) → Turns G meaning (holding t tray sheet) (draw (length random) (length sheet)) random (seen_draw r) (holding t' tray sheet')

-- Apply, with the note's round; a refused note is given back.
abbrev pub ApplyTurns : {E : Type 0} → (G : Group) → (E → G.Value) → Told → Note → List E → List E → Told → List E → List E → Result Unit Returned → Type 0
ApplyTurns G meaning t note tray sheet t' tray' sheet' r =
    Turns G meaning (holding t tray sheet) (apply note.round (length tray) (length sheet)) [] (seen_apply r) (holding t' tray' sheet')

-- Discard, whatever tray lies beside the sheet.
abbrev pub DiscardTurns : {E : Type 0} → (G : Group) → (E → G.Value) → Told → Note → List E → Told → List E → Result Discarded Returned → Type 0
DiscardTurns {E} G meaning t note sheet t' sheet' r =
    (tray : List E) → Turns G meaning (holding t tray sheet) (discard note.round (length sheet)) [] (seen_discard r) (holding t' tray sheet')

-- A note that is refused is given back as it was.
abbrev pub GivesBack : {X : Type 0} → Note → Result X Returned → Type 0
GivesBack note r = IfErr r (λ e. e.note ≡ note)

-- Read, whatever sheet lies beside the tray.
abbrev pub ReadTurns : {E : Type 0} → (G : Group) → (E → G.Value) → Told → ℕ → List E → Result (Bor (List E)) Refusal → Type 0
ReadTurns {E} G meaning t harbour tray r =
    (sheet : List E) → Turns G meaning (holding t tray sheet) (read harbour (length tray)) [] (seen_read meaning r) (holding t tray sheet)

-- What is handed out is that very part of the tray.
abbrev pub HandsOut : {E : Type 0} → Told → ℕ → List E → Result (Bor (List E)) Refusal → Type 0
HandsOut t harbour tray r = IfOk r (λ part. part.now ≡ card_in t.scheme (harbour - 1) tray)

-- Audit, whatever sheet lies beside the tray.
abbrev pub AuditTurns : {E : Type 0} → (G : Group) → (E → G.Value) → Told → List E → Result (Option ℕ) Refusal → Type 0
AuditTurns {E} G meaning t tray r =
    (sheet : List E) → Turns G meaning (holding t tray sheet) (audit (length tray)) [] (seen_audit r) (holding t tray sheet)

-- What is seen of a call, by what it answers. Assumes nothing.
use Rattle.std.specs.Prelude.{◌≡◌, ℕ, List, Option, None, Some, Result}
use Rattle.std.specs.Result.{result_map_both}
use Rattle.kinds.specs.Group.{Group}
use Rattle.trays.specs.declared.answer.Discarded.{Discarded}
use Rattle.trays.specs.declared.answer.Discarded.TheVariants as discarded
use Rattle.trays.specs.declared.refusal.Refusal.{Refusal}
use Rattle.trays.specs.Turns.{AuditTurns}
use Rattle.sharing.specs.Calls.{Told}
use Rattle.rehearsal.specs.declared.answer.Answer.{Answer}
use Rattle.rehearsal.specs.declared.answer.Answer.TheVariants.{Agrees, Differs, Stale, Wiped}

abbrev pub from_discard : Discarded → Answer
from_discard discarded.Wiped = Wiped
from_discard discarded.Stale = Stale

abbrev pub from_audit : Option ℕ → Answer
from_audit None = Agrees
from_audit (Some g) = Differs g

-- What is told is what an audit of the tray answers, and its refusal goes on as it is.
abbrev pub Audits : {E : Type 0} → (G : Group) → (E → G.Value) → Told → List E → Result Answer Refusal → Type 0
Audits G meaning t tray r = (a : Result (Option ℕ) Refusal) × AuditTurns G meaning t tray a × (r ≡ result_map_both from_audit (λ refusal. refusal) a)

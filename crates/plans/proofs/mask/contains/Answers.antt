use Rattle.std.proofs.Common.{rules}
use Rattle.plans.proofs.Halves.{member_before, member_past}
use Rattle.plans.proofs.mask.contains.Goals as goal

pub returns-then-harbour-lt1 : goal.returns-then-harbour-lt1
returns-then-harbour-lt1 c = search (rules, member_before, member_past)

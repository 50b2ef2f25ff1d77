use Rattle.trays.proofs.slips.copy.Given as goal
use Rattle.trays.proofs.Places.{Copied}

abbrev pub invariant-loop-place : goal.invariant-loop-place
invariant-loop-place g l = Copied g.E.Element.group g.E.Element.meaning l.initial.to l.initial.from l.place l.to

use Rattle.trays.proofs.slips.wipe.Given as goal
use Rattle.trays.proofs.Places.{Wiped}

abbrev pub invariant-loop-place : goal.invariant-loop-place
invariant-loop-place g l = Wiped g.E.Element.group g.E.Element.meaning l.initial.place-items l.place-index l.place-items

use Rattle.trays.proofs.slips.add.Given as goal
use Rattle.std.proofs.Common.{map}
use Rattle.trays.proofs.Places.{Added}

abbrev pub invariant-loop-place : goal.invariant-loop-place
invariant-loop-place g l = Added g.E.Element.group g.E.Element.meaning l.initial.to (map g.E.Element.meaning l.initial.from) l.place l.to

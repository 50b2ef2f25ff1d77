-- From the first turn on the place holds the picture. Assumes nothing.
use Rattle.std.proofs.Common.{◌≡◌, ◌≤◌, map}
use Rattle.sharing.specs.Format.{picture}
use Rattle.pictures.specs.Reading.{said_by}
use Rattle.picturebench.proofs.work.copied.Given as goal

abbrev pub invariant-loop-turn : goal.invariant-loop-turn
invariant-loop-turn g l = 1 ≤ l._turn → l.place ≡ picture g.C.Card.bits (said_by g.C.Card.kind l.head) (map g.C.Card.coded l.slips)

-- What holds at each turn of the loop of check_body: the codes so far are elements'. Assumes nothing.
use Rattle.pictures.specs.Reading.{Coded}
use Rattle.pictures.proofs.Tried.{Tried}
use Rattle.pictures.proofs.check.check_body.Given as goal

abbrev pub invariant-loop-slip : goal.invariant-loop-slip
invariant-loop-slip g l = Tried (Coded g.C.Card.coded) g.C.Card.bits l.slips l.body l.slip l.reader

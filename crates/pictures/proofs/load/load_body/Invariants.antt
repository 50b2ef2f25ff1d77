-- What holds at each turn of the loop of load_body: the place holds the elements of the codes so far. Assumes nothing.
use Rattle.std.proofs.Common.{length}
use Rattle.pictures.proofs.Loading.{Loading}
use Rattle.pictures.proofs.load.load_body.Given as goal

abbrev pub invariant-loop-slip : goal.invariant-loop-slip
invariant-loop-slip g l = Loading g.C.Card.coded g.C.Card.bits (length l.initial.place) l.body l.slip l.reader l.place

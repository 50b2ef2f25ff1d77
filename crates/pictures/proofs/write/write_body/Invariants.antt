-- The loop over the slips: the codes of those before are behind the writer, which writes to the body. Assumes nothing.
use Rattle.std.proofs.Common.{◌≡◌}
use Rattle.pictures.proofs.Slips.{SoFar}
use Rattle.pictures.proofs.write.write_body.Given as goal

abbrev pub invariant-loop-slip : goal.invariant-loop-slip
invariant-loop-slip g l = record { same : l.writer.body.ghost_name ≡ l.initial.writer.body.ghost_name; so_far : SoFar g.C.Card.coded g.C.Card.bits l.slips l.slip-index l.writer }

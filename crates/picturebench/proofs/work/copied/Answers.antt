-- What is written is the picture that was loaded. Assumes nothing.
use Rattle.std.proofs.Common.{sym, refl, ◌∙◌, inl, arith}
use Rattle.picturebench.proofs.work.copied.Goals as goal

pub loop-turn-preserved : goal.loop-turn-preserved
loop-turn-preserved g c = λ _. c.in-Ok-write.ensures.written.1

pub returns : goal.returns
returns g c = record { counted = inl refl; same = λ some. c.loop-turn.invariant (omega arith) ∙ sym c.in-Ok.ensures.4 }

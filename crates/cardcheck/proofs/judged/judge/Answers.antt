-- A sound picture is never written otherwise. Assumes nothing.
use Rattle.cardcheck.proofs.Again.{never_otherwise}
use Rattle.cardcheck.proofs.judged.judge.Goals as goal

pub returns-then-not-branch : goal.returns-then-not-branch
returns-then-not-branch g c =
    never_otherwise g.C.Card.coded g.C.Card.kind g.C.Card.bits c.args.picture.now c.in_ok-card.card c.in_ok-rewrites.field-0 c.in_ok-card.ensures c.in_ok-rewrites.ensures
    c.if-not-branch.true

-- What check_body leaves to show: each code is tried, and what is held at the end are the bits behind them. Assumes nothing.
use Rattle.std.proofs.Common.{arith}
use Rattle.std.proofs.lemmas.Result.{err_from_is_err_and}
use Rattle.pictures.proofs.Digits.{bytes_under}
use Rattle.pictures.proofs.Tried.{tried_filled, tried_next, tried_refused, tried_sound, tried_start}
use Rattle.pictures.proofs.check.check_body.Goals as goal

pub loop-slip-init : goal.loop-slip-init
loop-slip-init g c = tried_start c.new-reader.ensures c.width.ensures g.met.C.Card.wide (bytes_under c.args.body.now c.type_inv.body) c.requires.1

pub returns-in_err-element : goal.returns-in_err-element
returns-in_err-element g c =
    let p = err_from_is_err_and c.from_residual.result c.from_residual.ensures.1 in
    rw (p.1, p.2) (tried_refused c.loop-slip.invariant (omega arith) c.element.ensures c.in_err-element.was)

pub loop-slip-preserved : goal.loop-slip-preserved
loop-slip-preserved g c = tried_next c.loop-slip.invariant (omega arith) c.element.ensures c.in_ok-element.was

pub returns-then-held-ne0 : goal.returns-then-held-ne0
returns-then-held-ne0 g c = tried_filled c.loop-slip.invariant (omega arith) (λ e. omega arith)

pub returns : goal.returns
returns g c = tried_sound c.loop-slip.invariant (omega arith) (omega arith)

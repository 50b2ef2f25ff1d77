-- What load_body leaves to show: the elements of the codes are written one after the other. Assumes nothing.
use Rattle.std.proofs.Common.{arith}
use Rattle.std.proofs.lemmas.Result.{err_from_is_err_and}
use Rattle.pictures.proofs.Digits.{bytes_under}
use Rattle.pictures.proofs.Loading.{loading_next, loading_refused, loading_start}
use Rattle.pictures.proofs.load.load_body.Goals as goal

pub loop-slip-init : goal.loop-slip-init
loop-slip-init g c = loading_start c.new-reader.ensures c.width.ensures g.met.C.Card.wide (bytes_under c.args.body.now c.type_inv.body) c.requires.1

pub returns-in_err-element : goal.returns-in_err-element
returns-in_err-element g c =
    let p = err_from_is_err_and c.from_residual.result c.from_residual.ensures.1 in
    rw p.1 (loading_refused c.loop-slip.invariant (omega arith) c.element.ensures c.in_err-element.was)

pub loop-slip-preserved : goal.loop-slip-preserved
loop-slip-preserved g c = loading_next c.loop-slip.invariant (omega arith) c.element.ensures c.in_ok-element.was (omega arith)

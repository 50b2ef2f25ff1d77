-- What check leaves to show: the verdict on the body is that on the picture. Assumes nothing.
use Rattle.std.proofs.Common.{arith}
use Rattle.std.proofs.lemmas.Result.{err_from_is_err_and}
use Rattle.pictures.specs.Reading.{Coded}
use Rattle.pictures.proofs.Digits.{bytes_under}
use Rattle.pictures.proofs.Opening.{accepted, body_long, few_slips, opens, whole_verdict}
use Rattle.pictures.proofs.check.check.Goals as goal

pub check_body-requires : goal.check_body-requires
check_body-requires g c =
    let o = opens c.args.picture.now c.in_ok-head.head c.kind_code.ensures c.width.ensures c.in_ok-head.ensures c.card_length.ensures in
    (few_slips o, omega (arith, body_long o))

pub returns-in_err-check_body : goal.returns-in_err-check_body
returns-in_err-check_body g c =
    let p = err_from_is_err_and c.from_residual-in_err-check_body.result c.from_residual-in_err-check_body.ensures.1 in
    let o = opens c.args.picture.now c.in_ok-head.head c.kind_code.ensures c.width.ensures c.in_ok-head.ensures c.card_length.ensures in
    rw (p.1, p.2) (whole_verdict o (Coded g.C.Card.coded) c.in_err-check_body.ensures)

pub returns : goal.returns
returns g c =
    let o = opens c.args.picture.now c.in_ok-head.head c.kind_code.ensures c.width.ensures c.in_ok-head.ensures c.card_length.ensures in
    accepted o g.met.C.Card.wide.0 (bytes_under c.args.picture.now c.type_inv.picture) c.in_ok-check_body.ensures

-- What load leaves to show: the verdict on the body is that on the picture, and what load_body writes are its elements. Assumes nothing.
use Rattle.std.proofs.Common.{refl, inl, inr, arith}
use Rattle.std.proofs.lemmas.Result.{err_from_is_err_and}
use Rattle.pictures.specs.Reading.{Coded}
use Rattle.pictures.proofs.Digits.{bytes_under}
use Rattle.pictures.proofs.Opening.{body_long, faultless, few_slips, loaded, misplaced, opens, whole_verdict}
use Rattle.pictures.proofs.load.load.Goals as goal

pub check_body-requires : goal.check_body-requires
check_body-requires g c =
    let o = opens c.args.picture.now c.in_ok-head.head c.kind_code.ensures c.width.ensures c.in_ok-head.ensures c.card_length-slips.ensures in
    (few_slips o, omega (arith, body_long o))

pub returns-in_err-check_body : goal.returns-in_err-check_body
returns-in_err-check_body g c =
    let p = err_from_is_err_and c.from_residual-in_err-check_body.result c.from_residual-in_err-check_body.ensures.1 in
    let o = opens c.args.picture.now c.in_ok-head.head c.kind_code.ensures c.width.ensures c.in_ok-head.ensures c.card_length-slips.ensures in
    rw (p.1, p.2) (refl, inl (whole_verdict o (Coded g.C.Card.coded) c.in_err-check_body.ensures))

pub returns-then-place-slips : goal.returns-then-place-slips
returns-then-place-slips g c = (
  refl,
  let o = opens c.args.picture.now c.in_ok-head.head c.kind_code.ensures c.width.ensures c.in_ok-head.ensures c.card_length-slips.ensures in
      let m = misplaced o g.C.Card.coded c.args.place.now c.if-place-slips.true c.in_ok-check_body.ensures in
      inr (m.0, m.1, refl, refl),
)

pub load_body-requires : goal.load_body-requires
load_body-requires g c =
    let o = opens c.args.picture.now c.in_ok-head.head c.kind_code.ensures c.width.ensures c.in_ok-head.ensures c.card_length-slips.ensures in
    (omega (arith, few_slips o), rw c.if-place-slips.false (body_long o))

-- check_body found every code to be an element's
pub returns-in_err-load_body : goal.returns-in_err-load_body
returns-in_err-load_body g c = absurd (c.in_err-load_body.ensures (rw c.if-place-slips.false (faultless c.in_ok-check_body.ensures).0))

pub returns : goal.returns
returns g c =
    let o = opens c.args.picture.now c.in_ok-head.head c.kind_code.ensures c.width.ensures c.in_ok-head.ensures c.card_length-slips.ensures in
    loaded o g.met.C.Card.wide.0 (bytes_under c.args.picture.now c.type_inv.picture) c.args.place.now c.load_body.new.place c.if-place-slips.false c.in_ok-load_body.ensures c.in_ok-check_body.ensures

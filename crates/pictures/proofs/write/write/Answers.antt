-- What write leaves to show: the refusals in their order, and the picture: the head, and the body behind it. Assumes nothing.
use Rattle.std.proofs.Common.{◌++◌, length, ap, ◌∙◌, ap₂, arith}
use Rattle.plans.proofs.Bounds.{card_bound}
use Rattle.sharing.specs.Format.{head_bytes}
use Rattle.pictures.specs.Reading.{said_by}
use Rattle.pictures.proofs.Placing.{body_same, body_small, refuses_none}
use Rattle.pictures.proofs.write.write.Goals as goal

pub body_length-requires : goal.body_length-requires
body_length-requires g c = (omega (arith, g.met.C.Card.wide), omega (arith, card_bound c.args.head.now.plan))

pub overflow_add-body_length : goal.overflow_add-body_length
overflow_add-body_length g c =
    omega (arith, body_small c.width.result c.card_length-count.result (omega (arith, g.met.C.Card.wide)) (omega (arith, card_bound c.args.head.now.plan)))

pub write_body-requires : goal.write_body-requires
write_body-requires g c =
    let body = body_same g.C.Card.bits c.width.result c.body_length.result c.card_length-count.result (length c.args.slips.now) c.width.ensures (omega arith) c.body_length.ensures in
    (omega (arith, card_bound c.args.head.now.plan), omega (arith, c.split_at_mut-front.ensures.back_len))

pub returns-clause-written : goal.returns-clause-written
returns-clause-written g c = (
  refuses_none g.C.Card.coded g.C.Card.bits (said_by g.C.Card.kind c.args.head.now) c.args.slips.now (length c.args.place.now) c.card_length-count.result (omega arith) (omega arith) c.card_length-count.ensures c.width.result c.body_length.result c.width.ensures c.body_length.ensures (omega arith) (omega arith),
  ap₂ ◌++◌ (c.copy_from_slice.ensures.after ∙ c.head_in_bytes.ensures ∙ ap (λ kind. head_bytes (said_by kind c.args.head.now)) c.kind_code.ensures) c.write_body.ensures,
)

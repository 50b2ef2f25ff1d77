-- What was written is what is compared. Assumes nothing.
use Rattle.std.proofs.Common.{◌≡◌, map, length, vec_items, vec_len, ap, ◌∙◌, arith}
use Rattle.std.proofs.lemmas.Slice.Eq.{slice_eq-Decides}
use Rattle.std.proofs.lemmas.List.{with_items_is}
use Rattle.pictures.specs.Reading.{said_by}
use Rattle.cardcheck.proofs.Again.{decided}
use Rattle.cardcheck.proofs.judged.rewrites.Goals as goal
use Rattle.std.proofs.lemmas.Bool.Decides.{Decides-eqb}

pub returns-in-Ok : goal.returns-in-Ok
returns-in-Ok g c =
    let long : length c.write.new.place ≡ vec_len c.in_ok-place.place = omega arith in
    decided g.C.Card.bits (said_by g.C.Card.kind c.args.card.now.head) (map g.C.Card.coded (vec_items c.args.card.now.slips)) (map g.C.Card.coded c.as_slice.result.now)
    c.args.picture.now c.as_mut_slice.result.now c.write.new.place c.as_slice-in-Ok.result.now c.eq.result
    (ap (map g.C.Card.coded) c.as_slice.ensures.value) (omega (arith, c.in_ok-place.ensures.len)) c.in-Ok.ensures.written
    (c.as_slice-in-Ok.ensures.value ∙ with_items_is c.in_ok-place.place c.write.new.place long) (slice_eq-Decides Decides-eqb c.as_slice-in-Ok.result.now c.args.picture.now c.eq.result c.eq.ensures)

use Rattle.std.proofs.Common.{rules}
use Rattle.trays.proofs.Places.{wiped, wipes}
use Rattle.trays.proofs.slips.wipe.Goals as goal

pub loop-place-preserved : goal.loop-place-preserved
loop-place-preserved g c =
    wipes g.E.Element.group g.E.Element.meaning c.args.places.now c.loop-place.place-items c.loop-place.place-index c.zero.result
    c.loop-place.invariant (search rules) c.zero.ensures

pub returns : goal.returns
returns g c =
    wiped g.E.Element.group g.E.Element.meaning c.args.places.now c.loop-place.place-items c.loop-place.place-index c.loop-place.invariant (search rules)

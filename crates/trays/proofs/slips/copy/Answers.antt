use Rattle.std.proofs.Common.{rules}
use Rattle.trays.proofs.Places.{copied, copies}
use Rattle.trays.proofs.slips.copy.Goals as goal

pub loop-place-preserved : goal.loop-place-preserved
loop-place-preserved g c =
    copies g.E.Element.group g.E.Element.meaning c.args.to.now c.args.from.now c.loop-place.to c.loop-place.place c.zero-zero.result c.sum.result c.index-from-place.result
    c.loop-place.invariant c.requires (search rules) c.zero-zero.ensures c.index-from-place.is c.sum.ensures

pub returns : goal.returns
returns g c =
    copied g.E.Element.group g.E.Element.meaning c.args.to.now c.args.from.now c.loop-place.to c.loop-place.place c.loop-place.invariant c.requires (search rules)

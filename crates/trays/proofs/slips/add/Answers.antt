use Rattle.std.proofs.Common.{map, rules}
use Rattle.std.proofs.lemmas.List.{length-map}
use Rattle.trays.proofs.Places.{adds_element, all_added}
use Rattle.trays.proofs.slips.add.Goals as goal

pub loop-place-preserved : goal.loop-place-preserved
loop-place-preserved g c =
    adds_element g.E.Element.group g.E.Element.meaning c.args.to.now c.args.from.now c.loop-place.to c.loop-place.place c.sum.result c.index-to-place.result c.index-from-place.result
    c.loop-place.invariant c.requires (search rules) c.index-from-place.is (search rules)

pub returns : goal.returns
returns g c =
    all_added g.E.Element.group g.E.Element.meaning c.args.to.now c.loop-place.to (map g.E.Element.meaning c.args.from.now) c.loop-place.place
    c.loop-place.invariant (search (rules, length-map)) (search rules)

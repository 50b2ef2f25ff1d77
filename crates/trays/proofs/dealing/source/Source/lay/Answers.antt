use Rattle.std.proofs.Common.{◌≡◌, map, sym, ap, ◌∙◌, rules}
use Rattle.trays.proofs.Parts.{map_part}
use Rattle.trays.specs.Laying.{block_of}
use Rattle.trays.specs.Sources.{slips_of}
use Rattle.trays.proofs.dealing.source.Source.lay.Goals as goal

pub returns-in-Some : goal.returns-in-Some
returns-in-Some g c =
    let s = c.args.self.now in
    let own : c.part.result.now ≡ block_of s.size c.in-Some.number s.own.now = search rules in
    c.copy.ensures ∙ ap (map g.E.Element.meaning) own ∙ map_part g.E.Element.meaning s.size c.in-Some.number s.own.now
    ∙ ap (slips_of g.E.Element.group g.E.Element.meaning s) (sym c.in-Some.is)

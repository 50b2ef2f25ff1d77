use Rattle.std.proofs.Common.{w8, SFits, rules}
use Rattle.std.proofs.lemmas.Int.{to_z-of_z}
use Rattle.plans.proofs.Finding.{bit_within, find_passes, find_place}
use Rattle.plans.proofs.table.Table.find.Goals as goal

pub counted_place-requires : goal.counted_place-requires
counted_place-requires c = let placed = c.in_ok-position.ensures in search (rules, bit_within)

pub returns : goal.returns
returns c =
    let judged = c.in_ok-judge.ensures in
    let placed = c.in_ok-position.ensures in
    let fits : SFits w8 c.sign.result = search rules in
    (search (rules, find_passes), search (rules, find_place), search (rules, to_z-of_z))

use Rattle.std.proofs.Common.{◌≡◌, ◌^◌, ◌<◌, eqb, length, rules, tests}
use lib.Count.{ones}
use lib.ListN.{length-replicate}
use Rattle.std.proofs.lemmas.List.{length_push}
use Rattle.std.proofs.lemmas.Iterator.Consumers.{YieldsList-turn, YieldsList-end}
use Rattle.plans.proofs.Filling.{end_is, numbered_turn, filled_more, filled_all}
use Rattle.plans.proofs.Numbered.{numbered}
use Rattle.plans.proofs.table.make.fill_masks.Goals as goal

-- a group comes at its number, for which there is a place
turn : (c : goal.In-Some) → (c.in-Some.number ≡ length c.loop-number.yielded) × (c.in-Some.number < 252)
turn c =
    let t = YieldsList-turn
    (numbered (λ m. eqb (ones m) c.args.threshold) (2 ^ c.args.harbours) c.into_iter-number-iterator.ensures.into_iter_gives c.enumerate-number-items.ensures.source c.enumerate-number-items.ensures.count
    c.filter-groups.ensures.source (end_is c.args.harbours c.requires.few) c.filter-groups.ensures.closure (λ x r q k. search (rules, tests)))
    c.loop-number.yielded c.loop-number.number-iterator c.loop-number.yielded_by c.next.result c.next.new.self (c.in-Some.number, c.in-Some.mask) c.in-Some.is c.next.ensures.steps in
    numbered_turn c.args.harbours c.args.threshold (length c.loop-number.yielded) c.in-Some.number c.in-Some.mask c.requires.few t.0 t.1

pub offset_bounds-masks-number : goal.offset_bounds-masks-number
offset_bounds-masks-number c = search (rules, turn)

pub bounds-masks-number : goal.bounds-masks-number
bounds-masks-number c = let t = turn c in search (rules, t.1, length-replicate)

pub loop-number-preserved : goal.loop-number-preserved
loop-number-preserved c = let t = turn c in search (rules, filled_more, length_push)

pub returns : goal.returns
returns c =
    let end = YieldsList-end
    (numbered (λ m. eqb (ones m) c.args.threshold) (2 ^ c.args.harbours) c.into_iter-number-iterator.ensures.into_iter_gives c.enumerate-number-items.ensures.source c.enumerate-number-items.ensures.count
    c.filter-groups.ensures.source (end_is c.args.harbours c.requires.few) c.filter-groups.ensures.closure (λ x r q k. search (rules, tests)))
    c.loop-number.yielded _ c.loop-number.yielded_by _ _ c.in-None.is c.next.ensures.steps in
    let all = filled_all c.args.harbours c.args.threshold c.loop-number.count c.loop-number.yielded c.loop-number.masks c.requires.few (search rules) c.loop-number.invariant.0 c.loop-number.invariant.1 in
    record { count = all.0; few = all.1; listed = all.2 }

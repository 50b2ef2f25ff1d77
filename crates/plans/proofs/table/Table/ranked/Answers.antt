use Rattle.std.proofs.Common.{◌+◌, ◌∙◌, rules, tests, arith}
use Rattle.std.proofs.lemmas.Iterator.{YieldsList-from_map, serves_from_Range}
use Rattle.std.proofs.lemmas.Iterator.Adapters.{serves_from_places}
use Rattle.std.proofs.lemmas.Iterator.Consumers.{sum_by_from_yields_List, fits_by_from_yields_list}
use Rattle.plans.specs.Groups.{has, members, on_card}
use Rattle.plans.proofs.Numbered.{numbered}
use Rattle.plans.proofs.Ranks.{member_numbered, ranked_few, weighed_numbered}
use Rattle.plans.proofs.table.Table.ranked.Goals as goal

-- a bit's place and its position lie within the table
pub sum-requires-clause-can : goal.sum-requires-clause-can
sum-requires-clause-can c = (
  ((tt, tt, serves_from_Range (λ x q k. search (rules, tests)) (λ x low high. search (rules, c.args.self.now.plan.few))), tt, search rules),
  serves_from_places
      (numbered (has c.args.mask) c.args.self.now.plan.harbours c.map.ensures.source c.enumerate.ensures.source c.enumerate.ensures.count
      c.filter.ensures.source (omega arith) c.filter.ensures.closure (λ x r q k. search (rules, tests)))
      (λ x q k. search (rules, tests))
      (λ x k lt is. let there = member_numbered c.args.self.now.plan.harbours c.args.mask k x lt is in search (rules, there.0, there.1, c.args.self.now.plan.few)),
)

pub sum-requires-clause-fits : goal.sum-requires-clause-fits
sum-requires-clause-fits c =
    fits_by_from_yields_list (λ p. on_card c.args.left_out p.1 (p.0 + 1)) _ c.map.result _
    (YieldsList-from_map _ (λ p. on_card c.args.left_out p.1 (p.0 + 1))
    (numbered (has c.args.mask) c.args.self.now.plan.harbours c.map.ensures.source c.enumerate.ensures.source c.enumerate.ensures.count
    c.filter.ensures.source (omega arith) c.filter.ensures.closure (λ x r q k. search (rules, tests)))
    c.map.ensures.closure (λ x r q k. search (rules, tests)))
    (omega (arith, weighed_numbered (on_card c.args.left_out) 0 (members c.args.self.now.plan.harbours c.args.mask), ranked_few c.args.left_out c.args.self.now.plan.harbours c.args.mask c.args.self.now.plan.few))

pub returns : goal.returns
returns c =
    let value =
    sum_by_from_yields_List (λ p. on_card c.args.left_out p.1 (p.0 + 1)) _ c.map.result _ c.sum.ensures.ran
    (YieldsList-from_map _ (λ p. on_card c.args.left_out p.1 (p.0 + 1))
    (numbered (has c.args.mask) c.args.self.now.plan.harbours c.map.ensures.source c.enumerate.ensures.source c.enumerate.ensures.count
    c.filter.ensures.source (omega arith) c.filter.ensures.closure (λ x r q k. search (rules, tests)))
    c.map.ensures.closure (λ x r q k. search (rules, tests)))
    ∙ weighed_numbered (on_card c.args.left_out) 0 (members c.args.self.now.plan.harbours c.args.mask) in
    record { value = value; few = omega (arith, value, ranked_few c.args.left_out c.args.self.now.plan.harbours c.args.mask c.args.self.now.plan.few) }

use Rattle.std.proofs.Common.{◌≤◌, arith}
use Rattle.std.proofs.lemmas.Nat.{mul-le}
use Rattle.plans.proofs.Bounds.{card_bound}
use Rattle.plans.proofs.plan.Plan.cards.Goals as goal

pub overflow_mul-result : goal.overflow_mul-result
overflow_mul-result c =
    let bound : c.card_length.result ≤ 2016 = omega (arith, c.card_length.ensures, card_bound c.args.self.now) in
    record { fits = omega (arith, mul-le c.args.count c.card_length.result 10 2016 c.requires bound) }

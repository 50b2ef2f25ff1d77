-- How large the counts of a plan can be. Assumes nothing.
use Rattle.std.proofs.Common.{◌≡◌, ℕ, ◌-◌, ◌*◌, ◌≤◌, arith}
use Rattle.std.proofs.lemmas.Nat.{mul-le}
use Rattle.plans.specs.Binomial.{choose}
use Rattle.plans.specs.Shape.{shape_of, group_count, card_length}
use Rattle.plans.specs.declared.plan.Plan.{Plan}
use Rattle.plans.proofs.Choose.{choose_fits}

pub group_bound : (p : Plan) → group_count (shape_of p) ≤ 252
group_bound p = choose_fits p.harbours p.threshold p.few

pub card_bound : (p : Plan) → card_length (shape_of p) ≤ 2016
card_bound p = mul-le p.components (choose (p.harbours - 1) (p.threshold - 1)) 8 252 p.short (choose_fits (p.harbours - 1) (p.threshold - 1) (omega (arith, p.few)))

-- the places of all groups with one block each, and with up to ten
pub few_slots : (p : Plan) (n k : ℕ) → n ≡ group_count (shape_of p) → k ≡ p.components → n * k ≤ 2016
few_slots p n k counted keyed = mul-le n k 252 8 (omega (arith, counted, group_bound p)) (omega (arith, keyed, p.short))

pub few_blocks : (p : Plan) (n k b : ℕ) → n ≡ group_count (shape_of p) → k ≡ p.components → b ≤ 10 → n * k * b ≤ 20160
few_blocks p n k b counted keyed few = mul-le (n * k) b 2016 10 (few_slots p n k counted keyed) few

use Rattle.std.proofs.Common.{refl, arith}
use Rattle.plans.proofs.Bounds.{few_slots, few_blocks}
use Rattle.plans.proofs.plan.Plan.blocks.Goals as goal

pub overflow_mul-result : goal.overflow_mul-result
overflow_mul-result c = record { fits = omega (arith, few_slots c.args.self.now _ _ c.group_count.ensures.value refl) }

pub overflow_mul-result-2 : goal.overflow_mul-result-2
overflow_mul-result-2 c = record { fits = omega (arith, few_blocks c.args.self.now _ _ _ c.group_count.ensures.value refl c.requires) }

-- What the code of `row_count` leaves to show: its products are small. Assumes nothing.
use Rattle.std.proofs.Common.{arith}
use Rattle.plans.proofs.Bounds.{few_slots, few_blocks}
use Rattle.matrix.proofs.row_count.Goals as goal

pub overflow_mul-result : goal.overflow_mul-result
overflow_mul-result c = record { fits = omega (arith, few_slots c.args.plan.now _ _ c.group_count.ensures.value c.components.ensures) }

pub overflow_mul-result-2 : goal.overflow_mul-result-2
overflow_mul-result-2 c =
    record { fits = omega (arith, few_blocks c.args.plan.now _ _ c.threshold.result c.group_count.ensures.value c.components.ensures (omega (arith, c.threshold.ensures, c.args.plan.now.within, c.args.plan.now.few))) }

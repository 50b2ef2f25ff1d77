-- What the code of `column_count` leaves to show: its sum is small. Assumes nothing.
use Rattle.std.proofs.Common.{◌-◌, refl, arith}
use Rattle.plans.proofs.Bounds.{few_blocks}
use Rattle.matrix.proofs.column_count.Goals as goal

pub overflow_add-result : goal.overflow_add-result
overflow_add-result c =
    let p = c.args.plan.now in
    record { fits = omega (arith, c.components.ensures, c.random_count.ensures, p.short, few_blocks p _ _ (p.threshold - 1) refl refl (omega (arith, p.within, p.few))) }

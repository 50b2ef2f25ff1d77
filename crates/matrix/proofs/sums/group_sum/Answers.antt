-- What the loop of `group_sum` leaves to show. Assumes nothing.
use Rattle.std.proofs.Common.{◌+◌, ◌-◌, refl, ◌∙◌, arith}
use Rattle.matrix.specs.Labels.{column_named}
use Rattle.matrix.proofs.Entries.{had}
use Rattle.matrix.proofs.Restores.{sum_turn, sum_whole}
use Rattle.matrix.proofs.sums.group_sum.Goals as goal

pub overflow_add-sum : goal.overflow_add-sum
overflow_add-sum c =
    (sum_turn c.args.threshold c.loop-position.position _ c.args.group c.args.component (column_named c.args.column) c.loop-position.sum-bits c.signed-sum.result refl
    (had _ _ _ c.requires.block) (omega (arith, c.loop-position.auto.position)) c.loop-position.invariant c.signed-sum.ensures (record { sfits = c.signed-sum.type_inv })).0

pub loop-position-preserved : goal.loop-position-preserved
loop-position-preserved c =
    (sum_turn c.args.threshold c.loop-position.position (c.loop-position.position + 1 - 1) c.args.group c.args.component (column_named c.args.column) c.loop-position.sum-bits c.signed-sum.result (omega arith)
    (had _ _ _ c.requires.block) (omega (arith, c.loop-position.auto.position)) c.loop-position.invariant c.signed-sum.ensures (record { sfits = c.signed-sum.type_inv })).1

pub returns-2 : goal.returns-2
returns-2 c =
    let whole =
    (sum_turn c.args.threshold c.loop-position.position c.args.threshold c.args.group c.args.component (column_named c.args.column) c.loop-position.sum-bits c.signed-sum.result (omega arith)
    (had _ _ _ c.requires.block) (omega (arith, c.loop-position.auto.position)) c.loop-position.invariant c.signed-sum.ensures (record { sfits = c.signed-sum.type_inv })).1 in
    record { value = whole; restores = whole ∙ sum_whole c.args.threshold c.args.group c.args.component (column_named c.args.column) (had _ _ _ c.requires.block) c.requires.some }

use Rattle.plans.proofs.Places.{cards_are_long, one_slip_a_place}
use Rattle.plans.proofs.plan.Plan.tray_length.Goals as goal

pub returns-clause-long : goal.returns-clause-long
returns-clause-long c = cards_are_long

pub returns-clause-once : goal.returns-clause-once
returns-clause-once c = one_slip_a_place

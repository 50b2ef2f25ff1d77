use Rattle.plans.proofs.Choose.{chooses_by_rule}
use Rattle.plans.proofs.Finding.{counted}
use Rattle.plans.proofs.plan.Plan.group_count.Goals as goal

pub returns-clause-counted : goal.returns-clause-counted
returns-clause-counted c = (counted, chooses_by_rule)

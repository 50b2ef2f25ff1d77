use Rattle.plans.proofs.Finding.{undoes}
use Rattle.plans.proofs.table.Table.masks.Goals as goal

pub returns-clause-undoes : goal.returns-clause-undoes
returns-clause-undoes c = undoes

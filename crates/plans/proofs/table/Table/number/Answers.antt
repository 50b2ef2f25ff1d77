use Rattle.std.proofs.Common.{rules}
use Rattle.plans.proofs.Ranks.{rank_on_none}
use Rattle.plans.proofs.table.Table.number.Goals as goal

pub returns : goal.returns
returns c = search (rules, rank_on_none)

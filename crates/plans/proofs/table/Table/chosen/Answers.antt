use Rattle.std.proofs.Common.{◌<◌, arith}
use Rattle.plans.proofs.Choose.{choose_fits}
use Rattle.plans.proofs.table.Table.chosen.Goals as goal

pub returns-clause-few : goal.returns-clause-few
returns-clause-few c =
    let column : c.args.r < 11 = omega (arith, c.requires.column) in
    omega (arith, c.args.self.now.chosen c.args.n c.requires.row c.args.r column, choose_fits c.args.n c.args.r (omega (arith, c.requires.row, c.args.self.now.plan.few)))

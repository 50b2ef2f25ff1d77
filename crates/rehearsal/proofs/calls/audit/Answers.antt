use Rattle.std.proofs.Common.{rules}
use Rattle.rehearsal.proofs.Audited.{goes_on}
use Rattle.rehearsal.proofs.calls.audit.Goals as goal

pub returns : goal.returns
returns g c =
    let told = goes_on c.audit.result c.map.result _ (λ x y made. search rules) c.map.ensures.cases in
    (c.audit.result, c.audit.ensures, search (rules, told))

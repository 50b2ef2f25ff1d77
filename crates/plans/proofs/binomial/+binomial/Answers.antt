use Rattle.std.proofs.Common.{sym, ap, ◌∙◌, ⊎_elim, arith, rules}
use Rattle.plans.specs.Binomial.{choose}
use Rattle.plans.proofs.Choose.{choose_none, choose_all, choose_past, choose_step, choose_fits}
use Rattle.plans.proofs.binomial.+binomial.Goals as goal

pub returns-then-r-eq0-clause-value : goal.returns-then-r-eq0-clause-value
returns-then-r-eq0-clause-value t c =
    ⊎_elim (λ e. sym (ap (choose c.args.n) e ∙ choose_none c.args.n))
    (λ h. sym (ap (choose c.args.n) h.1 ∙ choose_all c.args.n)) c.then-r-eq0.either

pub returns-then-r-n-2-clause-value : goal.returns-then-r-n-2-clause-value
returns-then-r-n-2-clause-value t c = sym (choose_past c.args.n c.args.r (search rules))

pub returns-clause-few : goal.returns-clause-few
returns-clause-few t c = omega (arith, choose_step c.args.n c.args.r (omega arith) (omega arith), choose_fits c.args.n c.args.r c.requires)

use Rattle.plans.proofs.binomial.+binomial.Given as goal

abbrev pub decreases-binomial : goal.decreases-binomial
decreases-binomial l = l.n

-- The three words are numbers, or one of them is none. Assumes nothing.
use Rattle.std.proofs.Common.{rules}
use Rattle.planner.proofs.Asking.{asks, muddled}
use Rattle.planner.proofs.request.Request.read.Goals as goal

pub returns-in_err-number : goal.returns-in_err-number
returns-in_err-number c =
    rw c.from_residual-in_err-number.ensures (muddled c.in_ok-first.ensures (λ h. c.in_err-number.ensures (search rules)))

pub returns-in_err-number-2 : goal.returns-in_err-number-2
returns-in_err-number-2 c =
    rw c.from_residual-in_err-number-2.ensures (muddled c.in_ok-first.ensures (λ h. c.in_err-number-2.ensures (search rules)))

pub returns-in_err-number-3 : goal.returns-in_err-number-3
returns-in_err-number-3 c =
    rw c.from_residual-in_err-number-3.ensures (muddled c.in_ok-first.ensures (λ h. c.in_err-number-3.ensures (search rules)))

pub returns : goal.returns
returns c = search (rules, asks)

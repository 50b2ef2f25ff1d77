-- What is answered so far, and what is left. Assumes nothing.
use Rattle.std.proofs.Common.{◌≡◌, ℕ, List, Some}
use Rattle.lines.specs.Lines.{Shown}
use Rattle.lines.proofs.Going.{Going}
use Rattle.lines.proofs.answer_text.Given as goal

abbrev pub invariant-loop-number : goal.invariant-loop-number
invariant-loop-number g l =
    goal.F-IsAlwaysCallable g l.answer × (goal.iterator-loop-number g).can_next l.number-iterator × (goal.iterator-loop-number g).is_finite l.number-iterator
    × ((text : List ℕ) → g.B.Read.remaining l.fn.text ≡ Some text → Going (Shown (goal.F-step g)) g.B.Read.remaining text l.fn.answer l.number-iterator l.answer)

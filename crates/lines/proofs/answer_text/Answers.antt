-- Each turn of the loop is a line's. Assumes nothing.
use Rattle.std.proofs.Common.{rules, of_calls, inl, inr}
use Rattle.std.specs.String.{string_bytes}
use Rattle.lines.specs.Lines.{AnswersText, Shown}
use Rattle.lines.proofs.Counting.{counts_on}
use Rattle.lines.proofs.Going.{begun, done, read, where_known}
use Rattle.lines.proofs.answer_text.Goals as goal
use Rattle.lines.proofs.answer_text.Goals.{then-not-is_passed_over+in_ok-answer, else-not-is_passed_over}

pub loop-number-init : goal.loop-number-init
loop-number-init g c =
    (search rules, search rules, search rules, λ text known. begun _ _ text c.args.answer c.into_iter-number-iterator.result (search rules) (search rules) (search rules) (search rules) (search rules))

pub loop-number-preserved : goal.loop-number-preserved
loop-number-preserved g c = (
  elim c.if-not-is_passed_over.branch [ then-not-is_passed_over+in_ok-answer w ↦ search (rules, of_calls) | else-not-is_passed_over w ↦ search (rules, of_calls) ],
  search rules,
  search rules,
  λ text known.
      read (Shown (goal.F-step g)) g.B.Read.remaining text c.args.answer string_bytes c.loop-number.number-iterator c.next.new.self c.in-Some.number c.in-Some.line c.in_ok-line.line c.loop-number.answer c.if-not-is_passed_over.answer
      (search rules) (search rules) (c.loop-number.invariant.3 text known) c.in-Some.ensures.steps.0 c.in-Some.ensures.steps.1.1
      (elim c.if-not-is_passed_over.branch [
        | then-not-is_passed_over+in_ok-answer w ↦ inr (search rules, (w.as_str-then-not-is_passed_over.result, search rules, search rules))
        | else-not-is_passed_over w ↦ inl (search rules, search rules)
      ]),
)

pub returns : goal.returns
returns g c =
    where_known (g.B.Read.remaining c.args.text) (λ text. AnswersText (Shown (goal.F-step g)) c.args.answer text) (λ text known.
    let going = c.loop-number.invariant.3 text known in
    elim c.in-None.ensures.steps [
      | inl u ↦ absurd (counts_on going.before _ u.0 going.behind u.1)
      | inr u ↦ done (Shown (goal.F-step g)) g.B.Read.remaining text c.args.answer c.loop-number.number-iterator c.loop-number.answer going u.1.1
    ])

-- What is told of an audit is what it answers. Assumes nothing.
use Rattle.std.proofs.Common.{◌≡◌, ℕ, ap, Option, Ok, Err, Result, MatchResult}
use Rattle.std.specs.Result.{IsOkAnd, result_map_both}
use Rattle.trays.specs.declared.refusal.Refusal.{Refusal}
use Rattle.rehearsal.specs.Answers.{from_audit}
use Rattle.rehearsal.specs.declared.answer.Answer.{Answer}

pub goes_on : (a : Result (Option ℕ) Refusal) (r : Result Answer Refusal) (made : Option ℕ → Answer → Type 0) → ((x : Option ℕ) (y : Answer) → made x y → y ≡ from_audit x)
    → MatchResult a (λ x. IsOkAnd r (made x)) (λ e. r ≡ Err e) → r ≡ result_map_both from_audit (λ e. e) a
goes_on (Ok x) (Ok y) made is m = ap Ok (is x y m)
goes_on (Ok x) (Err e) made is m = absurd m
goes_on (Err e) r made is m = m

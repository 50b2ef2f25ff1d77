-- Numbers from 1 on, which stay at the top. Assumes nothing.
use Rattle.std.proofs.Common.{◌≡◌, ℕ, ◌+◌, ◌-◌, ◌^◌, ◌<◌, ◌≤◌, true, false, Option, Some, None, MatchOption, arith}
use Rattle.std.specs.declared.iter.Chain.{Chain}
use Rattle.std.specs.declared.iter.Repeat.{Repeat}
use Rattle.std.specs.declared.ops.RangeFrom.{RangeFrom}
use Rattle.std.specs.Iterator.Adapters.{chain_first, chain_first_done, chain_second, chain_second_done, chain_steps, repeat_item, repeat_steps}
use Rattle.std.proofs.lemmas.Bool.Decides.{nat_tests}
use Rattle.lines.specs.Lines.{number_behind}

abbrev pub rises : RangeFrom ℕ → Option ℕ → RangeFrom ℕ → Type 0
rises s r t = MatchOption r ((18446744073709551615 - s.start ≡ 0) × (t ≡ s)) (λ x. (x ≡ s.start) × (t.start ≡ x + 1))

abbrev pub stays : Repeat ℕ → Option ℕ → Repeat ℕ → Type 0
stays = repeat_steps (λ x y. y ≡ x)

-- What is left to count, behind a number.
pub record Behind (before : ℕ) (s : Chain (RangeFrom ℕ) (Repeat ℕ)) : Type 0 where
  pub low : before ≤ 18446744073709551615
  pub top : repeat_item (chain_second s) ≡ 18446744073709551615
  pub open_still : chain_second_done s ≡ false
  pub rising : chain_first_done s ≡ false → (chain_first s).start ≡ before + 1
  pub risen : chain_first_done s ≡ true → before ≡ 18446744073709551615

module _ (before x : ℕ) (s t : Chain (RangeFrom ℕ) (Repeat ℕ)) (fits : x < 2 ^ 64) (b : Behind before s) where
  pub counted : chain_steps rises stays s (Some x) t → (x ≡ number_behind before) × Behind x t
  counted step = grind (arith, nat_tests)

-- There is always a number.
pub counts_on : (before : ℕ) (s t : Chain (RangeFrom ℕ) (Repeat ℕ)) → Behind before s → chain_steps rises stays s None t → ⊥
counts_on before s t b step = grind (arith, nat_tests)

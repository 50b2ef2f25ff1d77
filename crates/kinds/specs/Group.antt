-- What a kind of element stands for: a commutative group. Assumes nothing.
use Rattle.std.specs.Prelude.{◌≡◌}

-- The values, zero, the sum and the opposite, with the four laws that make them a commutative group.
pub record Group : Type 1 where
  pub Value : Type 0
  pub nil : Value
  pub plus : Value → Value → Value
  pub minus : Value → Value
  pub assoc : (a b c : Value) → plus (plus a b) c ≡ plus a (plus b c)
  pub comm : (a b : Value) → plus a b ≡ plus b a
  pub unit : (a : Value) → plus a nil ≡ a
  pub undone : (a : Value) → plus a (minus a) ≡ nil

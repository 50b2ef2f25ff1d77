-- What a line of three words asks for. Assumes nothing.
use Rattle.std.proofs.Common.{◌≡◌, ℕ, List, [], ◌∷◌, inr}
use Rattle.planner.specs.Lines.{Asks, IsNumber, Unclear, Words, written}

module _ {line first second third : List ℕ} (three : Words line (first ∷ second ∷ third ∷ [])) where
  -- where not all are numbers, it asks for no plan
  pub muddled : (IsNumber first × IsNumber second × IsNumber third → ⊥) → Unclear line
  muddled not_all = inr (record { first = first; second = second; third = third; three = three; not_all = not_all })

  -- where all are, it asks for their plan
  pub asks : {harbours threshold components : ℕ} → IsNumber first × (harbours ≡ written first) → IsNumber second × (threshold ≡ written second)
      → IsNumber third × (components ≡ written third) → Asks line (record { harbours = harbours; threshold = threshold; components = components })
  asks a b c =
      record { first = first; second = second; third = third; three = three; numbers = (a.0, b.0, c.0); harbours = a.1; threshold = b.1; components = c.1 }

-- The shift is one of elements: it is made from the difference's elements by zero, sum and opposite. Assumes nothing.
use Rattle.std.specs.Prelude.{◌≡◌, ℕ, List}
use Rattle.sharing.specs.Calls.{Turn}
use Rattle.sharing.specs.Dealing.{Scheme}
use Rattle.sharing.specs.Secrecy.{deal_shift, draw_shift}
use Rattle.sharing.specs.Steps.{Kind, values}

-- Zero, sum and opposite of elements, which mean the group's.
pub record Makes {E : Type 0} (K : Kind E) : Type 0 where
  pub zero : E
  pub sum : E → E → E
  pub opposite : E → E
  pub zero_means : K.meaning zero ≡ K.group.nil
  pub sum_means : (a b : E) → K.meaning (sum a b) ≡ K.group.plus (K.meaning a) (K.meaning b)
  pub opposite_means : (a : E) → K.meaning (opposite a) ≡ K.group.minus (K.meaning a)

-- For a difference of elements there are elements that mean its shift.
abbrev pub ShiftIsOfElements : {E : Type 0} → Kind E → Type 0
ShiftIsOfElements {E} K =
    Makes K → (scheme : Scheme) (issue : ℕ) (turns : List Turn) (d : List E)
    → ((xs : List E) × (values K xs ≡ deal_shift K.group K.width scheme issue turns (values K d)))
    × ((ys : List E) × (values K ys ≡ draw_shift K.group K.width scheme issue turns (values K d)))

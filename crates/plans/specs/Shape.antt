-- What a plan comes to: its three numbers, its groups, and how much of everything there is. Assumes nothing.
use Rattle.std.specs.Prelude.{ℕ, ◌-◌, ◌*◌, List}
use Rattle.plans.specs.Binomial.{choose}
use Rattle.plans.specs.Groups.{groups}
use Rattle.plans.specs.declared.plan.Plan.{Plan}

-- The three numbers of a plan: harbours T, threshold t, and components k of the key.
pub record Shape : Type 0 where
  pub harbours : ℕ
  pub threshold : ℕ
  pub components : ℕ

abbrev pub shape_of : Plan → Shape
shape_of p = record { harbours = p.harbours; threshold = p.threshold; components = p.components }

-- The groups of a plan, as masks by their number.
abbrev pub masks_of : Shape → List ℕ
masks_of s = groups s.harbours s.threshold

-- N, the number of groups.
abbrev pub group_count : Shape → ℕ
group_count s = choose s.harbours s.threshold

-- L, the number of slips on a card.
abbrev pub card_length : Shape → ℕ
card_length s = s.components * choose (s.harbours - 1) (s.threshold - 1)

-- The number of slips in the tray.
abbrev pub tray_length : Shape → ℕ
tray_length s = s.harbours * card_length s

-- The number of random elements that a dealing takes.
abbrev pub random_count : Shape → ℕ
random_count s = group_count s * s.components * (s.threshold - 1)

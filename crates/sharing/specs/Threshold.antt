-- Secrecy for threshold plans: fewer than t harbours in each round. Assumes nothing.
use Rattle.std.specs.Prelude.{◌≡◌, ℕ, ◌<◌, true, List, length, filter}
use Rattle.std.specs.List.{range_with_len}
use Rattle.plans.specs.Shape.{shape_of, masks_of}
use Rattle.plans.specs.declared.plan.Plan.{Plan}
use Rattle.sharing.specs.Calls.{Turn}
use Rattle.sharing.specs.Cover.{Readers}
use Rattle.sharing.specs.Dealing.{Scheme}
use Rattle.sharing.specs.Secrecy.{Agrees, ask_pictures, read_in, LooksTheSame}
use Rattle.sharing.specs.Steps.{Kind}

-- A plan's groups, all masks of t harbours, as a list of groups.
abbrev pub scheme_of : Plan → Scheme
scheme_of p = record { masks = masks_of (shape_of p); harbours = p.harbours; components = p.components; threshold = p.threshold }

-- How many of so many harbours are read.
abbrev pub read_count : ℕ → Readers → ℕ
read_count n by = length (filter by (range_with_len 0 n))

-- Secrecy of plans: where fewer than t harbours are read in each round, the two runs look the same.
abbrev pub SecrecyOfPlans : {E : Type 0} → Kind E → Type 0
SecrecyOfPlans K =
    (p : Plan) (issue : ℕ) (turns : List Turn) (d : List K.group.Value) → length d ≡ p.components
    → ((round : ℕ) → read_count p.harbours (read_in K.width (scheme_of p) issue turns round) < p.threshold)
    → LooksTheSame K (scheme_of p) issue turns d

-- The same, where code and meaning have to agree only if pictures are asked for.
abbrev pub SecrecyOfPlansAsAsked : {E : Type 0} → Kind E → Type 0
SecrecyOfPlansAsAsked K =
    (p : Plan) (issue : ℕ) (turns : List Turn) (d : List K.group.Value) → length d ≡ p.components → (ask_pictures turns ≡ true → Agrees K)
    → ((round : ℕ) → read_count p.harbours (read_in K.width (scheme_of p) issue turns round) < p.threshold)
    → LooksTheSame K (scheme_of p) issue turns d

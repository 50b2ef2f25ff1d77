-- Worked cases of the definitions, gathered in one statement. Assumes nothing.
use Rattle.std.specs.Prelude.{◌≡◌, ℕ, List, [], ◌∷◌, map, slice_index}
use Rattle.plans.specs.Groups.{groups, members, rank}
use Rattle.matrix.specs.Matrix.{rows, columns, entry}

-- The matrix of a list of groups, as rows of numbers.
abbrev pub matrix : List ℕ → ℕ → List (List ℕ)
matrix masks k = map (λ r. map (entry masks r) (columns masks k)) (rows masks k)

-- Two of four: six masks, and mask 10 is number 4.
abbrev pub TwoOfFour : Type 0
TwoOfFour = (groups 4 2 ≡ 3 ∷ 5 ∷ 6 ∷ 9 ∷ 10 ∷ 12 ∷ []) × (slice_index (groups 4 2) 4 ≡ 10) × (rank (members 4 10) ≡ 4)

-- Five of ten: mask 992 is number 251, the last.
abbrev pub FiveOfTen : Type 0
FiveOfTen = (slice_index (groups 10 5) 251 ≡ 992) × (rank (members 10 992) ≡ 251)

-- Two of two with a key of two components: the whole matrix.
abbrev pub TwoOfTwo : Type 0
TwoOfTwo = matrix (groups 2 2) 2 ≡ (1 ∷ 0 ∷ 1 ∷ 0 ∷ []) ∷ (0 ∷ 1 ∷ 0 ∷ 1 ∷ []) ∷ (0 ∷ 0 ∷ 1 ∷ 0 ∷ []) ∷ (0 ∷ 0 ∷ 0 ∷ 1 ∷ []) ∷ []

-- All the worked cases together.
abbrev pub Worked : Type 0
Worked = TwoOfFour × FiveOfTen × TwoOfTwo

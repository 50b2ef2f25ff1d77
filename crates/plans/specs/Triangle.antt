-- The binomial counts that a table keeps. Assumes nothing.
use Rattle.std.specs.Prelude.{◌≡◌, ℕ, ◌<◌, List, [], slice_index, slice_index_or}
use Rattle.plans.specs.Binomial.{choose}

-- Row n of the triangle, with so many places: at place r stands C(n, r).
abbrev pub IsRow : ℕ → ℕ → List ℕ → Type 0
IsRow places n counts = (r : ℕ) → r < places → slice_index counts r ≡ choose n r

-- The first rows of the triangle, with so many places each.
abbrev pub IsTriangle : ℕ → ℕ → List (List ℕ) → Type 0
IsTriangle rows places counts = (n : ℕ) → n < rows → IsRow places n (slice_index_or counts n [])

-- What a line of the input gives. Assumes nothing.
use Rattle.std.specs.Prelude.{ℕ, ◌+◌, ◌-◌, ◌*◌, Bool, cond, ◌&&◌, List, [], ◌∷◌, length, Some, None, Option, ◌==◌, nat_le, slice_index}

abbrev pub between : ℕ → ℕ → ℕ → Bool
between low high n = nat_le low n && nat_le n high

-- The value of a letter as a hexadecimal digit: 0 to 9, A to F, a to f.
abbrev pub value_of : ℕ → Option ℕ
value_of c = cond (between 48 57 c) (Some (c - 48)) (cond (between 65 70 c) (Some (c - 55)) (cond (between 97 102 c) (Some (c - 87)) None))

-- A byte by its two digits, in front of the bytes behind it.
abbrev pub joined : Option ℕ → Option ℕ → Option (List ℕ) → Option (List ℕ)
joined (Some high) (Some low) (Some rest) = Some ((high * 16 + low) ∷ rest)
joined (Some high) (Some low) None = None
joined (Some high) None rest = None
joined None low rest = None

-- The bytes that a text writes: two digits each, and spaces before and behind them.
abbrev pub bytes_by : List ℕ → Option (List ℕ)
bytes_by [] = Some []
bytes_by (c ∷ []) = cond (c == 32) (Some []) None
bytes_by (c ∷ (d ∷ rest)) = cond (c == 32) (bytes_by (d ∷ rest)) (joined (value_of c) (value_of d) (bytes_by rest))

-- A line is a dash alone.
abbrev pub dash : List ℕ → Bool
dash line = length line == 1 && slice_index line 0 == 45

-- The bytes of a line, where a dash alone stands for none.
abbrev pub bytes_in : List ℕ → Option (List ℕ)
bytes_in line = cond (dash line) (Some []) (bytes_by line)

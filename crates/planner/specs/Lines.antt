-- What a line of the input asks for. Assumes nothing.
use Rattle.std.specs.Prelude.{◌≡◌, ℕ, ◌^◌, ◌<◌, ◌⊎◌, List, [], ◌∷◌, ◌++◌, length}
use Rattle.std.specs.Str.Parse.{IsNumeral, without_leading_plus, digits_value}
use Rattle.std.specs.Char.{is_whitespace, is_not_whitespace}
use Rattle.std.specs.Str.{NoCharPasses, EmptyOrStartsWithPassing}
use Rattle.planner.specs.declared.request.Request.{Request}

-- A text is white space, a word, and a rest that is empty or begins with white space.
pub record First (text word rest : List ℕ) : Type 0 where
  pub gap : List ℕ
  pub cut : text ≡ gap ++ (word ++ rest)
  pub some : 0 < length word
  pub blank : NoCharPasses is_not_whitespace gap
  pub solid : NoCharPasses is_whitespace word
  pub ends : (more : List ℕ) × EmptyOrStartsWithPassing is_whitespace rest more

-- A text begins with these words, and then there is a rest.
abbrev pub Begins : List ℕ → List (List ℕ) → List ℕ → Type 0
Begins text [] rest = text ≡ rest
Begins text (w ∷ ws) rest = (after : List ℕ) × First text w after × Begins after ws rest

-- These are the words of a text: it begins with them, and then there is only white space.
abbrev pub Words : List ℕ → List (List ℕ) → Type 0
Words text ws = (rest : List ℕ) × Begins text ws rest × NoCharPasses is_not_whitespace rest

-- A text has fewer words than three.
abbrev pub Fewer : List ℕ → Type 0
Fewer text = (ws : List (List ℕ)) × Words text ws × (length ws < 3)

-- A text has more words than three.
abbrev pub More : List ℕ → Type 0
More text = (a b c d rest : List ℕ) × Begins text (a ∷ b ∷ c ∷ d ∷ []) rest

-- A word is a number of 64 bits: decimal digits, with a plus before them or not.
abbrev pub IsNumber : List ℕ → Type 0
IsNumber word = IsNumeral 10 (without_leading_plus word) × (digits_value 10 (without_leading_plus word) < 2 ^ 64)

-- The number that a word writes.
abbrev pub written : List ℕ → ℕ
written word = digits_value 10 (without_leading_plus word)

-- A line asks for a plan: its words are three numbers, the harbours, the threshold and the components.
pub record Asks (line : List ℕ) (q : Request) : Type 0 where
  pub first : List ℕ
  pub second : List ℕ
  pub third : List ℕ
  pub three : Words line (first ∷ second ∷ third ∷ [])
  pub numbers : IsNumber first × IsNumber second × IsNumber third
  pub harbours : q.harbours ≡ written first
  pub threshold : q.threshold ≡ written second
  pub components : q.components ≡ written third

-- The words of a line are three, and not all are numbers.
pub record Muddled (line : List ℕ) : Type 0 where
  pub first : List ℕ
  pub second : List ℕ
  pub third : List ℕ
  pub three : Words line (first ∷ second ∷ third ∷ [])
  pub not_all : IsNumber first × IsNumber second × IsNumber third → ⊥

-- A line asks for no plan.
abbrev pub Unclear : List ℕ → Type 0
Unclear line = (Fewer line ⊎ More line) ⊎ Muddled line

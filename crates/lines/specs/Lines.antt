-- Which lines of the input are answered, and with which numbers. Assumes nothing.
use Rattle.std.specs.Prelude.{◌≡◌, ℕ, ◌+◌, ◌^◌, ◌-◌, ◌<◌, Bool, true, false, cond, ◌||◌, ◌⊎◌, List, [], ◌∷◌, length, ◌==◌, nat_lt, slice_index, Ok, Result}
use Rattle.std.specs.Borrow.{Bor}
use Rattle.std.specs.Io.BufRead.{drop_through, first_line}

-- A line is passed over where it is empty or begins with #.
abbrev pub passed_over : List ℕ → Bool
passed_over line = length line == 0 || slice_index line 0 == 35

-- These are the lines of a text.
abbrev pub LinesOf : List ℕ → List (List ℕ) → Type 0
LinesOf text [] = text ≡ []
LinesOf text (line ∷ lines) = (0 < length text) × (line ≡ first_line text) × LinesOf (drop_through 10 text) lines

-- The number behind another: the next one, or the same at the top.
abbrev pub number_behind : ℕ → ℕ
number_behind n = cond (nat_lt n (2 ^ 64 - 1)) (n + 1) n

-- A line is shown to the caller under a number, and the caller is content.
abbrev pub Shown : {F E : Type 0} → (F → ℕ → Bor (List ℕ) → Result (Unit {0}) E → F → Type 0) → F → ℕ → List ℕ → F → Type 0
Shown step f n line g = (shown : Bor (List ℕ)) × (shown.now ≡ line) × step f n shown (Ok tt) g

module _ {F : Type 0} (answered : F → ℕ → List ℕ → F → Type 0) where
  -- A line is passed over, and nothing is done; or it is answered under its number.
  abbrev pub Turn : F → ℕ → List ℕ → F → Type 0
  Turn f n line g = ((passed_over line ≡ true) × (g ≡ f)) ⊎ ((passed_over line ≡ false) × answered f n line g)

  -- Each line has its turn, in order, the first under the number behind this one.
  abbrev pub Turns : F → ℕ → List (List ℕ) → F → Type 0
  Turns f n [] g = f ≡ g
  Turns f n (line ∷ lines) g = (h : F) × Turn f (number_behind n) line h × Turns h (number_behind n) lines g

  -- Each line of a text has its turn, in order, the first under 1.
  pub record AnswersText (f : F) (text : List ℕ) : Type 0 where
    pub lines : List (List ℕ)
    pub cut : LinesOf text lines
    pub last : F
    pub turns : Turns f 0 lines last

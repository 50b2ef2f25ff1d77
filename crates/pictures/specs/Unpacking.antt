-- What a reader of codes has before it at a moment, and what it reads. Assumes nothing.
use Rattle.std.specs.Prelude.{◌≡◌, ℕ, ◌+◌, ◌-◌, ◌*◌, ◌/◌, ◌%◌, ◌^◌, ◌<◌, ◌≤◌, List, length, Result, MatchResult}
use Rattle.std.specs.Int.Digits.{AllBelowBase, number_from_digits}
use Rattle.pictures.specs.Faults.{number_of, slip_of}
use Rattle.pictures.specs.Reading.{Coded}
use Rattle.pictures.specs.declared.fault.CardFault.{CardFault}
use Rattle.pictures.specs.declared.reader.BitReader.{BitReader}

-- How many bits of the body are still to be used.
abbrev pub bits_left : BitReader → ℕ
bits_left r = r.bits + 8 * length r.rest.now

-- The number that those bits make.
abbrev pub left : BitReader → ℕ
left r = r.held * 256 ^ length r.rest.now + number_from_digits 256 r.rest.now

-- A reader of codes of so many bits that has read nothing of a body.
pub record NothingRead (width : ℕ) (body : List ℕ) (r : BitReader) : Type 0 where
  pub whole : r.rest.now ≡ body
  pub told : r.width ≡ width
  pub none : (r.held ≡ 0) × (r.bits ≡ 0)

-- A reader between two codes. What it has still to read are bytes.
pub record BetweenCodes (r : BitReader) : Type 0 where
  pub wide : (1 ≤ r.width) × (r.width ≤ 32)
  pub few : r.bits < 32
  pub small : r.held < 2 ^ r.bits
  pub bytes : AllBelowBase 256 r.rest.now

-- A byte or four read on for a code: nothing of what is left has changed.
pub record ReadOn (r next : BitReader) : Type 0 where
  pub number : left next ≡ left r
  pub bits : bits_left next ≡ bits_left r
  pub width : next.width ≡ r.width
  pub more : r.bits + 8 ≤ next.bits
  pub few : next.bits ≤ r.bits + 32
  pub small : next.held < 2 ^ next.bits
  pub bytes : AllBelowBase 256 next.rest.now

-- A code taken off the top of what is left.
pub record NextRead (r : BitReader) (code : ℕ) (next : BitReader) : Type 0 where
  pub top : code ≡ left r / 2 ^ (bits_left r - r.width)
  pub rest : left next ≡ left r % 2 ^ (bits_left r - r.width)
  pub fewer : bits_left next + r.width ≡ bits_left r
  pub width : next.width ≡ r.width
  pub between : BetweenCodes next

-- The element of the next code, or, where the code is no element's, the fault at this slip.
pub record ElementRead {C : Type 0} (coded : C → ℕ) (slip : ℕ) (r : BitReader) (answer : Result C CardFault) (next : BitReader) : Type 0 where
  pub code : ℕ
  pub read : NextRead r code next
  pub told : MatchResult answer (λ e. coded e ≡ code) (λ f. (number_of f ≡ 25) × (slip_of f ≡ slip) × (Coded coded code → ⊥))

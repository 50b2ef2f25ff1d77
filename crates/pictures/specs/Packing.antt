-- What a writer of codes has behind it at a moment, and what it writes. Assumes nothing.
use Rattle.std.specs.Prelude.{◌≡◌, ℕ, ◌+◌, ◌*◌, ◌^◌, ◌<◌, ◌≤◌, List, length, take}
use Rattle.std.specs.Int.Digits.{AllBelowBase, number_from_digits}
use Rattle.pictures.specs.declared.writer.BitWriter.{BitWriter}

-- How many bits were written, those that are held among them.
abbrev pub bits_made : BitWriter → ℕ
bits_made w = 8 * w.at + w.bits

-- The number that those bits make.
abbrev pub made : BitWriter → ℕ
made w = number_from_digits 256 (take w.at w.body.now) * 2 ^ w.bits + w.held

-- A writer of codes of so many bits that has written nothing to a body.
pub record NothingWritten (width : ℕ) (body : List ℕ) (w : BitWriter) : Type 0 where
  pub whole : w.body.now ≡ body
  pub told : w.width ≡ width
  pub none : (w.at ≡ 0) × (w.held ≡ 0) × (w.bits ≡ 0)

-- A writer between two codes. What it has written are bytes.
pub record HasRoom (w : BitWriter) : Type 0 where
  pub few : w.bits < 32
  pub small : w.held < 2 ^ w.bits
  pub inside : w.at ≤ length w.body.now
  pub written : AllBelowBase 256 (take w.at w.body.now)

-- A writer that holds so many bytes, and few bits behind them. What it has written are bytes.
pub record CanGive (bytes : ℕ) (w : BitWriter) : Type 0 where
  pub many : 8 * bytes ≤ w.bits
  pub few : w.bits < 8 * bytes + 32
  pub small : w.held < 2 ^ w.bits
  pub fits : bits_made w ≤ 8 * length w.body.now
  pub written : AllBelowBase 256 (take w.at w.body.now)

-- Bytes of what is held put out: nothing of what was made has changed.
pub record Gave (w next : BitWriter) : Type 0 where
  pub number : made next ≡ made w
  pub bits : bits_made next ≡ bits_made w
  pub width : next.width ≡ w.width
  pub room : HasRoom next
  pub long : length next.body.now ≡ length w.body.now

-- A code written behind what was made.
pub record Pushed (w next : BitWriter) (code : ℕ) : Type 0 where
  pub number : made next ≡ made w * 2 ^ w.width + code
  pub bits : bits_made next ≡ bits_made w + w.width
  pub width : next.width ≡ w.width
  pub room : HasRoom next
  pub long : length next.body.now ≡ length w.body.now

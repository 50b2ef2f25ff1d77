-- How many codes and how many bits a body has. Assumes nothing.
use Rattle.std.proofs.Common.{◌≡◌, ℕ, ◌+◌, ◌*◌, ◌/◌, ◌^◌, ◌<◌, List, length, arith}
use Rattle.std.specs.Int.Digits.{number_from_digits}
use Rattle.sharing.specs.Format.{body_length, filling}
use Rattle.pictures.specs.Reading.{codes_of}
use Rattle.pictures.proofs.Digits.{digits_length}

pub length_codes : (width n : ℕ) (body : List ℕ) → length (codes_of width n body) ≡ n
length_codes width n body = digits_length (2 ^ width) n (number_from_digits 256 body / 2 ^ filling width n)

pub code_there : (width n : ℕ) (body : List ℕ) {i : ℕ} → i < n → i < length (codes_of width n body)
code_there width n body inside = omega (arith, length_codes width n body)

-- the bits of the body: the codes' and those behind them
pub bits_fill : (width n : ℕ) → width * n + filling width n ≡ 8 * body_length width n
bits_fill width n = omega arith

-- less than a byte is behind the codes
pub filling_short : (width n : ℕ) → filling width n < 8
filling_short width n = omega arith

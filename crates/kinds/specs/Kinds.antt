-- What the elements of the three kinds mean: residues, of which the number is also the element's code. Assumes nothing.
use Rattle.std.specs.Prelude.{ℕ, ◌^◌}
use Rattle.std.proofs.Common.{lit<, pow_pos}
use Rattle.kinds.specs.Group.{Group}
use Rattle.kinds.specs.Residue.{Residue, residue, modulo, digitwise}

-- Key words are added modulo 2^32.
abbrev pub words : Group
words = modulo (2 ^ 32) (pow_pos 32)

abbrev pub word : ℕ → Residue (2 ^ 32)
word = residue (2 ^ 32) (pow_pos 32)

-- Mask bytes are added by exclusive or.
abbrev pub bytes : Group
bytes = digitwise 8

abbrev pub byte : ℕ → Residue (2 ^ 8)
byte = residue (2 ^ 8) (pow_pos 8)

-- Dial numbers are added modulo 10,000, and one that holds 10,000 or more means what is left on division.
abbrev pub dials : Group
dials = modulo 10000 (lit< tt)

abbrev pub dial : ℕ → Residue 10000
dial = residue 10000 (lit< tt)

-- A card's picture: its fields and codes, packed most significant bit first. Assumes nothing.
use Rattle.std.specs.Prelude.{ℕ, zero, suc, ◌+◌, ◌-◌, ◌*◌, ◌/◌, ◌%◌, ◌^◌, List, [], ◌∷◌, ◌++◌, length}

-- The lowest n digits of a number in base 256, the highest first.
abbrev pub bytes_of : ℕ → ℕ → List ℕ
bytes_of zero x = []
bytes_of (suc n) x = (x / 256 ^ n) % 256 ∷ bytes_of n x

-- The lowest n digits of a number in any base, the highest first.
abbrev pub digits : ℕ → ℕ → ℕ → List ℕ
digits base zero x = []
digits base (suc n) x = (x / base ^ n) % base ∷ digits base n x

-- The number that codes of so many bits make, one behind the other, behind a number that is there.
abbrev pub packed : ℕ → ℕ → List ℕ → ℕ
packed width x [] = x
packed width x (c ∷ cs) = packed width (x * 2 ^ width + c) cs

-- What the head of a picture says.
pub record Head : Type 0 where
  pub kind : ℕ
  pub harbours : ℕ
  pub threshold : ℕ
  pub harbour : ℕ
  pub components : ℕ
  pub issue : ℕ
  pub round : ℕ

-- Format 1, kind, harbours, threshold, harbour and components of 4 bits each, the issue of 32 and the round of 16: nine bytes.
abbrev pub head_bytes : Head → List ℕ
head_bytes h =
    bytes_of 9 (packed 16 (packed 32 (packed 4 1 (h.kind ∷ h.harbours ∷ h.threshold ∷ h.harbour ∷ h.components ∷ [])) (h.issue ∷ [])) (h.round ∷ []))

-- How many bytes hold so many codes.
abbrev pub body_length : ℕ → ℕ → ℕ
body_length width n = (width * n + 7) / 8

-- How many bits are left to the end of the last byte.
abbrev pub filling : ℕ → ℕ → ℕ
filling width n = 8 * body_length width n - width * n

-- The codes, and then 0 bits to the end of the byte.
abbrev pub body_bytes : ℕ → List ℕ → List ℕ
body_bytes width codes =
    bytes_of (body_length width (length codes)) (packed width 0 codes * 2 ^ (8 * body_length width (length codes) - width * length codes))

-- The picture of a card.
abbrev pub picture : ℕ → Head → List ℕ → List ℕ
picture width h codes = head_bytes h ++ body_bytes width codes

-- What a reader of codes has before it: bytes read on change nothing, and a code is taken off the top. Assumes nothing.
use Rattle.std.proofs.Common.{◌≡◌, ℕ, ◌+◌, ◌-◌, ◌*◌, ◌/◌, ◌%◌, ◌^◌, ◌<◌, ◌≤◌, List, [], ◌∷◌, length, get_or, take, drop, sym, ap, ◌∙◌, subst, ap₂, lt_of_lt_of_le, arith}
use native.Mathlib.Nat.{pow-le-pow_right}
use Rattle.std.specs.Int.Digits.{AllBelowBase, number_from_digits as number, number_from_digits_after}
use Rattle.std.proofs.lemmas.Nat.{div-mul-add, mod_below, mod-mul-add, mod-pow-add, pow_pos, shr_below, shr-shr}
use Rattle.std.proofs.lemmas.Int.Digits.{number_lt}
use Rattle.std.proofs.lemmas.List.{take_rest}
use Rattle.pictures.specs.Unpacking.{NextRead, bits_left, left}
use Rattle.pictures.specs.declared.reader.BitReader.{BitReader}
use Rattle.pictures.proofs.Digits.{below_drop, number_after_is, pow_mul}
use Rattle.pictures.proofs.Held.{top_off}

-- What is left, by what is held and what is still to be read.
abbrev pub left_at : ℕ → List ℕ → ℕ
left_at held rest = held * 256 ^ length rest + number 256 rest

-- What is left is what the unread bytes write behind what is held.
left_is : (held : ℕ) (rest : List ℕ) → left_at held rest ≡ number_from_digits_after 256 held rest
left_is held rest = sym (number_after_is 256 held rest)

-- A byte read on changes nothing of what is left.
pub left_byte : (rest : List ℕ) (held more : ℕ) → 1 ≤ length rest → more ≡ held * 256 + get_or rest 0 0 → left_at more (take (length rest - 1) (drop 1 rest)) ≡ left_at held rest
left_byte (a ∷ behind) held more some is = ap₂ left_at is (take_rest (a ∷ behind) 1) ∙ left_is (held * 256 + a) behind ∙ sym (left_is held (a ∷ behind))
left_byte [] held more some is = absurd (omega arith)

-- Nor do four bytes, as one word.
pub left_word : (rest : List ℕ) (held more : ℕ) → 4 ≤ length rest
    → more ≡ (((held * 256 + get_or rest 0 0) * 256 + get_or rest 1 0) * 256 + get_or rest 2 0) * 256 + get_or rest 3 0
    → left_at more (take (length rest - 4) (drop 4 rest)) ≡ left_at held rest
left_word (a ∷ b ∷ c ∷ d ∷ behind) held more some is =
    ap₂ left_at is (take_rest (a ∷ b ∷ c ∷ d ∷ behind) 4) ∙ left_is ((((held * 256 + a) * 256 + b) * 256 + c) * 256 + d) behind ∙ sym (left_is held (a ∷ b ∷ c ∷ d ∷ behind))
left_word (a ∷ b ∷ c ∷ []) held more some is = absurd (omega arith)
left_word (a ∷ b ∷ []) held more some is = absurd (omega arith)
left_word (a ∷ []) held more some is = absurd (omega arith)
left_word [] held more some is = absurd (omega arith)

-- The first of bytes is a byte.
pub first_below : (rest : List ℕ) → AllBelowBase 256 rest → 1 ≤ length rest → get_or rest 0 0 < 256
first_below (a ∷ behind) under some = under.0
first_below [] under some = absurd (omega arith)

-- Behind the bytes that were read there are bytes.
pub bytes_behind : (rest : List ℕ) (n : ℕ) → AllBelowBase 256 rest → AllBelowBase 256 (take (length rest - n) (drop n rest))
bytes_behind rest n under = subst (AllBelowBase 256) (sym (take_rest rest n)) (below_drop 256 n rest under)

-- A code of so many bits, where that many are held: it is the top of what is left, and what is held below it stays.
code_off : (held bits width : ℕ) (rest : List ℕ) → AllBelowBase 256 rest → width ≤ bits
    → (held / 2 ^ (bits - width) ≡ left_at held rest / 2 ^ (bits + 8 * length rest - width))
    × (left_at (held % 2 ^ (bits - width)) rest ≡ left_at held rest % 2 ^ (bits + 8 * length rest - width))
code_off held bits width rest under fits =
    let k : ℕ = length rest in
    let b : ℕ = bits - width in
    let tail : ℕ = number 256 rest in
    let big : 256 ^ k ≡ 2 ^ (8 * k) = pow_mul 2 8 k in
    let short : tail < 2 ^ (8 * k) = subst (λ x. tail < x) big (number_lt 256 rest under) in
    let is : left_at held rest ≡ held * 2 ^ (8 * k) + tail = ap (λ x. held * x + tail) big in
    let end : b + 8 * k ≡ bits + 8 * k - width = omega arith in
    let upper : 8 * k + b ≡ bits + 8 * k - width = omega arith in
    let top : left_at held rest / 2 ^ (8 * k) ≡ held = ap (λ x. x / 2 ^ (8 * k)) is ∙ div-mul-add held (2 ^ (8 * k)) tail short in
    let low : left_at held rest % 2 ^ (8 * k) ≡ tail = ap (λ x. x % 2 ^ (8 * k)) is ∙ mod-mul-add held (2 ^ (8 * k)) tail short in (
      ap (λ x. x / 2 ^ b) (sym top) ∙ shr-shr (left_at held rest) (8 * k) b ∙ ap (λ n. left_at held rest / 2 ^ n) upper,
      ap₂ (λ x y. x % 2 ^ b * y + tail) (sym top) big ∙ ap (λ x. left_at held rest / 2 ^ (8 * k) % 2 ^ b * 2 ^ (8 * k) + x) (sym low)
          ∙ sym (mod-pow-add (left_at held rest) b (8 * k)) ∙ ap (λ n. left_at held rest % 2 ^ n) end,
    )

-- While bits are read on for a code, what is left is as it was, and less than a word is read too much.
pub record Unchanged (before r : BitReader) : Type 0 where
  pub number : left r ≡ left before
  pub bits : bits_left r ≡ bits_left before
  pub width : r.width ≡ before.width
  pub few : r.bits < r.width + 32
  pub small : r.held < 2 ^ r.bits
  pub bytes : AllBelowBase 256 r.rest.now

-- What lies above all but 32 of the bits that are held fits a word.
pub code_fits : (held bits low : ℕ) → held < 2 ^ bits → bits ≤ 32 + low → held / 2 ^ low < 2 ^ 32
code_fits held bits low small few = shr_below held 32 low (lt_of_lt_of_le small (pow-le-pow_right {n = 2} (omega arith) few))

-- The code that next takes, once enough is held, is the top of what was left before it read on.
module _ (before r : BitReader) (u : Unchanged before r) (wide : (1 ≤ before.width) × (before.width ≤ 32)) (enough : r.width ≤ r.bits) where
  off : (r.held / 2 ^ (r.bits - r.width) ≡ left r / 2 ^ (bits_left r - r.width)) × (left_at (r.held % 2 ^ (r.bits - r.width)) r.rest.now ≡ left r % 2 ^ (bits_left r - r.width))
  off = code_off r.held r.bits r.width r.rest.now u.bytes enough

  -- what is held without the code's bits
  low_is : r.held - r.held / 2 ^ (r.bits - r.width) * 2 ^ (r.bits - r.width) % 2 ^ 64 ≡ r.held % 2 ^ (r.bits - r.width)
  low_is =
      let bound : r.bits ≤ 64 = omega (arith, u.few, u.width, wide.1) in
      top_off r.held (r.bits - r.width) (lt_of_lt_of_le u.small (pow-le-pow_right {n = 2} (omega arith) bound))

  pub next_is : (next : BitReader) → next.rest.now ≡ r.rest.now → next.width ≡ r.width → next.bits ≡ r.bits - r.width → next.held ≡ r.held - r.held / 2 ^ (r.bits - r.width) * 2 ^ (r.bits - r.width) % 2 ^ 64
      → NextRead before (r.held / 2 ^ (r.bits - r.width)) next
  next_is next rest width bits held =
      record {
        top = off.0 ∙ ap₂ (λ n w. left r / 2 ^ (n - w)) u.bits u.width ∙ ap (λ x. x / 2 ^ (bits_left before - before.width)) u.number;
        rest = ap₂ left_at (held ∙ low_is) rest ∙ off.1 ∙ ap₂ (λ n w. left r % 2 ^ (n - w)) u.bits u.width ∙ ap (λ x. x % 2 ^ (bits_left before - before.width)) u.number;
        fewer = omega (arith, bits, ap length rest, u.bits, u.width);
        width = width ∙ u.width;
        between = record {
          wide = (omega (arith, width, u.width, wide.0), omega (arith, width, u.width, wide.1));
          few = omega (arith, bits, u.few);
          small = subst (λ h. h < 2 ^ next.bits) (sym (held ∙ low_is)) (subst (λ k. r.held % 2 ^ (r.bits - r.width) < 2 ^ k) (sym bits) (mod_below r.held (2 ^ (r.bits - r.width)) (pow_pos (r.bits - r.width))));
          bytes = subst (AllBelowBase 256) (sym rest) u.bytes;
        };
      }

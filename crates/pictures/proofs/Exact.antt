-- A picture whose head and length are sound and whose bits behind the codes are 0 is the picture of its head and codes. Assumes nothing.
use Rattle.std.proofs.Common.{◌≡◌, ℕ, ◌+◌, ◌*◌, ◌/◌, ◌^◌, ◌<◌, ◌≤◌, false, List, [], ◌∷◌, ◌++◌, length, take, drop, sym, ap, ◌∙◌, ap₂, mod-eq_of_lt, arith}
use Rattle.std.specs.Int.Digits.{AllBelowBase, number_from_digits}
use Rattle.std.proofs.lemmas.Nat.{pow_pos, shr_below, shr_split}
use Rattle.std.proofs.lemmas.Int.Digits.{number_lt}
use Rattle.std.proofs.lemmas.List.{length-drop, length-take-le, take-append-drop}
use Rattle.std.proofs.lemmas.Bool.Decides.{nat_tests}
use Rattle.sharing.specs.Format.{body_bytes, body_length, bytes_of, filling, head_bytes, packed, picture}
use Rattle.pictures.specs.Reading.{codes_in, codes_of, format_in, head_in, head_refusal, rest_in, rest_of, slips_of, unfit_head}
use Rattle.pictures.proofs.Bodies.{bits_fill, length_codes}
use Rattle.pictures.proofs.Digits.{below_drop, below_take, bytes_number, number_digits, packed_is, pow_mul}

-- what a head that is not refused is
pub record Sound (kind width : ℕ) (bytes : List ℕ) : Type 0 where
  pub long : 9 ≤ length bytes
  pub format : format_in bytes ≡ 1
  pub kindred : (head_in bytes).kind ≡ kind
  pub ranges : unfit_head (head_in bytes) ≡ false
  pub exactly : length bytes ≡ 9 + body_length width (slips_of (head_in bytes))

pub sound : (kind width : ℕ) (bytes : List ℕ) → head_refusal kind width bytes ≡ 0 → Sound kind width bytes
sound kind width bytes none = record { long = grind (arith, nat_tests); format = grind (arith, nat_tests); kindred = grind (arith, nat_tests); ranges = grind (arith, nat_tests); exactly = grind (arith, nat_tests) }

module _ (width n : ℕ) (body : List ℕ) (under : AllBelowBase 256 body) (long : length body ≡ body_length width n) where
  body_below : number_from_digits 256 body < 2 ^ (width * n + filling width n)
  body_below = omega (arith, number_lt 256 body under, ap (λ k. 256 ^ k) long, pow_mul 2 8 (body_length width n), ap (λ k. 2 ^ k) (bits_fill width n))

  codes_make : packed width 0 (codes_of width n body) ≡ number_from_digits 256 body / 2 ^ filling width n
  codes_make =
      let q : ℕ = number_from_digits 256 body / 2 ^ filling width n in
      let below : q < (2 ^ width) ^ n = omega (arith, pow_mul 2 width n, shr_below (number_from_digits 256 body) (width * n) (filling width n) body_below) in
      packed_is width 0 (codes_of width n body) ∙ number_digits (2 ^ width) n q (pow_pos width) ∙ mod-eq_of_lt below

  body_exact : rest_of width n body ≡ 0 → body ≡ body_bytes width (codes_of width n body)
  body_exact rest =
      let whole : packed width 0 (codes_of width n body) * 2 ^ filling width n ≡ number_from_digits 256 body =
      ap (λ q. q * 2 ^ filling width n) codes_make ∙ omega (arith, shr_split (number_from_digits 256 body) (filling width n), rest) in
      sym (bytes_number (body_length width n) body under long)
      ∙ ap (bytes_of (body_length width n)) (sym whole)
      ∙ ap (λ k. bytes_of (body_length width k) (packed width 0 (codes_of width n body) * 2 ^ filling width k)) (sym (length_codes width n body))

head_number : (bytes : List ℕ) → 9 ≤ length bytes → format_in bytes ≡ 1
    → number_from_digits 256 (take 9 bytes) ≡ packed 16 (packed 32 (packed 4 1 ((head_in bytes).kind ∷ (head_in bytes).harbours ∷ (head_in bytes).threshold ∷ (head_in bytes).harbour ∷ (head_in bytes).components ∷ [])) ((head_in bytes).issue ∷ [])) ((head_in bytes).round ∷ [])
head_number (a ∷ b ∷ c ∷ d ∷ e ∷ f ∷ g ∷ h ∷ i ∷ rest) long format = omega arith
head_number (a ∷ b ∷ c ∷ d ∷ e ∷ f ∷ g ∷ h ∷ []) long format = absurd (omega arith)
head_number (a ∷ b ∷ c ∷ d ∷ e ∷ f ∷ g ∷ []) long format = absurd (omega arith)
head_number (a ∷ b ∷ c ∷ d ∷ e ∷ f ∷ []) long format = absurd (omega arith)
head_number (a ∷ b ∷ c ∷ d ∷ e ∷ []) long format = absurd (omega arith)
head_number (a ∷ b ∷ c ∷ d ∷ []) long format = absurd (omega arith)
head_number (a ∷ b ∷ c ∷ []) long format = absurd (omega arith)
head_number (a ∷ b ∷ []) long format = absurd (omega arith)
head_number (a ∷ []) long format = absurd (omega arith)
head_number [] long format = absurd (omega arith)

head_exact : (bytes : List ℕ) → AllBelowBase 256 bytes → 9 ≤ length bytes → format_in bytes ≡ 1 → take 9 bytes ≡ head_bytes (head_in bytes)
head_exact bytes under long format =
    sym (bytes_number 9 (take 9 bytes) (below_take 256 9 bytes under) (length-take-le 9 bytes long)) ∙ ap (bytes_of 9) (head_number bytes long format)

pub exact : (kind width : ℕ) (bytes : List ℕ) → 1 ≤ width → AllBelowBase 256 bytes → head_refusal kind width bytes ≡ 0 → rest_in width bytes ≡ 0 → bytes ≡ picture width (head_in bytes) (codes_in width bytes)
exact kind width bytes wide under none rest =
    let s = sound kind width bytes none in
    let long : length (drop 9 bytes) ≡ body_length width (slips_of (head_in bytes)) = omega (arith, length-drop 9 bytes, s.exactly) in
    sym (take-append-drop 9 bytes)
    ∙ ap₂ ◌++◌ (head_exact bytes under s.long s.format) (body_exact width (slips_of (head_in bytes)) (drop 9 bytes) (below_drop 256 9 bytes under) long rest)

-- The body as a string of bits: the codes' bits one behind the other, and 0 behind them. Assumes nothing.
use Rattle.std.proofs.Common.{◌≡◌, ℕ, zero, suc, ◌+◌, ◌*◌, ◌^◌, ◌<◌, List, [], ◌∷◌, ◌++◌, length, replicate, sym, refl, ap, ◌∙◌, mod-eq_of_lt, mul-zero, mul-suc, arith}
use Rattle.std.specs.Int.Digits.{AllBelowBase, number_from_digits, number_from_digits_after}
use Rattle.std.specs.List.{flat_map}
use Rattle.std.proofs.lemmas.Int.Digits.{number_after_append}
use Rattle.std.proofs.lemmas.List.Elements.{recursion_from_All}
use Rattle.std.proofs.lemmas.List.{length-append, length-replicate}
use Rattle.sharing.specs.Format.{body_bytes, body_length, filling, packed}
use Rattle.pictures.specs.Writing.{BodyIsBits, bits_of}
use Rattle.pictures.proofs.Bodies.{bits_fill}
use Rattle.pictures.proofs.Digits.{after_digits, below_append, bytes_below, bytes_length, digits_length, digits_under, number_append, packed_is, same_from_number}
use Rattle.pictures.proofs.ReadsBack.{body_number}

-- numbers of k bits each, bit by bit
module _ (k : ℕ) where
  joined_under : (xs : List ℕ) → AllBelowBase 2 (flat_map (bits_of k) xs)
  joined_under [] = tt
  joined_under (x ∷ xs) = below_append 2 (bits_of k x) (flat_map (bits_of k) xs) (digits_under 2 k x (omega arith)) (joined_under xs)

  joined_length : (xs : List ℕ) → length (flat_map (bits_of k) xs) ≡ k * length xs
  joined_length [] = sym (mul-zero k)
  joined_length (x ∷ xs) = omega (arith, length-append (bits_of k x) (flat_map (bits_of k) xs), digits_length 2 k x, joined_length xs, mul-suc k (length xs))

  joined_number : (m : ℕ) (xs : List ℕ) → AllBelowBase (2 ^ k) xs → number_from_digits_after 2 m (flat_map (bits_of k) xs) ≡ number_from_digits_after (2 ^ k) m xs
  joined_number m [] under = refl
  joined_number m (x ∷ xs) under =
      number_after_append 2 m (bits_of k x) (flat_map (bits_of k) xs)
      ∙ ap (λ y. number_from_digits_after 2 y (flat_map (bits_of k) xs)) (after_digits 2 k m x (omega arith) ∙ ap (λ y. m * 2 ^ k + y) (mod-eq_of_lt under.0))
      ∙ joined_number (m * 2 ^ k + x) xs under.1

zeros_under : (n : ℕ) → AllBelowBase 2 (replicate n 0)
zeros_under zero = tt
zeros_under (suc n) = (omega arith, zeros_under n)

zeros_number : (n : ℕ) → number_from_digits 2 (replicate n 0) ≡ 0
zeros_number zero = refl
zeros_number (suc n) = zeros_number n

pub body_is_bits : (width : ℕ) → BodyIsBits width
body_is_bits width codes low =
    let under : AllBelowBase (2 ^ width) codes = recursion_from_All (λ c. c < 2 ^ width) codes low in
    let f : ℕ = filling width (length codes) in
    let bytes : List ℕ = body_bytes width codes in
    let left_long : length (flat_map (bits_of 8) bytes) ≡ 8 * body_length width (length codes) =
    joined_length 8 bytes ∙ ap (λ n. 8 * n) (bytes_length (body_length width (length codes)) (packed width 0 codes * 2 ^ f)) in
    let right_long : length (flat_map (bits_of width) codes ++ replicate f 0) ≡ width * length codes + f =
    omega (arith, length-append (flat_map (bits_of width) codes) (replicate f 0), joined_length width codes, length-replicate {A = ℕ} f 0) in
    let left_number : number_from_digits 2 (flat_map (bits_of 8) bytes) ≡ packed width 0 codes * 2 ^ f =
    joined_number 8 0 bytes (bytes_below (body_length width (length codes)) (packed width 0 codes * 2 ^ f)) ∙ body_number width codes under in
    let right_number : number_from_digits 2 (flat_map (bits_of width) codes ++ replicate f 0) ≡ packed width 0 codes * 2 ^ f =
    omega (arith, number_append 2 (flat_map (bits_of width) codes) (replicate f 0), zeros_number f, ap (λ n. number_from_digits 2 (flat_map (bits_of width) codes) * 2 ^ n) (length-replicate {A = ℕ} f 0), ap (λ x. x * 2 ^ f) (joined_number width 0 codes under ∙ sym (packed_is width 0 codes))) in
    same_from_number 2 (flat_map (bits_of 8) bytes) (flat_map (bits_of width) codes ++ replicate f 0)
    (joined_under 8 bytes)
    (below_append 2 (flat_map (bits_of width) codes) (replicate f 0) (joined_under width codes) (zeros_under f))
    (left_long ∙ sym (bits_fill width (length codes)) ∙ sym right_long)
    (left_number ∙ sym right_number)

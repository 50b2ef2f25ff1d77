-- A writer of codes that puts out what it holds, with 0 bits to the end of the last byte. Assumes nothing.
use Rattle.std.proofs.Common.{◌≡◌, ℕ, ◌+◌, ◌-◌, ◌*◌, ◌/◌, ◌%◌, ◌^◌, ◌<◌, ◌≤◌, List, [], ◌++◌, length, take, drop, sym, ap, ◌∙◌, subst, ap₂, mod-eq_of_lt, mul_assoc, add-mul, arith}
use borrow.Rule.Slice.PartMut.{put_mid}
use Rattle.std.specs.Int.{bytes_high_first}
use Rattle.std.specs.Int.Digits.{number_from_digits}
use Rattle.std.proofs.lemmas.Nat.{pow-add, shl_below, shl-shr, shl_whole}
use Rattle.std.proofs.lemmas.List.{append-nil, drop_all, length-append, length-drop, length-take-le, take_at, take_rest}
use Rattle.sharing.specs.Format.{bytes_of}
use Rattle.pictures.specs.Packing.{HasRoom, bits_made, made}
use Rattle.pictures.specs.declared.writer.BitWriter.{BitWriter}
use Rattle.pictures.proofs.Digits.{below_append, bytes_append, bytes_below, bytes_length, bytes_number, number_append, number_bytes, pow_mul}
use Rattle.pictures.proofs.Pushing.{high_first}

module _ (w : BitWriter) (room : HasRoom w) (long : length w.body.now ≡ (bits_made w + 7) / 8) where
  -- how many bytes are left to write
  abbrev count : ℕ
  count = length w.body.now - w.at

  -- the 0 bits to the end of the last byte
  abbrev fill : ℕ
  fill = 8 * length w.body.now - bits_made w

  -- a word with what is held at its top
  abbrev word : ℕ
  word = w.held * 2 ^ (32 - w.bits) % 2 ^ 64

  few : count ≤ 4
  few = omega (arith, room.few, long)

  bits_are : w.bits + fill ≡ 8 * count
  bits_are = omega (arith, long, room.inside)

  word_is : word ≡ w.held * 2 ^ (32 - w.bits)
  word_is = shl_whole w.held w.bits (32 - w.bits) 64 room.small (omega (arith, room.few))

  pub word_fits : word < 2 ^ 32
  word_fits =
      let all : w.bits + (32 - w.bits) ≡ 32 = omega (arith, room.few) in
      subst (λ x. x < 2 ^ 32) (sym word_is) (subst (λ k. w.held * 2 ^ (32 - w.bits) < 2 ^ k) all (shl_below w.held w.bits (32 - w.bits) room.small))

  -- what is held, with the 0 bits behind it
  top : word / 256 ^ (4 - count) ≡ w.held * 2 ^ fill
  top =
      let unused : ℕ = 8 * (4 - count) in
      let parts : 32 - w.bits ≡ fill + unused = omega (arith, few, bits_are) in
      ap₂ (λ x p. x / p) (word_is ∙ ap (λ k. w.held * 2 ^ k) parts ∙ ap (λ p. w.held * p) (pow-add 2 fill unused) ∙ sym (mul_assoc w.held (2 ^ fill) (2 ^ unused))) (pow_mul 2 8 (4 - count))
      ∙ shl-shr (w.held * 2 ^ fill) unused

  first_bytes : take count (bytes_high_first 4 word) ≡ bytes_of count (w.held * 2 ^ fill)
  first_bytes =
      let all : count + (4 - count) ≡ 4 = omega (arith, few) in
      ap (take count) (high_first 4 word ∙ ap (λ k. bytes_of k word) (sym all) ∙ bytes_append count (4 - count) word)
      ∙ take_at (bytes_of count (word / 256 ^ (4 - count))) (bytes_of (4 - count) word) count (bytes_length count (word / 256 ^ (4 - count))) ∙ ap (bytes_of count) top

  pub finished : (part : List ℕ) → part ≡ take (length (take count (drop w.at w.body.now))) (bytes_high_first 4 word) → put_mid w.at count w.body.now part ≡ bytes_of (length w.body.now) (made w * 2 ^ fill)
  finished part is =
      let x : ℕ = w.held * 2 ^ fill in
      let behind : length (take count (drop w.at w.body.now)) ≡ count = ap length (take_rest w.body.now w.at) ∙ length-drop w.at w.body.now in
      let before : ℕ = number_from_digits 256 (take w.at w.body.now) in
      let ys : List ℕ = bytes_of count x in
      let none : drop count (drop w.at w.body.now) ≡ [] = drop_all count (drop w.at w.body.now) (omega (arith, length-drop w.at w.body.now)) in
      let size : length (take w.at w.body.now ++ ys) ≡ length w.body.now = omega (arith, length-append (take w.at w.body.now) ys, length-take-le w.at w.body.now room.inside, bytes_length count x, room.inside) in
      let big : 256 ^ count ≡ 2 ^ (8 * count) = pow_mul 2 8 count in
      let low : x % 256 ^ count ≡ x = mod-eq_of_lt (subst (λ p. x < p) (sym (big ∙ ap (λ k. 2 ^ k) (sym bits_are))) (shl_below w.held w.bits fill room.small)) in
      let shifted : before * 256 ^ length ys ≡ before * 2 ^ w.bits * 2 ^ fill =
      ap (λ k. before * 256 ^ k) (bytes_length count x) ∙ ap (λ p. before * p) (big ∙ ap (λ k. 2 ^ k) (sym bits_are) ∙ pow-add 2 w.bits fill) ∙ sym (mul_assoc before (2 ^ w.bits) (2 ^ fill)) in
      let number : number_from_digits 256 (take w.at w.body.now ++ ys) ≡ made w * 2 ^ fill =
      number_append 256 (take w.at w.body.now) ys ∙ ap₂ ◌+◌ shifted (number_bytes count x ∙ low) ∙ sym (add-mul (before * 2 ^ w.bits) w.held (2 ^ fill)) in
      ap₂ (λ ps qs. take w.at w.body.now ++ (ps ++ qs)) (is ∙ ap (λ k. take k (bytes_high_first 4 word)) behind ∙ first_bytes) none ∙ ap (λ ps. take w.at w.body.now ++ ps) (append-nil ys)
      ∙ sym (bytes_number (length w.body.now) (take w.at w.body.now ++ ys) (below_append 256 (take w.at w.body.now) ys room.written (bytes_below count x)) size) ∙ ap (bytes_of (length w.body.now)) number

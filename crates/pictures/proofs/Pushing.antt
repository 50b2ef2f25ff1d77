-- One code more in a writer of bits: what is held, and the bytes that go out. Assumes nothing.
use Rattle.std.proofs.Common.{◌≡◌, ℕ, zero, suc, ◌+◌, ◌-◌, ◌*◌, ◌/◌, ◌%◌, ◌^◌, ◌<◌, ◌≤◌, List, [], ◌∷◌, ◌++◌, length, take, drop, sym, refl, ap, ◌∙◌, subst, subst₂, ap₂, append_assoc, mod-eq_of_lt, mul_assoc, add-mul, div-one, arith}
use borrow.Rule.Slice.PartMut.{Post-is, put_mid}
use Rattle.std.specs.Int.{bytes_high_first}
use Rattle.std.specs.Int.Digits.{AllBelowBase, number_from_digits}
use Rattle.std.proofs.lemmas.Nat.{mod_below, pow-add, pow_below, pow_pos, shl_whole, shr_below, shr_split}
use Rattle.std.proofs.lemmas.List.{drop_at, length-append, length-drop, length-take-le, take_at, take_rest}
use Rattle.sharing.specs.Format.{bytes_of}
use Rattle.pictures.specs.Packing.{CanGive, Gave, HasRoom, Pushed, bits_made, made}
use Rattle.pictures.specs.declared.writer.BitWriter.{BitWriter}
use Rattle.pictures.proofs.Digits.{below_append, bytes_append, bytes_below, bytes_length, number_append, number_bytes, pow_mul}
use Rattle.pictures.proofs.Held.{held_fits, top_off}

-- The bytes of a number, the highest first.
pub high_first : (n x : ℕ) → bytes_high_first n x ≡ bytes_of n x
high_first zero x = refl
high_first (suc zero) x = ap (λ y. y % 256 ∷ []) (sym (div-one x))
high_first (suc (suc n)) x = ap (λ ys. x / 256 ^ suc n % 256 ∷ ys) (high_first (suc n) x)

-- The last of eight bytes are the bytes of the number alone.
low_bytes : (n x : ℕ) → n ≤ 8 → drop (8 - n) (bytes_of 8 x) ≡ bytes_of n x
low_bytes n x few =
    let all : 8 - n + n ≡ 8 = omega arith in
    ap (λ k. drop (8 - n) (bytes_of k x)) (sym all) ∙ ap (drop (8 - n)) (bytes_append (8 - n) n x) ∙ drop_at (bytes_of (8 - n) (x / 256 ^ n)) (bytes_of n x) (8 - n) (bytes_length (8 - n) (x / 256 ^ n))

-- Those bytes in their places.
pub bytes_put : (body part : List ℕ) (n at x : ℕ) → n ≤ 4 → part ≡ take (8 - (8 - n)) (drop (8 - n) (bytes_high_first 8 x)) → put_mid at (at + n - at) body part ≡ take at body ++ (bytes_of n x ++ drop (at + n) body)
bytes_put body part n at x few is =
    let eight : length (bytes_high_first 8 x) ≡ 8 = refl in
    ap₂ (λ ys zs. take at body ++ (ys ++ zs)) (is ∙ take_rest (bytes_high_first 8 x) (8 - n) ∙ ap (drop (8 - n)) (high_first 8 x) ∙ low_bytes n x (omega arith)) (Post-is at (at + n) body (omega arith))

-- a code behind what is held
module _ (w : BitWriter) (code : ℕ) (narrow : w.width ≤ 32) (low : code < 2 ^ w.width) (room : HasRoom w) (given : ℕ) (same : given ≡ code) where
  -- the writer with the code
  abbrev pub longer : BitWriter
  longer = record { body = w.body; at = w.at; width = w.width; held = w.held * 2 ^ w.width % 2 ^ 64 + given; bits = w.bits + w.width }

  -- nothing is lost by the shift
  shift_whole : w.held * 2 ^ w.width % 2 ^ 64 ≡ w.held * 2 ^ w.width
  shift_whole = shl_whole w.held w.bits w.width 64 room.small (omega (arith, room.few))

  held_below : longer.held < 2 ^ longer.bits
  held_below = omega (arith, shift_whole, held_fits w.held w.bits w.width code room.small low)

  -- the code behind all that was written
  code_made : made longer ≡ made w * 2 ^ w.width + code
  code_made =
      let before : ℕ = number_from_digits 256 (take w.at w.body.now) in
      omega (arith, shift_whole, add-mul (before * 2 ^ w.bits) w.held (2 ^ w.width), mul_assoc before (2 ^ w.bits) (2 ^ w.width), ap (λ p. before * p) (pow-add 2 w.bits w.width))

  pub push_holds : w.bits + w.width < 32 → Pushed w longer code
  push_holds few = record { number = code_made; bits = omega arith; width = refl; room = record { few = few; small = held_below; inside = room.inside; written = room.written }; long = refl }

  pub code_gives : (n : ℕ) → 8 * n ≤ w.bits + w.width → w.bits + w.width < 8 * n + 32 → bits_made w + w.width ≤ 8 * length w.body.now → CanGive n longer
  code_gives n many few fits = record { many = many; few = few; small = held_below; fits = omega (arith, fits); written = room.written }

  pub push_gives : {next : BitWriter} → Gave longer next → Pushed w next code
  push_gives g = record { number = g.number ∙ code_made; bits = omega (arith, g.bits); width = g.width; room = g.room; long = g.long }

-- bytes that go out, at most four
module _ (n : ℕ) (few : n ≤ 4) (w : BitWriter) (can : CanGive n w) where
  -- how many bits stay, and what goes out
  abbrev stay : ℕ
  stay = w.bits - 8 * n

  abbrev out : ℕ
  out = w.held / 2 ^ stay

  pub place_fits : w.at + n ≤ length w.body.now
  place_fits = omega (arith, can.many, can.fits)

  bits_are : w.bits ≡ 8 * n + stay
  bits_are = omega (arith, can.many)

  pub out_fits : out < 2 ^ (8 * n)
  out_fits = shr_below w.held (8 * n) stay (subst (λ k. w.held < 2 ^ k) bits_are can.small)

  stays : w.held - out * 2 ^ stay % 2 ^ 64 ≡ w.held % 2 ^ stay
  stays = top_off w.held stay (omega (arith, can.small, pow_below w.bits 64 (omega (arith, can.few))))

  -- the writer without those bytes
  module _ (next : BitWriter) (at_is : next.at ≡ w.at + n) (width_is : next.width ≡ w.width) (held_is : next.held ≡ w.held - out * 2 ^ stay % 2 ^ 64) (bits_is : next.bits ≡ stay)
      (put : next.body.now ≡ take w.at w.body.now ++ (bytes_of n out ++ drop (w.at + n) w.body.now)) where
    front_long : length (take w.at w.body.now ++ bytes_of n out) ≡ w.at + n
    front_long = omega (arith, length-append (take w.at w.body.now) (bytes_of n out), length-take-le w.at w.body.now (omega (arith, place_fits)), bytes_length n out)

    parts : next.body.now ≡ (take w.at w.body.now ++ bytes_of n out) ++ drop (w.at + n) w.body.now
    parts = put ∙ sym (append_assoc (take w.at w.body.now) (bytes_of n out) (drop (w.at + n) w.body.now))

    front : take next.at next.body.now ≡ take w.at w.body.now ++ bytes_of n out
    front = ap₂ take at_is parts ∙ take_at (take w.at w.body.now ++ bytes_of n out) (drop (w.at + n) w.body.now) (w.at + n) front_long

    front_number : number_from_digits 256 (take next.at next.body.now) ≡ number_from_digits 256 (take w.at w.body.now) * 2 ^ (8 * n) + out
    front_number =
        let big : 256 ^ n ≡ 2 ^ (8 * n) = pow_mul 2 8 n in
        ap (number_from_digits 256) front ∙ number_append 256 (take w.at w.body.now) (bytes_of n out)
        ∙ ap₂ (λ p x. number_from_digits 256 (take w.at w.body.now) * p + x) (ap (λ k. 256 ^ k) (bytes_length n out) ∙ big) (number_bytes n out ∙ ap (λ p. out % p) big ∙ mod-eq_of_lt out_fits)

    body_long : length next.body.now ≡ length w.body.now
    body_long = omega (arith, ap length parts, length-append (take w.at w.body.now ++ bytes_of n out) (drop (w.at + n) w.body.now), front_long, length-drop (w.at + n) w.body.now, place_fits)

    pub gives : Gave w next
    gives =
        let before : ℕ = number_from_digits 256 (take w.at w.body.now) in
        let power : before * 2 ^ w.bits ≡ before * (2 ^ (8 * n) * 2 ^ stay) = ap (λ k. before * 2 ^ k) bits_are ∙ ap (λ p. before * p) (pow-add 2 (8 * n) stay) in
        record {
          number =
              ap₂ (λ x k. x * 2 ^ k + next.held) front_number bits_is
              ∙ omega (arith, held_is, stays, shr_split w.held stay, power, add-mul (before * 2 ^ (8 * n)) out (2 ^ stay), mul_assoc before (2 ^ (8 * n)) (2 ^ stay));
          bits = omega (arith, at_is, bits_is, bits_are);
          width = width_is;
          room = record {
            few = omega (arith, bits_is, can.few);
            small = subst₂ (λ h k. h < 2 ^ k) (sym (held_is ∙ stays)) (sym bits_is) (mod_below w.held (2 ^ stay) (pow_pos stay));
            inside = omega (arith, at_is, body_long, place_fits);
            written = subst (AllBelowBase 256) (sym front) (below_append 256 (take w.at w.body.now) (bytes_of n out) can.written (bytes_below n out));
          };
          long = body_long;
        }

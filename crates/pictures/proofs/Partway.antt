-- A reader partway through the codes of a body: at the start, one code on, and behind the last. Assumes nothing.
use Rattle.std.proofs.Common.{◌≡◌, ℕ, suc, ◌+◌, ◌-◌, ◌*◌, ◌/◌, ◌%◌, ◌^◌, ◌<◌, ◌≤◌, List, [], ◌∷◌, length, get_or, drop, sym, ap, ◌∙◌, subst, ap₂, subst₂, mod-eq_of_lt, mul-zero, mul-suc, zero-mul, arith}
use lib.Pow.{mod-mod-pow}
use Rattle.std.specs.Int.Digits.{AllBelowBase, number_from_digits}
use Rattle.std.proofs.lemmas.Nat.{field_of, mod_below, pow_pos, shr_below, shr-shr}
use Rattle.std.proofs.lemmas.Int.Digits.{number_lt}
use Rattle.std.proofs.lemmas.List.{drop_more}
use Rattle.sharing.specs.Format.{body_length, digits, filling}
use Rattle.pictures.specs.Reading.{codes_of, rest_of}
use Rattle.pictures.specs.Unpacking.{BetweenCodes, NextRead, NothingRead, bits_left, left}
use Rattle.pictures.specs.declared.reader.BitReader.{BitReader}
use Rattle.pictures.proofs.Bodies.{bits_fill, code_there, filling_short}
use Rattle.pictures.proofs.Digits.{digits_mod, pow_mul}
use Rattle.pictures.proofs.Unread.{left_at}

-- Before the code at this place: what is left are the codes from there on, and the bits behind them.
pub record Partway (width n : ℕ) (body : List ℕ) (i : ℕ) (r : BitReader) : Type 0 where
  pub between : BetweenCodes r
  pub same : r.width ≡ width
  pub room : bits_left r ≡ width * (n - i) + filling width n
  pub small : left r < 2 ^ bits_left r
  pub codes : drop i (codes_of width n body) ≡ digits (2 ^ width) (n - i) (left r / 2 ^ filling width n)
  pub rest : left r % 2 ^ filling width n ≡ rest_of width n body

pub partway_start : {width n : ℕ} {body : List ℕ} {r : BitReader} {taken : ℕ} → NothingRead taken body r → taken ≡ width → (1 ≤ width) × (width ≤ 32) → AllBelowBase 256 body → length body ≡ body_length width n → Partway width n body 0 r
partway_start {width} {n} {body} {r} new same wide under long =
    let whole : n - 0 ≡ n = omega arith in
    let bits : bits_left r ≡ 8 * length body = omega (arith, new.none.1, ap length new.whole) in
    let all : 8 * length body ≡ width * n + filling width n = ap (λ k. 8 * k) long ∙ sym (bits_fill width n) in
    let is : left r ≡ number_from_digits 256 body = ap₂ left_at new.none.0 new.whole ∙ omega (arith, zero-mul (256 ^ length body)) in
    let width_is : r.width ≡ width = new.told ∙ same in
    record {
      between = record { wide = subst (λ w. (1 ≤ w) × (w ≤ 32)) (sym width_is) wide; few = omega (arith, new.none.1); small = subst₂ (λ h k. h < 2 ^ k) (sym new.none.0) (sym new.none.1) (omega arith); bytes = subst (AllBelowBase 256) (sym new.whole) under };
      same = width_is;
      room = bits ∙ all ∙ ap (λ k. width * k + filling width n) (sym whole);
      small = subst₂ ◌<◌ (sym is) (pow_mul 2 8 (length body) ∙ ap (λ k. 2 ^ k) (sym bits)) (number_lt 256 body under);
      codes = ap₂ (λ k x. digits (2 ^ width) k (x / 2 ^ filling width n)) (sym whole) (sym is);
      rest = ap (λ x. x % 2 ^ filling width n) is;
    }

module _ {width n : ℕ} {body : List ℕ} {i : ℕ} {r : BitReader} (p : Partway width n body i r) (more : i < n) where
  -- There are bits enough for a code, and where its bits end.
  ends : bits_left r ≡ width + (width * (n - (i + 1)) + filling width n)
  ends =
      let one : n - i ≡ suc (n - (i + 1)) = omega arith in
      omega (arith, p.room, ap (λ k. width * k) one, mul-suc width (n - (i + 1)))

  enough : width ≤ bits_left r
  enough = omega (arith, ends)

  below : bits_left r - width ≡ width * (n - (i + 1)) + filling width n
  below = omega (arith, ends)

  -- The top of what is left is the code at this place, and below it are the others.
  split : (left r / 2 ^ (bits_left r - width) ≡ get_or (codes_of width n body) i 0)
      × (drop (i + 1) (codes_of width n body) ≡ digits (2 ^ width) (n - (i + 1)) (left r / 2 ^ filling width n))
  split =
      let f : ℕ = filling width n in
      let m : ℕ = n - (i + 1) in
      let one : n - i ≡ suc m = omega arith in
      let x : ℕ = left r / 2 ^ f in
      let both : get_or (codes_of width n body) i 0 ∷ drop (i + 1) (codes_of width n body) ≡ x / (2 ^ width) ^ m % 2 ^ width ∷ digits (2 ^ width) m x =
      sym (drop_more (codes_of width n body) i 0 (code_there width n body more)) ∙ p.codes ∙ ap (λ k. digits (2 ^ width) k x) one in
      let first : get_or (codes_of width n body) i 0 ≡ x / (2 ^ width) ^ m % 2 ^ width = cc in
      let others : drop (i + 1) (codes_of width n body) ≡ digits (2 ^ width) m x = cc in
      let place : f + width * m ≡ bits_left r - width = omega (arith, below) in
      let top : x / (2 ^ width) ^ m ≡ left r / 2 ^ (bits_left r - width) =
      ap (λ q. x / q) (pow_mul 2 width m) ∙ shr-shr (left r) f (width * m) ∙ ap (λ k. left r / 2 ^ k) place in
      let bits : bits_left r ≡ width + (bits_left r - width) = omega (arith, ends) in
      let small : left r / 2 ^ (bits_left r - width) < 2 ^ width =
      shr_below (left r) width (bits_left r - width) (subst (λ k. left r < 2 ^ k) bits p.small) in
      (sym (first ∙ ap (λ y. y % 2 ^ width) top ∙ mod-eq_of_lt small), others)

  module _ {code : ℕ} {next : BitReader} (read : NextRead r code next) where
    -- The code that is read is the one at this place.
    pub partway_code : code ≡ get_or (codes_of width n body) i 0
    partway_code = read.top ∙ ap (λ k. left r / 2 ^ (bits_left r - k)) p.same ∙ split.0

    pub partway_next : Partway width n body (i + 1) next
    partway_next =
        let f : ℕ = filling width n in
        let m : ℕ = n - (i + 1) in
        let room : bits_left next ≡ width * m + f = omega (arith, ends, read.fewer, p.same) in
        let low : left next ≡ left r % 2 ^ (width * m + f) = read.rest ∙ ap (λ k. left r % 2 ^ (bits_left r - k)) p.same ∙ ap (λ k. left r % 2 ^ k) below in
        record {
          between = read.between;
          same = read.width ∙ p.same;
          room = room;
          small = subst₂ (λ x k. x < 2 ^ k) (sym low) (sym room) (mod_below (left r) (2 ^ (width * m + f)) (pow_pos (width * m + f)));
          codes = split.1 ∙ digits_mod (2 ^ width) m (left r / 2 ^ f) (pow_pos width)
              ∙ ap (λ q. digits (2 ^ width) m (left r / 2 ^ f % q)) (pow_mul 2 width m) ∙ ap (digits (2 ^ width) m) (sym (field_of (left r) (width * m) f) ∙ ap (λ x. x / 2 ^ f) (sym low));
          rest = ap (λ x. x % 2 ^ f) low ∙ mod-mod-pow (left r) (width * m) f ∙ p.rest;
        }

-- Where every byte is read, what is held is left.
left_none : (held : ℕ) (rest : List ℕ) → length rest ≡ 0 → left_at held rest ≡ held
left_none held [] none = omega arith
left_none held (byte ∷ rest) none = absurd (omega arith)

-- Behind the last code every byte is read, and what is held are the bits behind the codes.
pub partway_end : {width n : ℕ} {body : List ℕ} {r : BitReader} → Partway width n body n r → r.held ≡ rest_of width n body
partway_end {width} {n} {body} {r} p =
    let f : ℕ = filling width n in
    let gone : n - n ≡ 0 = omega arith in
    let none : width * (n - n) ≡ 0 = ap (λ k. width * k) gone ∙ mul-zero width in
    let few : bits_left r ≡ f = omega (arith, p.room) in
    let read : length r.rest.now ≡ 0 = omega (arith, few, filling_short width n) in
    let held : left r ≡ r.held = left_none r.held r.rest.now read in
    sym (mod-eq_of_lt (subst₂ (λ x k. x < 2 ^ k) held few p.small)) ∙ ap (λ x. x % 2 ^ f) (sym held) ∙ p.rest

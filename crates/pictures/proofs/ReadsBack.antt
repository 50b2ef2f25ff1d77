-- What is read from a picture: the head and the codes that it was made of, and no refusal. Assumes nothing.
use Rattle.std.proofs.Common.{◌≡◌, ℕ, ◌+◌, ◌*◌, ◌/◌, ◌%◌, ◌^◌, ◌<◌, cond, List, [], ◌∷◌, map, length, take, All, sym, refl, ap, ◌∙◌, subst, inr, mod-eq_of_lt, arith}
use native.Mathlib.Nat.{mul-mod_left}
use Rattle.std.specs.Int.Digits.{AllBelowBase, number_from_digits}
use Rattle.std.proofs.lemmas.Nat.{shl_below, shl-shr}
use Rattle.std.proofs.lemmas.Int.Digits.{number_lt}
use Rattle.std.proofs.lemmas.List.{length-append, length-map}
use Rattle.std.proofs.lemmas.List.Elements.{All-cons, All-nil}
use Rattle.std.proofs.lemmas.Bool.{eq-eqb}
use Rattle.std.proofs.lemmas.Bool.Decides.{nat_tests}
use Rattle.sharing.specs.Format.{Head, body_bytes, body_length, digits, filling, head_bytes, packed, picture}
use Rattle.pictures.specs.Reading.{Coded, codes_in, codes_of, format_in, head_in, head_refusal, rest_in, rest_of, slips_of, unfit_head}
use Rattle.pictures.specs.Writing.{Fits, ReadsBack}
use Rattle.pictures.proofs.Bodies.{bits_fill}
use Rattle.pictures.proofs.Digits.{bytes_append, bytes_length, digits_number, number_bytes, packed_is, pow_mul}
use Rattle.pictures.proofs.Exact.{Sound}

module _ (width : ℕ) (codes : List ℕ) (under : AllBelowBase (2 ^ width) codes) where
  -- the body is one number: the codes', with 0 bits behind it
  pub body_number : number_from_digits 256 (body_bytes width codes) ≡ packed width 0 codes * 2 ^ filling width (length codes)
  body_number =
      let n : ℕ = length codes in
      let low : packed width 0 codes < 2 ^ (width * n) = omega (arith, packed_is width 0 codes, number_lt (2 ^ width) codes under, pow_mul 2 width n) in
      let below : packed width 0 codes * 2 ^ filling width n < 256 ^ body_length width n =
      omega (arith, shl_below (packed width 0 codes) (width * n) (filling width n) low, ap (λ k. 2 ^ k) (bits_fill width n), pow_mul 2 8 (body_length width n)) in
      number_bytes (body_length width n) (packed width 0 codes * 2 ^ filling width n) ∙ mod-eq_of_lt below

  pub codes_back : (n : ℕ) → length codes ≡ n → codes_of width n (body_bytes width codes) ≡ codes
  codes_back n many =
      let f : ℕ = filling width (length codes) in
      ap (λ k. codes_of width k (body_bytes width codes)) (sym many)
      ∙ ap (λ x. digits (2 ^ width) (length codes) (x / 2 ^ f)) body_number
      ∙ ap (digits (2 ^ width) (length codes)) (shl-shr (packed width 0 codes) f ∙ packed_is width 0 codes)
      ∙ digits_number (2 ^ width) (length codes) codes under refl

  rest_none : (n : ℕ) → length codes ≡ n → rest_of width n (body_bytes width codes) ≡ 0
  rest_none n many =
      let f : ℕ = filling width (length codes) in
      ap (λ k. rest_of width k (body_bytes width codes)) (sym many) ∙ ap (λ x. x % 2 ^ f) body_number ∙ mul-mod_left (packed width 0 codes) (2 ^ f)

-- a head that is sound is not refused
passes : (kind width : ℕ) (bytes : List ℕ) → Sound kind width bytes → head_refusal kind width bytes ≡ 0
passes kind width bytes s = grind (arith, nat_tests)

same_head : (a b : Head) → a.kind ≡ b.kind → a.harbours ≡ b.harbours → a.threshold ≡ b.threshold → a.harbour ≡ b.harbour → a.components ≡ b.components → a.issue ≡ b.issue → a.round ≡ b.round → a ≡ b
same_head a b p q r s t u v = λ i. record { kind = p i; harbours = q i; threshold = r i; harbour = s i; components = t i; issue = u i; round = v i }

-- numbers that fit their fields
pub record Small (h : Head) : Type 0 where
  pub kind : h.kind < 16
  pub harbours : h.harbours < 16
  pub threshold : h.threshold < 16
  pub harbour : h.harbour < 16
  pub components : h.components < 16
  pub issue : h.issue < 2 ^ 32
  pub round : h.round < 2 ^ 16

pub small : (h : Head) → Fits h → Small h
small h f =
    let e = f.ranges in
    record { kind = f.kind; harbours = grind (arith, nat_tests); threshold = grind (arith, nat_tests); harbour = grind (arith, nat_tests); components = grind (arith, nat_tests); issue = f.issue; round = f.round }

module _ (width : ℕ) (h : Head) (codes : List ℕ) (s : Small h) where
  format_back : format_in (picture width h codes) ≡ 1
  format_back = omega arith

  kind_back : (head_in (picture width h codes)).kind ≡ h.kind
  kind_back = omega arith

  harbours_back : (head_in (picture width h codes)).harbours ≡ h.harbours
  harbours_back = omega arith

  threshold_back : (head_in (picture width h codes)).threshold ≡ h.threshold
  threshold_back = omega arith

  harbour_back : (head_in (picture width h codes)).harbour ≡ h.harbour
  harbour_back = omega arith

  components_back : (head_in (picture width h codes)).components ≡ h.components
  components_back = omega arith

  issue_back : (head_in (picture width h codes)).issue ≡ h.issue
  issue_back =
      let all : ℕ = packed 16 (packed 32 (packed 4 1 (h.kind ∷ h.harbours ∷ h.threshold ∷ h.harbour ∷ h.components ∷ [])) (h.issue ∷ [])) (h.round ∷ []) in
      let field : all / 256 ^ 2 % 256 ^ 4 ≡ h.issue = omega arith in
      ap (λ ds. number_from_digits 256 (take 4 ds)) (bytes_append 4 2 all) ∙ number_bytes 4 (all / 256 ^ 2) ∙ field

  round_back : (head_in (picture width h codes)).round ≡ h.round
  round_back = omega arith

  head_back : head_in (picture width h codes) ≡ h
  head_back = same_head (head_in (picture width h codes)) h kind_back harbours_back threshold_back harbour_back components_back issue_back round_back

coded_all : {C : Type 0} (coded : C → ℕ) (slips : List C) → All (Coded coded) (map coded slips)
coded_all coded [] = All-nil (Coded coded)
coded_all coded (e ∷ es) = All-cons (Coded coded) (coded e) (map coded es) (e, refl) (coded_all coded es)

module _ {C : Type 0} (coded : C → ℕ) (width : ℕ) (fits : (e : C) → coded e < 2 ^ width) where
  pub codes_under : (slips : List C) → AllBelowBase (2 ^ width) (map coded slips)
  codes_under [] = tt
  codes_under (e ∷ es) = (fits e, codes_under es)

  pub reads_back : (kind : ℕ) → ReadsBack coded kind width
  reads_back kind h slips f is many =
      let codes : List ℕ = map coded slips in
      let bytes : List ℕ = picture width h codes in
      let head : head_in bytes ≡ h = head_back width h codes (small h f) in
      let count : length codes ≡ slips_of h = length-map slips coded ∙ many in
      let there : length codes ≡ slips_of (head_in bytes) = count ∙ ap slips_of (sym head) in
      let body : length (body_bytes width codes) ≡ body_length width (slips_of (head_in bytes)) =
      bytes_length (body_length width (length codes)) (packed width 0 codes * 2 ^ filling width (length codes)) ∙ ap (body_length width) there in
      let accepted : head_refusal kind width bytes ≡ 0 = passes kind width bytes (record {
        long = omega (arith, length-append (head_bytes h) (body_bytes width codes));
        format = format_back width h codes (small h f);
        kindred = ap (λ x. x.kind) head ∙ is;
        ranges = ap unfit_head head ∙ f.ranges;
        exactly = length-append (head_bytes h) (body_bytes width codes) ∙ ap (λ k. 9 + k) body;
      }) in
      let back : codes_in width bytes ≡ codes = codes_back width codes (codes_under slips) (slips_of (head_in bytes)) there in
      let rest : rest_in width bytes ≡ 0 = rest_none width codes (codes_under slips) (slips_of (head_in bytes)) there in (
        inr (accepted, inr (subst (All (Coded coded)) (sym back) (coded_all coded slips), refl, ap (λ b. cond b 0 26) (sym (eq-eqb (rest_in width bytes) 0 rest)))),
        head,
        back,
      )

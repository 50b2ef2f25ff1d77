-- The codes of a body, tried one after the other. Assumes nothing.
use Rattle.std.proofs.Common.{◌≡◌, ℕ, ◌+◌, ◌<◌, ◌≤◌, cond, eqb, List, length, take, Ok, Err, All, Result, sym, refl, ap, ◌∙◌, subst, subst₂, inl, inr, arith}
use Rattle.std.specs.Int.Digits.{AllBelowBase}
use Rattle.std.proofs.lemmas.List.Elements.{All-more, All-nil}
use Rattle.std.proofs.lemmas.List.{take_all}
use Rattle.std.proofs.lemmas.Bool.{eq-eqb, ne_eqb}
use Rattle.std.proofs.lemmas.Result.{MatchResult-at_err, MatchResult-at_ok}
use Rattle.sharing.specs.Format.{body_length}
use Rattle.pictures.specs.Faults.{number_of, slip_of}
use Rattle.pictures.specs.Reading.{Coded, ReadThrough, codes_of, rest_of}
use Rattle.pictures.specs.Unpacking.{ElementRead, NothingRead}
use Rattle.pictures.specs.declared.fault.CardFault.{CardFault}
use Rattle.pictures.specs.declared.reader.BitReader.{BitReader}
use Rattle.pictures.proofs.Bodies.{code_there, length_codes}
use Rattle.pictures.proofs.Partway.{Partway, partway_code, partway_end, partway_next, partway_start}

-- What the next element tells of its code.
module _ {C : Type 0} {coded : C → ℕ} {slip : ℕ} {r : BitReader} {answer : Result C CardFault} {next : BitReader} (e : ElementRead coded slip r answer next) where
  pub code_of : {x : C} → answer ≡ Ok x → coded x ≡ e.code
  code_of {x} is = MatchResult-at_ok (λ y. coded y ≡ e.code) (λ f. (number_of f ≡ 25) × (slip_of f ≡ slip) × (Coded coded e.code → ⊥)) x is e.told

  pub no_code : {f : CardFault} → answer ≡ Err f → (number_of f ≡ 25) × (slip_of f ≡ slip) × (Coded coded e.code → ⊥)
  no_code {f} is = MatchResult-at_err (λ y. coded y ≡ e.code) (λ f. (number_of f ≡ 25) × (slip_of f ≡ slip) × (Coded coded e.code → ⊥)) f is e.told

-- Before the code at this place: the reader is there, and the codes so far are elements'.
pub record Tried (Code : ℕ → Type 0) (width n : ℕ) (body : List ℕ) (i : ℕ) (r : BitReader) : Type 0 where
  pub partway : Partway width n body i r
  pub codes : All Code (take i (codes_of width n body))

pub tried_start : {Code : ℕ → Type 0} {width n : ℕ} {body : List ℕ} {r : BitReader} {taken : ℕ} → NothingRead taken body r → taken ≡ width → (1 ≤ width) × (width ≤ 32) → AllBelowBase 256 body → length body ≡ body_length width n → Tried Code width n body 0 r
tried_start {Code = Code} new same wide under long = record { partway = partway_start new same wide under long; codes = All-nil Code }

module _ {C : Type 0} {coded : C → ℕ} {width n : ℕ} {body : List ℕ} {i : ℕ} {r : BitReader} (t : Tried (Coded coded) width n body i r) where
  module _ (more : i < n) {answer : Result C CardFault} {next : BitReader} (e : ElementRead coded i r answer next) where
    pub tried_next : {x : C} → answer ≡ Ok x → Tried (Coded coded) width n body (i + 1) next
    tried_next {x} is = record {
      partway = partway_next t.partway more e.read;
      codes = All-more (Coded coded) (codes_of width n body) i 0 (code_there width n body more) t.codes (x, code_of e is ∙ partway_code t.partway more e.read);
    }

    -- A code that is no element's is the first.
    pub tried_refused : {f : CardFault} → answer ≡ Err f → ReadThrough (Coded coded) (codes_of width n body) (rest_of width n body) (number_of f) (slip_of f)
    tried_refused {f} is =
        let none = no_code e is in
        subst₂ (ReadThrough (Coded coded) (codes_of width n body) (rest_of width n body)) (sym none.0) (sym none.1)
        (inl (record { there = code_there width n body more; before = t.codes; unread = λ h. none.2 (subst (Coded coded) (sym (partway_code t.partway more e.read)) h) }, refl))

  -- Every code is an element's: what is held decides.
  module _ (end : i ≡ n) where
    all : (v : ℕ) → cond (eqb r.held 0) 0 26 ≡ v → ReadThrough (Coded coded) (codes_of width n body) (rest_of width n body) v 0
    all v is =
        let long : length (codes_of width n body) ≤ i = omega (arith, length_codes width n body) in
        let rest = partway_end (subst (λ k. Partway width n body k r) end t.partway) in
        inr (subst (All (Coded coded)) (take_all i (codes_of width n body) long) t.codes, refl, sym is ∙ ap (λ x. cond (eqb x 0) 0 26) rest)

    pub tried_sound : r.held ≡ 0 → ReadThrough (Coded coded) (codes_of width n body) (rest_of width n body) 0 0
    tried_sound zero' = all 0 (ap (λ b. cond b 0 26) (eq-eqb r.held 0 zero'))

    pub tried_filled : (r.held ≡ 0 → ⊥) → ReadThrough (Coded coded) (codes_of width n body) (rest_of width n body) 26 0
    tried_filled some = all 26 (ap (λ b. cond b 0 26) (ne_eqb r.held 0 some))

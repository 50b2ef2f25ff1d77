-- The elements of a body's codes, written one after the other. Assumes nothing.
use Rattle.std.proofs.Common.{◌≡◌, ℕ, ◌+◌, ◌<◌, ◌≤◌, List, [], ◌∷◌, ◌++◌, map, length, take, set, Ok, Err, All, Result, sym, refl, ap, ◌∙◌, subst, ap₂}
use Rattle.std.specs.Int.Digits.{AllBelowBase}
use Rattle.std.proofs.lemmas.List.Elements.{All-get_or}
use Rattle.std.proofs.lemmas.List.{map_push, take_more, take_more_set}
use Rattle.sharing.specs.Format.{body_length}
use Rattle.pictures.specs.Reading.{Coded, codes_of}
use Rattle.pictures.specs.Unpacking.{ElementRead, NothingRead}
use Rattle.pictures.specs.declared.fault.CardFault.{CardFault}
use Rattle.pictures.specs.declared.reader.BitReader.{BitReader}
use Rattle.pictures.proofs.Bodies.{code_there}
use Rattle.pictures.proofs.Partway.{Partway, partway_code, partway_next, partway_start}
use Rattle.pictures.proofs.Tried.{code_of, no_code}

-- Before the code at this place: the reader is there, and the place holds the elements of the codes so far.
pub record Loading {C : Type 0} (coded : C → ℕ) (width n : ℕ) (body : List ℕ) (i : ℕ) (r : BitReader) (place : List C) : Type 0 where
  pub partway : Partway width n body i r
  pub written : map coded (take i place) ≡ take i (codes_of width n body)

pub loading_start : {C : Type 0} {coded : C → ℕ} {width n : ℕ} {body : List ℕ} {r : BitReader} {place : List C} {taken : ℕ} → NothingRead taken body r → taken ≡ width → (1 ≤ width) × (width ≤ 32) → AllBelowBase 256 body → length body ≡ body_length width n → Loading coded width n body 0 r place
loading_start new same wide under long = record { partway = partway_start new same wide under long; written = refl }

module _ {C : Type 0} {coded : C → ℕ} {width n : ℕ} {body : List ℕ} {i : ℕ} {r : BitReader} {place : List C} (l : Loading coded width n body i r place) where
  module _ (more : i < n) {slip : ℕ} {answer : Result C CardFault} {next : BitReader} (e : ElementRead coded slip r answer next) where
    pub loading_next : {x : C} → answer ≡ Ok x → i < length place → Loading coded width n body (i + 1) next (set place i x)
    loading_next {x} is room = record {
      partway = partway_next l.partway more e.read;
      written = ap (map coded) (take_more_set place i x room) ∙ map_push coded (take i place) x
          ∙ ap₂ (λ xs y. xs ++ y ∷ []) l.written (code_of e is ∙ partway_code l.partway more e.read) ∙ sym (take_more (codes_of width n body) i 0 (code_there width n body more));
    }

    -- Where a code is no element's, not all are.
    pub loading_refused : {f : CardFault} → answer ≡ Err f → All (Coded coded) (codes_of width n body) → ⊥
    loading_refused is all = (no_code e is).2 (subst (Coded coded) (sym (partway_code l.partway more e.read)) (All-get_or (Coded coded) (codes_of width n body) i 0 (code_there width n body more) all))

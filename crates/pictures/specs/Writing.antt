-- What write leaves in its place, and that pictures and cards answer to each other, one to one. Assumes nothing.
use Rattle.std.specs.Prelude.{◌≡◌, ℕ, ◌+◌, ◌^◌, ◌<◌, false, cond, not, ◌↔◌, List, ◌++◌, map, length, replicate, All, Result, MatchResult, ◌==◌}
use Rattle.std.specs.List.{flat_map}
use Rattle.plans.specs.Refusals.{outside}
use Rattle.sharing.specs.Format.{Head, body_bytes, body_length, digits, filling, picture}
use Rattle.pictures.specs.Faults.{write_number_of}
use Rattle.pictures.specs.Reading.{Coded, Verdict, codes_in, head_in, slips_of, unfit_head}
use Rattle.pictures.specs.declared.fault.WriteFault.{WriteFault}

-- The harbour first, then the number of slips, then the length of the place.
abbrev pub write_refusal : ℕ → Head → ℕ → ℕ → ℕ
write_refusal width h slips place =
    cond (outside 1 h.harbours h.harbour) 15
    (cond (not (slips == slips_of h)) 19
    (cond (not (place == 9 + body_length width (slips_of h))) 18 0))

-- What write answers and what the place then holds: the picture, or, refused, just what it held.
abbrev pub Written : ℕ → Head → List ℕ → List ℕ → List ℕ → Result Unit WriteFault → Type 0
Written width h codes before after r =
    MatchResult r (λ _. (write_refusal width h (length codes) (length before) ≡ 0) × (after ≡ picture width h codes))
    (λ f. (write_number_of f ≡ write_refusal width h (length codes) (length before)) × (after ≡ before))

-- A head whose numbers fit their fields.
pub record Fits (h : Head) : Type 0 where
  pub kind : h.kind < 16
  pub ranges : unfit_head h ≡ false
  pub issue : h.issue < 2 ^ 32
  pub round : h.round < 2 ^ 16

-- What is written is accepted, and its head and codes are read back.
abbrev pub ReadsBack : {C : Type 0} → (C → ℕ) → ℕ → ℕ → Type 0
ReadsBack {C} coded kind width =
    (h : Head) (slips : List C) → Fits h → h.kind ≡ kind → length slips ≡ slips_of h
    → Verdict (Coded coded) kind width (picture width h (map coded slips)) 0 0 × (head_in (picture width h (map coded slips)) ≡ h) × (codes_in width (picture width h (map coded slips)) ≡ map coded slips)

-- Two pictures of one head are equal exactly if their slips are the same.
abbrev pub OneToOne : {C V : Type 0} → (C → ℕ) → (C → V) → ℕ → Type 0
OneToOne {C} coded meaning width =
    (h : Head) (a b : List C) → length a ≡ slips_of h → length b ≡ slips_of h
    → (picture width h (map coded a) ≡ picture width h (map coded b)) ↔ (map meaning a ≡ map meaning b)

-- The bits of a number, the highest first.
abbrev pub bits_of : ℕ → ℕ → List ℕ
bits_of n x = digits 2 n x

-- The body as a string of bits: the codes' bits one behind the other, and then 0 to the end of the byte.
abbrev pub BodyIsBits : ℕ → Type 0
BodyIsBits width =
    (codes : List ℕ) → All (λ c. c < 2 ^ width) codes
    → flat_map (bits_of 8) (body_bytes width codes) ≡ flat_map (bits_of width) codes ++ replicate (filling width (length codes)) 0

-- What an opened picture comes to, by what its body comes to. Assumes nothing.
use Rattle.std.proofs.Common.{◌≡◌, ℕ, ◌-◌, ◌≤◌, List, map, length, take, drop, All, sym, ap, ◌∙◌, ap₂, subst₂, inl, inr, arith, length-drop}
use Rattle.std.specs.Int.Digits.{AllBelowBase}
use Rattle.std.proofs.lemmas.List.{take_rest}
use Rattle.std.proofs.lemmas.Bool.Decides.{nat_tests}
use Rattle.plans.specs.Shape.{card_length, shape_of}
use Rattle.plans.proofs.Bounds.{card_bound}
use Rattle.sharing.specs.Format.{body_length, picture}
use Rattle.pictures.specs.Reading.{Coded, ReadThrough, Verdict, codes_in, codes_of, head_in, head_refusal, rest_in, rest_of, said_by, slips_of}
use Rattle.pictures.specs.declared.head.CardHead.{CardHead}
use Rattle.pictures.proofs.Exact.{exact, sound}

-- A body without fault: every code is an element's, and the bits behind them are 0.
module _ {Code : ℕ → Type 0} {codes : List ℕ} {rest slip : ℕ} where
  pub faultless : ReadThrough Code codes rest 0 slip → All Code codes × (rest ≡ 0)
  faultless read = elim read [ inl f ↦ absurd (omega (arith, f.1)) | inr a ↦ (a.0, grind (arith, nat_tests)) ]

-- The body, as the program cuts it off.
abbrev pub body_in : List ℕ → List ℕ
body_in bytes = take (length bytes - 9) (drop 9 bytes)

-- An accepted head of a picture, and how many slips follow.
pub record Opens (kind width : ℕ) (bytes : List ℕ) (h : CardHead) (slips : ℕ) : Type 0 where
  pub sound : head_refusal kind width bytes ≡ 0
  pub said : said_by kind h ≡ head_in bytes
  pub counted : slips ≡ slips_of (head_in bytes)

-- What open answers, at the kind's own code and width, and how many slips the plan of its head counts.
pub opens : (bytes : List ℕ) (h : CardHead) {slips k w kind width : ℕ} → k ≡ kind → w ≡ width → (head_refusal k w bytes ≡ 0) × (said_by k h ≡ head_in bytes) → slips ≡ card_length (shape_of h.plan) → Opens kind width bytes h slips
opens bytes h {slips} kinds widths o counted = subst₂ (λ a b. Opens a b bytes h slips) kinds widths (record { sound = o.0; said = o.1; counted = counted ∙ ap slips_of o.1 })

module _ {kind width : ℕ} {bytes : List ℕ} {h : CardHead} {slips : ℕ} (o : Opens kind width bytes h slips) where
  pub few_slips : slips ≤ 2016
  few_slips = omega (arith, card_bound h.plan, ap slips_of o.said, o.counted)

  pub body_long : length (body_in bytes) ≡ body_length width slips
  body_long =
      let rest : length bytes - 9 ≡ body_length width (slips_of (head_in bytes)) = omega (arith, (sound kind width bytes o.sound).exactly) in
      ap length (take_rest bytes 9) ∙ length-drop 9 bytes ∙ rest ∙ ap (body_length width) (sym o.counted)

  -- the codes and the bits behind them, as the program cuts off the body
  same_codes : codes_of width slips (body_in bytes) ≡ codes_in width bytes
  same_codes = ap₂ (codes_of width) o.counted (take_rest bytes 9)

  same_rest : rest_of width slips (body_in bytes) ≡ rest_in width bytes
  same_rest = ap₂ (rest_of width) o.counted (take_rest bytes 9)

  -- What the body comes to is what the picture comes to.
  module _ (Code : ℕ → Type 0) {n slip : ℕ} where
    pub whole_verdict : ReadThrough Code (codes_of width slips (body_in bytes)) (rest_of width slips (body_in bytes)) n slip → Verdict Code kind width bytes n slip
    whole_verdict read = inr (o.sound, subst₂ (λ codes rest. ReadThrough Code codes rest n slip) same_codes same_rest read)

  -- An accepted picture is exactly the picture of its head and codes.
  module _ (wide : 1 ≤ width) (under : AllBelowBase 256 bytes) {C : Type 0} {coded : C → ℕ} where
    pub accepted : ReadThrough (Coded coded) (codes_of width slips (body_in bytes)) (rest_of width slips (body_in bytes)) 0 0
        → Verdict (Coded coded) kind width bytes 0 0 × (said_by kind h ≡ head_in bytes) × (bytes ≡ picture width (said_by kind h) (codes_in width bytes))
    accepted read = (
      whole_verdict (Coded coded) read,
      o.said,
      exact kind width bytes wide under o.sound (sym same_rest ∙ (faultless read).1) ∙ ap (λ head. picture width head (codes_in width bytes)) (sym o.said),
    )

    -- The elements of the codes make the same picture.
    pub loaded : (before after : List C) → length before ≡ slips → map coded after ≡ codes_of width (length before) (body_in bytes)
        → ReadThrough (Coded coded) (codes_of width slips (body_in bytes)) (rest_of width slips (body_in bytes)) 0 0
        → Verdict (Coded coded) kind width bytes 0 0 × (said_by kind h ≡ head_in bytes) × (length before ≡ slips_of (head_in bytes)) × (map coded after ≡ codes_in width bytes) × (bytes ≡ picture width (said_by kind h) (map coded after))
    loaded before after long written read =
        let codes : map coded after ≡ codes_in width bytes = written ∙ ap (λ k. codes_of width k (body_in bytes)) long ∙ same_codes in
        let a = accepted read in
        (a.0, a.1, long ∙ o.counted, codes, a.2 ∙ ap (picture width (said_by kind h)) (sym codes))

  -- A place of another length is refused, whatever the picture.
  pub misplaced : {C : Type 0} (coded : C → ℕ) (before : List C) → (length before ≡ slips → ⊥) → ReadThrough (Coded coded) (codes_of width slips (body_in bytes)) (rest_of width slips (body_in bytes)) 0 0
      → Verdict (Coded coded) kind width bytes 0 0 × (length before ≡ slips_of (head_in bytes) → ⊥)
  misplaced coded before other read = (whole_verdict (Coded coded) read, λ e. other (e ∙ sym o.counted))

-- The verdict on a picture of any of the three kinds, by the numbers that are codes of the kind. Assumes nothing.
use Rattle.std.proofs.Common.{◌≡◌, ℕ, ◌^◌, ◌<◌, ◌≤◌, ◌↔◌, List, get_or, take, Option, None, Some, sym, ap, ◌∙◌, subst, inl, inr, mod-eq_of_lt, arith}
use Rattle.std.proofs.lemmas.List.Elements.{All-weaker}
use Rattle.std.proofs.lemmas.Bool.Decides.{nat_tests}
use Rattle.std.specs.Option.{unwrap_or}
use Rattle.kinds.specs.Codes.{code_of}
use Rattle.kinds.specs.Kinds.{byte, dial, word}
use Rattle.kinds.specs.declared.dial_number.DialNumber.{DialNumber as DialNumberCard}
use Rattle.kinds.specs.declared.key_word.KeyWord.{KeyWord as KeyWordCard}
use Rattle.kinds.specs.declared.kind.Kind.{Kind}
use Rattle.kinds.specs.declared.kind.Kind.TheVariants.{KeyWord, MaskByte, DialNumber}
use Rattle.kinds.specs.declared.mask_byte.MaskByte.{MaskByte as MaskByteCard}
use Rattle.pictures.specs.FromC.{Judged, JudgedAs, unknown_kind}
use Rattle.pictures.specs.Reading.{Coded, Judges, NamesKind, ReadThrough, Verdict, codes_in, head_in, head_refusal, rest_in}

-- Where two descriptions of the codes agree, so do the verdicts.
module _ (Code Code' : ℕ → Type 0) (same : (c : ℕ) → Code c ↔ Code' c) where
  read_like : (codes : List ℕ) (rest n slip : ℕ) → ReadThrough Code codes rest n slip → ReadThrough Code' codes rest n slip
  read_like codes rest n slip read = elim read [
    | inl f ↦ inl (record { there = f.0.there; before = All-weaker Code Code' (λ c. (same c).0) (take slip codes) f.0.before; unread = λ h. f.0.unread ((same (get_or codes slip 0)).1 h) }, f.1)
    | inr a ↦ inr (All-weaker Code Code' (λ c. (same c).0) codes a.0, a.1, a.2)
  ]

  verdict_like : (kind width : ℕ) (bytes : List ℕ) (n slip : ℕ) → Verdict Code kind width bytes n slip → Verdict Code' kind width bytes n slip
  verdict_like kind width bytes n slip v = elim v [ inl r ↦ inl r | inr a ↦ inr (a.0, read_like (codes_in width bytes) (rest_in width bytes) n slip a.1) ]

-- The verdict on a picture of a kind whose codes are the numbers below a limit.
judged_as : {C : Type 0} (coded : C → ℕ) (kind width limit : ℕ) (bytes : List ℕ) (n : ℕ) → ((c : ℕ) → Coded coded c ↔ (c < limit)) → Judges coded kind width bytes n → JudgedAs kind width limit bytes n
judged_as coded kind width limit bytes n same j = (j.0, verdict_like (Coded coded) (λ c. c < limit) same kind width bytes n j.0 j.1)

-- The codes of each kind.
codes_below : {C : Type 0} (coded : C → ℕ) (limit : ℕ) (made : ℕ → C) → ((e : C) → coded e < limit) → ((c : ℕ) → c < limit → coded (made c) ≡ c) → (c : ℕ) → Coded coded c ↔ (c < limit)
codes_below coded limit made below back c = (λ h. subst (λ x. x < limit) h.1 (below h.0), λ lt. (made c, back c lt))

abbrev pub word_code : KeyWordCard → ℕ
word_code e = (word e.value).number

abbrev pub mask_code : MaskByteCard → ℕ
mask_code e = (byte e.value).number

abbrev pub dial_code : DialNumberCard → ℕ
dial_code e = (dial e.held).number

word_codes : (c : ℕ) → Coded word_code c ↔ (c < 2 ^ 32)
word_codes = codes_below word_code (2 ^ 32) (λ c. record { value = c }) (λ e. (word e.value).below) (λ c lt. mod-eq_of_lt lt)

mask_codes : (c : ℕ) → Coded mask_code c ↔ (c < 2 ^ 8)
mask_codes = codes_below mask_code (2 ^ 8) (λ c. record { value = c }) (λ e. (byte e.value).below) (λ c lt. mod-eq_of_lt lt)

dial_codes : (c : ℕ) → Coded dial_code c ↔ (c < 10000)
dial_codes = codes_below dial_code 10000 (λ c. record { held = c }) (λ e. (dial e.held).below) (λ c lt. mod-eq_of_lt lt)

-- Of another kind the refusal is that of no known kind.
unknown : (bytes : List ℕ) (kind width : ℕ) → ((head_in bytes).kind ≡ kind → ⊥) → head_refusal kind width bytes ≡ unknown_kind bytes
unknown bytes kind width other = grind (arith, nat_tests)

some_refusal : (bytes : List ℕ) → 1 ≤ unknown_kind bytes
some_refusal bytes = grind (arith, nat_tests)

-- The check of the kind that the first byte names is the verdict, and that of key words where it names none.
module _ (bytes : List ℕ) (n : ℕ) where
  pub judged_mask : (named : Option Kind) → NamesKind bytes named → unwrap_or named KeyWord ≡ MaskByte → Judges mask_code 2 8 bytes n → Judged bytes n
  judged_mask (Some k) names is j =
      let two : (head_in bytes).kind ≡ 2 = sym names ∙ ap code_of is in
      record { word = λ e. absurd (omega arith); mask = λ _. judged_as mask_code 2 8 (2 ^ 8) bytes n mask_codes j; dial = λ e. absurd (omega arith); other = λ _ other _. absurd (other two) }
  judged_mask None names is j = absurd (cc)

  pub judged_dial : (named : Option Kind) → NamesKind bytes named → unwrap_or named KeyWord ≡ DialNumber → Judges dial_code 3 14 bytes n → Judged bytes n
  judged_dial (Some k) names is j =
      let three : (head_in bytes).kind ≡ 3 = sym names ∙ ap code_of is in
      record { word = λ e. absurd (omega arith); mask = λ e. absurd (omega arith); dial = λ _. judged_as dial_code 3 14 10000 bytes n dial_codes j; other = λ _ _ other. absurd (other three) }
  judged_dial None names is j = absurd (cc)

  -- neither a mask byte nor a dial number is named
  no_other : (named : Option Kind) → NamesKind bytes named → unwrap_or named KeyWord ≡ KeyWord → ((head_in bytes).kind ≡ 2 → ⊥) × ((head_in bytes).kind ≡ 3 → ⊥)
  no_other (Some k) names is =
      let one : (head_in bytes).kind ≡ 1 = sym names ∙ ap code_of is in (λ e. omega arith, λ e. omega arith)
  no_other None names is = (λ e. names MaskByte (sym e), λ e. names DialNumber (sym e))

  pub judged_word : (named : Option Kind) → NamesKind bytes named → unwrap_or named KeyWord ≡ KeyWord → Judges word_code 1 32 bytes n → Judged bytes n
  judged_word named names is j =
      let others = no_other named names is in
      record { word = λ _. as_word; mask = λ e. absurd (others.0 e); dial = λ e. absurd (others.1 e); other = λ other _ _. refused other }
    where
      as_word : JudgedAs 1 32 (2 ^ 32) bytes n
      as_word = judged_as word_code 1 32 (2 ^ 32) bytes n word_codes j

      refused : ((head_in bytes).kind ≡ 1 → ⊥) → n ≡ unknown_kind bytes
      refused other = elim j.1 [ inl r ↦ r.1 ∙ unknown bytes 1 32 other | inr a ↦ absurd (omega (arith, a.0, unknown bytes 1 32 other, some_refusal bytes)) ]

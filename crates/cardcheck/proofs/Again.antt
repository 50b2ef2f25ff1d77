-- A card that is loaded and written again. Assumes nothing.
use Rattle.std.proofs.Common.{◌≡◌, ℕ, Bool, true, false, List, map, length, drop, vec_items, Decides, sym, ap, ◌∙◌, subst, arith}
use Rattle.std.proofs.lemmas.Bool.Decides.{nat_tests}
use Rattle.sharing.specs.Format.{Head, picture}
use Rattle.pictures.specs.Reading.{Coded, Verdict, head_in, slips_of}
use Rattle.pictures.specs.Writing.{write_refusal}
use Rattle.pictures.proofs.Bodies.{length_codes}
use Rattle.cardcheck.specs.Cards.{SoundAs, WritesSame}
use Rattle.cardcheck.specs.declared.told.Told.{Told}

-- What the comparison tells: whether the card can be written, and gives these bytes.
pub decided : (width : ℕ) (h : Head) (codes given bytes first written shown : List ℕ) (b : Bool)
    → given ≡ codes → length first ≡ length bytes
    → (write_refusal width h (length given) (length first) ≡ 0) × (written ≡ picture width h given)
    → shown ≡ written → Decides b (shown ≡ bytes)
    → Decides b ((write_refusal width h (length codes) (length bytes) ≡ 0) × (picture width h codes ≡ bytes))
decided width h codes given bytes first written shown b same long wrote is tells_apart =
    let free : write_refusal width h (length codes) (length bytes) ≡ 0 = subst (λ xs. write_refusal width h (length xs) (length bytes) ≡ 0) same (subst (λ n. write_refusal width h (length given) n ≡ 0) long wrote.0) in
    let made : shown ≡ picture width h codes = is ∙ wrote.1 ∙ ap (picture width h) same in
    (λ yes. (free, sym made ∙ tells_apart.0 yes), λ w. tells_apart.1 (made ∙ w.1))

-- A sound picture's head and length are not refused, and what opens can be written.
writable : (Code : ℕ → Type 0) (kind width : ℕ) (bytes : List ℕ) → Verdict Code kind width bytes 0 0 → write_refusal width (head_in bytes) (slips_of (head_in bytes)) (length bytes) ≡ 0
writable Code kind width bytes sound = grind (arith, nat_tests)

-- The card of a sound picture, written again, gives its bytes.
pub writes_same : {C : Type 0} (coded : C → ℕ) (kind width : ℕ) (bytes : List ℕ) (card : Told C) → SoundAs coded kind width bytes card → WritesSame coded kind width bytes card
writes_same coded kind width bytes card s =
    let free = writable (Coded coded) kind width bytes s.sound in (
      subst (λ h. write_refusal width h (length (map coded (vec_items card.slips))) (length bytes) ≡ 0) (sym s.head)
          (subst (λ n. write_refusal width (head_in bytes) n (length bytes) ≡ 0) (sym (ap length s.codes ∙ length_codes width (slips_of (head_in bytes)) (drop 9 bytes))) free),
      sym s.whole,
    )

-- So it is never found to give other bytes.
pub never_otherwise : {C : Type 0} (coded : C → ℕ) (kind width : ℕ) (bytes : List ℕ) (card : Told C) (b : Bool) → SoundAs coded kind width bytes card → Decides b (WritesSame coded kind width bytes card) → b ≡ false → ⊥
never_otherwise coded kind width bytes card b sound decides apart =
    let yes : b ≡ true = decides.1 (writes_same coded kind width bytes card sound) in
    grind arith

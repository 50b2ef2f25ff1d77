-- What a picture comes to for the tool. Assumes nothing.
use Rattle.std.specs.Prelude.{◌≡◌, ℕ, List, map, length, vec_items, Result, MatchResult, ⊤}
use Rattle.sharing.specs.Format.{picture}
use Rattle.pictures.specs.Faults.{number_of, slip_of}
use Rattle.pictures.specs.Reading.{Coded, Verdict, codes_in, head_in, said_by}
use Rattle.pictures.specs.Writing.{write_refusal}
use Rattle.pictures.specs.declared.fault.CardFault.{CardFault}
use Rattle.cardcheck.specs.declared.told.Told.{Told}
use Rattle.cardcheck.specs.declared.told.Unsound.{Unsound}
use Rattle.cardcheck.specs.declared.told.Unsound.TheVariants.{Refused, Otherwise, NoMemory}

module _ {C : Type 0} (coded : C → ℕ) (kind width : ℕ) (bytes : List ℕ) where
  -- The picture is refused with this fault.
  abbrev pub RefusedBy : CardFault → Type 0
  RefusedBy f = Verdict (Coded coded) kind width bytes (number_of f) (slip_of f)

  -- The picture is sound, the card has its head and codes, and the picture is exactly the card's.
  pub record SoundAs (card : Told C) : Type 0 where
    pub sound : Verdict (Coded coded) kind width bytes 0 0
    pub head : said_by kind card.head ≡ head_in bytes
    pub codes : map coded (vec_items card.slips) ≡ codes_in width bytes
    pub whole : bytes ≡ picture width (said_by kind card.head) (map coded (vec_items card.slips))

  -- Why no card is told: the picture is refused, or there is no memory. A sound picture is never written otherwise.
  abbrev pub ExcusedBy : Unsound → Type 0
  ExcusedBy (Refused f) = RefusedBy f
  ExcusedBy Otherwise = ⊥
  ExcusedBy (NoMemory e) = ⊤

  -- The card of a sound picture, or why there is none.
  abbrev pub Finds : Result (Told C) Unsound → Type 0
  Finds r = MatchResult r SoundAs ExcusedBy

  -- The card can be written, and its picture has these bytes.
  abbrev pub WritesSame : Told C → Type 0
  WritesSame card =
      (write_refusal width (said_by kind card.head) (length (map coded (vec_items card.slips))) (length bytes) ≡ 0)
      × (picture width (said_by kind card.head) (map coded (vec_items card.slips)) ≡ bytes)

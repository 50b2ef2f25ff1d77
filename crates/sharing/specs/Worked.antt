-- Worked cases of the definitions, gathered in one statement with those of the groups and the matrix. Assumes nothing.
use Rattle.std.specs.Prelude.{◌≡◌, ℕ, List, [], ◌∷◌, map}
use Rattle.std.specs.List.{range_with_len}
use Rattle.kinds.specs.Kinds.{bytes, byte, dials, dial, words, word}
use Rattle.kinds.specs.Residue.{Residue}
use Rattle.plans.specs.Groups.{groups}
use Rattle.matrix.specs.Worked.{Worked}
use Rattle.sharing.specs.Dealing.{Scheme, added, card_in, dealing, restores, zeros}
use Rattle.sharing.specs.Format.{picture}

-- Any t of n harbours restore a key of one component.
abbrev pub any : ℕ → ℕ → Scheme
any t n = record { masks = groups n t; harbours = n; components = 1; threshold = t }

-- The numbers on each card of a tray of three harbours.
abbrev pub shown : {limit : ℕ} → Scheme → List (Residue limit) → List (List ℕ)
shown s tray = map (λ b. map (λ r. r.number) (card_in s b tray)) (range_with_len 0 s.harbours)

-- Two of three, dial key 1234, random 9000, 500, 0.
abbrev pub dealt : List (Residue 10000)
dealt = dealing dials (any 2 3) (dial 1234 ∷ []) (dial 9000 ∷ dial 500 ∷ dial 0 ∷ [])

abbrev pub DialsAreDealt : Type 0
DialsAreDealt = shown (any 2 3) dealt ≡ (234 ∷ 1734 ∷ []) ∷ (9000 ∷ 1234 ∷ []) ∷ (500 ∷ 0 ∷ []) ∷ []

-- The same tray after a draw of 1, 2, 3 and its apply.
abbrev pub renewed : List (Residue 10000)
renewed = added dials dealt (dealing dials (any 2 3) (zeros dials 1) (dial 1 ∷ dial 2 ∷ dial 3 ∷ []))

-- All groups still restore 1234.
abbrev pub DialsAreRenewed : Type 0
DialsAreRenewed =
    (shown (any 2 3) renewed ≡ (235 ∷ 1736 ∷ []) ∷ (9001 ∷ 1237 ∷ []) ∷ (502 ∷ 3 ∷ []) ∷ [])
    × (map (λ g. map (λ r. r.number) (restores dials (any 2 3) renewed g)) (range_with_len 0 3) ≡ (1234 ∷ []) ∷ (1234 ∷ []) ∷ (1234 ∷ []) ∷ [])

-- Three of three, mask byte 5A, random 0F, F0.
abbrev pub MasksAreDealt : Type 0
MasksAreDealt = shown (any 3 3) (dealing bytes (any 3 3) (byte 0x5A ∷ []) (byte 0x0F ∷ byte 0xF0 ∷ [])) ≡ (0xA5 ∷ []) ∷ (0xF0 ∷ []) ∷ (0x0F ∷ []) ∷ []

-- Two of two, key word 4,294,967,295, random 2.
abbrev pub WordsAreDealt : Type 0
WordsAreDealt = shown (any 2 2) (dealing words (any 2 2) (word 4294967295 ∷ []) (word 2 ∷ [])) ≡ (1 ∷ []) ∷ (2 ∷ []) ∷ []

-- The card of harbour 1 after that apply, of issue 7, as a picture.
abbrev pub CardIsPictured : Type 0
CardIsPictured =
    picture 14 (record { kind = 3; harbours = 3; threshold = 2; harbour = 1; components = 1; issue = 7; round = 1 }) (map (λ r. r.number) (card_in (any 2 3) 0 renewed))
    ≡ 0x13 ∷ 0x32 ∷ 0x11 ∷ 0 ∷ 0 ∷ 0 ∷ 7 ∷ 0 ∷ 1 ∷ 0x03 ∷ 0xAC ∷ 0x6C ∷ 0x80 ∷ []

-- All the worked cases together.
abbrev pub WorkedCases : Type 0
WorkedCases = Worked × DialsAreDealt × DialsAreRenewed × MasksAreDealt × WordsAreDealt × CardIsPictured

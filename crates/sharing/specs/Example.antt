-- A worked example of secrecy: two runs of one list of turns, from two keys, in which the same is seen. Assumes nothing.
use Rattle.std.specs.Prelude.{◌≡◌, ℕ, true, false, List, [], ◌∷◌, length, ◌≢◌}
use Rattle.kinds.specs.Kinds.{dials, dial}
use Rattle.kinds.specs.Residue.{Residue}
use Rattle.sharing.specs.Calls.{Told, draw, apply, read, picture, Turn, own}
use Rattle.sharing.specs.Cover.{HoldNoGroup}
use Rattle.sharing.specs.Dealing.{Scheme, added, zeros}
use Rattle.sharing.specs.Secrecy.{read_in, deal_shift, draw_shift, Sound, Agrees}
use Rattle.sharing.specs.Steps.{Kind, Seen, refused, noted, done, handed, pictured, State, values, Run, Dealt}

-- Dial numbers as a kind, of which each element is what it means.
abbrev pub dial_kind : Kind (Residue 10000)
dial_kind = record { group = dials; meaning = λ r. r; code = λ r. r.number; number = 3; width = 14 }

-- Any two of three harbours restore a key of one component.
abbrev pub two_of_three : Scheme
two_of_three = record { masks = 3 ∷ 5 ∷ 6 ∷ []; harbours = 3; components = 1; threshold = 2 }

-- Harbour 1 is read in round 0 and harbour 2 in round 1, which together are a group; a read of harbour 4, which is none, is refused.
abbrev pub turns : List Turn
turns =
    own (read 1 6) ∷ own (read 4 6) ∷ own (draw 3 6) ∷ own (apply 0 6 6) ∷ own (read 2 6) ∷ own (picture 2 6 13) ∷ []

-- What is seen in both runs, turn by turn.
abbrev pub seen : List (Seen (Residue 10000))
seen =
    handed (dial 234 ∷ dial 1734 ∷ []) ∷ refused 15 ∷ noted 0 ∷ done ∷ handed (dial 9001 ∷ dial 1237 ∷ [])
    ∷ pictured (0x13 ∷ 0x32 ∷ 0x21 ∷ 0 ∷ 0 ∷ 0 ∷ 7 ∷ 0 ∷ 1 ∷ 140 ∷ 164 ∷ 77 ∷ 80 ∷ []) ∷ []

-- The record of the tray, which is of issue 7, in a round.
abbrev pub told_in : ℕ → Told
told_in round = record { scheme = two_of_three; issue = 7; round = round; drawn = false }

-- Six zeros: a sheet before and after use.
abbrev pub blank : List (Residue 10000)
blank = dial 0 ∷ dial 0 ∷ dial 0 ∷ dial 0 ∷ dial 0 ∷ dial 0 ∷ []

-- How the second key differs from the first.
abbrev pub difference : List (Residue 10000)
difference = dial 3087 ∷ []

-- The key of the first run.
abbrev pub key₁ : List (Residue 10000)
key₁ = dial 1234 ∷ []

-- The random elements with which the first key is dealt.
abbrev pub dealt₁ : List (Residue 10000)
dealt₁ = dial 9000 ∷ dial 500 ∷ dial 0 ∷ []

-- The random elements of the first run's draw.
abbrev pub drawn₁ : List (Residue 10000)
drawn₁ = dial 1 ∷ dial 2 ∷ dial 3 ∷ []

-- How the first run begins.
abbrev pub start₁ : State (Residue 10000)
start₁ = record { told = told_in 0; tray = dial 234 ∷ dial 1734 ∷ dial 9000 ∷ dial 1234 ∷ dial 500 ∷ dial 0 ∷ []; sheet = blank }

-- How the first run ends.
abbrev pub end₁ : State (Residue 10000)
end₁ = record { told = told_in 1; tray = dial 235 ∷ dial 1736 ∷ dial 9001 ∷ dial 1237 ∷ dial 502 ∷ dial 3 ∷ []; sheet = blank }

-- The key of the second run.
abbrev pub key₂ : List (Residue 10000)
key₂ = dial 4321 ∷ []

-- The random elements with which the second key is dealt: 6913, 6913 and 0 more.
abbrev pub dealt₂ : List (Residue 10000)
dealt₂ = dial 5913 ∷ dial 7413 ∷ dial 0 ∷ []

-- The random elements of the second run's draw: 3087, 3087 and 6913 more.
abbrev pub drawn₂ : List (Residue 10000)
drawn₂ = dial 3088 ∷ dial 3089 ∷ dial 6916 ∷ []

-- How the second run begins: harbour 1 holds what it does in the first.
abbrev pub start₂ : State (Residue 10000)
start₂ = record { told = told_in 0; tray = dial 234 ∷ dial 1734 ∷ dial 5913 ∷ dial 4321 ∷ dial 7413 ∷ dial 0 ∷ []; sheet = blank }

-- How the second run ends: harbour 2 holds what it does in the first.
abbrev pub end₂ : State (Residue 10000)
end₂ = record { told = told_in 1; tray = dial 3322 ∷ dial 4823 ∷ dial 9001 ∷ dial 1237 ∷ dial 502 ∷ dial 6916 ∷ []; sheet = blank }

-- All that secrecy asks holds of these turns and both runs, in which the same is seen; harbour 1 is read in round 0 and harbour 2 in round 1; the keys differ, and neither shift is zero.
abbrev pub RunsExist : Type 0
RunsExist =
    Agrees dial_kind × Sound two_of_three × (length difference ≡ two_of_three.components)
    × ((round : ℕ) → HoldNoGroup two_of_three (read_in dial_kind.width two_of_three 7 turns round))
    × (Dealt dial_kind two_of_three 7 key₁ dealt₁ start₁ × Run dial_kind start₁ turns drawn₁ seen end₁)
    × (Dealt dial_kind two_of_three 7 key₂ dealt₂ start₂ × Run dial_kind start₂ turns drawn₂ seen end₂)
    × (values dial_kind key₂ ≡ added dials (values dial_kind key₁) difference)
    × (values dial_kind dealt₂ ≡ added dials (values dial_kind dealt₁) (deal_shift dials dial_kind.width two_of_three 7 turns difference))
    × (values dial_kind drawn₂ ≡ added dials (values dial_kind drawn₁) (draw_shift dials dial_kind.width two_of_three 7 turns difference))
    × (read_in dial_kind.width two_of_three 7 turns 0 0 ≡ true) × (read_in dial_kind.width two_of_three 7 turns 1 1 ≡ true)
    × (key₁ ≢ key₂)
    × (deal_shift dials dial_kind.width two_of_three 7 turns difference ≢ zeros dials 3)
    × (draw_shift dials dial_kind.width two_of_three 7 turns difference ≢ zeros dials 3)

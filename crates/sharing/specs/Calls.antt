-- Calls on a tray, told without elements: when each is refused, with which number, and what the record tells afterwards. Assumes nothing.
use Rattle.std.specs.Prelude.{ℕ, ◌+◌, ◌-◌, Bool, true, false, cond, not, ◌&&◌, ◌||◌, length, drop, count_by, ◌==◌, nat_lt}
use Rattle.plans.specs.Groups.{has}
use Rattle.plans.specs.Layout.{card, tray}
use Rattle.matrix.specs.Matrix.{columns}
use Rattle.sharing.specs.Dealing.{Scheme}
use Rattle.sharing.specs.Format.{body_length}

-- What a record tells: whose tray it is, its issue number, its round, and whether a draw is open.
pub record Told : Type 0 where
  pub scheme : Scheme
  pub issue : ℕ
  pub round : ℕ
  pub drawn : Bool

-- A call by all that is handed in but elements: harbours, the round that a note bears, and the lengths of what is lent.
pub data Call : Type 0 where
  draw : (randoms sheet : ℕ) → Call
  apply : (note tray sheet : ℕ) → Call
  discard : (note sheet : ℕ) → Call
  read : (harbour tray : ℕ) → Call
  picture : (harbour tray place : ℕ) → Call
  reissue : (harbour tray working : ℕ) → Call
  audit : (tray : ℕ) → Call

-- How many slips the tray has.
abbrev pub tray_length : Scheme → ℕ
tray_length s = length (tray s.masks s.harbours s.components)

-- How many random elements a dealing takes.
abbrev pub random_count : Scheme → ℕ
random_count s = length (drop s.components (columns s.masks s.components))

-- How many bytes the picture of a harbour's card has, with codes of so many bits.
abbrev pub picture_length : Scheme → ℕ → ℕ → ℕ
picture_length s width harbour = 9 + body_length width (length (card s.masks s.components (harbour - 1)))

-- Whether a number is no harbour.
abbrev pub no_harbour : Scheme → ℕ → Bool
no_harbour s harbour = nat_lt harbour 1 || nat_lt s.harbours harbour

-- Whether every group names a harbour, so that none can do without it: in a threshold plan, whether the threshold is the number of harbours.
abbrev pub needed : Scheme → ℕ → Bool
needed s harbour = count_by (λ m. not (has m (harbour - 1))) s.masks == 0

-- Whether a note's draw is the one that is open.
abbrev pub current : Told → ℕ → Bool
current t note = t.drawn && note == t.round

-- A refusal where a test is true, and otherwise what comes after it.
abbrev pub refuse : Bool → ℕ → ℕ → ℕ
refuse test number after = cond test number after

-- The number with which a call is refused, and 0 where it is not, with pictures in codes of so many bits.
abbrev pub refusal : ℕ → Told → Call → ℕ
refusal w t (draw randoms sheet) =
    refuse t.drawn 11 (refuse (t.round == 65535) 12
    (refuse (not (randoms == random_count t.scheme)) 9 (refuse (not (sheet == tray_length t.scheme)) 13 0)))
refusal w t (apply note tray sheet) =
    refuse (not (tray == tray_length t.scheme)) 10
    (refuse (not (sheet == tray_length t.scheme)) 13 (refuse (not (current t note)) 14 0))
refusal w t (discard note sheet) = refuse (not (sheet == tray_length t.scheme)) 13 0
refusal w t (read harbour tray) = refuse (not (tray == tray_length t.scheme)) 10 (refuse (no_harbour t.scheme harbour) 15 0)
refusal w t (picture harbour tray place) =
    refuse (not (tray == tray_length t.scheme)) 10
    (refuse (no_harbour t.scheme harbour) 15 (refuse (not (place == picture_length t.scheme w harbour)) 18 0))
refusal w t (reissue harbour tray working) =
    refuse (not (tray == tray_length t.scheme)) 10
    (refuse (no_harbour t.scheme harbour) 15
    (refuse (needed t.scheme harbour) 16 (refuse (not (working == t.scheme.components)) 17 0)))
refusal w t (audit tray) = refuse (not (tray == tray_length t.scheme)) 10 0

-- A deal, by the lengths of key, random elements and tray.
abbrev pub deal_refusal : Scheme → ℕ → ℕ → ℕ → ℕ
deal_refusal s key randoms tray =
    refuse (not (key == s.components)) 8 (refuse (not (randoms == random_count s)) 9 (refuse (not (tray == tray_length s)) 10 0))

-- The record as a deal leaves it.
abbrev pub fresh : Scheme → ℕ → Told
fresh scheme issue = record { scheme = scheme; issue = issue; round = 0; drawn = false }

-- The record with its draw open or closed, in a round.
abbrev pub turned : Told → ℕ → Bool → Told
turned t round drawn = record { scheme = t.scheme; issue = t.issue; round = round; drawn = drawn }

-- What the record tells after a call that is not refused.
abbrev pub after : Told → Call → Told
after t (draw randoms sheet) = turned t t.round true
after t (apply note tray sheet) = turned t (t.round + 1) false
after t (discard note sheet) = turned t t.round (cond (current t note) false t.drawn)
after t (read harbour tray) = t
after t (picture harbour tray place) = t
after t (reissue harbour tray working) = t
after t (audit tray) = t

-- How many random elements a call that is not refused takes.
abbrev pub takes : Told → Call → ℕ
takes t (draw randoms sheet) = random_count t.scheme
takes t (apply note tray sheet) = 0
takes t (discard note sheet) = 0
takes t (read harbour tray) = 0
takes t (picture harbour tray place) = 0
takes t (reissue harbour tray working) = 0
takes t (audit tray) = 0

-- A turn of a run: a call upon the tray's own record, or one upon another record, which is then refused.
pub data Turn : Type 0 where
  own : Call → Turn
  other : Told → Call → Turn

-- What the tray's own record tells after a turn.
abbrev pub after_turn : ℕ → Told → Turn → Told
after_turn w t (own c) = cond (refusal w t c == 0) (after t c) t
after_turn w t (other u c) = t

-- How many random elements a turn takes.
abbrev pub taken_by : ℕ → Told → Turn → ℕ
taken_by w t (own c) = cond (refusal w t c == 0) (takes t c) 0
taken_by w t (other u c) = 0

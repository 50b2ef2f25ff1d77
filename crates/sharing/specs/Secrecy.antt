-- Which harbours are read in which round, the shift that hides a difference of keys, and the promise of secrecy. Assumes nothing.
use Rattle.std.specs.Prelude.{◌≡◌, ℕ, ◌+◌, ◌^◌, ◌<◌, ◌≤◌, Bool, true, false, cond, ◌&&◌, ◌||◌, ◌↔◌, List, [], ◌∷◌, ◌++◌, length, All, ◌==◌, count_ones}
use Rattle.kinds.specs.Group.{Group}
use Rattle.sharing.specs.Calls.{Told, Call, draw, apply, discard, read, picture, reissue, audit, refusal, fresh, Turn, own, other, after_turn}
use Rattle.sharing.specs.Cover.{Readers, cover, HoldNoGroup}
use Rattle.sharing.specs.Dealing.{Scheme, added, opposed}
use Rattle.sharing.specs.Steps.{Kind, Seen, State, values, Run, Dealt}

-- Whether a call hands out the card of the harbour at a bit.
abbrev pub hands_out : Call → ℕ → Bool
hands_out (draw randoms sheet) b = false
hands_out (apply note tray sheet) b = false
hands_out (discard note sheet) b = false
hands_out (read harbour tray) b = harbour == b + 1
hands_out (picture harbour tray place) b = harbour == b + 1
hands_out (reissue harbour tray working) b = false
hands_out (audit tray) b = false

-- Whether a turn reads the harbour at a bit in a round: an accepted read or picture names it while the record is in that round.
abbrev pub reads_in : ℕ → Told → Turn → ℕ → Readers
reads_in w t (own c) round b = refusal w t c == 0 && t.round == round && hands_out c b
reads_in w t (other u c) round b = false

-- The harbours that some turns read in a round.
abbrev pub readers : ℕ → Told → List Turn → ℕ → Readers
readers w t [] round b = false
readers w t (x ∷ xs) round b = reads_in w t x round b || readers w (after_turn w t x) xs round b

-- What is added to the random values of one turn, with the readers of every round given: an accepted draw goes from the cover of this round to that of the next.
abbrev pub turn_shift : (G : Group) → ℕ → (ℕ → Readers) → List G.Value → Told → Turn → List G.Value
turn_shift G w by d t (own (draw randoms sheet)) =
    cond (refusal w t (draw randoms sheet) == 0)
    (added G (cover G t.scheme (by (t.round + 1)) d) (opposed G (cover G t.scheme (by t.round) d))) []
turn_shift G w by d t (own (apply note tray sheet)) = []
turn_shift G w by d t (own (discard note sheet)) = []
turn_shift G w by d t (own (read harbour tray)) = []
turn_shift G w by d t (own (picture harbour tray place)) = []
turn_shift G w by d t (own (reissue harbour tray working)) = []
turn_shift G w by d t (own (audit tray)) = []
turn_shift G w by d t (other u c) = []

-- What is added to the random values of all turns.
abbrev pub shifts : (G : Group) → ℕ → (ℕ → Readers) → List G.Value → Told → List Turn → List G.Value
shifts G w by d t [] = []
shifts G w by d t (x ∷ xs) = turn_shift G w by d t x ++ shifts G w by d (after_turn w t x) xs

-- The readers of each round of a run.
abbrev pub read_in : ℕ → Scheme → ℕ → List Turn → ℕ → Readers
read_in w scheme issue turns round = readers w (fresh scheme issue) turns round

-- The shift of the deal's random values: the cover of what is read in round 0.
abbrev pub deal_shift : (G : Group) → ℕ → Scheme → ℕ → List Turn → List G.Value → List G.Value
deal_shift G w scheme issue turns d = cover G scheme (read_in w scheme issue turns 0) d

-- The shift of the random values of every draw.
abbrev pub draw_shift : (G : Group) → ℕ → Scheme → ℕ → List Turn → List G.Value → List G.Value
draw_shift G w scheme issue turns d = shifts G w (read_in w scheme issue turns) d (fresh scheme issue) turns

-- A list of groups that each have a member, and none above the number of harbours.
abbrev pub Sound : Scheme → Type 0
Sound s = All (λ m. (1 ≤ count_ones m) × (m < 2 ^ s.harbours)) s.masks

-- Code and meaning agree.
abbrev pub Agrees : {E : Type 0} → Kind E → Type 0
Agrees {E} K = (a b : E) → (K.code a ≡ K.code b) ↔ (K.meaning a ≡ K.meaning b)

-- Whether a turn asks for a picture.
abbrev pub asks_picture : Turn → Bool
asks_picture (own (draw randoms sheet)) = false
asks_picture (own (apply note tray sheet)) = false
asks_picture (own (discard note sheet)) = false
asks_picture (own (read harbour tray)) = false
asks_picture (own (picture harbour tray place)) = true
asks_picture (own (reissue harbour tray working)) = false
asks_picture (own (audit tray)) = false
asks_picture (other u c) = false

abbrev pub ask_pictures : List Turn → Bool
ask_pictures [] = false
ask_pictures (x ∷ xs) = asks_picture x || ask_pictures xs

-- Any two runs of one list of turns, from keys that differ by d and random elements that differ by the shift, look the same turn by turn.
abbrev pub LooksTheSame : {E : Type 0} → (K : Kind E) → Scheme → ℕ → List Turn → List K.group.Value → Type 0
LooksTheSame {E} K scheme issue turns d =
    (key₁ key₂ dealt₁ dealt₂ drawn₁ drawn₂ : List E) (s₁ s₂ e₁ e₂ : State E) (seen₁ seen₂ : List (Seen K.group.Value))
    → Dealt K scheme issue key₁ dealt₁ s₁ → Run K s₁ turns drawn₁ seen₁ e₁
    → Dealt K scheme issue key₂ dealt₂ s₂ → Run K s₂ turns drawn₂ seen₂ e₂
    → values K key₂ ≡ added K.group (values K key₁) d
    → values K dealt₂ ≡ added K.group (values K dealt₁) (deal_shift K.group K.width scheme issue turns d)
    → values K drawn₂ ≡ added K.group (values K drawn₁) (draw_shift K.group K.width scheme issue turns d)
    → seen₁ ≡ seen₂

-- Secrecy: where no round's readers hold a whole group, the two runs look the same.
abbrev pub Secrecy : {E : Type 0} → Kind E → Type 0
Secrecy K =
    (scheme : Scheme) (issue : ℕ) (turns : List Turn) (d : List K.group.Value) → Sound scheme → length d ≡ scheme.components
    → ((round : ℕ) → HoldNoGroup scheme (read_in K.width scheme issue turns round)) → LooksTheSame K scheme issue turns d

-- The same, where code and meaning have to agree only if pictures are asked for.
abbrev pub SecrecyAsAsked : {E : Type 0} → Kind E → Type 0
SecrecyAsAsked K =
    (scheme : Scheme) (issue : ℕ) (turns : List Turn) (d : List K.group.Value) → Sound scheme → length d ≡ scheme.components
    → (ask_pictures turns ≡ true → Agrees K) → ((round : ℕ) → HoldNoGroup scheme (read_in K.width scheme issue turns round))
    → LooksTheSame K scheme issue turns d

-- The shift of the opposite difference is the opposite shift, so that it undoes the first.
abbrev pub OppositeUndoes : (G : Group) → Type 0
OppositeUndoes G =
    (w : ℕ) (scheme : Scheme) (issue : ℕ) (turns : List Turn) (d : List G.Value)
    → (deal_shift G w scheme issue turns (opposed G d) ≡ opposed G (deal_shift G w scheme issue turns d))
    × (draw_shift G w scheme issue turns (opposed G d) ≡ opposed G (draw_shift G w scheme issue turns d))

-- What each call does, as a relation between what the places held, what is seen, and what they hold afterwards. Assumes nothing.
use Rattle.std.specs.Prelude.{◌≡◌, ℕ, ◌-◌, ◌<◌, true, false, ◌⊎◌, List, [], ◌∷◌, map, length, take, drop, replicate, ◌≢◌}
use Rattle.std.specs.List.{prefix_len}
use Rattle.kinds.specs.Group.{Group}
use Rattle.plans.specs.Groups.{has}
use Rattle.plans.specs.Layout.{mask_of}
use Rattle.sharing.specs.Calls.{Told, Call, draw, apply, discard, read, picture, reissue, audit, refusal, current, Turn, own, other, after_turn, taken_by, deal_refusal, fresh}
use Rattle.sharing.specs.Dealing.{Scheme, dealing, card_start, card_in, restores, added, zeros}
use Rattle.sharing.specs.Format as format
use Rattle.sharing.specs.Format.{Head}

-- A kind of element: the group that it means, what each element means, and its code where it has one.
pub record Kind (E : Type 0) : Type 1 where
  pub group : Group
  pub meaning : E → group.Value
  pub code : E → ℕ
  pub number : ℕ
  pub width : ℕ

-- What is seen of a call. Cards are seen by what their elements mean.
pub data Seen (V : Type 0) : Type 0 where
  refused : (number : ℕ) → Seen V
  noted : (round : ℕ) → Seen V
  done : Seen V
  wiped : Seen V
  stale : Seen V
  handed : (card : List V) → Seen V
  pictured : (bytes : List ℕ) → Seen V
  agrees : Seen V
  differs : (group : ℕ) → Seen V
  reissued : Seen V

-- A tray with its record and its sheet.
pub record State (E : Type 0) : Type 0 where
  pub told : Told
  pub tray : List E
  pub sheet : List E

module _ {E : Type 0} (K : Kind E) where
  abbrev pub values : List E → List K.group.Value
  values xs = map K.meaning xs

  -- Draw: the sheet becomes a dealing of the all-zero key, and the note bears the round.
  abbrev pub Draws : Told → List E → List E → Seen K.group.Value → Type 0
  Draws t random sheet' v =
      (values sheet' ≡ dealing K.group t.scheme (zeros K.group t.scheme.components) (values random)) × (v ≡ noted t.round)

  -- Apply: the sheet is added to the tray place by place, and then every place of the sheet is zero.
  abbrev pub Applies : List E → List E → List E → List E → Seen K.group.Value → Type 0
  Applies tray sheet tray' sheet' v =
      (values tray' ≡ added K.group (values tray) (values sheet)) × (values sheet' ≡ zeros K.group (length sheet)) × (v ≡ done)

  -- Discard: a current note wipes the sheet; any other is stale and changes nothing.
  abbrev pub Discards : Told → ℕ → List E → List E → Seen K.group.Value → Type 0
  Discards t note sheet sheet' v =
      (current t note ≡ true → (values sheet' ≡ zeros K.group (length sheet)) × (v ≡ wiped))
      × (current t note ≡ false → (sheet' ≡ sheet) × (v ≡ stale))

  -- Read: the harbour's part of the tray is handed out.
  abbrev pub Reads : Told → ℕ → List E → Seen K.group.Value → Type 0
  Reads t harbour tray v = v ≡ handed (card_in t.scheme (harbour - 1) (values tray))

  -- What the head of a picture says, of a record and a harbour.
  abbrev pub head_of : Told → ℕ → Head
  head_of t harbour = record {
    kind = K.number;
    harbours = t.scheme.harbours;
    threshold = t.scheme.threshold;
    harbour = harbour;
    components = t.scheme.components;
    issue = t.issue;
    round = t.round;
  }

  -- Picture: that card is written as bytes.
  abbrev pub Pictures : Told → ℕ → List E → List ℕ → Type 0
  Pictures t harbour tray bytes =
      bytes ≡ format.picture K.width (head_of t harbour) (map K.code (card_in t.scheme (harbour - 1) tray))

  -- Audit: every group restores what group 0 does, or the lowest that does not is named.
  abbrev pub Audits : Told → List E → Seen K.group.Value → Type 0
  Audits t tray v =
      ((v ≡ agrees) × ((g : ℕ) → g < length t.scheme.masks → restores K.group t.scheme (values tray) g ≡ restores K.group t.scheme (values tray) 0))
      ⊎ ((g : ℕ) × (v ≡ differs g) × (g < length t.scheme.masks)
      × (restores K.group t.scheme (values tray) g ≢ restores K.group t.scheme (values tray) 0)
      × ((h : ℕ) → h < g → restores K.group t.scheme (values tray) h ≡ restores K.group t.scheme (values tray) 0))

  -- The lowest group without a harbour.
  abbrev pub lowest_without : Told → ℕ → ℕ
  lowest_without t harbour = prefix_len (λ m. has m (harbour - 1)) t.scheme.masks

  -- Reissue: with the key that the lowest group without the harbour restores, each slip of its card becomes the one with which its group restores that key, and every other place stays as it was.
  abbrev pub Reissues : Told → ℕ → List E → List E → Seen K.group.Value → Type 0
  Reissues t harbour tray tray' v =
      ((g : ℕ) → g < length t.scheme.masks → has (mask_of t.scheme.masks g) (harbour - 1) ≡ true
      → restores K.group t.scheme (values tray') g ≡ restores K.group t.scheme (values tray) (lowest_without t harbour))
      × (length tray' ≡ length tray) × (take (card_start t.scheme (harbour - 1)) tray' ≡ take (card_start t.scheme (harbour - 1)) tray)
      × (drop (card_start t.scheme harbour) tray' ≡ drop (card_start t.scheme harbour) tray) × (v ≡ reissued)

  -- What an accepted call does to a tray and its sheet.
  abbrev pub Does : State E → Call → List E → Seen K.group.Value → State E → Type 0
  Does s (draw randoms sheet) random v s' = (length random ≡ randoms) × Draws s.told random s'.sheet v × (s'.tray ≡ s.tray)
  Does s (apply note tray sheet) random v s' = Applies s.tray s.sheet s'.tray s'.sheet v
  Does s (discard note sheet) random v s' = Discards s.told note s.sheet s'.sheet v × (s'.tray ≡ s.tray)
  Does s (read harbour tray) random v s' = Reads s.told harbour s.tray v × (s'.tray ≡ s.tray) × (s'.sheet ≡ s.sheet)
  Does s (picture harbour tray place) random v s' =
      ((bytes : List ℕ) × Pictures s.told harbour s.tray bytes × (v ≡ pictured bytes)) × (s'.tray ≡ s.tray) × (s'.sheet ≡ s.sheet)
  Does s (reissue harbour tray working) random v s' = Reissues s.told harbour s.tray s'.tray v × (s'.sheet ≡ s.sheet)
  Does s (audit tray) random v s' = Audits s.told s.tray v × (s'.tray ≡ s.tray) × (s'.sheet ≡ s.sheet)

  -- A refused call is seen by its number and changes nothing.
  abbrev pub TurnedAway : ℕ → State E → Seen K.group.Value → State E → Type 0
  TurnedAway number s v s' = (v ≡ refused number) × (s'.tray ≡ s.tray) × (s'.sheet ≡ s.sheet)

  -- One turn, with the random elements that it takes.
  abbrev pub Step : State E → Turn → List E → Seen K.group.Value → State E → Type 0
  Step s (own c) random v s' =
      (s'.told ≡ after_turn K.width s.told (own c))
      × (refusal K.width s.told c ≡ 0 → Does s c random v s')
      × ((refusal K.width s.told c ≢ 0) → TurnedAway (refusal K.width s.told c) s v s')
  Step s (other u c) random v s' =
      (s'.told ≡ s.told) × (refusal K.width u c ≢ 0) × TurnedAway (refusal K.width u c) s v s'

  -- A run: turn after turn, each upon what the one before left, with all random elements in one list.
  abbrev pub Run : State E → List Turn → List E → List (Seen K.group.Value) → State E → Type 0
  Run s [] random seen e = (random ≡ []) × (seen ≡ []) × (e ≡ s)
  Run s (t ∷ ts) random seen e =
      (v : Seen K.group.Value) × (vs : List (Seen K.group.Value)) × (s' : State E) × (seen ≡ v ∷ vs)
      × Step s t (take (taken_by K.width s.told t) random) v s'
      × Run s' ts (drop (taken_by K.width s.told t) random) vs e

  -- What an accepted deal leaves: the tray is the dealing of key and random elements, and the record is of round 0 with no draw open. The sheet may hold anything.
  abbrev pub Dealt : Scheme → ℕ → List E → List E → State E → Type 0
  Dealt scheme issue key random s =
      (deal_refusal scheme (length key) (length random) (length s.tray) ≡ 0) × (s.told ≡ fresh scheme issue)
      × (values s.tray ≡ dealing K.group scheme (values key) (values random))

-- The working place of a reissue: whatever way the call ends, refused or not, each number in it is 0.
abbrev pub Cleared : List ℕ → List ℕ → Type 0
Cleared working working' = working' ≡ replicate (length working) 0

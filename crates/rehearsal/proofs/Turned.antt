-- What the answer of a call says of its turn: whether it was refused, and what the record tells afterwards. Assumes nothing.
use Rattle.std.proofs.Common.{◌≡◌, ℕ, ◌+◌, Bool, true, false, cond, eqb, List, [], map, length, Ok, Err, Result, sym, refl, ap, ◌∙◌, arith, IsOk}
use Rattle.std.proofs.lemmas.Bool.{eq-eqb, eqb-false, eqb-true, ne_eqb, true≢false}
use Rattle.kinds.specs.Group.{Group}
use Rattle.sharing.specs.Calls.{Call, Told, after, apply, audit, current, discard, draw, own, picture, random_count, read, refusal, reissue, tray_length, turned}
use Rattle.sharing.specs.Dealing.{added, dealing, zeros}
use Rattle.sharing.specs.Promise.{kind_of}
use Rattle.sharing.specs.Steps.{Does, Seen, State, Step, agrees, differs, done, handed, noted, pictured, refused, reissued, stale, wiped}
use Rattle.sharing.proofs.Turning.{fits, passes}
use Rattle.trays.specs.Refusals.{number_of}
use Rattle.trays.specs.Turns.{ApplyTurns, DiscardTurns, DrawTurns, Turns, holding, seen_discard}
use Rattle.trays.specs.declared.answer.Discarded.{Discarded}
use Rattle.trays.specs.declared.answer.Discarded.TheVariants.{Stale, Wiped}
use Rattle.trays.specs.declared.note.Note.{Note}
use Rattle.trays.specs.declared.note.Returned.{Returned}
use Rattle.trays.specs.declared.refusal.Refusal.{Refusal}
use Rattle.rehearsal.specs.Rounds.{Renewed, SameTray, TurnedBack, Undone, Withdrawn, refusal_of_both, renewal}

-- whether an answer is no refusal, by which a refusal is told from every other answer
abbrev granted : {V : Type 0} → Seen V → Bool
granted (refused n) = false
granted (noted round) = true
granted done = true
granted wiped = true
granted stale = true
granted (handed card) = true
granted (pictured bytes) = true
granted agrees = true
granted (differs g) = true
granted reissued = true

unlike : {V : Type 0} (v : Seen V) (n : ℕ) → granted v ≡ true → v ≡ refused n → ⊥
unlike v n yes' is = true≢false (sym yes' ∙ ap granted is)

-- the refusal that a discard does not give, so that its note is spent
pub discard_fits : (t : Told) (note n : ℕ) → n ≡ tray_length t.scheme → refusal 0 t (discard note n) ≡ 0
discard_fits t note n long = rw (eq-eqb n (tray_length t.scheme) long)

-- an accepted draw came upon a closed one, with a sheet as long as the tray
pub draw_asks : (t : Told) (randoms n : ℕ) → refusal 0 t (draw randoms n) ≡ 0 → (t.drawn ≡ false) × (n ≡ tray_length t.scheme)
draw_asks t randoms n none =
    let one = passes t.drawn 11 _ (omega arith) none in
    let two = passes (eqb t.round 65535) 12 _ (omega arith) one.1 in
    let three = fits randoms (random_count t.scheme) 9 _ (omega arith) two.1 in
    (one.0, (fits n (tray_length t.scheme) 13 _ (omega arith) three.1).0)

-- of two calls, the first is refused, or it is not
pub first_refused : (t : Told) (c d : Call) → (refusal 0 t c ≡ 0 → ⊥) → refusal_of_both t c d ≡ refusal 0 t c
first_refused t c d some = ap (λ b. cond b (refusal 0 (after t c) d) (refusal 0 t c)) (ne_eqb (refusal 0 t c) 0 some)

pub first_passed : (t : Told) (c d : Call) → refusal 0 t c ≡ 0 → refusal_of_both t c d ≡ refusal 0 (after t c) d
first_passed t c d none = ap (λ b. cond b (refusal 0 (after t c) d) (refusal 0 t c)) (eq-eqb (refusal 0 t c) 0 none)

module _ {E : Type 0} (G : Group) (meaning : E → G.Value) (s s' : State E) (c : Call) (random : List E) (v : Seen G.Value) (turns : Turns G meaning s c random v s') where
  step : Step (kind_of G meaning (λ _. 0) 0 0) s (own c) random v s'
  step = turns (λ _. 0) 0 0

  -- a turn that shows no refusal
  pub accepted : ((n : ℕ) → v ≡ refused n → ⊥) → (refusal 0 s.told c ≡ 0) × (s'.told ≡ after s.told c) × Does (kind_of G meaning (λ _. 0) 0 0) s c random v s'
  accepted never = go (eqb (refusal 0 s.told c) 0) refl
    where
      go : (b : Bool) → eqb (refusal 0 s.told c) 0 ≡ b
          → (refusal 0 s.told c ≡ 0) × (s'.told ≡ after s.told c) × Does (kind_of G meaning (λ _. 0) 0 0) s c random v s'
      go true e =
          let none = eqb-true (refusal 0 s.told c) 0 e in
          (none, step.0 ∙ ap (λ b. cond b (after s.told c) s.told) e, step.1 none)
      go false e = absurd (never (refusal 0 s.told c) (step.2 (eqb-false (refusal 0 s.told c) 0 e)).0)

  -- a turn that shows a refusal, which no accepted call would
  pub rejected : (n : ℕ) → v ≡ refused n → (Does (kind_of G meaning (λ _. 0) 0 0) s c random v s' → ⊥)
      → (n ≡ refusal 0 s.told c) × (refusal 0 s.told c ≡ 0 → ⊥) × (s'.told ≡ s.told) × (s'.tray ≡ s.tray) × (s'.sheet ≡ s.sheet)
  rejected n shown never =
      let some : refusal 0 s.told c ≡ 0 → ⊥ = λ none. never (step.1 none) in
      let away = step.2 some in
      let number : n ≡ refusal 0 s.told c = let seen = away.0 in cc in
      (number, some, step.0 ∙ ap (λ b. cond b (after s.told c) s.told) (ne_eqb (refusal 0 s.told c) 0 some), away.1, away.2)

module _ {E : Type 0} (G : Group) (meaning : E → G.Value) where
  -- what a draw that gave a note leaves
  pub record Drew (t : Told) (random sheet : List E) (t' : Told) (sheet' : List E) (note : Note) : Type 0 where
    pub none : refusal 0 t (draw (length random) (length sheet)) ≡ 0
    pub told : t' ≡ turned t t.round true
    pub bears : note.round ≡ t.round
    pub laid : map meaning sheet' ≡ dealing G t.scheme (zeros G t.scheme.components) (map meaning random)

  pub drew : (t : Told) (random sheet : List E) (t' : Told) (sheet' : List E) (note : Note) → DrawTurns G meaning t random sheet t' sheet' (Ok note) → Drew t random sheet t' sheet' note
  drew t random sheet t' sheet' note turns =
      let a = accepted G meaning (holding t [] sheet) (holding t' [] sheet') (draw (length random) (length sheet)) random (noted note.round) (turns []) (λ n. unlike (noted note.round) n refl) in
      let seen = a.2.1.1 in
      let bears : note.round ≡ t.round = cc in
      record { none = a.0; told = a.1; bears = bears; laid = a.2.1.0 }

  -- a draw that was refused
  pub undrawn : (t : Told) (random sheet : List E) (t' : Told) (sheet' : List E) (e : Refusal) → DrawTurns G meaning t random sheet t' sheet' (Err e)
      → (number_of e ≡ refusal 0 t (draw (length random) (length sheet))) × (refusal 0 t (draw (length random) (length sheet)) ≡ 0 → ⊥) × (t' ≡ t)
  undrawn t random sheet t' sheet' e turns =
      let a = rejected G meaning (holding t [] sheet) (holding t' [] sheet') (draw (length random) (length sheet)) random (refused (number_of e)) (turns []) (number_of e) refl
      (λ does. unlike (noted t.round) (number_of e) refl (sym does.1.1)) in
      (a.0, a.1, a.2)

  -- what an apply that passed leaves
  pub applied : (t : Told) (note : Note) (tray sheet : List E) (t' : Told) (tray' sheet' : List E) → ApplyTurns G meaning t note tray sheet t' tray' sheet' (Ok tt)
      → (t' ≡ turned t (t.round + 1) false) × (map meaning tray' ≡ added G (map meaning tray) (map meaning sheet)) × (map meaning sheet' ≡ zeros G (length sheet))
  applied t note tray sheet t' tray' sheet' turns =
      let a = accepted G meaning (holding t tray sheet) (holding t' tray' sheet') (apply note.round (length tray) (length sheet)) [] done turns (λ n. unlike done n refl) in
      (a.1, a.2.0, a.2.1)

  -- an apply that was refused
  pub unapplied : (t : Told) (note : Note) (tray sheet : List E) (t' : Told) (tray' sheet' : List E) (e : Returned) → ApplyTurns G meaning t note tray sheet t' tray' sheet' (Err e)
      → (number_of e.refusal ≡ refusal 0 t (apply note.round (length tray) (length sheet))) × (t' ≡ t) × (sheet' ≡ sheet)
  unapplied t note tray sheet t' tray' sheet' e turns =
      let a = rejected G meaning (holding t tray sheet) (holding t' tray' sheet') (apply note.round (length tray) (length sheet)) [] (refused (number_of e.refusal)) turns (number_of e.refusal) refl
      (λ does. unlike done (number_of e.refusal) refl (sym does.2)) in
      (a.0, a.2, a.4)

  -- a discard with a sheet as long as the tray is not refused
  pub never_kept : (t : Told) (note : Note) (sheet : List E) (t' : Told) (sheet' : List E) (e : Returned) → length sheet ≡ tray_length t.scheme → DiscardTurns G meaning t note sheet t' sheet' (Err e) → ⊥
  never_kept t note sheet t' sheet' e long turns =
      let a = ((turns [] (λ _. 0) 0 0).1 (discard_fits t note.round (length sheet) long)).0 in
      go (current t note.round) refl a
    where
      go : (b : Bool) → current t note.round ≡ b
          → (current t note.round ≡ true → (map meaning sheet' ≡ zeros G (length sheet)) × (◌≡◌ {A = Seen G.Value} (refused (number_of e.refusal)) wiped))
          × (current t note.round ≡ false → (sheet' ≡ sheet) × (◌≡◌ {A = Seen G.Value} (refused (number_of e.refusal)) stale)) → ⊥
      go true is a = unlike wiped (number_of e.refusal) refl (sym (a.0 is).1)
      go false is a = unlike stale (number_of e.refusal) refl (sym (a.1 is).1)

  -- so it answers what became of the draw
  pub always_spent : (t : Told) (note : Note) (sheet : List E) (t' : Told) (sheet' : List E) (r : Result Discarded Returned) → length sheet ≡ tray_length t.scheme → DiscardTurns G meaning t note sheet t' sheet' r → IsOk r
  always_spent t note sheet t' sheet' (Ok answer) long turns = refl
  always_spent t note sheet t' sheet' (Err e) long turns = absurd (never_kept t note sheet t' sheet' e long turns)

  no_refusal : (r : Discarded) (n : ℕ) → seen_discard {V = G.Value} (Ok r) ≡ refused n → ⊥
  no_refusal Wiped n = unlike wiped n refl
  no_refusal Stale n = unlike stale n refl

  seen_wiped : (r : Discarded) → seen_discard {V = G.Value} (Ok r) ≡ wiped → r ≡ Wiped
  seen_wiped Wiped e = refl
  seen_wiped Stale e = let z : ◌≡◌ {A = ℕ} 0 1 = cc in absurd (omega arith)

  -- what a discard of the open draw's own note leaves
  pub discarded : (t : Told) (note : Note) (sheet : List E) (t' : Told) (sheet' : List E) (r : Discarded) → current t note.round ≡ true → DiscardTurns G meaning t note sheet t' sheet' (Ok r)
      → (t' ≡ turned t t.round false) × (r ≡ Wiped) × (map meaning sheet' ≡ zeros G (length sheet))
  discarded t note sheet t' sheet' r is turns =
      let a = accepted G meaning (holding t [] sheet) (holding t' [] sheet') (discard note.round (length sheet)) [] (seen_discard (Ok r)) (turns []) (no_refusal r) in
      let b = a.2.0.0 is in
      (a.1 ∙ ap (λ x. turned t t.round (cond x false t.drawn)) is, seen_wiped r b.1, b.0)

  -- the note of an open draw is current
  pub own_note : (t t' : Told) (note : ℕ) → t' ≡ turned t t.round true → note ≡ t.round → current t' note ≡ true
  own_note t t' note told bears = ap (λ x. current x note) told ∙ eq-eqb note t.round bears

  -- a draw that was opened and closed again
  pub back_again : (t t' t'' : Told) → t' ≡ turned t t.round true → t'' ≡ turned t' t'.round false → t.drawn ≡ false → Undone t t''
  back_again t t' t'' one two shut = rw (two, one) (record { scheme = refl; issue = refl; round = refl; drawn = sym shut })

  pub unchanged : (t t' : Told) → t' ≡ t → Undone t t'
  unchanged t t' same = rw same (record { scheme = refl; issue = refl; round = refl; drawn = refl })

  module _ (t : Told) (random sheet : List E) (t' : Told) (sheet' : List E) where
    -- after a draw that gave a note, the sheet is as long as the tray
    pub drawn_fits : (note : Note) → DrawTurns G meaning t random sheet t' sheet' (Ok note) → length sheet ≡ tray_length t'.scheme
    drawn_fits note turns =
        let d = drew t random sheet t' sheet' note turns in
        (draw_asks t (length random) (length sheet) d.none).1 ∙ ap (λ x. tray_length x.scheme) (sym d.told)

    -- and it still is, whatever a call made of the tray that the record tells of
    pub fits_still : (note : Note) → DrawTurns G meaning t random sheet t' sheet' (Ok note) → (t'' : Told) (sheet'' : List E) → length sheet'' ≡ length sheet → SameTray t' t'' → length sheet'' ≡ tray_length t''.scheme
    fits_still note turns t'' sheet'' long same = long ∙ drawn_fits note turns ∙ sym (ap tray_length same)

    pub draw_back : (e : Refusal) → DrawTurns G meaning t random sheet t' sheet' (Err e) → TurnedBack t t' (refusal 0 t (draw (length random) (length sheet))) e
    draw_back e turns = let u = undrawn t random sheet t' sheet' e turns in record { why = u.0; undone = unchanged t t' u.2 }

    pub renewal_back : (tray : List E) (e : Refusal) → DrawTurns G meaning t random sheet t' sheet' (Err e) → TurnedBack t t' (renewal t random tray sheet) e
    renewal_back tray e turns =
        let u = undrawn t random sheet t' sheet' e turns in
        record { why = u.0 ∙ sym (first_refused t (draw (length random) (length sheet)) (apply t.round (length tray) (length sheet)) u.1); undone = unchanged t t' u.2 }

    pub withdrawn : (note : Note) (bore : ℕ) (t'' : Told) (sheet'' : List E) (r : Discarded) → length sheet' ≡ length sheet → bore ≡ note.round → DrawTurns G meaning t random sheet t' sheet' (Ok note)
        → DiscardTurns G meaning t' note sheet' t'' sheet'' (Ok r) → Withdrawn G meaning t sheet t'' sheet'' bore r
    withdrawn note bore t'' sheet'' r long bears opened closed =
        let d = drew t random sheet t' sheet' note opened in
        let e = discarded t' note sheet' t'' sheet'' r (own_note t t' note.round d.told d.bears) closed in
        record {
          bears = bears ∙ d.bears;
          wiped = e.1;
          undone = back_again t t' t'' d.told e.0 (draw_asks t (length random) (length sheet) d.none).0;
          zero = e.2 ∙ ap (zeros G) long;
        }

    module _ (note : Note) (opened : DrawTurns G meaning t random sheet t' sheet' (Ok note)) (tray : List E) (t'' : Told) (tray' sheet'' : List E) where
      pub renewed : (bore : ℕ) → length sheet' ≡ length sheet → bore ≡ note.round → ApplyTurns G meaning t' note tray sheet' t'' tray' sheet'' (Ok tt)
          → Renewed G meaning t random tray sheet t'' tray' sheet'' bore
      renewed bore long bears ended =
          let d = drew t random sheet t' sheet' note opened in
          let a = applied t' note tray sheet' t'' tray' sheet'' ended in
          record {
            bears = bears ∙ d.bears;
            told = a.0 ∙ ap (λ x. turned x (x.round + 1) false) d.told;
            sum = a.1 ∙ ap (added G (map meaning tray)) d.laid;
            zero = a.2 ∙ ap (zeros G) long;
          }

      -- the sheet still fits where the note comes back
      pub returned_fits : (e : Returned) → length sheet'' ≡ length sheet → ApplyTurns G meaning t' note tray sheet' t'' tray' sheet'' (Err e) → length sheet'' ≡ tray_length t''.scheme
      returned_fits e long kept =
          let u = unapplied t' note tray sheet' t'' tray' sheet'' e kept in
          long ∙ drawn_fits note opened ∙ ap (λ x. tray_length x.scheme) (sym u.1)

      pub renewal_undone : (e : Returned) (why : Refusal) (t''' : Told) (sheet''' : List E) (r : Discarded) → length sheet' ≡ length sheet → e.note ≡ note → why ≡ e.refusal
          → ApplyTurns G meaning t' note tray sheet' t'' tray' sheet'' (Err e)
          → DiscardTurns G meaning t'' e.note sheet'' t''' sheet''' (Ok r) → TurnedBack t t''' (renewal t random tray sheet) why
      renewal_undone e why t''' sheet''' r long same is kept closed =
          let d = drew t random sheet t' sheet' note opened in
          let u = unapplied t' note tray sheet' t'' tray' sheet'' e kept in
          let round : e.note.round ≡ t.round = ap (λ x. x.round) same ∙ d.bears in
          let x = discarded t'' e.note sheet'' t''' sheet''' r (own_note t t'' e.note.round (u.1 ∙ d.told) round) closed in
          record {
            why = ap number_of is ∙ u.0
                ∙ ap (λ y. refusal 0 y (apply note.round (length tray) (length sheet'))) d.told
                ∙ ap (λ n. refusal 0 (turned t t.round true) (apply n (length tray) (length sheet'))) d.bears
                ∙ ap (λ n. refusal 0 (turned t t.round true) (apply t.round (length tray) n)) long
                ∙ sym (first_passed t (draw (length random) (length sheet)) (apply t.round (length tray) (length sheet)) d.none);
            undone = back_again t t'' t''' (u.1 ∙ d.told) x.0 (draw_asks t (length random) (length sheet) d.none).0;
          }

-- whatever a call answers, the record tells of the same tray
same_after : (t : Told) (c : Call) → (after t c).scheme ≡ t.scheme
same_after t (draw randoms sheet) = refl
same_after t (apply note tray sheet) = refl
same_after t (discard note sheet) = refl
same_after t (read harbour tray) = refl
same_after t (picture harbour tray place) = refl
same_after t (reissue harbour tray working) = refl
same_after t (audit tray) = refl

same_turned : (b : Bool) (t : Told) (c : Call) → (cond b (after t c) t).scheme ≡ t.scheme
same_turned true t c = same_after t c
same_turned false t c = refl

module _ {E : Type 0} (G : Group) (meaning : E → G.Value) where
  pub keeps_applied : (t : Told) (note : Note) (tray sheet : List E) (t' : Told) (tray' sheet' : List E) (r : Result Unit Returned) → ApplyTurns G meaning t note tray sheet t' tray' sheet' r → t'.scheme ≡ t.scheme
  keeps_applied t note tray sheet t' tray' sheet' r turns =
      let c : Call = apply note.round (length tray) (length sheet) in
      ap (λ x. x.scheme) (turns (λ _. 0) 0 0).0 ∙ same_turned (eqb (refusal 0 t c) 0) t c

  pub keeps_discarded : (t : Told) (note : Note) (sheet : List E) (t' : Told) (sheet' : List E) (r : Result Discarded Returned) → DiscardTurns G meaning t note sheet t' sheet' r → t'.scheme ≡ t.scheme
  keeps_discarded t note sheet t' sheet' r turns =
      let c : Call = discard note.round (length sheet) in
      ap (λ x. x.scheme) (turns [] (λ _. 0) 0 0).0 ∙ same_turned (eqb (refusal 0 t c) 0) t c

-- Secrecy over whole runs. Assumes nothing.
use Rattle.std.proofs.Common.{◌≡◌, ℕ, ◌+◌, Bool, true, false, cond, ◌&&◌, eqb, List, [], ◌∷◌, ◌++◌, length, take, drop, sym, refl, ap, ◌∙◌, subst, ap₂, lit<}
use lib.ListN.{length-map}
use Rattle.std.proofs.lemmas.List.{take-map, drop-map}
use Rattle.std.proofs.lemmas.Bool.{eqb-true, eqb-false, eq-eqb, or_left, or_right, false≢true}
use Rattle.kinds.specs.Group.{Group}
use Rattle.sharing.specs.Calls.{fresh, Told, Call, draw, apply, discard, read, picture, reissue, audit, refusal, after, Turn, own, other, after_turn, taken_by, random_count}
use Rattle.sharing.specs.Cover.{Readers, cover, HoldNoGroup}
use Rattle.sharing.specs.Dealing.{Scheme, dealing, added, opposed}
use Rattle.sharing.specs.Secrecy.{Sound, Agrees, ask_pictures, asks_picture, hands_out, reads_in, readers, turn_shift, shifts, read_in, Secrecy, SecrecyAsAsked}
use Rattle.sharing.specs.Steps.{Kind, Seen, State, values, Step, Run, Dealt}
use Rattle.sharing.proofs.Covering.{cover_length}
use Rattle.sharing.proofs.Hiding.{Beside, call_hides, stays}
use Rattle.sharing.proofs.Linear.{length_added, dealing_added}
use Rattle.sharing.proofs.Turning.{Kept, fits, turn_keeps}

module _ (G : Group) where
  -- a list that is added to, cut where the first part of what is added ends
  take_shifted : (xs ys zs : List G.Value) → take (length ys) (added G xs (ys ++ zs)) ≡ added G (take (length ys) xs) ys
  take_shifted xs [] zs = refl
  take_shifted [] (y ∷ ys) zs = refl
  take_shifted (x ∷ xs) (y ∷ ys) zs = ap (λ us. G.plus x y ∷ us) (take_shifted xs ys zs)

  drop_shifted : (xs ys zs : List G.Value) → drop (length ys) (added G xs (ys ++ zs)) ≡ added G (drop (length ys) xs) zs
  drop_shifted xs [] zs = refl
  drop_shifted [] (y ∷ ys) zs = refl
  drop_shifted (x ∷ xs) (y ∷ ys) zs = drop_shifted xs ys zs

-- the scheme of a record never changes
pub scheme_stays : (w : ℕ) (t : Told) (x : Turn) → (after_turn w t x).scheme ≡ t.scheme
scheme_stays w t (own c) = go (eqb (refusal w t c) 0) c
  where
    go : (b : Bool) (c : Call) → (cond b (after t c) t).scheme ≡ t.scheme
    go false c = refl
    go true (draw randoms sheet) = refl
    go true (apply note tray sheet) = refl
    go true (discard note sheet) = refl
    go true (read harbour tray) = refl
    go true (picture harbour tray place) = refl
    go true (reissue harbour tray working) = refl
    go true (audit tray) = refl
scheme_stays w t (other u c) = refl

either_way : (b : Bool) → ◌≡◌ {A = ℕ} 0 (cond b 0 0)
either_way true = refl
either_way false = refl

-- a turn's shift is as long as what it takes
shift_long : (G : Group) (w : ℕ) (by : ℕ → Readers) (d : List G.Value) (t : Told) (x : Turn) → length (turn_shift G w by d t x) ≡ taken_by w t x
shift_long G w by d t (own (draw randoms sheet)) = go (eqb (refusal w t (draw randoms sheet)) 0)
  where
    go : (b : Bool) → length (cond b (added G (cover G t.scheme (by (t.round + 1)) d) (opposed G (cover G t.scheme (by t.round) d))) []) ≡ cond b (random_count t.scheme) 0
    go true =
        length_added G (cover G t.scheme (by (t.round + 1)) d) (opposed G (cover G t.scheme (by t.round) d))
        (cover_length G t.scheme (by (t.round + 1)) d ∙ sym (length-map (cover G t.scheme (by t.round) d) G.minus ∙ cover_length G t.scheme (by t.round) d))
        ∙ cover_length G t.scheme (by (t.round + 1)) d
    go false = refl
shift_long G w by d t (own (apply note tray sheet)) = either_way (eqb (refusal w t (apply note tray sheet)) 0)
shift_long G w by d t (own (discard note sheet)) = either_way (eqb (refusal w t (discard note sheet)) 0)
shift_long G w by d t (own (read harbour tray)) = either_way (eqb (refusal w t (read harbour tray)) 0)
shift_long G w by d t (own (picture harbour tray place)) = either_way (eqb (refusal w t (picture harbour tray place)) 0)
shift_long G w by d t (own (reissue harbour tray working)) = either_way (eqb (refusal w t (reissue harbour tray working)) 0)
shift_long G w by d t (own (audit tray)) = either_way (eqb (refusal w t (audit tray)) 0)
shift_long G w by d t (other u c) = refl

-- the record after a turn
pub told_after : {E : Type 0} (K : Kind E) (t : Told) (slips sheet : List E) (x : Turn) (random : List E) (v : Seen K.group.Value) (s' : State E)
    → Step K (record { told = t; tray = slips; sheet = sheet }) x random v s' → s'.told ≡ after_turn K.width t x
told_after K t slips sheet (own c) random v s' step = step.0
told_after K t slips sheet (other u c) random v s' step = step.0

module _ {E : Type 0} (K : Kind E) (pictured' : Bool) (agree : pictured' ≡ true → Agrees K) (by : ℕ → Readers) (d key₁ key₂ : List K.group.Value) where
  -- a turn looks the same in both runs
  turn_hides : (t : Told) → Sound t.scheme → length d ≡ t.scheme.components → length key₁ ≡ t.scheme.components → length key₂ ≡ t.scheme.components
      → (slips₁ sheet₁ slips₂ sheet₂ : List E) → Kept K key₁ t slips₁ sheet₁ → Kept K key₂ t slips₂ sheet₂ → Beside K by d t slips₁ sheet₁ slips₂ sheet₂
      → HoldNoGroup t.scheme (by t.round) → (x : Turn) (random₁ random₂ : List E) (v₁ v₂ : Seen K.group.Value) (s₁ s₂ : State E)
      → values K random₂ ≡ added K.group (values K random₁) (turn_shift K.group K.width by d t x)
      → ((b : ℕ) → reads_in K.width t x t.round b ≡ true → by t.round b ≡ true) → (asks_picture x ≡ true → pictured' ≡ true)
      → Step K (record { told = t; tray = slips₁; sheet = sheet₁ }) x random₁ v₁ s₁ → Step K (record { told = t; tray = slips₂; sheet = sheet₂ }) x random₂ v₂ s₂
      → (v₁ ≡ v₂) × Beside K by d (after_turn K.width t x) s₁.tray s₁.sheet s₂.tray s₂.sheet
  turn_hides t sound d_long long₁ long₂ slips₁ sheet₁ slips₂ sheet₂ kept₁ kept₂ beside hold (own c) random₁ random₂ v₁ v₂ s₁ s₂ shifted reads asked step₁ step₂ = go (eqb (refusal K.width t c) 0) refl
    where
      go : (b : Bool) → eqb (refusal K.width t c) 0 ≡ b → (v₁ ≡ v₂) × Beside K by d (cond b (after t c) t) s₁.tray s₁.sheet s₂.tray s₂.sheet
      go true e =
          let r = eqb-true (refusal K.width t c) 0 e in
          call_hides K pictured' agree by d key₁ key₂ t sound d_long long₁ long₂ slips₁ sheet₁ slips₂ sheet₂ kept₁ kept₂ beside hold c random₁ random₂ v₁ v₂ s₁ s₂ r shifted
          (λ b h. reads b (ap₂ (λ p q. p && q && hands_out c b) e (eq-eqb t.round t.round refl) ∙ h)) asked (step₁.1 r) (step₂.1 r)
      go false e =
          let n = eqb-false (refusal K.width t c) 0 e in
          let a₁ = step₁.2 n in
          let a₂ = step₂.2 n in (
            a₁.0 ∙ sym a₂.0,
            stays K pictured' agree by d key₁ key₂ t sound d_long long₁ long₂ slips₁ sheet₁ slips₂ sheet₂ kept₁ kept₂ beside hold s₁.tray s₁.sheet s₂.tray s₂.sheet
                (ap (values K) a₁.1) (ap (values K) a₂.1) (λ _. ap (values K) a₁.2) (λ _. ap (values K) a₂.2),
          )
  turn_hides t sound d_long long₁ long₂ slips₁ sheet₁ slips₂ sheet₂ kept₁ kept₂ beside hold (other u c) random₁ random₂ v₁ v₂ s₁ s₂ shifted reads asked step₁ step₂ =
      let a₁ = step₁.2 in
      let a₂ = step₂.2 in (
        a₁.0 ∙ sym a₂.0,
        stays K pictured' agree by d key₁ key₂ t sound d_long long₁ long₂ slips₁ sheet₁ slips₂ sheet₂ kept₁ kept₂ beside hold s₁.tray s₁.sheet s₂.tray s₂.sheet
            (ap (values K) a₁.1) (ap (values K) a₂.1) (λ _. ap (values K) a₁.2) (λ _. ap (values K) a₂.2),
      )

  -- a whole run looks the same
  run_hides : (turns : List Turn) (t : Told) → Sound t.scheme → length d ≡ t.scheme.components → length key₁ ≡ t.scheme.components → length key₂ ≡ t.scheme.components
      → (slips₁ sheet₁ slips₂ sheet₂ : List E) → Kept K key₁ t slips₁ sheet₁ → Kept K key₂ t slips₂ sheet₂ → Beside K by d t slips₁ sheet₁ slips₂ sheet₂
      → ((round : ℕ) → HoldNoGroup t.scheme (by round)) → ((round b : ℕ) → readers K.width t turns round b ≡ true → by round b ≡ true)
      → (ask_pictures turns ≡ true → pictured' ≡ true)
      → (random₁ random₂ : List E) (seen₁ seen₂ : List (Seen K.group.Value)) (e₁ e₂ : State E)
      → values K random₂ ≡ added K.group (values K random₁) (shifts K.group K.width by d t turns)
      → Run K (record { told = t; tray = slips₁; sheet = sheet₁ }) turns random₁ seen₁ e₁ → Run K (record { told = t; tray = slips₂; sheet = sheet₂ }) turns random₂ seen₂ e₂
      → seen₁ ≡ seen₂
  run_hides [] t sound d_long long₁ long₂ slips₁ sheet₁ slips₂ sheet₂ kept₁ kept₂ beside hold reads asked random₁ random₂ seen₁ seen₂ e₁ e₂ shifted run₁ run₂ = run₁.1 ∙ sym run₂.1
  run_hides (x ∷ xs) t sound d_long long₁ long₂ slips₁ sheet₁ slips₂ sheet₂ kept₁ kept₂ beside hold reads asked random₁ random₂ seen₁ seen₂ e₁ e₂ shifted run₁ run₂ =
      let n : ℕ = taken_by K.width t x in
      let w : ℕ = K.width in
      let u : Told = after_turn w t x in
      let same : u.scheme ≡ t.scheme = scheme_stays w t x in
      let this : List K.group.Value = turn_shift K.group w by d t x in
      let rest : List K.group.Value = shifts K.group w by d u xs in
      let cut : length this ≡ n = shift_long K.group w by d t x in
      let s₁ : State E = run₁.2 in
      let s₂ : State E = run₂.2 in
      let first : values K (take n random₂) ≡ added K.group (values K (take n random₁)) this =
      sym (take-map K.meaning n random₂) ∙ ap (take n) shifted ∙ ap (λ m. take m (added K.group (values K random₁) (this ++ rest))) (sym cut)
      ∙ take_shifted K.group (values K random₁) this rest ∙ ap (λ m. added K.group (take m (values K random₁)) this) cut
      ∙ ap (λ ys. added K.group ys this) (take-map K.meaning n random₁) in
      let later : values K (drop n random₂) ≡ added K.group (values K (drop n random₁)) rest =
      sym (drop-map K.meaning n random₂) ∙ ap (drop n) shifted ∙ ap (λ m. drop m (added K.group (values K random₁) (this ++ rest))) (sym cut)
      ∙ drop_shifted K.group (values K random₁) this rest ∙ ap (λ m. added K.group (drop m (values K random₁)) rest) cut
      ∙ ap (λ ys. added K.group ys rest) (drop-map K.meaning n random₁) in
      let hidden = turn_hides t sound d_long long₁ long₂ slips₁ sheet₁ slips₂ sheet₂ kept₁ kept₂ beside (hold t.round) x (take n random₁) (take n random₂) run₁.0 run₂.0 s₁ s₂ first
      (λ b h. reads t.round b (or_left (reads_in w t x t.round b) (readers w u xs t.round b) h)) (λ h. asked (or_left (asks_picture x) (ask_pictures xs) h)) run₁.4 run₂.4 in
      let next₁ : Kept K key₁ u s₁.tray s₁.sheet = turn_keeps K key₁ t sound long₁ slips₁ sheet₁ kept₁ x (take n random₁) run₁.0 s₁ run₁.4 in
      let next₂ : Kept K key₂ u s₂.tray s₂.sheet = turn_keeps K key₂ t sound long₂ slips₂ sheet₂ kept₂ x (take n random₂) run₂.0 s₂ run₂.4 in
      let on₁ : Run K (record { told = u; tray = s₁.tray; sheet = s₁.sheet }) xs (drop n random₁) run₁.1 e₁ =
      subst (λ (a : Told). Run K (record { told = a; tray = s₁.tray; sheet = s₁.sheet }) xs (drop n random₁) run₁.1 e₁) (told_after K t slips₁ sheet₁ x (take n random₁) run₁.0 s₁ run₁.4) run₁.5 in
      let on₂ : Run K (record { told = u; tray = s₂.tray; sheet = s₂.sheet }) xs (drop n random₂) run₂.1 e₂ =
      subst (λ (a : Told). Run K (record { told = a; tray = s₂.tray; sheet = s₂.sheet }) xs (drop n random₂) run₂.1 e₂) (told_after K t slips₂ sheet₂ x (take n random₂) run₂.0 s₂ run₂.4) run₂.5 in
      let rest_same : run₁.1 ≡ run₂.1 =
      run_hides xs u (subst Sound (sym same) sound) (d_long ∙ ap (λ (s : Scheme). s.components) (sym same)) (long₁ ∙ ap (λ (s : Scheme). s.components) (sym same)) (long₂ ∙ ap (λ (s : Scheme). s.components) (sym same))
      s₁.tray s₁.sheet s₂.tray s₂.sheet next₁ next₂ hidden.1 (λ round. subst (λ (s : Scheme). HoldNoGroup s (by round)) (sym same) (hold round))
      (λ round b h. reads round b (or_right (reads_in w t x round b) (readers w u xs round b) h)) (λ h. asked (or_right (asks_picture x) (ask_pictures xs) h)) (drop n random₁) (drop n random₂) run₁.1 run₂.1 e₁ e₂ later on₁ on₂ in
      run₁.3 ∙ ap₂ ◌∷◌ hidden.0 rest_same ∙ sym run₂.3

-- the lengths of an accepted deal
pub dealt_long : {E : Type 0} (K : Kind E) (scheme : Scheme) (issue : ℕ) (key random : List E) (s : State E) → Dealt K scheme issue key random s
    → (length (values K key) ≡ scheme.components) × (length (values K random) ≡ random_count scheme)
dealt_long K scheme issue key random s dealt =
    let first = fits (length key) scheme.components 8 _ (lit< tt) dealt.0 in
    let second = fits (length random) (random_count scheme) 9 _ (lit< tt) first.1 in
    (length-map key K.meaning ∙ first.0, length-map random K.meaning ∙ second.0)

-- what an accepted deal leaves is kept
pub dealt_kept : {E : Type 0} (K : Kind E) (scheme : Scheme) (issue : ℕ) (key random : List E) (s : State E) → Dealt K scheme issue key random s
    → Kept K (values K key) (fresh scheme issue) s.tray s.sheet
dealt_kept K scheme issue key random s dealt = record {
  random = values K random;
  long = (dealt_long K scheme issue key random s dealt).1;
  is = dealt.2;
  sheet_is = λ e. absurd (false≢true e);
}

pub secrecy_as_asked : {E : Type 0} (K : Kind E) → SecrecyAsAsked K
secrecy_as_asked {E} K scheme issue turns d sound d_long agree hold key₁ key₂ dealt₁ dealt₂ drawn₁ drawn₂ s₁ s₂ e₁ e₂ seen₁ seen₂ deal₁ run₁ deal₂ run₂ keys dealts drawns =
    let t : Told = fresh scheme issue in
    let G : Group = K.group in
    let by : ℕ → Readers = read_in K.width scheme issue turns in
    let kept₁ = dealt_kept K scheme issue key₁ dealt₁ s₁ deal₁ in
    let kept₂ = dealt_kept K scheme issue key₂ dealt₂ s₂ deal₂ in
    let lengths₁ = dealt_long K scheme issue key₁ dealt₁ s₁ deal₁ in
    let long₁ : length (values K key₁) ≡ scheme.components = lengths₁.0 in
    let long₂ : length (values K key₂) ≡ scheme.components = (dealt_long K scheme issue key₂ dealt₂ s₂ deal₂).0 in
    let beside : Beside K by d t s₁.tray s₁.sheet s₂.tray s₂.sheet = record {
      trays =
          deal₂.2 ∙ ap₂ (dealing G scheme) keys dealts
          ∙ dealing_added G scheme (values K key₁) d (values K dealt₁) (cover G scheme (by 0) d) (long₁ ∙ sym d_long) (lengths₁.1 ∙ sym (cover_length G scheme (by 0) d))
          ∙ ap (λ xs. added G xs (dealing G scheme d (cover G scheme (by 0) d))) (sym deal₁.2);
      sheets = λ e. absurd (false≢true e);
    } in
    run_hides K (ask_pictures turns) agree by d (values K key₁) (values K key₂) turns t sound d_long long₁ long₂ s₁.tray s₁.sheet s₂.tray s₂.sheet kept₁ kept₂ beside hold (λ round b h. h) (λ h. h)
    drawn₁ drawn₂ seen₁ seen₂ e₁ e₂ drawns
    (subst (λ (a : Told). Run K (record { told = a; tray = s₁.tray; sheet = s₁.sheet }) turns drawn₁ seen₁ e₁) deal₁.1 run₁)
    (subst (λ (a : Told). Run K (record { told = a; tray = s₂.tray; sheet = s₂.sheet }) turns drawn₂ seen₂ e₂) deal₂.1 run₂)

-- a coding that agrees with meaning agrees wherever pictures are asked for
pub secrecy : {E : Type 0} (K : Kind E) → Agrees K → Secrecy K
secrecy K agree scheme issue turns d sound long hold = secrecy_as_asked K scheme issue turns d sound long (λ _. agree) hold

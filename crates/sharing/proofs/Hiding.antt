-- Two runs beside each other: what is seen of a turn is the same, and the trays go on differing by what the cover hides. Assumes nothing.
use Rattle.std.proofs.Common.{◌≡◌, ℕ, zero, suc, ◌+◌, ◌-◌, ◌<◌, Bool, true, false, cond, eqb, List, [], ◌∷◌, ◌++◌, map, length, take, drop, sym, refl, ap, ◌∙◌, ap₂, inl, inr, arith, lit<}
use lib.ListN.{length-map, length-replicate}
use Rattle.std.proofs.lemmas.List.{take-map, drop-map}
use Rattle.std.proofs.lemmas.Bool.{eq-eqb, false≢true}
use Rattle.kinds.specs.Group.{Group}
use Rattle.plans.specs.Layout.{card}
use Rattle.matrix.specs.Matrix.{slip, row_of}
use Rattle.sharing.specs.Calls.{Told, Call, draw, apply, discard, read, picture, reissue, audit, tray_length, random_count, no_harbour, needed, current, refusal, turned, after, own}
use Rattle.sharing.specs.Cover.{Readers, cover, HoldNoGroup}
use Rattle.sharing.specs.Dealing.{Scheme, dealing, card_start, card_in, added, opposed, zeros}
use Rattle.sharing.specs.Format as format
use Rattle.sharing.specs.Secrecy.{Sound, Agrees, asks_picture, hands_out, turn_shift}
use Rattle.sharing.specs.Steps.{Kind, Seen, handed, pictured, agrees, State, values, head_of, Audits, Does}
use Rattle.sharing.proofs.Covering.{covered, cover_length, card_of}
use Rattle.sharing.proofs.Linear.{length_added, added_assoc, added_comm, added_zeros, added_opposed, dealing_added}
use Rattle.sharing.proofs.Turning.{Kept, passes, fits, in_harbours, restores_key, reissue_keeps, applied}

module _ (G : Group) where
  take_added : (n : ℕ) (xs ys : List G.Value) → take n (added G xs ys) ≡ added G (take n xs) (take n ys)
  take_added zero xs ys = refl
  take_added (suc n) [] ys = refl
  take_added (suc n) (x ∷ xs) [] = refl
  take_added (suc n) (x ∷ xs) (y ∷ ys) = ap (λ zs. G.plus x y ∷ zs) (take_added n xs ys)

  drop_added : (n : ℕ) (xs ys : List G.Value) → drop n (added G xs ys) ≡ added G (drop n xs) (drop n ys)
  drop_added zero xs ys = refl
  drop_added (suc n) [] ys = refl
  drop_added (suc n) (x ∷ xs) [] = nothing (drop n xs)
    where
      nothing : (zs : List G.Value) → [] ≡ added G zs []
      nothing [] = refl
      nothing (z ∷ zs) = refl
  drop_added (suc n) (x ∷ xs) (y ∷ ys) = drop_added n xs ys

  card_added : (s : Scheme) (b : ℕ) (xs ys : List G.Value) → card_in s b (added G xs ys) ≡ added G (card_in s b xs) (card_in s b ys)
  card_added s b xs ys =
      ap (take (length (card s.masks s.components b))) (drop_added (card_start s b) xs ys)
      ∙ take_added (length (card s.masks s.components b)) (drop (card_start s b) xs) (drop (card_start s b) ys)

  added_four : (xs ys zs ws : List G.Value) → added G (added G xs ys) (added G zs ws) ≡ added G (added G xs zs) (added G ys ws)
  added_four xs ys zs ws =
      added_assoc G xs ys (added G zs ws)
      ∙ ap (added G xs) (sym (added_assoc G ys zs ws) ∙ ap (λ us. added G us ws) (added_comm G ys zs) ∙ added_assoc G zs ys ws)
      ∙ sym (added_assoc G xs zs (added G ys ws))

-- codes go by meaning
codes_alike : {E : Type 0} (K : Kind E) → Agrees K → (xs ys : List E) → values K xs ≡ values K ys → map K.code xs ≡ map K.code ys
codes_alike K agree [] [] e = refl
codes_alike K agree [] (y ∷ ys) e = absurd (let z : ◌≡◌ {A = ℕ} 0 1 = cc in omega arith)
codes_alike K agree (x ∷ xs) [] e = absurd (let z : ◌≡◌ {A = ℕ} 0 1 = cc in omega arith)
codes_alike K agree (x ∷ xs) (y ∷ ys) e =
    let first : K.meaning x ≡ K.meaning y = cc in
    let rest : values K xs ≡ values K ys = cc in
    ap₂ ◌∷◌ ((agree x y).1 first) (codes_alike K agree xs ys rest)

-- How two runs differ: by the dealing of the difference and its cover, in the tray, and in an open sheet by the step from one cover to the next.
pub record Beside {E : Type 0} (K : Kind E) (by : ℕ → Readers) (d : List K.group.Value) (t : Told) (slips₁ sheet₁ slips₂ sheet₂ : List E) : Type 0 where
  pub trays : values K slips₂ ≡ added K.group (values K slips₁) (dealing K.group t.scheme d (cover K.group t.scheme (by t.round) d))
  pub sheets : t.drawn ≡ true → values K sheet₂
      ≡ added K.group (values K sheet₁)
      (dealing K.group t.scheme (zeros K.group t.scheme.components)
      (added K.group (cover K.group t.scheme (by (t.round + 1)) d) (opposed K.group (cover K.group t.scheme (by t.round) d))))

module _ {E : Type 0} (K : Kind E) (pictured' : Bool) (agree : pictured' ≡ true → Agrees K) (by : ℕ → Readers) (d key₁ key₂ : List K.group.Value) (t : Told)
    (sound : Sound t.scheme) (d_long : length d ≡ t.scheme.components) (long₁ : length key₁ ≡ t.scheme.components) (long₂ : length key₂ ≡ t.scheme.components)
    (slips₁ sheet₁ slips₂ sheet₂ : List E) (kept₁ : Kept K key₁ t slips₁ sheet₁) (kept₂ : Kept K key₂ t slips₂ sheet₂) (beside : Beside K by d t slips₁ sheet₁ slips₂ sheet₂)
    (hold : HoldNoGroup t.scheme (by t.round)) where
  -- a card that is read is the same in both trays, by meaning
  card_same : (b : ℕ) → b < t.scheme.harbours → by t.round b ≡ true → card_in t.scheme b (values K slips₁) ≡ card_in t.scheme b (values K slips₂)
  card_same b lt there =
      let G : Group = K.group in
      let s : Scheme = t.scheme in
      let long : length (card_in s b (values K slips₁)) ≡ length (card s.masks s.components b) =
      ap (λ xs. length (card_in s b xs)) kept₁.is
      ∙ ap length (card_of s b (λ x. slip G s.masks s.components (key₁ ++ kept₁.random) (row_of s.masks x)) lt)
      ∙ length-map (card s.masks s.components b) _ in
      sym (ap (card_in s b) beside.trays ∙ card_added G s b (values K slips₁) (dealing G s d (cover G s (by t.round) d))
      ∙ ap (added G (card_in s b (values K slips₁))) (covered G s (by t.round) d b sound d_long hold lt there)
      ∙ added_zeros G (length (card s.masks s.components b)) (card_in s b (values K slips₁)) long)

  -- the places of both runs by meaning as they were
  pub stays : (slips₁' sheet₁' slips₂' sheet₂' : List E) → values K slips₁' ≡ values K slips₁ → values K slips₂' ≡ values K slips₂
      → (t.drawn ≡ true → values K sheet₁' ≡ values K sheet₁) → (t.drawn ≡ true → values K sheet₂' ≡ values K sheet₂) → Beside K by d t slips₁' sheet₁' slips₂' sheet₂'
  stays slips₁' sheet₁' slips₂' sheet₂' e₁ e₂ f₁ f₂ = record {
    trays = e₂ ∙ beside.trays ∙ ap (λ xs. added K.group xs (dealing K.group t.scheme d (cover K.group t.scheme (by t.round) d))) (sym e₁);
    sheets = λ open'. f₂ open' ∙ beside.sheets open' ∙ ap (λ xs. added K.group xs (dealing K.group t.scheme (zeros K.group t.scheme.components) (added K.group (cover K.group t.scheme (by (t.round + 1)) d) (opposed K.group (cover K.group t.scheme (by t.round) d))))) (sym (f₁ open'));
  }

  -- an audit of a kept tray agrees
  audit_agrees : (key : List K.group.Value) (slips sheet : List E) → length key ≡ t.scheme.components → Kept K key t slips sheet → (v : Seen K.group.Value) → Audits K t slips v → v ≡ agrees
  audit_agrees key slips sheet long kept v (inl h) = h.0
  audit_agrees key slips sheet long kept v (inr h) =
      absurd (h.3 (restores_key K key t sound long slips sheet kept h.0 h.2 ∙ sym (restores_key K key t sound long slips sheet kept 0 (omega (arith, h.2)))))

  -- the cover of the next round less that of this one
  step : List K.group.Value
  step = added K.group (cover K.group t.scheme (by (t.round + 1)) d) (opposed K.group (cover K.group t.scheme (by t.round) d))

  step_long : length step ≡ random_count t.scheme
  unfolding step
  step_long =
      let this : length (opposed K.group (cover K.group t.scheme (by t.round) d)) ≡ random_count t.scheme = length-map (cover K.group t.scheme (by t.round) d) K.group.minus ∙ cover_length K.group t.scheme (by t.round) d in
      length_added K.group (cover K.group t.scheme (by (t.round + 1)) d) (opposed K.group (cover K.group t.scheme (by t.round) d))
      (cover_length K.group t.scheme (by (t.round + 1)) d ∙ sym this) ∙ cover_length K.group t.scheme (by (t.round + 1)) d

  no_key : List K.group.Value
  no_key = zeros K.group t.scheme.components

  no_key_long : length no_key ≡ t.scheme.components
  unfolding no_key
  no_key_long = length-replicate t.scheme.components K.group.nil

  -- a dealing of the all-zero key by random values and the step
  sheet_step : (random : List K.group.Value) → length random ≡ random_count t.scheme
      → dealing K.group t.scheme no_key (added K.group random step) ≡ added K.group (dealing K.group t.scheme no_key random) (dealing K.group t.scheme no_key step)
  unfolding no_key
  sheet_step random long =
      ap (λ k. dealing K.group t.scheme k (added K.group random step)) (sym (added_zeros K.group t.scheme.components no_key no_key_long))
      ∙ dealing_added K.group t.scheme no_key no_key random step refl (long ∙ sym step_long)

  -- this cover and the step make the next cover
  cover_step : added K.group (dealing K.group t.scheme d (cover K.group t.scheme (by t.round) d)) (dealing K.group t.scheme no_key step)
      ≡ dealing K.group t.scheme d (cover K.group t.scheme (by (t.round + 1)) d)
  unfolding step no_key
  cover_step =
      let G : Group = K.group in
      let s : Scheme = t.scheme in
      let this : List K.group.Value = cover K.group t.scheme (by t.round) d in
      let next : List K.group.Value = cover K.group t.scheme (by (t.round + 1)) d in
      let this_long : length this ≡ random_count s = cover_length G s (by t.round) d in
      let next_long : length next ≡ random_count s = cover_length G s (by (t.round + 1)) d in
      let back : added G this (added G next (opposed G this)) ≡ next =
      ap (added G this) (added_comm G next (opposed G this)) ∙ sym (added_assoc G this (opposed G this) next)
      ∙ ap (λ xs. added G xs next) (added_opposed G this) ∙ added_comm G (zeros G (length this)) next ∙ added_zeros G (length this) next (next_long ∙ sym this_long) in
      sym (dealing_added G s d no_key this step (d_long ∙ sym no_key_long) (this_long ∙ sym step_long))
      ∙ ap₂ (dealing G s) (added_zeros G s.components d d_long) back

  -- an accepted call looks the same in both runs, and they go on beside each other
  pub call_hides : (c : Call) (random₁ random₂ : List E) (v₁ v₂ : Seen K.group.Value) (s₁ s₂ : State E) → refusal K.width t c ≡ 0
      → values K random₂ ≡ added K.group (values K random₁) (turn_shift K.group K.width by d t (own c))
      → ((b : ℕ) → hands_out c b ≡ true → by t.round b ≡ true) → (asks_picture (own c) ≡ true → pictured' ≡ true)
      → Does K (record { told = t; tray = slips₁; sheet = sheet₁ }) c random₁ v₁ s₁ → Does K (record { told = t; tray = slips₂; sheet = sheet₂ }) c random₂ v₂ s₂
      → (v₁ ≡ v₂) × Beside K by d (after t c) s₁.tray s₁.sheet s₂.tray s₂.sheet
  unfolding step no_key
  call_hides (draw randoms sheet_long) random₁ random₂ v₁ v₂ s₁ s₂ r shifted reads asked does₁ does₂ =
      let closed = passes t.drawn 11 _ (lit< tt) r in
      let early = passes (eqb t.round 65535) 12 _ (lit< tt) closed.1 in
      let enough = fits randoms (random_count t.scheme) 9 _ (lit< tt) early.1 in
      let long : length (values K random₁) ≡ random_count t.scheme = length-map random₁ K.meaning ∙ does₁.0 ∙ enough.0 in
      let is : values K random₂ ≡ added K.group (values K random₁) step =
      shifted ∙ ap (λ b. added K.group (values K random₁) (cond b step [])) (eq-eqb (refusal K.width t (draw randoms sheet_long)) 0 r) in (
        does₁.1.1 ∙ sym does₂.1.1,
        record {
          trays = ap (values K) does₂.2 ∙ beside.trays ∙ ap (λ xs. added K.group (values K xs) (dealing K.group t.scheme d (cover K.group t.scheme (by t.round) d))) (sym does₁.2);
          sheets = λ _. does₂.1.0 ∙ ap (dealing K.group t.scheme no_key) is ∙ sheet_step (values K random₁) long ∙ ap (λ xs. added K.group xs (dealing K.group t.scheme no_key step)) (sym does₁.1.0);
        },
      )
  call_hides (apply note tray_long sheet_long) random₁ random₂ v₁ v₂ s₁ s₂ r shifted reads asked does₁ does₂ =
      let open' : t.drawn ≡ true = applied K key₁ t sound long₁ slips₁ sheet₁ kept₁ note tray_long sheet_long r in (
        does₁.2 ∙ sym does₂.2,
        record {
          trays =
              does₂.0 ∙ ap₂ (added K.group) beside.trays (beside.sheets open')
              ∙ added_four K.group (values K slips₁) (dealing K.group t.scheme d (cover K.group t.scheme (by t.round) d)) (values K sheet₁) (dealing K.group t.scheme no_key step)
              ∙ ap₂ (added K.group) (sym does₁.0) cover_step;
          sheets = λ e. absurd (false≢true e);
        },
      )
  call_hides (discard note sheet_long) random₁ random₂ v₁ v₂ s₁ s₂ r shifted reads asked does₁ does₂ = go (current t note) refl
    where
      trays_stay : values K s₂.tray ≡ added K.group (values K s₁.tray) (dealing K.group t.scheme d (cover K.group t.scheme (by t.round) d))
      trays_stay = ap (values K) does₂.1 ∙ beside.trays ∙ ap (λ xs. added K.group (values K xs) (dealing K.group t.scheme d (cover K.group t.scheme (by t.round) d))) (sym does₁.1)

      go : (b : Bool) → current t note ≡ b → (v₁ ≡ v₂) × Beside K by d (turned t t.round (cond (current t note) false t.drawn)) s₁.tray s₁.sheet s₂.tray s₂.sheet
      go true e = (
        (does₁.0.0 e).1 ∙ sym (does₂.0.0 e).1,
        record { trays = trays_stay; sheets = λ open'. absurd (false≢true (ap (λ b. cond b false t.drawn) (sym e) ∙ open')) },
      )
      go false e = (
        (does₁.0.1 e).1 ∙ sym (does₂.0.1 e).1,
        record {
          trays = trays_stay;
          sheets = λ open'. ap (values K) (does₂.0.1 e).0 ∙ beside.sheets (ap (λ b. cond b false t.drawn) (sym e) ∙ open') ∙ ap (λ xs. added K.group (values K xs) (dealing K.group t.scheme no_key step)) (sym (does₁.0.1 e).0);
        },
      )
  call_hides (read harbour tray_long) random₁ random₂ v₁ v₂ s₁ s₂ r shifted reads asked does₁ does₂ =
      let whole = fits tray_long (tray_length t.scheme) 10 _ (lit< tt) r in
      let inside = passes (no_harbour t.scheme harbour) 15 _ (lit< tt) whole.1 in
      let h = in_harbours t.scheme harbour inside.0 in
      let at : harbour ≡ harbour - 1 + 1 = omega arith in (
        does₁.0 ∙ ap handed (card_same (harbour - 1) (omega arith) (reads (harbour - 1) (eq-eqb harbour (harbour - 1 + 1) at))) ∙ sym does₂.0,
        stays s₁.tray s₁.sheet s₂.tray s₂.sheet (ap (values K) does₁.1) (ap (values K) does₂.1) (λ _. ap (values K) does₁.2) (λ _. ap (values K) does₂.2),
      )
  call_hides (picture harbour tray_long place_long) random₁ random₂ v₁ v₂ s₁ s₂ r shifted reads asked does₁ does₂ =
      let whole = fits tray_long (tray_length t.scheme) 10 _ (lit< tt) r in
      let inside = passes (no_harbour t.scheme harbour) 15 _ (lit< tt) whole.1 in
      let h = in_harbours t.scheme harbour inside.0 in
      let at : harbour ≡ harbour - 1 + 1 = omega arith in
      let same : values K (card_in t.scheme (harbour - 1) slips₁) ≡ values K (card_in t.scheme (harbour - 1) slips₂) =
      card_values (harbour - 1) slips₁ ∙ card_same (harbour - 1) (omega arith) (reads (harbour - 1) (eq-eqb harbour (harbour - 1 + 1) at)) ∙ sym (card_values (harbour - 1) slips₂) in
      let bytes : does₁.0.0 ≡ does₂.0.0 =
      does₁.0.1 ∙ ap (format.picture K.width (head_of K t harbour)) (codes_alike K (agree (asked refl)) (card_in t.scheme (harbour - 1) slips₁) (card_in t.scheme (harbour - 1) slips₂) same) ∙ sym does₂.0.1 in (
        does₁.0.2 ∙ ap pictured bytes ∙ sym does₂.0.2,
        stays s₁.tray s₁.sheet s₂.tray s₂.sheet (ap (values K) does₁.1) (ap (values K) does₂.1) (λ _. ap (values K) does₁.2) (λ _. ap (values K) does₂.2),
      )
    where
      card_values : (b : ℕ) (xs : List E) → values K (card_in t.scheme b xs) ≡ card_in t.scheme b (values K xs)
      card_values b xs =
          sym (ap (take (length (card t.scheme.masks t.scheme.components b))) (drop-map K.meaning (card_start t.scheme b) xs)
          ∙ take-map K.meaning (length (card t.scheme.masks t.scheme.components b)) (drop (card_start t.scheme b) xs))
  call_hides (reissue harbour tray_long working) random₁ random₂ v₁ v₂ s₁ s₂ r shifted reads asked does₁ does₂ =
      let whole = fits tray_long (tray_length t.scheme) 10 _ (lit< tt) r in
      let inside = passes (no_harbour t.scheme harbour) 15 _ (lit< tt) whole.1 in
      let free = passes (needed t.scheme harbour) 16 _ (lit< tt) inside.1 in
      let h = in_harbours t.scheme harbour inside.0 in
      let d₁ = does₁.0 in
      let d₂ = does₂.0 in (
        d₁.4 ∙ sym d₂.4,
        stays s₁.tray s₁.sheet s₂.tray s₂.sheet
            (reissue_keeps K key₁ t sound long₁ slips₁ sheet₁ kept₁ harbour s₁.tray h.0 h.1 free.0 d₁.0 d₁.1 d₁.2 d₁.3)
            (reissue_keeps K key₂ t sound long₂ slips₂ sheet₂ kept₂ harbour s₂.tray h.0 h.1 free.0 d₂.0 d₂.1 d₂.2 d₂.3)
            (λ _. ap (values K) does₁.1) (λ _. ap (values K) does₂.1),
      )
  call_hides (audit tray_long) random₁ random₂ v₁ v₂ s₁ s₂ r shifted reads asked does₁ does₂ = (
    audit_agrees key₁ slips₁ sheet₁ long₁ kept₁ v₁ does₁.0 ∙ sym (audit_agrees key₂ slips₂ sheet₂ long₂ kept₂ v₂ does₂.0),
    stays s₁.tray s₁.sheet s₂.tray s₂.sheet (ap (values K) does₁.1) (ap (values K) does₂.1) (λ _. ap (values K) does₁.2) (λ _. ap (values K) does₂.2),
  )

-- Restoring over whole runs. Assumes nothing.
use Rattle.std.proofs.Common.{◌≡◌, ℕ, ◌<◌, List, [], ◌∷◌, length, take, drop, sym, ap, ◌∙◌, subst, inl, inr, arith, lit<}
use Rattle.kinds.specs.Group.{Group}
use Rattle.sharing.specs.Calls.{fresh, Told, Turn, after_turn, taken_by, tray_length, no_harbour, needed}
use Rattle.sharing.specs.Dealing.{Scheme, restores}
use Rattle.sharing.specs.Restoring.{DealingIsLinear, DealingRestores, CoverHides, RunsRestore}
use Rattle.sharing.specs.Secrecy.{Sound}
use Rattle.sharing.specs.Steps.{Kind, Seen, agrees, State, values, Audits, Run}
use Rattle.sharing.proofs.Covering.{covered, cover_opposed}
use Rattle.sharing.proofs.Linear.{dealing_added, dealing_opposed}
use Rattle.sharing.proofs.Restoring.{dealing_restores_key}
use Rattle.sharing.proofs.Secrets.{scheme_stays, told_after, dealt_long, dealt_kept}
use Rattle.sharing.proofs.Turning.{Kept, passes, fits, in_harbours, restores_key, reissue_keeps, turn_keeps}

pub linear : (G : Group) → DealingIsLinear G
linear G s key₁ key₂ random₁ random₂ lk lr = (dealing_added G s key₁ key₂ random₁ random₂ lk lr, dealing_opposed G s key₁ random₁)

pub restores_dealt : (G : Group) → DealingRestores G
restores_dealt G s key random g sound long lt = dealing_restores_key G s key random g sound long lt

pub cover_hides : (G : Group) → CoverHides G
cover_hides G s by d b sound long hold lt there = (covered G s by d b sound long hold lt there, cover_opposed G s by d)

module _ {E : Type 0} (K : Kind E) (key : List K.group.Value) where
  -- what a run keeps, to its end
  run_keeps : (turns : List Turn) (t : Told) → Sound t.scheme → length key ≡ t.scheme.components → (slips sheet : List E) → Kept K key t slips sheet
      → (random : List E) (seen : List (Seen K.group.Value)) (e : State E) → Run K (record { told = t; tray = slips; sheet = sheet }) turns random seen e
      → (e.told.scheme ≡ t.scheme) × Kept K key e.told e.tray e.sheet
  run_keeps [] t sound long slips sheet kept random seen e run =
      (ap (λ (s : State E). s.told.scheme) run.2, subst (λ (s : State E). Kept K key s.told s.tray s.sheet) (sym run.2) kept)
  run_keeps (x ∷ xs) t sound long slips sheet kept random seen e run =
      let n : ℕ = taken_by K.width t x in
      let s : State E = run.2 in
      let u : Told = after_turn K.width t x in
      let same : u.scheme ≡ t.scheme = scheme_stays K.width t x in
      let next : Kept K key u s.tray s.sheet = turn_keeps K key t sound long slips sheet kept x (take n random) run.0 s run.4 in
      let on : Run K (record { told = u; tray = s.tray; sheet = s.sheet }) xs (drop n random) run.1 e =
      subst (λ (a : Told). Run K (record { told = a; tray = s.tray; sheet = s.sheet }) xs (drop n random) run.1 e) (told_after K t slips sheet x (take n random) run.0 s run.4) run.5 in
      let end = run_keeps xs u (subst Sound (sym same) sound) (long ∙ ap (λ (a : Scheme). a.components) (sym same)) s.tray s.sheet next (drop n random) run.1 e on in
      (end.0 ∙ same, end.1)

pub runs_restore : {E : Type 0} (K : Kind E) → RunsRestore K
runs_restore {E} K scheme issue turns key dealt drawn s e seen sound deal run =
    let t : Told = fresh scheme issue in
    let long : length (values K key) ≡ scheme.components = (dealt_long K scheme issue key dealt s deal).0 in
    let end = run_keeps K (values K key) turns t sound long s.tray s.sheet (dealt_kept K scheme issue key dealt s deal) drawn seen e
    (subst (λ (a : Told). Run K (record { told = a; tray = s.tray; sheet = s.sheet }) turns drawn seen e) deal.1 run) in
    let is : e.told.scheme ≡ scheme = end.0 in
    let sound' : Sound e.told.scheme = subst Sound (sym is) sound in
    let long' : length (values K key) ≡ e.told.scheme.components = long ∙ ap (λ (a : Scheme). a.components) (sym is) in
    let back : (g : ℕ) → g < length e.told.scheme.masks → restores K.group e.told.scheme (values K e.tray) g ≡ values K key =
    restores_key K (values K key) e.told sound' long' e.tray e.sheet end.1 in (
      is,
      (λ g lt. ap (λ (a : Scheme). restores K.group a (values K e.tray) g) (sym is) ∙ back g (subst (λ (a : Scheme). g < length a.masks) (sym is) lt)),
      agreed back,
      (λ harbour tray_long working tray' v r h.
          let whole = fits tray_long (tray_length e.told.scheme) 10 _ (lit< tt) r in
          let inside = passes (no_harbour e.told.scheme harbour) 15 _ (lit< tt) whole.1 in
          let free = passes (needed e.told.scheme harbour) 16 _ (lit< tt) inside.1 in
          let at = in_harbours e.told.scheme harbour inside.0 in
          reissue_keeps K (values K key) e.told sound' long' e.tray e.sheet end.1 harbour tray' at.0 at.1 free.0 h.0 h.1 h.2 h.3),
    )
  where
    agreed : ((g : ℕ) → g < length e.told.scheme.masks → restores K.group e.told.scheme (values K e.tray) g ≡ values K key)
        → (v : Seen K.group.Value) → Audits K e.told e.tray v → v ≡ agrees
    agreed back v (inl h) = h.0
    agreed back v (inr h) = absurd (h.3 (back h.0 h.2 ∙ sym (back 0 (omega (arith, h.2)))))

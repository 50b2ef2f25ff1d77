-- What a turn of one run keeps: the tray stays a dealing of the key dealt, and an open sheet one of the all-zero key. Assumes nothing.
use Rattle.std.proofs.Common.{◌≡◌, ℕ, suc, ◌+◌, ◌-◌, ◌<◌, ◌≤◌, Bool, true, false, cond, not, eqb, ltb, List, [], ◌∷◌, map, length, get_or, take, drop, count_by, sym, refl, ap, ◌∙◌, subst, ap₂, zero-add, arith, lit<}
use lib.ListN.{length-map, length-replicate}
use Rattle.std.specs.List.{prefix_len}
use Rattle.std.proofs.lemmas.List.FromFn.{get_or-map-range_with_len}
use Rattle.std.proofs.lemmas.List.{take-map, drop-map}
use Rattle.std.proofs.lemmas.Bool.{eqb-true, eqb-false, not-false, or_parts, ltb-false, and_parts, false≢true}
use Rattle.plans.specs.Groups.{has}
use Rattle.plans.specs.Layout.{mask_of, tray}
use Rattle.plans.proofs.Counting.{count_by_cons}
use Rattle.sharing.specs.Calls.{Told, Call, draw, apply, discard, read, picture, reissue, audit, tray_length, random_count, no_harbour, needed, current, refuse, refusal, turned, after, Turn, own, other, after_turn}
use Rattle.sharing.specs.Dealing.{Scheme, dealing, card_start, restored, restores, added, zeros}
use Rattle.sharing.specs.Secrecy.{Sound}
use Rattle.sharing.specs.Steps.{Kind, Seen, State, values, Does, Step, lowest_without}
use Rattle.sharing.proofs.Linear.{length_added, added_zeros, dealing_added}
use Rattle.sharing.proofs.Reissuing.{reissue_same}
use Rattle.sharing.proofs.Restoring.{dealing_restores_key}

-- a test that does not refuse
pub passes : (test : Bool) (number rest : ℕ) → 0 < number → refuse test number rest ≡ 0 → (test ≡ false) × (rest ≡ 0)
passes true number rest some e = absurd (omega arith)
passes false number rest some e = (refl, e)

-- a length that is tested and passes
pub fits : (a b number rest : ℕ) → 0 < number → refuse (not (eqb a b)) number rest ≡ 0 → (a ≡ b) × (rest ≡ 0)
fits a b number rest some e = let p = passes (not (eqb a b)) number rest some e in (eqb-true a b (not-false (eqb a b) p.0), p.1)

-- a harbour that is tested and passes
pub in_harbours : (s : Scheme) (harbour : ℕ) → no_harbour s harbour ≡ false → (1 ≤ harbour) × (harbour ≤ s.harbours)
in_harbours s harbour e =
    let p = or_parts (ltb harbour 1) (ltb s.harbours harbour) e in (ltb-false harbour 1 p.0, ltb-false s.harbours harbour p.1)

-- where some item fails a test, the front that passes ends
pub leading_ends : {X : Type 0} (p : X → Bool) (xs : List X) → (count_by (λ x. not (p x)) xs ≡ 0 → ⊥) → prefix_len p xs < length xs
leading_ends p [] some = absurd (some refl)
leading_ends p (x ∷ xs) some = go (λ h. leading_ends p xs h) (p x) refl
  where
    go : ((count_by (λ y. not (p y)) xs ≡ 0 → ⊥) → prefix_len p xs < length xs) → (b : Bool) → p x ≡ b → cond b (1 + prefix_len p xs) 0 < suc (length xs)
    go rest true e = omega (arith, rest (λ none. some (count_by_cons (λ y. not (p y)) x xs ∙ ap₂ (λ b n. cond (not b) 1 0 + n) e none)))
    go rest false e = omega arith

-- What is kept of a tray, its sheet and what the record tells, from the key dealt on.
pub record Kept {E : Type 0} (K : Kind E) (key : List K.group.Value) (t : Told) (slips sheet : List E) : Type 0 where
  pub random : List K.group.Value
  pub long : length random ≡ random_count t.scheme
  pub is : values K slips ≡ dealing K.group t.scheme key random
  pub sheet_is : t.drawn ≡ true
      → (zero' : List K.group.Value) × (length zero' ≡ random_count t.scheme)
      × (values K sheet ≡ dealing K.group t.scheme (zeros K.group t.scheme.components) zero')

module _ {E : Type 0} (K : Kind E) (key : List K.group.Value) (t : Told) (sound : Sound t.scheme) (key_long : length key ≡ t.scheme.components) (slips sheet : List E) (kept : Kept K key t slips sheet) where
  -- every group restores the key
  pub restores_key : (g : ℕ) → g < length t.scheme.masks → restores K.group t.scheme (values K slips) g ≡ key
  restores_key g lt =
      ap (λ xs. restores K.group t.scheme xs g) kept.is ∙ dealing_restores_key K.group t.scheme key kept.random g sound key_long lt

  -- places that hold the same by meaning keep what is kept
  pub keeps : (slips' sheet' : List E) → values K slips' ≡ values K slips → (t.drawn ≡ true → values K sheet' ≡ values K sheet) → Kept K key t slips' sheet'
  keeps slips' sheet' same same_sheet = record {
    random = kept.random;
    long = kept.long;
    is = same ∙ kept.is;
    sheet_is = λ open'. let k = kept.sheet_is open' in (k.0, k.1, same_sheet open' ∙ k.2);
  }

  -- the tray is as long as the scheme says
  pub tray_long : length slips ≡ tray_length t.scheme
  tray_long =
      sym (length-map slips K.meaning) ∙ ap length kept.is
      ∙ length-map (tray t.scheme.masks t.scheme.harbours t.scheme.components) _

  -- a reissue leaves every slip's meaning as it was
  pub reissue_keeps : (harbour : ℕ) (slips' : List E) → 1 ≤ harbour → harbour ≤ t.scheme.harbours → needed t.scheme harbour ≡ false
      → ((g : ℕ) → g < length t.scheme.masks → has (mask_of t.scheme.masks g) (harbour - 1) ≡ true
      → restores K.group t.scheme (values K slips') g ≡ restores K.group t.scheme (values K slips) (lowest_without K t harbour))
      → length slips' ≡ length slips → take (card_start t.scheme (harbour - 1)) slips' ≡ take (card_start t.scheme (harbour - 1)) slips
      → drop (card_start t.scheme harbour) slips' ≡ drop (card_start t.scheme harbour) slips
      → values K slips' ≡ values K slips
  reissue_keeps harbour slips' low high free restore long front back =
      let b : ℕ = harbour - 1 in
      let next : b + 1 ≡ harbour = omega arith in
      let without : lowest_without K t harbour < length t.scheme.masks = leading_ends (λ m. has m b) t.scheme.masks (λ e. eqb-false (count_by (λ m. not (has m b)) t.scheme.masks) 0 free e) in
      let same : (g : ℕ) → g < length t.scheme.masks → has (mask_of t.scheme.masks g) b ≡ true → restores K.group t.scheme (values K slips') g ≡ restores K.group t.scheme (values K slips) g =
      λ g lt member. restore g lt member ∙ restores_key (lowest_without K t harbour) without ∙ sym (restores_key g lt) in
      reissue_same K.group t.scheme b (values K slips) (values K slips') (omega arith)
      (length-map slips K.meaning ∙ tray_long) (length-map slips' K.meaning ∙ long ∙ sym (length-map slips K.meaning))
      (take-map K.meaning (card_start t.scheme b) slips' ∙ ap (map K.meaning) front ∙ sym (take-map K.meaning (card_start t.scheme b) slips))
      (drop-map K.meaning (card_start t.scheme (b + 1)) slips' ∙ ap (map K.meaning) (subst (λ h. drop (card_start t.scheme h) slips' ≡ drop (card_start t.scheme h) slips) (sym next) back) ∙ sym (drop-map K.meaning (card_start t.scheme (b + 1)) slips))
      (λ g c lt member in_key. component g c in_key (values K slips') ∙ ap (λ xs. get_or xs c K.group.nil) (same g lt member) ∙ sym (component g c in_key (values K slips)))
    where
      component : (g c : ℕ) → c < t.scheme.components → (xs : List K.group.Value) → restored K.group t.scheme xs g c ≡ get_or (restores K.group t.scheme xs g) c K.group.nil
      component g c lt xs = sym (get_or-map-range_with_len (restored K.group t.scheme xs g) 0 t.scheme.components c c K.group.nil lt (zero-add c))

  -- an accepted apply spends the note of the open draw
  pub applied : (note tray_long' sheet_long : ℕ) → refusal K.width t (apply note tray_long' sheet_long) ≡ 0 → t.drawn ≡ true
  applied note tray_long' sheet_long r =
      let whole = fits tray_long' (tray_length t.scheme) 10 _ (lit< tt) r in
      let alike = fits sheet_long (tray_length t.scheme) 13 _ (lit< tt) whole.1 in
      let now_open = passes (not (current t note)) 14 0 (lit< tt) alike.1 in
      (and_parts t.drawn (eqb note t.round) (not-false (current t note) now_open.0)).0

  -- an accepted call keeps what is kept
  pub call_keeps : (c : Call) (random : List E) (v : Seen K.group.Value) (s' : State E) → refusal K.width t c ≡ 0
      → Does K (record { told = t; tray = slips; sheet = sheet }) c random v s' → Kept K key (after t c) s'.tray s'.sheet
  call_keeps (draw randoms sheet_long) random v s' r does =
      let closed = passes t.drawn 11 _ (lit< tt) r in
      let early = passes (eqb t.round 65535) 12 _ (lit< tt) closed.1 in
      let enough = fits randoms (random_count t.scheme) 9 _ (lit< tt) early.1 in
      record {
        random = kept.random;
        long = kept.long;
        is = ap (values K) does.2 ∙ kept.is;
        sheet_is = λ _. (values K random, length-map random K.meaning ∙ does.0 ∙ enough.0, does.1.0);
      }
  call_keeps (apply note tray_long' sheet_long) random v s' r does =
      let k = kept.sheet_is (applied note tray_long' sheet_long r) in
      let zero_key : length key ≡ length (zeros K.group t.scheme.components) = key_long ∙ sym (length-replicate t.scheme.components K.group.nil) in
      record {
        random = added K.group kept.random k.0;
        long = length_added K.group kept.random k.0 (kept.long ∙ sym k.1) ∙ kept.long;
        is =
            does.0 ∙ ap₂ (added K.group) kept.is k.2
            ∙ sym (dealing_added K.group t.scheme key (zeros K.group t.scheme.components) kept.random k.0 zero_key (kept.long ∙ sym k.1))
            ∙ ap (λ x. dealing K.group t.scheme x (added K.group kept.random k.0)) (added_zeros K.group t.scheme.components key key_long);
        sheet_is = λ e. absurd (false≢true e);
      }
  call_keeps (discard note sheet_long) random v s' r does = go (current t note) refl
    where
      go : (b : Bool) → current t note ≡ b → Kept K key (turned t t.round (cond (current t note) false t.drawn)) s'.tray s'.sheet
      go true e = record {
        random = kept.random;
        long = kept.long;
        is = ap (values K) does.1 ∙ kept.is;
        sheet_is = λ open'. absurd (false≢true (ap (λ b. cond b false t.drawn) (sym e) ∙ open'));
      }
      go false e = record {
        random = kept.random;
        long = kept.long;
        is = ap (values K) does.1 ∙ kept.is;
        sheet_is = λ open'. let k = kept.sheet_is (ap (λ b. cond b false t.drawn) (sym e) ∙ open') in (k.0, k.1, ap (values K) (does.0.1 e).0 ∙ k.2);
      }
  call_keeps (read harbour tray_long') random v s' r does = keeps s'.tray s'.sheet (ap (values K) does.1) (λ _. ap (values K) does.2)
  call_keeps (picture harbour tray_long' place_long) random v s' r does = keeps s'.tray s'.sheet (ap (values K) does.1) (λ _. ap (values K) does.2)
  call_keeps (reissue harbour tray_long' working) random v s' r does =
      let whole = fits tray_long' (tray_length t.scheme) 10 _ (lit< tt) r in
      let inside = passes (no_harbour t.scheme harbour) 15 _ (lit< tt) whole.1 in
      let free = passes (needed t.scheme harbour) 16 _ (lit< tt) inside.1 in
      let h = in_harbours t.scheme harbour inside.0 in
      let d = does.0 in
      keeps s'.tray s'.sheet (reissue_keeps harbour s'.tray h.0 h.1 free.0 d.0 d.1 d.2 d.3) (λ _. ap (values K) does.1)
  call_keeps (audit tray_long') random v s' r does = keeps s'.tray s'.sheet (ap (values K) does.1) (λ _. ap (values K) does.2)

  -- a turn keeps what is kept
  pub turn_keeps : (x : Turn) (random : List E) (v : Seen K.group.Value) (s' : State E)
      → Step K (record { told = t; tray = slips; sheet = sheet }) x random v s' → Kept K key (after_turn K.width t x) s'.tray s'.sheet
  turn_keeps (own c) random v s' step = go (eqb (refusal K.width t c) 0) refl
    where
      go : (b : Bool) → eqb (refusal K.width t c) 0 ≡ b → Kept K key (cond b (after t c) t) s'.tray s'.sheet
      go true e = let r = eqb-true (refusal K.width t c) 0 e in call_keeps c random v s' r (step.1 r)
      go false e = let same = step.2 (eqb-false (refusal K.width t c) 0 e) in keeps s'.tray s'.sheet (ap (values K) same.1) (λ _. ap (values K) same.2)
  turn_keeps (other u c) random v s' step = keeps s'.tray s'.sheet (ap (values K) step.2.1) (λ _. ap (values K) step.2.2)

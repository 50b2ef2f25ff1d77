-- What a call that is not refused may rely on, and how its turn is told. Assumes nothing.
use Rattle.std.proofs.Common.{◌≡◌, ℕ, zero, suc, ◌-◌, ◌*◌, ◌<◌, ◌≤◌, cond, not, ltb, List, map, length, take, drop, Option, None, Some, Ok, MatchOption, sym, refl, ap, ◌∙◌, subst, ap₂, inl, inr, arith}
use Rattle.std.proofs.lemmas.Nat.{mul-le}
use Rattle.std.proofs.lemmas.List.{drop-map, take-map}
use Rattle.std.proofs.lemmas.Bool.{eq-eqb, ltb-false, or_parts}
use Rattle.plans.specs.Layout.{card}
use Rattle.plans.specs.Shape.{card_length, masks_of, shape_of}
use Rattle.plans.specs.declared.plan.Plan.{Plan}
use Rattle.sharing.specs.Calls.{Call, Told, after, audit, no_harbour, own, read, refusal, refuse, tray_length}
use Rattle.sharing.specs.Dealing.{Scheme, card_in, card_start, restores}
use Rattle.sharing.specs.Steps.{Audits, Does, Kind, Seen, State, Step, values}
use Rattle.sharing.specs.Threshold.{scheme_of}
use Rattle.sharing.proofs.Turning.{fits, passes}
use Rattle.trays.specs.Laying.{block_of}
use Rattle.trays.specs.Turns.{seen_audit}
use Rattle.trays.proofs.Lengths.{card_long, cards_long, tray_long}

-- Plans with the same three numbers have the same groups.
pub same_scheme : (p q : Plan) → shape_of p ≡ shape_of q → scheme_of p ≡ scheme_of q
same_scheme p q same = ap (λ s. record { masks = masks_of s; harbours = s.harbours; components = s.components; threshold = s.threshold }) same

pub auditable : (w n : ℕ) (t : Told) → n ≡ tray_length t.scheme → refusal w t (audit n) ≡ 0
auditable w n t long = ap (λ b. refuse (not b) 10 0) (eq-eqb n (tray_length t.scheme) long)

module _ (p : Plan) where
  -- The harbour and the length of the tray of an accepted reading.
  pub readable : (w h n : ℕ) (t : Told) → t.scheme ≡ scheme_of p → refusal w t (read h n) ≡ 0 → (n ≡ tray_length (scheme_of p)) × (1 ≤ h) × (h ≤ p.harbours)
  readable w h n t is none =
      let first = fits n (tray_length t.scheme) 10 _ (omega arith) none in
      let second = passes (no_harbour t.scheme h) 15 _ (omega arith) first.1 in
      let parts = or_parts (ltb h 1) (ltb t.scheme.harbours h) second.0 in (
        first.0 ∙ ap tray_length is,
        ltb-false h 1 parts.0,
        omega (arith, ltb-false t.scheme.harbours h parts.1, ap (λ s. s.harbours) is),
      )

  pub card_fits : (x l n : ℕ) → l ≡ card_length (shape_of p) → n ≡ tray_length (scheme_of p) → x ≤ p.harbours → x * l ≤ n
  card_fits x l n ls ns few =
      let whole : x * l ≡ x * card_length (shape_of p) = ap (◌*◌ x) ls in
      omega (arith, whole, ns, tray_long p, mul-le x (card_length (shape_of p)) p.harbours (card_length (shape_of p)) few (omega arith))

  -- A card is the part of the tray with its number.
  pub card_part : {X : Type 0} (h l : ℕ) (xs : List X) → l ≡ card_length (shape_of p) → 1 ≤ h → h ≤ p.harbours → block_of l (h - 1) xs ≡ card_in (scheme_of p) (h - 1) xs
  card_part h l xs ls some few =
      ap₂ (λ x y. take x (drop y xs)) (ls ∙ sym (card_long p (h - 1) (omega arith))) (ap (λ x. (h - 1) * x) ls ∙ sym (cards_long p (h - 1) (omega arith)))

  pub card_values : {X Y : Type 0} (m : X → Y) (h : ℕ) (xs : List X) → map m (card_in (scheme_of p) (h - 1) xs) ≡ card_in (scheme_of p) (h - 1) (map m xs)
  card_values m h xs =
      let s : Scheme = scheme_of p in
      let n : ℕ = length (card s.masks s.components (h - 1)) in
      sym (take-map m n (drop (card_start s (h - 1)) xs)) ∙ ap (take n) (sym (drop-map m (card_start s (h - 1)) xs))

module _ {E : Type 0} (K : Kind E) where
  -- The turn of a call that is not refused.
  pub takes_turn : (s s' : State E) (c : Call) (random : List E) (v : Seen K.group.Value) → refusal K.width s.told c ≡ 0 → s'.told ≡ after s.told c → Does K s c random v s'
      → Step K s (own c) random v s'
  takes_turn s s' c random v none told does = (
    told ∙ sym (ap (λ b. cond b (after s.told c) s.told) (eq-eqb (refusal K.width s.told c) 0 none)),
    λ _. does,
    λ some. absurd (some none),
  )

-- What holds at 0 and from 1 on holds from 0 on.
from_one : (P : ℕ → Type 0) (n : ℕ) → P 0 → ((k : ℕ) → 1 ≤ k → k < n → P k) → (k : ℕ) → k < n → P k
from_one P n first each zero below = first
from_one P n first each (suc k) below = each (suc k) (omega arith) below

module _ {E : Type 0} (K : Kind E) (tray : List E) where
  -- What a group of the tray restores.
  abbrev pub restored_in : Scheme → ℕ → List K.group.Value
  restored_in s g = restores K.group s (values K tray) g

  -- The lowest group from one number on that restores otherwise than group 0, or none before another.
  abbrev pub LowestApart : Scheme → ℕ → ℕ → Option ℕ → Type 0
  LowestApart s low n r =
      MatchOption r ((k : ℕ) → low ≤ k → k < n → restored_in s k ≡ restored_in s 0)
      (λ g. (low ≤ g) × (g < n) × (restored_in s g ≡ restored_in s 0 → ⊥) × ((k : ℕ) → low ≤ k → k < g → restored_in s k ≡ restored_in s 0))

  pub audited : (t : Told) (s : Scheme) (low n : ℕ) (r : Option ℕ) → LowestApart s low n r → s ≡ t.scheme → low ≡ 1 → n ≡ length t.scheme.masks → Audits K t tray (seen_audit (Ok r))
  audited t s low n r found same first all = told r (subst (λ l. LowestApart t.scheme l n r) first (subst (λ x. LowestApart x low n r) same found))
    where
      told : (o : Option ℕ) → LowestApart t.scheme 1 n o → Audits K t tray (seen_audit (Ok o))
      told None alike = inl (refl, λ g low. from_one (λ h. restored_in t.scheme h ≡ restored_in t.scheme 0) n refl alike g (omega (arith, all, low)))
      told (Some g) apart =
          inr (g, refl, omega (arith, all, apart.1), apart.2, λ h low. from_one (λ x. restored_in t.scheme x ≡ restored_in t.scheme 0) g refl apart.3 h low)

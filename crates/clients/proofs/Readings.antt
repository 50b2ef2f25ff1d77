-- Two deals and one reading of each are two runs of one turn. Assumes nothing.
use Rattle.std.proofs.Common.{◌≡◌, ℕ, zero, suc, ◌+◌, ◌-◌, ◌<◌, ◌≤◌, min, Bool, true, false, cond, ◌&&◌, eqb, List, [], ◌∷◌, map, length, take, drop, filter, sym, refl, ap, ◌∙◌, subst, ap₂, ⊎_elim, arith}
use Rattle.std.specs.List.{range_with_len}
use Rattle.std.proofs.lemmas.List.{length-drop, length-take}
use Rattle.std.proofs.lemmas.Bool.{and_parts, eqb-true, or_cases, true≢false}
use Rattle.kinds.specs.Group.{Group}
use Rattle.plans.specs.Layout.{card}
use Rattle.plans.specs.declared.plan.Plan.{Plan}
use Rattle.sharing.specs.Calls.{Told, fresh, own, random_count, read, refusal, taken_by, tray_length}
use Rattle.sharing.specs.Dealing.{Scheme, card_in, card_start}
use Rattle.sharing.specs.Promise.{HidesAsAsked, kind_of}
use Rattle.sharing.specs.Secrecy.{read_in}
use Rattle.sharing.specs.Steps.{Dealt, Kind, Run, Seen, State, Step, agrees, differs, done, handed, noted, pictured, refused, reissued, stale, wiped}
use Rattle.sharing.specs.Threshold.{read_count, scheme_of}
use Rattle.sharing.proofs.Turning.{fits}
use Rattle.clients.specs.Alike.{SameCard, one_reading}
use Rattle.clients.specs.declared.Lent.{Lent}

-- At most one number passes a test that only one can pass.
none_pass : (p : ℕ → Bool) (y a n : ℕ) → y < a → ((x : ℕ) → p x ≡ true → x ≡ y) → length (filter p (range_with_len a n)) ≡ 0
none_pass p y a zero above only = refl
none_pass p y a (suc n) above only = go (p a) refl (none_pass p y (a + 1) n (omega arith) only)
  where
    go : (b : Bool) → p a ≡ b → length (filter p (range_with_len (a + 1) n)) ≡ 0 → length (cond b (a ∷ filter p (range_with_len (a + 1) n)) (filter p (range_with_len (a + 1) n))) ≡ 0
    go true passes rest = absurd (omega (arith, only a passes))
    go false passes rest = rest

one_passes : (p : ℕ → Bool) (y a n : ℕ) → ((x : ℕ) → p x ≡ true → x ≡ y) → length (filter p (range_with_len a n)) ≤ 1
one_passes p y a zero only = omega arith
one_passes p y a (suc n) only = go (p a) refl (one_passes p y (a + 1) n only)
  where
    go : (b : Bool) → p a ≡ b → length (filter p (range_with_len (a + 1) n)) ≤ 1 → length (cond b (a ∷ filter p (range_with_len (a + 1) n)) (filter p (range_with_len (a + 1) n))) ≤ 1
    go true passes rest = omega (arith, none_pass p y (a + 1) n (omega (arith, only a passes)) only)
    go false passes rest = rest

-- Of one reading, at most its harbour is read in any round.
pub few_read : (p : Plan) (issue harbour round : ℕ) → read_count p.harbours (read_in 0 (scheme_of p) issue (one_reading p harbour) round) ≤ 1
few_read p issue harbour round = one_passes (read_in 0 (scheme_of p) issue (one_reading p harbour) round) (harbour - 1) 0 p.harbours only
  where
    only : (b : ℕ) → read_in 0 (scheme_of p) issue (one_reading p harbour) round b ≡ true → b ≡ harbour - 1
    only b is = ⊎_elim
        (λ this. let last = and_parts (eqb (refusal 0 (fresh (scheme_of p) issue) (read harbour (tray_length (scheme_of p)))) 0 && eqb 0 round) (eqb harbour (b + 1)) this in omega (arith, eqb-true harbour (b + 1) last.1))
        (λ none. absurd (true≢false (sym none)))
        (or_cases (eqb (refusal 0 (fresh (scheme_of p) issue) (read harbour (tray_length (scheme_of p)))) 0 && eqb 0 round && eqb harbour (b + 1)) false is)

take_nil : {X : Type 0} (n : ℕ) → take {A = X} n [] ≡ []
take_nil zero = refl
take_nil (suc n) = refl

drop_nil : {X : Type 0} (n : ℕ) → drop {A = X} n [] ≡ []
drop_nil zero = refl
drop_nil (suc n) = refl

-- The card that was handed out first.
first_card : {V : Type 0} → List (Seen V) → List V
first_card [] = []
first_card (refused n ∷ vs) = []
first_card (noted n ∷ vs) = []
first_card (done ∷ vs) = []
first_card (wiped ∷ vs) = []
first_card (stale ∷ vs) = []
first_card (handed card ∷ vs) = card
first_card (pictured bytes ∷ vs) = []
first_card (agrees ∷ vs) = []
first_card (differs g ∷ vs) = []
first_card (reissued ∷ vs) = []

module _ {E : Type 0} (G : Group) (m : E → G.Value) (p : Plan) (issue harbour : ℕ) where
  abbrev kind : Kind E
  kind = kind_of G m (λ _. 0) 0 0

  -- The tray of an accepted deal is as long as the plan's.
  dealt_tray : (key random : List E) (s : State E) → Dealt kind (scheme_of p) issue key random s → length s.tray ≡ tray_length (scheme_of p)
  dealt_tray key random s dealt =
      let first = fits (length key) p.components 8 _ (omega arith) dealt.0 in
      let second = fits (length random) (random_count (scheme_of p)) 9 _ (omega arith) first.1 in
      (fits (length s.tray) (tray_length (scheme_of p)) 10 _ (omega arith) second.1).0

  -- One reading, as a run.
  one_run : (key random card : List E) (s : State E) → Dealt kind (scheme_of p) issue key random s → Step kind s (own (read harbour (length s.tray))) [] (handed (map m card)) s
      → Run kind s (one_reading p harbour) [] (handed (map m card) ∷ []) s
  one_run key random card s dealt step =
      let n : ℕ = taken_by 0 s.told (own (read harbour (tray_length (scheme_of p)))) in
      let told : Step kind s (own (read harbour (tray_length (scheme_of p)))) [] (handed (map m card)) s =
      subst (λ l. Step kind s (own (read harbour l)) [] (handed (map m card)) s) (dealt_tray key random s dealt) step in (
        handed (map m card),
        [],
        s,
        refl,
        subst (λ xs. Step kind s (own (read harbour (tray_length (scheme_of p)))) xs (handed (map m card)) s) (sym (take_nil n)) told,
        (drop_nil n, refl, refl),
      )

  -- A card that is read straight after a deal: some state follows the deal, in which the reading hands out this very part of the tray.
  abbrev pub ReadsOnce : Lent E → List E → Type 0
  ReadsOnce lent card =
      (s : State E) × Dealt kind (scheme_of p) issue lent.key.now lent.random.now s
      × Step kind s (own (read harbour (length s.tray))) [] (handed (map m card)) s × (card ≡ card_in s.told.scheme (harbour - 1) s.tray)

  -- The two cards mean the same.
  pub cards_alike : HidesAsAsked G m → (first second : Lent E) (card₁ card₂ : List E) → ReadsOnce first card₁ → ReadsOnce second card₂
      → SameCard G m p issue harbour first second (map m card₁ ≡ map m card₂)
  unfolding first_card
  cards_alike hides first second card₁ card₂ (s₁, dealt₁, step₁, part₁) (s₂, dealt₂, step₂, part₂) d long some keys randoms =
      ap first_card
      ((hides (λ _. 0) 0 0).1 p issue (one_reading p harbour) d long (λ asked. absurd (true≢false (sym asked)))
      (λ round. omega (arith, few_read p issue harbour round)) first.key.now second.key.now first.random.now second.random.now [] [] s₁ s₂ s₁ s₂ (handed (map m card₁) ∷ []) (handed (map m card₂) ∷ [])
      dealt₁ (one_run first.key.now first.random.now card₁ s₁ dealt₁ step₁) dealt₂ (one_run second.key.now second.random.now card₂ s₂ dealt₂ step₂) keys randoms refl)

  abbrev card_long : Scheme → ℕ → ℕ
  card_long s n = min (length (card s.masks s.components (harbour - 1))) (n - card_start s (harbour - 1))

  -- Both cards are equally long.
  pub as_long : (first second : Lent E) (card₁ card₂ : List E) → ReadsOnce first card₁ → ReadsOnce second card₂ → length card₁ ≡ length card₂
  as_long first second card₁ card₂ (s₁, dealt₁, step₁, part₁) (s₂, dealt₂, step₂, part₂) =
      let same : length s₁.tray ≡ length s₂.tray = dealt_tray first.key.now first.random.now s₁ dealt₁ ∙ sym (dealt_tray second.key.now second.random.now s₂ dealt₂) in
      ap length part₁ ∙ long s₁.told.scheme s₁.tray ∙ ap₂ card_long (ap (λ (t : Told). t.scheme) dealt₁.1) same
      ∙ sym (ap length part₂ ∙ long s₂.told.scheme s₂.tray ∙ ap (λ x. card_long x (length s₂.tray)) (ap (λ (t : Told). t.scheme) dealt₂.1))
    where
      long : (s : Scheme) (xs : List E) → length (card_in s (harbour - 1) xs) ≡ min (length (card s.masks s.components (harbour - 1))) (length xs - card_start s (harbour - 1))
      long s xs =
          length-take (length (card s.masks s.components (harbour - 1))) (drop (card_start s (harbour - 1)) xs)
          ∙ ap (min (length (card s.masks s.components (harbour - 1)))) (length-drop (card_start s (harbour - 1)) xs)

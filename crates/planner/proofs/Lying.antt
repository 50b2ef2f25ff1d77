-- A group by its number has its slips where the library finds those of its mask. Assumes nothing.
use Rattle.std.proofs.Common.{◌≡◌, ℕ, ◌-◌, ◌<◌, Bool, true, false, cond, eqb, ℤ, pos, negsuc, Some, None, Ok, Err, Result, sym, refl, ap, ◌∙◌, subst, arith, w8, to_z, of_z, MatchResult}
use Rattle.plans.proofs.Finding.{undoes}
use Rattle.plans.specs.Groups.{member, position, sign}
use Rattle.plans.specs.Layout.{place}
use Rattle.plans.specs.Numbering.{group_in, number_in}
use Rattle.plans.specs.Refusals.{number_of, group_refusal, mask_refusal, position_refusal, find_refusal}
use Rattle.plans.specs.Shape.{shape_of, group_count, masks_of}
use Rattle.plans.specs.declared.plan.Plan.{Plan}
use Rattle.plans.specs.declared.refusal.Refusal.{Refusal}
use Rattle.std.specs.Result.{result_ok}
use Rattle.std.proofs.lemmas.Bool.Decides.{nat_tests}
use Rattle.planner.specs.Slips.{Lies}

some_number : (e : Refusal) → 0 < number_of e
some_number e = grind arith

-- A mask that the table gave for a number is the group's.
pub record Grouped (p : Plan) (g mask : ℕ) : Type 0 where
  pub inside : g < group_count (shape_of p)
  pub is : mask ≡ group_in (shape_of p) g

pub grouped : (p : Plan) (g mask : ℕ) (r : Result ℕ Refusal) → Some mask ≡ result_ok r
    → MatchResult r (λ m. (group_refusal (group_count (shape_of p)) g ≡ 0) × (m ≡ group_in (shape_of p) g)) (λ e. number_of e ≡ group_refusal (group_count (shape_of p)) g)
    → Grouped p g mask
grouped p g mask (Ok m) same h = let free = h.0 in let e : mask ≡ m = cc in record { inside = grind (arith, nat_tests); is = e ∙ h.1 }
grouped p g mask (Err e) same h = let z : ◌≡◌ {A = ℕ} 0 1 = cc in absurd (omega arith)

-- A sign is kept where it is stored in eight bits.
kept : (b : Bool) → to_z w8 (of_z w8 (cond b (pos 1) (negsuc 0))) ≡ cond b (pos 1) (negsuc 0)
kept true = refl
kept false = refl

-- Of a group the refusal rests on the member alone.
of_group : (n t mask harbour : ℕ) → mask_refusal n t mask ≡ 0 → find_refusal n t mask harbour ≡ position_refusal mask harbour
of_group n t mask harbour e = ap (λ m. cond (eqb m 0) (position_refusal mask harbour) 5) e

is_member : (b : Bool) → ◌≡◌ {A = ℕ} (cond b 0 6) 0 → b ≡ true
is_member true e = refl
is_member false e = absurd (omega arith)

no_member : (b : Bool) → 0 < cond b 0 6 → b ≡ false
no_member true h = absurd (omega arith)
no_member false h = refl

module _ (p : Plan) (g harbour mask : ℕ) (group : Grouped p g mask) where
  freely : find_refusal p.harbours p.threshold mask harbour ≡ position_refusal (group_in (shape_of p) g) harbour
  freely =
      ap (λ m. find_refusal p.harbours p.threshold m harbour) group.is
      ∙ of_group p.harbours p.threshold (group_in (shape_of p) g) harbour ((undoes p).1 g group.inside).0

  numbered : number_in (shape_of p) mask ≡ g
  numbered = ap (number_in (shape_of p)) group.is ∙ ((undoes p).1 g group.inside).1

  -- What the table says where it finds the group.
  abbrev pub Found : ℕ × ℤ → Type 0
  Found f =
      (find_refusal p.harbours p.threshold mask harbour ≡ 0)
      × (f.0 ≡ place (masks_of (shape_of p)) p.components (number_in (shape_of p) mask) (harbour - 1))
      × (f.1 ≡ sign (position mask (harbour - 1)))

  abbrev pub Missed : Refusal → Type 0
  Missed e = number_of e ≡ find_refusal p.harbours p.threshold mask harbour

  pub lies : (r : Result (ℕ × ℤ) Refusal) (f : ℕ × ℤ) → Some f ≡ result_ok r → MatchResult r Found Missed
      → Lies (shape_of p) g harbour (record { place = f.0; sign = to_z w8 (of_z w8 f.1) })
  lies (Err e) f same h = let z : ◌≡◌ {A = ℕ} 0 1 = cc in absurd (omega arith)
  lies (Ok x) f same h =
      let e : f ≡ x = cc in
      record {
        of_group = group.inside;
        of_member = is_member _ (sym freely ∙ h.0);
        at_place = ap (λ y. y.0) e ∙ h.1 ∙ ap (λ n. place (masks_of (shape_of p)) p.components n (harbour - 1)) numbered;
        with_sign =
            ap (λ (y : ℕ × ℤ). to_z w8 (of_z w8 y.1)) e ∙ ap (λ z. to_z w8 (of_z w8 z)) h.2 ∙ kept (eqb (position mask (harbour - 1)) 1)
            ∙ ap (λ m. sign (position m (harbour - 1))) group.is;
      }

  pub absent : (r : Result (ℕ × ℤ) Refusal) → None ≡ result_ok r → MatchResult r Found Missed → member (group_in (shape_of p) g) harbour ≡ false
  absent (Ok x) same h = let z : ◌≡◌ {A = ℕ} 0 1 = cc in absurd (omega arith)
  absent (Err e) same h = no_member _ (subst (λ n. 0 < n) (h ∙ freely) (some_number e))

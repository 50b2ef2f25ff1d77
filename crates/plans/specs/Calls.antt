-- What each call on a plan answers: for every input its refusal, or its result. Assumes nothing.
use Rattle.std.specs.Prelude.{◌≡◌, ℕ, ◌-◌, ℤ, Result, MatchResult}
use Rattle.plans.specs.Groups.{position, sign}
use Rattle.plans.specs.Layout.{place}
use Rattle.plans.specs.Numbering.{group_in, number_in}
use Rattle.plans.specs.Refusals.{Answers, number_of, plan_refusal, group_refusal, mask_refusal, position_refusal, find_refusal}
use Rattle.plans.specs.Shape.{Shape, shape_of, masks_of, group_count}
use Rattle.plans.specs.declared.plan.Plan.{Plan}
use Rattle.plans.specs.declared.refusal.Refusal.{Refusal}

-- A plan with these three numbers.
abbrev pub Made : ℕ → ℕ → ℕ → Result Plan Refusal → Type 0
Made n t k = Answers (plan_refusal n t k) (λ p. shape_of p ≡ record { harbours = n; threshold = t; components = k })

-- The mask of the group with this number.
abbrev pub Grouped : Shape → ℕ → Result ℕ Refusal → Type 0
Grouped s g = Answers (group_refusal (group_count s) g) (λ mask. mask ≡ group_in s g)

-- The number of the group with this mask.
abbrev pub Numbers : Shape → ℕ → Result ℕ Refusal → Type 0
Numbers s mask = Answers (mask_refusal s.harbours s.threshold mask) (λ g. g ≡ number_in s mask)

-- The position of a harbour in a mask.
abbrev pub Positioned : ℕ → ℕ → Result ℕ Refusal → Type 0
Positioned mask harbour = Answers (position_refusal mask harbour) (λ i. i ≡ position mask (harbour - 1))

-- The place of a group's component 0 on a harbour's card, counted in the tray, and the harbour's sign.
abbrev pub Found : Shape → ℕ → ℕ → Result (ℕ × ℤ) Refusal → Type 0
Found s mask harbour r =
    MatchResult r
    (λ f. (find_refusal s.harbours s.threshold mask harbour ≡ 0) × (f.0 ≡ place (masks_of s) s.components (number_in s mask) (harbour - 1)) × (f.1 ≡ sign (position mask (harbour - 1))))
    (λ e. number_of e ≡ find_refusal s.harbours s.threshold mask harbour)

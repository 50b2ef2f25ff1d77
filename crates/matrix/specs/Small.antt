-- How large slips of zeros and ones can be. Assumes nothing.
use Rattle.std.specs.Prelude.{ℕ, ◌^◌, ◌≤◌, cond, List, All, ◌==◌}
use Rattle.kinds.specs.Kinds.{words}
use Rattle.kinds.specs.Residue.{Residue}
use Rattle.plans.specs.Shape.{shape_of, masks_of}
use Rattle.plans.specs.declared.plan.Plan.{Plan}
use Rattle.matrix.specs.Matrix.{rows, slip, size_of}

-- Over any list of groups: where key and random words are each 0 or 1, a slip at position 1 is at most its group's size, and any other at most 1.
abbrev pub SlipsStaySmall : Type 0
SlipsStaySmall =
    (masks : List ℕ) (k : ℕ) (inputs : List (Residue (2 ^ 32))) → All (λ w. w.number ≤ 1) inputs
    → All (λ r. (slip words masks k inputs r).number ≤ cond (r.position == 1) (size_of masks r.group) 1) (rows masks k)

-- In a plan every group has t members, so that the first bound is t.
abbrev pub SlipsOfAPlanStaySmall : Type 0
SlipsOfAPlanStaySmall =
    (p : Plan) (inputs : List (Residue (2 ^ 32))) → All (λ w. w.number ≤ 1) inputs
    → All (λ r. (slip words (masks_of (shape_of p)) p.components inputs r).number ≤ cond (r.position == 1) p.threshold 1) (rows (masks_of (shape_of p)) p.components)

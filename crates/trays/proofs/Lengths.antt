-- How long trays, cards and lists of random elements are, in every plan. Assumes nothing.
use Rattle.std.proofs.Common.{◌≡◌, ℕ, ◌-◌, ◌*◌, ◌<◌, ◌≤◌, length, ap, ◌∙◌, mul_left_comm, arith}
use Rattle.std.proofs.lemmas.List.{length-drop}
use Rattle.plans.specs.Binomial.{choose}
use Rattle.plans.specs.Layout.{card}
use Rattle.plans.specs.Shape as shape
use Rattle.plans.specs.Shape.{card_length, masks_of, shape_of}
use Rattle.plans.specs.declared.plan.Plan.{Plan}
use Rattle.plans.proofs.Places.{cards_are_long, cards_before, length_tray}
use Rattle.matrix.specs.Matrix.{columns}
use Rattle.matrix.proofs.Numbered.{numbered}
use Rattle.sharing.specs.Calls.{random_count, tray_length}
use Rattle.sharing.specs.Dealing.{card_start}
use Rattle.sharing.specs.Threshold.{scheme_of}

pub tray_long : (p : Plan) → tray_length (scheme_of p) ≡ shape.tray_length (shape_of p)
tray_long p = (cards_are_long p).1

pub random_long : (p : Plan) → random_count (scheme_of p) ≡ shape.random_count (shape_of p)
random_long p =
    omega (arith, length-drop p.components (columns (masks_of (shape_of p)) p.components), (numbered p).1)

pub card_long : (p : Plan) (bit : ℕ) → bit < p.harbours → length (card (masks_of (shape_of p)) p.components bit) ≡ card_length (shape_of p)
card_long p bit below = (cards_are_long p).0 bit below

pub cards_long : (p : Plan) (n : ℕ) → n ≤ p.harbours → card_start (scheme_of p) n ≡ n * card_length (shape_of p)
cards_long p n le =
    length_tray (masks_of (shape_of p)) p.components n
    ∙ ap (λ m. p.components * m) (cards_before p.harbours p.threshold n p.someone le)
    ∙ mul_left_comm p.components n (choose (p.harbours - 1) (p.threshold - 1))

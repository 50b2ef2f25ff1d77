-- How many groups a plan has, and that each has as many members as the threshold. Assumes nothing.
use Rattle.std.proofs.Common.{◌≡◌, ℕ, ◌^◌, ◌<◌, true, eqb, length}
use lib.Count.{ones}
use Rattle.std.specs.List.{range_with_len}
use Rattle.std.proofs.lemmas.List.Elements.{All-get_or, filter_passes}
use Rattle.std.proofs.lemmas.Bool.{eqb-true}
use Rattle.plans.specs.Groups.{groups}
use Rattle.plans.specs.Layout.{mask_of}
use Rattle.matrix.specs.Matrix.{size_of}

pub size_is : (n t g : ℕ) → g < length (groups n t) → size_of (groups n t) g ≡ t
size_is n t g l =
    eqb-true (ones (mask_of (groups n t) g)) t
    (All-get_or (λ m. eqb (ones m) t ≡ true) (groups n t) g 0 l (filter_passes (λ m. eqb (ones m) t) (range_with_len 0 (2 ^ n))))

-- The names of the kinds, by their codes. Assumes nothing.
use Rattle.std.specs.Prelude.{ℕ, cond, List, codes, ◌==◌}

abbrev pub name_of : ℕ → List ℕ
name_of kind =
    cond (kind == 1) (codes "key words") (cond (kind == 2) (codes "mask bytes") (cond (kind == 3) (codes "dial numbers") (codes "elements")))

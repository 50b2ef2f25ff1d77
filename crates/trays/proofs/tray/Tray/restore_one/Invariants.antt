use Rattle.trays.proofs.tray.Tray.restore_one.Given as goal
use Rattle.std.proofs.Common.{◌≡◌, ◌-◌}
use Rattle.trays.specs.Trays.{restored_so_far}

abbrev pub invariant-loop-harbour : goal.invariant-loop-harbour
invariant-loop-harbour g l =
    g.E.Element.meaning l.sum ≡ restored_so_far g.E.Element.group g.E.Element.meaning l.self l.number (l.harbour - 1) l.component

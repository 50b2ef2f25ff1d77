use Rattle.trays.proofs.dealing.Dealing.lay.Given as goal
use Rattle.std.proofs.Common.{◌≡◌, ◌-◌, length}
use Rattle.trays.specs.Dealings.{LaidCards}

abbrev pub invariant-loop-harbour : goal.invariant-loop-harbour
invariant-loop-harbour g l = record {
  laid : LaidCards g.E.Element.group g.E.Element.meaning l.self (l.harbour - 1) l.tray;
  long : length l.tray ≡ length l.initial.tray;
}

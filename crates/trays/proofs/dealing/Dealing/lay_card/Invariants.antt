use Rattle.trays.proofs.dealing.Dealing.lay_card.Given as goal
use Rattle.std.proofs.Common.{◌≡◌, ◌-◌, length}
use Rattle.sharing.specs.Threshold.{scheme_of}
use Rattle.trays.specs.Dealings.{LaidTo}
use Rattle.trays.specs.Laying.{front}

abbrev pub invariant-loop-number : goal.invariant-loop-number
invariant-loop-number g l = record {
  laid : LaidTo g.E.Element.group g.E.Element.meaning l.self (front (scheme_of l.self.table.now.plan) (l.harbour - 1) l.number) l.tray;
  long : length l.tray ≡ length l.initial.tray;
}

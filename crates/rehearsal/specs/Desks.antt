-- What lay on a desk, and whether it still does. Assumes nothing.
use Rattle.std.specs.Prelude.{◌≡◌, ℕ, List, map}
use Rattle.kinds.specs.Kinds.{dial}
use Rattle.kinds.specs.declared.dial_number.DialNumber.{DialNumber}
use Rattle.trays.specs.Turns.{told_by}
use Rattle.trays.specs.declared.record.Record.{Record}
use Rattle.rehearsal.specs.declared.kept.Desk.{Desk}
use Rattle.rehearsal.specs.declared.kept.Entry.{Entry}
use Rattle.rehearsal.specs.declared.kept.Kept.{Kept}

-- The codes of dial numbers.
abbrev pub dialed : List DialNumber → List ℕ
dialed xs = map (λ e. (dial e.held).number) xs

-- What a record tells stands in an entry.
pub record Tells (r : Record) (e : Entry) : Type 0 where
  pub issue : e.issue ≡ (told_by r).issue
  pub round : e.round ≡ (told_by r).round
  pub drawn : e.drawn ≡ (told_by r).drawn

-- What is kept of a desk.
pub record Keeps (d : Desk) (k : Kept) : Type 0 where
  pub entry : Tells d.book k.entry
  pub tray : k.tray ≡ d.tray
  pub sheet : k.sheet ≡ d.sheet

-- The record tells what it told, and every place has the code that it had.
pub record Still (k : Kept) (d : Desk) : Type 0 where
  pub entry : Tells d.book k.entry
  pub tray : dialed k.tray ≡ dialed d.tray
  pub sheet : dialed k.sheet ≡ dialed d.sheet

-- What a trial asks of the call that it makes. Assumes nothing.
use Rattle.std.specs.Fn.{Once}
use Rattle.std.specs.Borrow.{MutBor}
use Rattle.trays.specs.Turns.{told_by}
use Rattle.rehearsal.specs.Rounds.{SameTray}
use Rattle.rehearsal.specs.declared.kept.Desk.{Desk}

-- Whatever a call at a desk answers, the record there tells of the same tray.
abbrev pub KeepsTray : {F R : Type 0} → Once F (MutBor Desk × Unit {0}) (R × (MutBor Desk × Unit {0})) → F → Type 0
KeepsTray {F} {R} g f =
    (at at' : MutBor Desk) (r : R) → g.post f (at, tt) (r, (at', tt)) → SameTray (told_by at.now.book) (told_by at'.now.book)

-- Whatever a call with a note answers, at one desk or at another, the records there tell of the same trays.
abbrev pub KeepsTrays : {F N R : Type 0} → Once F (MutBor Desk × (MutBor Desk × (N × Unit {0}))) (R × (MutBor Desk × (MutBor Desk × Unit {0}))) → F → Type 0
KeepsTrays {F} {N} {R} g f =
    (home away home' away' : MutBor Desk) (note : N) (r : R) → g.post f (home, (away, (note, tt))) (r, (home', (away', tt)))
    → SameTray (told_by home.now.book) (told_by home'.now.book) × SameTray (told_by away.now.book) (told_by away'.now.book)

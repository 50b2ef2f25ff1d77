use Rattle.std.proofs.Common.{rules}
use Rattle.kinds.specs.Kinds.{dial, dials}
use Rattle.trays.specs.Turns.{told_by}
use Rattle.rehearsal.proofs.Turned.{fits_still}
use Rattle.rehearsal.proofs.trial.try_note.Goals as goal

pub spend_returned-requires : goal.spend_returned-requires
spend_returned-requires g c =
    let same = c.requires.keeps _ _ _ _ _ _ c.call-called.ensures in
    fits_still dials (λ e. dial e.held) (told_by c.args.home.now.book) c.args.random.now c.args.home.now.sheet (told_by c.draw.new.self) c.draw.new.sheet
    c.in_ok-note.note c.in_ok-note.ensures (told_by c.call-called.new.arg2.book) c.call-called.new.arg2.sheet (search rules) same.0

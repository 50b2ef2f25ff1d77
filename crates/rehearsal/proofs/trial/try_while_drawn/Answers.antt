use Rattle.std.proofs.Common.{rules}
use Rattle.kinds.specs.Kinds.{dial, dials}
use Rattle.trays.specs.Turns.{told_by}
use Rattle.rehearsal.proofs.Turned.{fits_still}
use Rattle.rehearsal.proofs.trial.try_while_drawn.Goals as goal

pub spend-requires : goal.spend-requires
spend-requires g c =
    let same = c.requires.keeps _ _ _ c.go_on-trial.ensures in
    fits_still dials (λ e. dial e.held) (told_by c.args.desk.now.book) c.args.random.now c.args.desk.now.sheet (told_by c.draw.new.self) c.draw.new.sheet
    c.in_ok-note.note c.in_ok-note.ensures (told_by c.go_on-trial.new.arg2.book) c.go_on-trial.new.arg2.sheet (search rules) same

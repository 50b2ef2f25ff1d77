use Rattle.trays.specs.Turns.{told_by}
use Rattle.rehearsal.proofs.Turned.{keeps_applied}
use Rattle.rehearsal.proofs.calls.apply.Goals as goal

pub returns : goal.returns
returns g c =
    keeps_applied g.E.Element.group g.E.Element.meaning (told_by c.args.book.now) c.args.note c.args.tray.now c.args.sheet.now (told_by c.apply.new.self) c.apply.new.tray c.apply.new.sheet c.apply.result c.apply.ensures.turns

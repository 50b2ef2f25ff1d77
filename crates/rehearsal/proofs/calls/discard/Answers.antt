use Rattle.trays.specs.Turns.{told_by}
use Rattle.rehearsal.proofs.Turned.{keeps_discarded}
use Rattle.rehearsal.proofs.calls.discard.Goals as goal

pub returns : goal.returns
returns g c =
    keeps_discarded g.E.Element.group g.E.Element.meaning (told_by c.args.book.now) c.args.note c.args.sheet.now (told_by c.discard.new.self) c.discard.new.sheet c.discard.result c.discard.ensures.turns

use Rattle.std.proofs.Common.{rules}
use Rattle.std.proofs.lemmas.Result.{err_from_is_err_and}
use Rattle.trays.specs.Turns.{told_by}
use Rattle.rehearsal.proofs.Turned.{renewal_back, renewal_undone, renewed, returned_fits}
use Rattle.rehearsal.proofs.rounds.Lent.renew.Goals as goal

pub returns-in_err-note-clause-turns : goal.returns-in_err-note-clause-turns
returns-in_err-note-clause-turns g c = let p = err_from_is_err_and c.from_residual.result c.from_residual.ensures.1 in rw (p.1, p.2) (renewal_back g.E.Element.group g.E.Element.meaning (told_by c.args.self.now.book.now) c.args.random.now c.args.self.now.sheet.now (told_by c.draw.new.self) c.draw.new.sheet c.args.self.now.tray.now c.in_err-note.field-0.0 c.in_err-note.ensures)

pub spend_returned-requires : goal.spend_returned-requires
spend_returned-requires g c =
    returned_fits g.E.Element.group g.E.Element.meaning (told_by c.args.self.now.book.now) c.args.random.now c.args.self.now.sheet.now (told_by c.draw.new.self) c.draw.new.sheet
    c.in_ok-note.note c.in_ok-note.ensures c.args.self.now.tray.now (told_by c.apply.new.self) c.apply.new.tray c.apply.new.sheet c.in-Err.returned (search rules) c.in-Err.ensures.turns

pub returns-in-Ok-clause-turns : goal.returns-in-Ok-clause-turns
returns-in-Ok-clause-turns g c =
    renewed g.E.Element.group g.E.Element.meaning (told_by c.args.self.now.book.now) c.args.random.now c.args.self.now.sheet.now (told_by c.draw.new.self) c.draw.new.sheet
    c.in_ok-note.note c.in_ok-note.ensures c.args.self.now.tray.now (told_by c.apply.new.self) c.apply.new.tray c.apply.new.sheet _ (search rules) (search rules) c.in-Ok.ensures.turns

pub returns-in-Err-clause-turns : goal.returns-in-Err-clause-turns
returns-in-Err-clause-turns g c =
    renewal_undone g.E.Element.group g.E.Element.meaning (told_by c.args.self.now.book.now) c.args.random.now c.args.self.now.sheet.now (told_by c.draw.new.self) c.draw.new.sheet
    c.in_ok-note.note c.in_ok-note.ensures c.args.self.now.tray.now (told_by c.apply.new.self) c.apply.new.tray c.apply.new.sheet c.in-Err.returned
    c.spend_returned.result (told_by c.spend_returned.new.book) c.spend_returned.new.sheet c.spend_returned.ensures.turns.0 (search rules) c.in-Err.ensures.back c.spend_returned.ensures.why
    c.in-Err.ensures.turns c.spend_returned.ensures.turns.1

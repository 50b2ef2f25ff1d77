use Rattle.std.proofs.Common.{◌≡◌, length, ◌∙◌, rules}
use Rattle.std.proofs.lemmas.Result.{err_from_is_err_and}
use Rattle.trays.specs.Turns.{told_by}
use Rattle.rehearsal.proofs.Turned.{draw_back, drawn_fits, withdrawn}
use Rattle.rehearsal.proofs.rounds.withdraw.Goals as goal

pub returns-in_err-note : goal.returns-in_err-note
returns-in_err-note g c = let p = err_from_is_err_and c.from_residual.result c.from_residual.ensures.1 in rw (p.1, p.2) (draw_back g.E.Element.group g.E.Element.meaning (told_by c.args.book.now) c.args.random.now c.args.sheet.now (told_by c.draw.new.self) c.draw.new.sheet c.in_err-note.field-0.0 c.in_err-note.ensures)

pub spend-requires : goal.spend-requires
spend-requires g c =
    let same : length c.draw.new.sheet ≡ length c.args.sheet.now = search rules in
    same ∙ drawn_fits g.E.Element.group g.E.Element.meaning (told_by c.args.book.now) c.args.random.now c.args.sheet.now (told_by c.draw.new.self) c.draw.new.sheet c.in_ok-note.note c.in_ok-note.ensures

pub returns : goal.returns
returns g c =
    withdrawn g.E.Element.group g.E.Element.meaning (told_by c.args.book.now) c.args.random.now c.args.sheet.now (told_by c.draw.new.self) c.draw.new.sheet
    c.in_ok-note.note c.round-bore.result (told_by c.spend.new.book) c.spend.new.sheet c.spend.result (search rules) c.round-bore.ensures c.in_ok-note.ensures c.spend.ensures

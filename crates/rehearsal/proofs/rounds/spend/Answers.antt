use Rattle.std.proofs.Common.{subst}
use Rattle.trays.specs.Turns.{DiscardTurns, told_by}
use Rattle.rehearsal.proofs.Turned.{always_spent}
use Rattle.rehearsal.proofs.rounds.spend.Goals as goal

pub unwrap-requires : goal.unwrap-requires
unwrap-requires g c =
    always_spent g.E.Element.group g.E.Element.meaning (told_by c.args.book.now) c.args.note c.args.sheet.now (told_by c.discard.new.self) c.discard.new.sheet c.discard.result c.requires c.discard.ensures.turns

pub returns : goal.returns
returns g c =
    subst (λ r. DiscardTurns g.E.Element.group g.E.Element.meaning (told_by c.args.book.now) c.args.note c.args.sheet.now (told_by c.discard.new.self) c.discard.new.sheet r) c.unwrap.ensures c.discard.ensures.turns

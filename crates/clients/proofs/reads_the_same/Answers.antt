use Rattle.std.proofs.Common.{[], rules}
use Rattle.trays.specs.Turns.{holding, told_by}
use Rattle.clients.proofs.Readings.{as_long, cards_alike}
use Rattle.clients.proofs.reads_the_same.Goals as goal

pub all_same-requires : goal.all_same-requires
all_same-requires g c =
    as_long g.E.Element.group g.E.Element.meaning c.args.plan c.args.issue c.args.harbour c.args.first c.args.second c.in_ok-card.card.now c.in_ok-other.other.now
    (holding (told_by c.in_ok-record.record) c.in_ok-record.tray.now [], c.in_ok-record.ensures.dealt [], c.in_ok-card.ensures.turns [] (λ _. 0) 0 0, c.in_ok-card.ensures.part)
    (holding (told_by c.in_ok-other_record.other_record) c.in_ok-other_record.other_tray.now [], c.in_ok-other_record.ensures.dealt [], c.in_ok-other.ensures.turns [] (λ _. 0) 0 0, c.in_ok-other.ensures.part)

pub returns : goal.returns
returns g c = λ d long some keys randoms.
    let alike = cards_alike g.E.Element.group g.E.Element.meaning c.args.plan c.args.issue c.args.harbour c.dealt.ensures.hides c.args.first c.args.second c.in_ok-card.card.now c.in_ok-other.other.now
    (holding (told_by c.in_ok-record.record) c.in_ok-record.tray.now [], c.in_ok-record.ensures.dealt [], c.in_ok-card.ensures.turns [] (λ _. 0) 0 0, c.in_ok-card.ensures.part)
    (holding (told_by c.in_ok-other_record.other_record) c.in_ok-other_record.other_tray.now [], c.in_ok-other_record.ensures.dealt [], c.in_ok-other.ensures.turns [] (λ _. 0) 0 0, c.in_ok-other.ensures.part)
    d long some keys randoms in
    let same = c.all_same.ensures.1 alike in
    search rules

-- What loaded leaves to show: what load told, and the code of the slip. Assumes nothing.
use Rattle.std.proofs.Common.{rules}
use Rattle.picturebench.proofs.Timed.{reads_code, slip_code}
use Rattle.picturebench.proofs.work.loaded.Goals as goal

pub returns-in-Ok : goal.returns-in-Ok
returns-in-Ok g c =
    reads_code g.C.Card.coded g.C.Card.kind g.C.Card.bits c.args.picture.now 1008 c.args.at c.load.new.place c.map_or.result
    c.in-Ok.ensures.0 c.in-Ok.ensures.3 (slip_code g.C.Card.coded c.load.new.place c.args.at c.map_or.result c.get.result _ c.get.ensures.lookup c.map_or.ensures (λ x p. search rules))

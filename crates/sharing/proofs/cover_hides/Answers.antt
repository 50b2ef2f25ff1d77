use Rattle.sharing.proofs.Runs.{cover_hides}
use Rattle.sharing.proofs.cover_hides.Goals as goal

pub returns : goal.returns
returns g c = cover_hides g.E.Element.group

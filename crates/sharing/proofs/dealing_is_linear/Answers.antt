use Rattle.sharing.proofs.Runs.{linear}
use Rattle.sharing.proofs.dealing_is_linear.Goals as goal

pub returns : goal.returns
returns g c = linear g.E.Element.group

use Rattle.sharing.proofs.Exhibit.{runs_exist}
use Rattle.sharing.proofs.runs_exist.Goals as goal

pub returns : goal.returns
returns c = runs_exist

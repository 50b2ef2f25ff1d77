-- The worked cases, as `worked_cases` promises them. Assumes nothing.
use Rattle.sharing.proofs.Cases.{worked_cases}
use Rattle.sharing.proofs.worked_cases.Goals as goal

pub returns : goal.returns
returns c = worked_cases

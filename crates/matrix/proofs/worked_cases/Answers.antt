-- The worked cases, as `worked_cases` promises them. Assumes nothing.
use Rattle.matrix.proofs.Cases.{worked}
use Rattle.matrix.proofs.worked_cases.Goals as goal

pub returns : goal.returns
returns c = worked

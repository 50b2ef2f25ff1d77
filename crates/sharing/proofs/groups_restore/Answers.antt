use Rattle.sharing.specs.Promise.{kind_of}
use Rattle.sharing.proofs.Runs.{restores_dealt, runs_restore}
use Rattle.sharing.proofs.groups_restore.Goals as goal

pub returns : goal.returns
returns g c = record {
  dealt = restores_dealt g.E.Element.group;
  run = λ code number width. runs_restore (kind_of g.E.Element.group g.E.Element.meaning code number width);
}

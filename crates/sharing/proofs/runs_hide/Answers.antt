use Rattle.sharing.specs.Promise.{kind_of}
use Rattle.sharing.proofs.Secrets.{secrecy, secrecy_as_asked}
use Rattle.sharing.proofs.Thresholds.{secrecy_of_plans, secrecy_of_plans_as_asked, opposite_undoes}
use Rattle.sharing.proofs.runs_hide.Goals as goal

pub returns : goal.returns
returns g c = record {
  hides = λ code number width agree.
      let K = kind_of g.E.Element.group g.E.Element.meaning code number width in (secrecy K agree, secrecy_of_plans K agree);
  as_asked = λ code number width.
      let K = kind_of g.E.Element.group g.E.Element.meaning code number width in (secrecy_as_asked K, secrecy_of_plans_as_asked K);
  undoes = opposite_undoes g.E.Element.group;
}

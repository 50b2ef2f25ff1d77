use Rattle.sharing.specs.Promise.{kind_of}
use Rattle.sharing.proofs.Reaching.{shift_is_of_elements}
use Rattle.sharing.proofs.shift_is_of_elements.Goals as goal

pub returns : goal.returns
returns g c = λ code number width. shift_is_of_elements (kind_of g.E.Element.group g.E.Element.meaning code number width)

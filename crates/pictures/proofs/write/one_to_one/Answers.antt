-- By what the codes of a kind ensure of all its elements. Assumes nothing.
use Rattle.pictures.proofs.Bits.{body_is_bits}
use Rattle.pictures.proofs.Once.{one_to_one}
use Rattle.pictures.proofs.ReadsBack.{reads_back}
use Rattle.pictures.proofs.write.one_to_one.Goals as goal

pub returns : goal.returns
returns g c =
    let code = c.code.ensures in
    record {
      back = reads_back g.C.Card.coded g.C.Card.bits code.all_fit g.C.Card.kind;
      once = one_to_one g.C.Card.coded g.C.Element.meaning g.C.Card.bits code.all_fit code.means;
      bits = body_is_bits g.C.Card.bits;
    }

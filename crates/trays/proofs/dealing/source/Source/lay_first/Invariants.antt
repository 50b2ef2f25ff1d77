use Rattle.trays.proofs.dealing.source.Source.lay_first.Given as goal
use Rattle.std.proofs.Common.{length}
use Rattle.std.specs.Slice.Iter.{chunks_rest, chunks_size}
use Rattle.trays.specs.Laying.{key_of}
use Rattle.trays.proofs.Parts.{Chunked}

abbrev pub invariant-loop-block : goal.invariant-loop-block
invariant-loop-block g l =
    Chunked g.E.Element.group g.E.Element.meaning l.self.size (key_of g.E.Element.group g.E.Element.meaning l.self.size l.self.key) l.self.own.now
    l.to (length l.yielded) (chunks_size l.block-iterator) (chunks_rest l.block-iterator)

use Rattle.std.proofs.Common.{length, rules}
use Rattle.std.proofs.lemmas.List.{length_push}
use Rattle.std.specs.Slice.Iter.{chunks_rest, chunks_size}
use Rattle.trays.specs.Laying.{key_of}
use Rattle.trays.proofs.Parts.{chunk_end, chunk_long, chunk_step}
use Rattle.trays.proofs.dealing.source.Source.lay_first.Goals as goal

pub add-requires : goal.add-requires
add-requires g c =
    let s = c.args.self.now in
    let turn = c.in-Some.ensures.steps in
    let long = chunk_long g.E.Element.group g.E.Element.meaning s.size (key_of g.E.Element.group g.E.Element.meaning s.size s.key) s.own.now c.loop-block.to c.in-Some.block.now
    (length c.loop-block.yielded) (chunks_size c.loop-block.block-iterator) (chunks_rest c.loop-block.block-iterator) s.some s.whole c.loop-block.invariant turn.1.1 turn.1.2 in
    search (rules, long, c.loop-block.invariant.long)

pub loop-block-preserved : goal.loop-block-preserved
loop-block-preserved g c =
    let s = c.args.self.now in
    let turn = c.in-Some.ensures.steps in
    rw length_push (chunk_step g.E.Element.group g.E.Element.meaning s.size (key_of g.E.Element.group g.E.Element.meaning s.size s.key) s.own.now c.loop-block.to c.add.new.to c.in-Some.block.now
    (length c.loop-block.yielded) (chunks_size c.loop-block.block-iterator) (chunks_size c.next.new.self) (chunks_rest c.loop-block.block-iterator) (chunks_rest c.next.new.self)
    s.some s.whole c.loop-block.invariant turn.0 turn.1.0 turn.1.1 turn.1.2 (search rules))

pub returns : goal.returns
returns g c =
    let s = c.args.self.now in
    chunk_end g.E.Element.group g.E.Element.meaning s.size (key_of g.E.Element.group g.E.Element.meaning s.size s.key) s.own.now c.loop-block.to
    (length c.loop-block.yielded) (chunks_size c.loop-block.block-iterator) (chunks_rest c.loop-block.block-iterator) s.some c.loop-block.invariant c.in-None.ensures.steps.1.0

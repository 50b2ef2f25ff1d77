use Rattle.std.proofs.Common.{length, arith, rules}
use Rattle.trays.proofs.Seats.{own_room, own_whole}
use Rattle.trays.proofs.dealing.Dealing.source.Goals as goal

pub part-own-requires : goal.part-own-requires
part-own-requires g c =
    own_room c.args.self.now.table.now.plan _ c.components-size.result c.threshold.result (length c.args.self.now.random.now) (omega arith) (search rules) (search rules) c.args.self.now.enough

pub invariant_of-result : goal.invariant_of-result
invariant_of-result g c = record {
  some = search rules;
  sized = search rules;
  whole = own_whole c.args.self.now.table.now.plan _ c.components-size.result c.threshold.result c.args.self.now.random.now c.part-own.result.now
      c.part-own.ensures (omega arith) (search rules) (search rules) c.args.self.now.enough;
}

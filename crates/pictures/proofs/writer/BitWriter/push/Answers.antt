-- The code goes behind what is held, and bytes go out as soon as they are there. Assumes nothing.
use Rattle.std.proofs.Common.{arith}
use Rattle.pictures.proofs.Pushing.{code_gives, push_gives, push_holds}
use Rattle.pictures.proofs.writer.BitWriter.push.Goals as goal

pub give-requires : goal.give-requires
give-requires c = (
  omega arith,
  code_gives c.args.self.now c.args.code c.requires.0 c.requires.1 c.requires.2 c.from.result c.from.ensures 1 c.if-self-ge8.true (omega (arith, c.requires.2.few)) c.requires.3,
)

pub give-requires-then-self-ge32 : goal.give-requires-then-self-ge32
give-requires-then-self-ge32 c = (
  omega arith,
  code_gives c.args.self.now c.args.code c.requires.0 c.requires.1 c.requires.2 c.from.result c.from.ensures 4 c.if-self-ge32.true (omega (arith, c.requires.2.few)) c.requires.3,
)

pub returns-then-self-ge8-clause-pushed : goal.returns-then-self-ge8-clause-pushed
returns-then-self-ge8-clause-pushed c = push_gives c.args.self.now c.args.code c.requires.0 c.requires.1 c.requires.2 c.from.result c.from.ensures c.give.ensures.gave

pub returns-else-self-ge8-clause-pushed : goal.returns-else-self-ge8-clause-pushed
returns-else-self-ge8-clause-pushed c = push_holds c.args.self.now c.args.code c.requires.0 c.requires.1 c.requires.2 c.from.result c.from.ensures (omega arith)

pub returns-then-self-ge32-clause-pushed : goal.returns-then-self-ge32-clause-pushed
returns-then-self-ge32-clause-pushed c = push_gives c.args.self.now c.args.code c.requires.0 c.requires.1 c.requires.2 c.from.result c.from.ensures c.give-then-self-ge32.ensures.gave

pub returns-else-self-ge32-clause-pushed : goal.returns-else-self-ge32-clause-pushed
returns-else-self-ge32-clause-pushed c = push_holds c.args.self.now c.args.code c.requires.0 c.requires.1 c.requires.2 c.from.result c.from.ensures c.if-self-ge32.false

-- What is held goes out with 0 bits behind it, as the first bytes of a word. Assumes nothing.
use Rattle.std.proofs.Common.{arith}
use Rattle.pictures.proofs.Emptying.{finished, word_fits}
use Rattle.pictures.proofs.writer.BitWriter.finish.Goals as goal

pub overflow_cast-word-2 : goal.overflow_cast-word-2
overflow_cast-word-2 c = omega (arith, word_fits c.args.self c.requires.0 c.requires.1)

pub returns : goal.returns
returns c = finished c.args.self c.requires.0 c.requires.1 c.copy_from_slice.new.self (cc)

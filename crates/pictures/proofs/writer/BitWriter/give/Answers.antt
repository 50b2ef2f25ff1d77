-- The first bytes of what is held go out. Assumes nothing.
use Rattle.std.proofs.Common.{refl}
use Rattle.pictures.proofs.Pushing.{bytes_put, gives}
use Rattle.pictures.proofs.writer.BitWriter.give.Goals as goal

pub returns-clause-gave : goal.returns-clause-gave
returns-clause-gave g c =
    gives g.row.BYTES c.requires.0 c.args.self.now c.requires.1 _ refl refl refl refl
    (bytes_put c.args.self.now.body.now c.copy_from_slice.new.self g.row.BYTES c.args.self.now.at _ c.requires.0 (cc))

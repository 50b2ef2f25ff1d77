-- What next leaves to show: the code is the top of what is left. Assumes nothing.
use Rattle.std.proofs.Common.{rules}
use Rattle.pictures.proofs.Unread.{code_fits, next_is}
use Rattle.pictures.proofs.reader.BitReader.next.Goals as goal

pub overflow_cast-result : goal.overflow_cast-result
overflow_cast-result c =
    let wide = c.requires.0.wide in
    search (rules, code_fits)

pub returns : goal.returns
returns c =
    let wide = c.requires.0.wide in
    search (rules, next_is)

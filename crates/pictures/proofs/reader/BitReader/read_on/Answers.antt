-- What read_on leaves to show: a word or a byte read on changes nothing of what is left. Assumes nothing.
use Rattle.std.proofs.Common.{refl, arith}
use Rattle.std.proofs.lemmas.Nat.{shl_whole}
use Rattle.pictures.proofs.Held.{held_fits}
use Rattle.pictures.proofs.Unread.{bytes_behind, first_below, left_byte, left_word}
use Rattle.pictures.proofs.reader.BitReader.read_on.Goals as goal

pub returns-in-len4-up : goal.returns-in-len4-up
returns-in-len4-up c =
    let r = c.args.self.now in
    let between = c.requires.0 in
    let moved = shl_whole r.held r.bits 32 64 between.small (omega (arith, between.few)) in
    record {
      number = left_word r.rest.now r.held _ (omega arith) (omega arith);
      bits = omega arith;
      width = refl;
      more = omega arith;
      few = omega arith;
      small = omega (arith, held_fits r.held r.bits 32 c.from.result between.small (omega arith));
      bytes = bytes_behind r.rest.now 4 between.bytes;
    }

pub returns-in-len1-up : goal.returns-in-len1-up
returns-in-len1-up c =
    let r = c.args.self.now in
    let between = c.requires.0 in
    let moved = shl_whole r.held r.bits 8 64 between.small (omega (arith, between.few)) in
    record {
      number = left_byte r.rest.now r.held _ c.requires.1 (omega arith);
      bits = omega arith;
      width = refl;
      more = omega arith;
      few = omega arith;
      small = omega (arith, held_fits r.held r.bits 8 c.from-in-len1-up.result between.small (omega (arith, first_below r.rest.now between.bytes c.requires.1)));
      bytes = bytes_behind r.rest.now 1 between.bytes;
    }

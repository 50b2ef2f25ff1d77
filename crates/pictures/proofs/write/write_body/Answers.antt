-- What write_body leaves to show: each turn puts the next slip's code behind those before it. Assumes nothing.
use Rattle.std.proofs.Common.{◌∙◌, rules}
use Rattle.pictures.proofs.Slips.{so_far_more}
use Rattle.pictures.proofs.write.write_body.Goals as goal

pub loop-slip-preserved : goal.loop-slip-preserved
loop-slip-preserved g c = record { same = c.push.ensures.same ∙ c.loop-slip.invariant.same; so_far = search (rules, so_far_more) }

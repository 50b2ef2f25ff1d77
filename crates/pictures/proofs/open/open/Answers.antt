-- What open leaves to show: a card has at most 2016 slips. Assumes nothing.
use Rattle.std.proofs.Common.{rules}
use Rattle.plans.proofs.Bounds.{card_bound}
use Rattle.pictures.proofs.open.open.Goals as goal

pub body_length-requires : goal.body_length-requires
body_length-requires c = search (rules, card_bound)

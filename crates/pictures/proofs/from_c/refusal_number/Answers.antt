-- What refusal_number leaves to show: the check of each kind is the verdict on it. Assumes nothing.
use Rattle.std.proofs.Common.{sym, ◌∙◌, rules}
use Rattle.pictures.proofs.Judging.{judged_dial, judged_mask, judged_word}
use Rattle.pictures.proofs.from_c.refusal_number.Goals as goal

pub returns-in-KeyWord : goal.returns-in-KeyWord
returns-in-KeyWord c = judged_word c.args.picture.now c.refusal.result c.kind_in.result c.kind_in.ensures (sym c.unwrap_or.ensures ∙ c.in-KeyWord.is) (search rules)

pub returns-in-MaskByte : goal.returns-in-MaskByte
returns-in-MaskByte c = judged_mask c.args.picture.now c.refusal-in-MaskByte.result c.kind_in.result c.kind_in.ensures (sym c.unwrap_or.ensures ∙ c.in-MaskByte.is) (search rules)

pub returns-in-DialNumber : goal.returns-in-DialNumber
returns-in-DialNumber c = judged_dial c.args.picture.now c.refusal-in-DialNumber.result c.kind_in.result c.kind_in.ensures (sym c.unwrap_or.ensures ∙ c.in-DialNumber.is) (search rules)

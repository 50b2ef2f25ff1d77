-- A space is passed over, and two digits are a byte. Assumes nothing.
use Rattle.std.proofs.Common.{◌≡◌, ◌≤◌, length, get_or, vec_items, sym, ◌∙◌, arith, ltb-false}
use Rattle.std.proofs.lemmas.List.{take_rest}
use Rattle.cardcheck.proofs.Spelling.{past_byte, past_space}
use Rattle.cardcheck.proofs.line.bytes_by.Goals as goal

pub loop-rest-preserved-in_default-rest-2 : goal.loop-rest-preserved-in_default-rest-2
loop-rest-preserved-in_default-rest-2 c =
    let some : 2 ≤ length c.loop-rest.rest.now = omega (arith, ltb-false) in
    rw take_rest
    (past_byte c.args.text.now (vec_items c.loop-rest.bytes) (vec_items c.push.new.self) c.loop-rest.rest.now c.in-Some-Some.high c.in-Some-Some.low
    c.in_ok-push-in-len2-up.ensures.items some (λ e. omega arith) (sym c.digit.ensures ∙ c.in-Some-Some.is-0) (sym c.digit-in-len2-up.ensures ∙ c.in-Some-Some.is-1) c.loop-rest.invariant)

pub loop-rest-preserved : goal.loop-rest-preserved
loop-rest-preserved c =
    let some : 1 ≤ length c.loop-rest.rest.now = omega (arith, ltb-false) in
    let space : get_or c.loop-rest.rest.now 0 0 ≡ 32 = grind arith in
    rw take_rest (past_space c.args.text.now (vec_items c.loop-rest.bytes) c.loop-rest.rest.now some space c.loop-rest.invariant)

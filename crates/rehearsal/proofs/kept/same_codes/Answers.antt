use Rattle.std.proofs.Common.{◌≡◌, map, length, sym, ◌∙◌, rules, tests}
use Rattle.std.proofs.lemmas.Iterator.{YieldsList-from_map, YieldsList-from_slice, YieldsList-from_zip, same_from_all}
use lib.ListN.{length-map}
use Rattle.rehearsal.proofs.Codes.{decided}
use Rattle.rehearsal.proofs.kept.same_codes.Goals as goal

pub returns-then-these-those : goal.returns-then-these-those
returns-then-these-those g c =
    let long : length (map g.C.Card.coded c.args.these.now) ≡ length (map g.C.Card.coded c.args.those.now) = length-map c.args.these.now g.C.Card.coded ∙ search rules ∙ sym (length-map c.args.those.now g.C.Card.coded) in
    decided c.all.result
    (same_from_all c.all.new.self _ _ _ _ c.all.ensures.ran
    (YieldsList-from_zip
    (YieldsList-from_map _ g.C.Card.coded (YieldsList-from_slice c.args.these.now cc) c.map-codes.ensures.closure (λ x r q k. search rules))
    (YieldsList-from_map _ g.C.Card.coded (YieldsList-from_slice c.args.those.now cc) c.map-others.ensures.closure (λ x r q k. search rules)))
    long (λ x q k. search (rules, tests)) (λ x q k. search (rules, tests)))

-- What the code of `signed_sum` leaves to show. Assumes nothing.
use Rattle.std.proofs.Common.{◌∙◌, w8}
use Rattle.std.proofs.lemmas.Int.{to_z-of_z}
use Rattle.plans.specs.Shape.{shape_of}
use Rattle.matrix.proofs.Entries.{summable, signed_is, key_only_lem}
use Rattle.matrix.proofs.Restores.{columns_restore}
use Rattle.matrix.proofs.signed_sum.Goals as goal

pub returns-in_err-summable-clause-restores : goal.returns-in_err-summable-clause-restores
returns-in_err-summable-clause-restores c = columns_restore

pub returns : goal.returns
returns c =
    let asked = summable (shape_of c.args.plan.now) c.args.group c.args.component c.args.column c.in_ok-summable.ensures in
    let whole = signed_is c.args.plan.now c.args.group c.args.component c.args.column c.threshold.result c.column_label-label.result
    asked.0 asked.2 c.column_label-label.ensures c.threshold.ensures in
    let own = key_only_lem (shape_of c.args.plan.now) c.args.component c.args.column c.column_label-label.result asked.1 c.column_label-label.ensures in
    let bits = to_z-of_z w8 c.group_sum.result (record { sfits = c.group_sum.type_inv }) in
    record {
      value = (c.in_ok-summable.ensures, (bits ∙ c.group_sum.ensures.value ∙ whole, bits ∙ c.group_sum.ensures.restores ∙ own));
      restores = columns_restore;
    }

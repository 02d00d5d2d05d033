use Rattle.std.proofs.Common.{◌<◌, ◌∙◌, arith, sym}
use Rattle.priv_sets.proofs.Rows.{first_row, row_number}
use Rattle.priv_sets.proofs.table.number_of.Goals as goal

pub overflow_cast-result : goal.overflow_cast-result
overflow_cast-result c =
    let below : c.in_ok-first_named.field-0 < 40 = row_number _ _ _ c.privileges.ensures c.in_ok-first_named.ensures in
    omega arith

pub returns-clause-number : goal.returns-clause-number
returns-clause-number c = c.in_ok-first_named.ensures ∙ sym (first_row c.privileges.result.now c.args.name.now c.privileges.ensures)

pub returns-clause-in_table : goal.returns-clause-in_table
returns-clause-in_table c = row_number _ _ _ c.privileges.ensures c.in_ok-first_named.ensures

pub returns-in_err-first_named-clause-number : goal.returns-in_err-first_named-clause-number
returns-in_err-first_named-clause-number c =
    c.from_residual.ensures ∙ c.in_err-first_named.ensures ∙ sym (first_row c.privileges.result.now c.args.name.now c.privileges.ensures)

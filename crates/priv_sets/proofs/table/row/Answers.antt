use Rattle.std.proofs.Common.{◌<◌, arith, length}
use Rattle.std.proofs.lemmas.Option.{slice_get-get_or}
use Rattle.priv_sets.proofs.Rows.{count_of_rows, row_at}
use Rattle.priv_sets.proofs.table.row.Goals as goal

pub returns : goal.returns
returns c =
    let inside : c.args.number < length c.privileges.result.now = omega (arith, count_of_rows c.privileges.result.now c.privileges.ensures) in
    row_at c.privileges.result.now c.args.number _ c.privileges.ensures (slice_get-get_or _ _ _ inside)

use Rattle.std.proofs.Common.{◌++◌, ap, sym, ◌∙◌}
use Rattle.std.specs.Prelude.{slice_get}
use Rattle.zone_machine.proofs.Indexing.{indexed_next}
use Rattle.zone_machine.specs.Machine.Indexed.{row_at}
use Rattle.zone_machine.proofs.machine.indexed.index_rows.Goals as goal

pub loop-at-preserved : goal.loop-at-preserved
loop-at-preserved c =
    let es = c.args.rows.now.entries in let i = c.loop-at.at in
    c.in_ok-push_row.ensures ∙ (ap (λ l. l ++ row_at (slice_get es i)) c.loop-at.invariant ∙ sym (indexed_next es i))

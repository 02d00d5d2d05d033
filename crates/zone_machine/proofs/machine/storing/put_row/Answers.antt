use Rattle.std.proofs.Common.{◌≡◌, ◌∙◌, Some, ap, length, refl}
use Rattle.commit_journal.proofs.Zones.{placed_is}
use Rattle.commit_journal.specs.Zones.{rows_of}
use Rattle.commit_journal.specs.Store.{change_text}
use Rattle.zone_machine.proofs.Doing_laws.{does_record}
use Rattle.zone_machine.proofs.machine.storing.put_row.Goals as goal

pub returns-clause-does : goal.returns-clause-does
returns-clause-does c =
    let bytes : c.body_length.result ≡ length (change_text c.args.stored.owner (Some c.into_inner-row.result)) = c.body_length.ensures.same ∙ ap (λ r. length (change_text c.args.stored.owner (Some r))) c.record.ensures.same in
    rw (← c.into_inner-row.ensures) (rw bytes (does_record c.args.stored.owner c.args.cell.now c.args.shared.now (record c.args.shared.now { rows = c.put.new.map }) c.into_inner-row.result c.put.ensures.entries c.put.ensures.updates.1))

pub returns-clause-rows : goal.returns-clause-rows
returns-clause-rows c = rw (← c.into_inner-row.ensures) (ap rows_of c.put.ensures.entries ∙ placed_is c.args.stored.owner c.into_inner-row.result c.args.shared.now.rows.entries)

pub returns-clause-used : goal.returns-clause-used
returns-clause-used c =
    let bytes : c.body_length.result ≡ length (change_text c.args.stored.owner (Some c.into_inner-row.result)) = c.body_length.ensures.same ∙ ap (λ r. length (change_text c.args.stored.owner (Some r))) c.record.ensures.same in
    rw (← c.into_inner-row.ensures) (rw bytes refl)

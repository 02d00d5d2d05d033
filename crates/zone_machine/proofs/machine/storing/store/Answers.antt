use Rattle.std.proofs.Common.{◌≡◌, ◌∙◌, Option, Some, ap, false, nat_eq, rules, subst, sym}
use Rattle.commit_journal.specs.declared.records.Record.{Record}
use Rattle.zone_pools.specs.Owners.{owner}
use Rattle.zoneadmd_steps.specs.Arrivals.{New_record}
use Rattle.zone_machine.proofs.Doing_laws.{does_then, kept_apart}
use Rattle.zone_machine.specs.Code.Cells.{Does, kept}
use Rattle.zone_machine.specs.Code.Rooms.{IsOpenTo}
use Rattle.zone_machine.specs.Code.Works.{with_row}
use Rattle.zone_machine.specs.Machine.Common.{Common, came_common}
use Rattle.zone_cases.specs.State.Edits.{console_gone_world, keeps_by}
use Rattle.zone_cases.specs.State.Worlds.{World}
use Rattle.zone_machine.proofs.machine.storing.store.Goals as goal

pub returns-then-not-keeps-clause-does : goal.returns-then-not-keeps-clause-does
returns-then-not-keeps-clause-does c =
    let z = c.args.stored.owner in let row : Option Record = Some c.args.stored.row.value in let cell = c.args.cell.now in let s = c.args.shared.now in
    let g : Common → Common = came_common z (Some (New_record row)) in
    let same : c.deref.result.now ≡ c.args.stored.row.value = search rules in
    let gone : keeps_by c.args.stored.row.value.state ≡ false = ap (λ (r : Record). keeps_by r.state) (sym same) ∙ sym c.keeps_console-keeps.ensures ∙ c.if-not-keeps.true in
    subst (λ b. Does z (λ (w : World). console_gone_world b (with_row row w)) g cell s c.drop_console.new.cell c.drop_console.new.shared) (sym gone)
    (does_then z (with_row row) (console_gone_world false) g kept cell cell c.drop_console.new.cell s c.put_row.new.shared c.drop_console.new.shared (kept_apart z) c.put_row.ensures.does (c.drop_console.ensures.does z))

pub returns-then-not-keeps-clause-open : goal.returns-then-not-keeps-clause-open
returns-then-not-keeps-clause-open c = λ z k h. c.drop_console.ensures.open z k (subst (λ o. IsOpenTo z (owner nat_eq o k)) (sym c.put_row.ensures.sessions) h)

use Rattle.std.proofs.Common.{◌≡◌, ◌∙◌, Option, Some, ap, subst, sym}
use Rattle.zone_machine.specs.Code.Cells.{Does, kept}
use Rattle.zone_machine.specs.Code.Works.{endings}
use Rattle.zone_machine.specs.declared.machine.work.Ending.{Ending}
use Rattle.zone_machine.specs.declared.machine.work.Ending.TheVariants.{Process, Ticket}
use Rattle.zone_cases.specs.State.Edits.{edits_world}
use Rattle.zone_machine.proofs.machine.objects.end_last.Goals as goal

pub returns-in-Some-Ticket-clause-does : goal.returns-in-Some-Ticket-clause-does
returns-in-Some-Ticket-clause-does c =
    let is : c.args.ended ≡ Some (Ticket c.in-Some-Ticket.ticket) = c.in-Some-Ticket.is ∙ ap Some (rw c.in-Some-Ticket.is at c.in-Some-Ticket.field-0-is) in
    λ z n. subst (λ (o : Option Ending). Does z (edits_world n (endings o)) kept c.args.cell.now c.args.shared.now c.end_ticket.new.cell c.end_ticket.new.shared) (sym is) (c.end_ticket.ensures.does z n)

pub returns-in-Some-Process-clause-does : goal.returns-in-Some-Process-clause-does
returns-in-Some-Process-clause-does c =
    let is : c.args.ended ≡ Some (Process c.in-Some-Process.pid) = c.in-Some-Process.is ∙ ap Some (rw c.in-Some-Process.is at c.in-Some-Process.field-0-is) in
    λ z n. subst (λ (o : Option Ending). Does z (edits_world n (endings o)) kept c.args.cell.now c.args.shared.now c.end_process.new.cell c.end_process.new.shared) (sym is) (c.end_process.ensures.does z n)

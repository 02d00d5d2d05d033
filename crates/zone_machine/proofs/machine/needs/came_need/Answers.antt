use Rattle.std.proofs.Common.{◌∙◌, [], ◌∷◌, Some, ap}
use Rattle.commit_journal.specs.declared.records.Record.{Record}
use Rattle.zoneadmd_steps.specs.Arrivals.{record_asked}
use Rattle.zone_machine.proofs.machine.needs.came_need.Goals as goal

pub returns-else-is_new : goal.returns-else-is_new
returns-else-is_new c =
    rw (c.in-Moved.is, c.if-is_new.false)
    (c.record_need-else-is_new.ensures.numbered ∙ ap (λ (r : Record). record_asked (λ n. Some (record r { revision = n })) ∷ []) c.deref-else-is_new.ensures)

use Rattle.std.proofs.Common.{ap, bytes_eq, sym, ◌∙◌}
use Rattle.std.specs.HashMap.{get_by}
use Rattle.zone_machine.proofs.Stepping.{Keeps-new, Keeps-same}
use Rattle.zone_cases.specs.Code.Cells.{world_or_empty}
use Rattle.zone_machine.proofs.machine.zone_events.keep.Goals as goal

pub returns-then-not-is_empty : goal.returns-then-not-is_empty
returns-then-not-is_empty c = Keeps-new c.args.zone c.args.cell _ _ c.put.ensures.updates.0

pub returns-else-not-is_empty : goal.returns-else-not-is_empty
returns-else-not-is_empty c = Keeps-same c.args.zone c.args.cell (λ y. get_by (bytes_eq y) c.args.cells.now) (λ out. c.is_empty.ensures c.if-not-is_empty.false out ∙ sym (ap (world_or_empty out) c.requires.none))

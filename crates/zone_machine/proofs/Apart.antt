-- What the shared part and a cell say of a state, where they lie apart.
use Rattle.indexmap.specs.IndexMap.{get_by}
use Rattle.std.proofs.Common.{◌≡◌, ◌&&◌, Bool, Option, ap, sym, ◌∙◌}
use Rattle.std.specs.Prelude.{bytes_eq, is_some}
use Rattle.zn_base.specs.Names.{Name}
use Rattle.zone_cases.specs.Code.Cells.{CellOf, cell_world, outside_of}
use Rattle.zone_cases.specs.State.{State}
use Rattle.zone_cases.specs.State.Worlds.{World, world}
use Rattle.zone_cases.specs.declared.cell.Cell.{Cell}
use Rattle.zone_machine.proofs.Standing.{stored-stands}
use Rattle.zone_machine.specs.Code.Cells.{SharedOf, row_in}
use Rattle.zone_machine.specs.Machine.Common.{common}
use Rattle.zone_machine.specs.Machine.Local.{is_busy}
use Rattle.zone_machine.specs.declared.machine.shared.Shared.{Shared}
use Rattle.zoneadmd_steps.specs.Code.Desks.{as_desk}
use Rattle.zoneadmd_steps.specs.Desks.{has_request}

pub busy-stands : (z : Name) (S : State) (c : Cell) (s : Shared) → CellOf c (world z S) → SharedOf s (common S) → is_some (row_in z s) && has_request (as_desk c.desk) ≡ is_busy (world z S)
busy-stands z S c s cell shared =
    ap (λ o. is_some o && has_request (as_desk c.desk)) (sym (stored-stands S s z shared)) ∙ ap (λ (w : World). is_some (world z S).stored && has_request w.desk) (sym cell)

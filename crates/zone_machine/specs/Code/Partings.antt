-- What a machine stands for that is taken apart.
use Rattle.indexmap.specs.IndexMap.{get_by}
use Rattle.std.specs.Prelude.{◌≡◌, Option, Some, None, bytes_eq}
use Rattle.zn_base.specs.Names.{Name}
use Rattle.zone_cases.specs.Code.Cells.{CellOf, empty_world, outside_of}
use Rattle.zone_cases.specs.State.{State, bodies_of}
use Rattle.zone_cases.specs.State.Worlds.{World, world}
use Rattle.zone_cases.specs.declared.cell.Cell.{Cell}
use Rattle.zone_machine.specs.Code.Cells.{SharedOf}
use Rattle.zone_machine.specs.Machine.Common.{common}
use Rattle.zone_machine.specs.declared.machine.parting.Parted.{Parted}

-- a zone has nothing, but for what is stored of it
abbrev pub HasNothing : World → Type 0
HasNothing w = w ≡ empty_world (outside_of w)

abbrev pub cell_apart : {D F : Type 0} → Name → Parted D F → Option Cell
cell_apart z p = get_by (bytes_eq z) p.cells

-- apart they stand for the state S: each cell has its zone's world, a zone without one has nothing, the shared part has what is
-- common, and the bank has the bodies of the state's commits
pub record StandApart {D F : Type 0} (S : State) (p : Parted D F) : Type 0 where
  pub cells : (z : Name) (c : Cell) → cell_apart z p ≡ Some c → CellOf c (world z S)
  pub others : (z : Name) → cell_apart z p ≡ None → HasNothing (world z S)
  pub shared : SharedOf p.shared (common S)
  pub bodies : bodies_of S.commits ≡ p.bank.records

-- The cells of places, back together.
use Rattle.std.specs.Prelude.{◌≡◌, ℕ, List, Option, Some, None, bytes_eq, if◌then◌else◌}
use Rattle.zn_base.specs.Names.{Name}
use Rattle.zone_cases.specs.Code.Cells.{CellOf}
use Rattle.zone_cases.specs.State.{State, bodies_of}
use Rattle.zone_cases.specs.State.Worlds.{world}
use Rattle.zone_cases.specs.declared.cell.Cell.{Cell}
use Rattle.zone_machine.specs.Code.Cells.{SharedOf}
use Rattle.zone_machine.specs.Code.Partings.{HasNothing}
use Rattle.zone_machine.specs.Machine.Common.{common}
use Rattle.zone_machine.specs.declared.machine.shared.Shared.{Shared}
use Rattle.zone_threads.specs.Folds.{folded}
use Rattle.zone_threads.specs.declared.zone.Back.{Back}
use Rattle.daemon_threads.specs.declared.cell.PlaceCell.{PlaceCell}
use Rattle.daemon_threads.specs.declared.cell.PlaceCell.TheVariants as cells

abbrev pub back_cell : Back PlaceCell → PlaceCell
back_cell b = b.cell

-- what lay in a place goes to its zone
abbrev pub put_one : (Name → Option Cell) → PlaceCell → Name → Option Cell
put_one f cells.Global y = f y
put_one f (cells.Zone z c) y = if bytes_eq z y then Some c else f y

-- the cell of each zone that has one, by what lay in places
abbrev pub put_all : List PlaceCell → Name → Option Cell
put_all cs = folded put_one (λ y. None) cs

-- the cells that zones have, what zones share and the bodies stand for a state: each cell has its zone's world, and a zone without one
-- has nothing
pub record StandTogether (S : State) (cells : Name → Option Cell) (shared : Shared) (bodies : List (List ℕ)) : Type 0 where
  pub cells_are : (z : Name) (c : Cell) → cells z ≡ Some c → CellOf c (world z S)
  pub others : (z : Name) → cells z ≡ None → HasNothing (world z S)
  pub shared_is : SharedOf shared (common S)
  pub bodies_are : bodies_of S.commits ≡ bodies

-- What a local turn does to its zone's cell, whatever state the cell's world belongs to.
use Rattle.std.specs.Prelude.{◌≡◌, None, Some, true, false}
use Rattle.zn_base.specs.Names.{Name}
use Rattle.zone_pools.specs.declared.grant.Grant.TheVariants.{Nothing}
use Rattle.brand_hooks.specs.declared.table.HookAnswer.{HookAnswer}
use Rattle.zone_cases.specs.Code.Cells.{CellOf, IsHeardIn, Outside, cell_objects, cell_world}
use Rattle.zoneadmd_steps.specs.Code.Desks.{as_desk}
use Rattle.zoneadmd_steps.specs.Objects.{devices_after, ids_of, ids_after, mounts_after}
use Rattle.zone_machine.specs.Machine.Histories.{entry_at}
use Rattle.zone_machine.specs.Machine.Local.{is_local}
use Rattle.zone_machine.specs.Machine.{one}
use Rattle.zone_cases.specs.State.{State}
use Rattle.zoneadmd_steps.specs.Turns.{Turned, local_turn}
use Rattle.zone_cases.specs.State.Worlds.{world}
use Rattle.zone_cases.specs.declared.cell.Cell.{Cell}
use Rattle.zone_cases.specs.declared.events.Entry.{Entry}
use Rattle.zone_cases.specs.declared.events.Event.TheVariants.{Turn}

-- the next turn of a cell's zone is local and does this, and it is not local, where its brand answers so
abbrev pub IsNext : Cell → HookAnswer → Turned → Type 0
IsNext c answer t = (out : Outside) → IsHeardIn out.brands c answer → local_turn out.brands (cell_objects c) (as_desk c.desk) ≡ Some t

abbrev pub HasNoNext : Cell → HookAnswer → Type 0
HasNoNext c answer = (out : Outside) → IsHeardIn out.brands c answer → local_turn out.brands (cell_objects c) (as_desk c.desk) ≡ None

-- the turn was done on the cell
abbrev pub After : Turned → Cell → Cell → Type 0
After t c d = (out : Outside) → cell_world out d ≡ record (cell_world out c) { mounts = mounts_after t.objects c.mounts.list; devices = devices_after t.objects c.kernel.devices; ids = ids_after t.objects (ids_of c.kernel.id); desk = t.desk }

-- the turn of z was local and answered by this entry, and the cell has its world after it
pub record IsDone (z : Name) (S : State) (entry : Entry) (d : Cell) : Type 0 where
  pub local : is_local z (world z S) entry ≡ true
  pub told : entry ≡ entry_at S (Turn z) Nothing
  pub cell : CellOf d (world z (one S (Turn z) Nothing).state)

-- whatever state the cell stood for, where its brand answers so
abbrev pub IsLocalTurn : Name → Cell → HookAnswer → Entry → Cell → Type 0
IsLocalTurn z c answer entry d = (S : State) → CellOf c (world z S) → IsHeardIn S.brands c answer → IsDone z S entry d

-- in no such state the zone's next turn was local
abbrev pub IsNotLocal : Name → Cell → HookAnswer → Type 0
IsNotLocal z c answer = (S : State) → CellOf c (world z S) → IsHeardIn S.brands c answer → (entry : Entry) → is_local z (world z S) entry ≡ false

-- a cell is as it was, but for room
abbrev pub IsAsItWas : Cell → Cell → Type 0
IsAsItWas c d = (out : Outside) → cell_world out d ≡ cell_world out c

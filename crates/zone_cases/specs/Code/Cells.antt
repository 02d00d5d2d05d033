-- A zone's cell, as the definitions have it.
use Rattle.indexmap.specs.IndexMap.{get}
use Rattle.std.specs.Prelude.{◌≡◌, ℕ, List, [], Option, Some, None, nat_eq}
use Rattle.std.specs.Option.{option_map}
use Rattle.zn_base.specs.Names.{Name}
use Rattle.zoneadmd_steps.specs.Code.Desks.{as_desk}
use Rattle.console_link.specs.Consoles.{new_console}
use Rattle.zone_cases.specs.Code.Consoles.{console_in}
use Rattle.zone_cases.specs.Code.Doings.{as_doing}
use Rattle.zone_cases.specs.State.Worlds.{View, World, objects_of}
use Rattle.zone_cases.specs.declared.cell.Cell.{Cell}
use Rattle.commit_journal.specs.declared.records.Record.{Record}
use Rattle.brand_hooks.specs.Brands.{Tabled}
use Rattle.brand_hooks.specs.declared.table.HookAnswer.{HookAnswer}
use Rattle.kernel_objects.specs.Processes.{with_pid}
use Rattle.zone_cases.specs.State.Declarations.{Declared}
use Rattle.zoneadmd_steps.specs.Code.Cases.{next_answer}
use Rattle.zoneadmd_steps.specs.Objects.{Objects, kernel_of, ids_of}
use Rattle.zoneadmd_steps.specs.Desks.{empty_desk}

-- what a zone's world has that its cell hasn't
pub record Outside : Type 0 where
  pub stored : Option Record
  pub declared : Declared
  pub brands : List Tabled

abbrev pub outside_of : World → Outside
outside_of w = record { stored = w.stored; declared = w.declared; brands = w.brands }

-- the world that a cell has, with that
abbrev pub cell_world : Outside → Cell → World
cell_world out c = record {
  processes = c.kernel.processes;
  mounts = c.mounts.list;
  claims = c.claims.claims;
  devices = c.kernel.devices;
  ids = ids_of c.kernel.id;
  stored = out.stored;
  desk = as_desk c.desk;
  console = console_in c.console;
  sessions = λ n. option_map as_doing (get nat_eq c.doings n);
  declared = out.declared;
  brands = out.brands;
}

-- a zone without a cell has nothing
abbrev pub empty_world : Outside → World
empty_world out = record {
  processes = [];
  mounts = [];
  claims = [];
  devices = [];
  ids = [];
  stored = out.stored;
  desk = empty_desk;
  console = new_console;
  sessions = λ n. None;
  declared = out.declared;
  brands = out.brands;
}

abbrev pub world_or_empty : Outside → Option Cell → World
world_or_empty out None = empty_world out
world_or_empty out (Some c) = cell_world out c

-- a view of z shows what the zone has in its cell
pub record Shows (v : View) (z : Name) (c : Cell) : Type 0 where
  pub zone : v.zone ≡ z
  pub kernel : kernel_of (objects_of v.world) ≡ c.kernel
  pub process : (n : ℕ) → v.process n ≡ with_pid n c.kernel.processes
  pub mounts : v.world.mounts ≡ c.mounts.list
  pub claims : v.world.claims ≡ c.claims.claims
  pub devices : v.world.devices ≡ c.kernel.devices
  pub console : v.world.console ≡ console_in c.console

-- a cell has a world, but for what it hasn't
abbrev pub CellOf : Cell → World → Type 0
CellOf c w = w ≡ cell_world (outside_of w) c

abbrev pub cell_objects : Cell → Objects
cell_objects c = record { processes = c.kernel.processes; mounts = c.mounts.list; claims = c.claims.claims; devices = c.kernel.devices; ids = ids_of c.kernel.id }

-- what the brand answers to the next step of a cell's daemon
abbrev pub IsHeardIn : List Tabled → Cell → HookAnswer → Type 0
IsHeardIn brands c answer = answer ≡ next_answer brands (cell_objects c) (as_desk c.desk)

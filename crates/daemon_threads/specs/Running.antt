-- What the machine has from its caller.
use Rattle.std.specs.Prelude.{◌≡◌, ◌<◌, ℕ, List, length, true}
use Rattle.std.specs.Fn.{Shared}
use denote.Ref.{Bor}
use Rattle.brand_hooks.specs.Brands.{Hooked, Tabled, tables_of}
use Rattle.brand_hooks.specs.Hooks.{AllFollow}
use Rattle.brand_hooks.specs.declared.change.Change.{Change}
use Rattle.brand_hooks.specs.declared.table.HookAnswer.{HookAnswer}
use Rattle.session_records.specs.Places.{own_world_one, place_of}
use Rattle.zn_base.specs.Names.{Name}
use Rattle.zone_cases.specs.Code.Cells.{CellOf}
use Rattle.zone_cases.specs.State.Worlds.{World}
use Rattle.zone_cases.specs.declared.cell.Cell.{Cell}
use Rattle.zone_cases.specs.declared.events.Entry.{Entry}
use Rattle.zone_cases.specs.declared.events.Subject.TheVariants.{Zone}
use Rattle.zone_machine.specs.Machine.Local.{is_local}

-- the zones and the brands are those of the run, and each brand's hook answers its table
pub record IsSet {F : Type 0} (g : Shared F (Bor Change × Unit {0}) HookAnswer) (zones : List Name) (brands : List Tabled) (names : List Name) (bs : List (Hooked F)) : Type 0 where
  pub zones_are : names ≡ zones
  pub brands_are : tables_of bs ≡ brands
  pub follow : AllFollow g bs
  pub few : length names < 4294967290

-- a local turn of z was done on a cell that had a world
pub record IsDoneIn (zones : List Name) (p : ℕ) (z : Name) (e : Entry) (d : Cell) (w : World) : Type 0 where
  pub place : place_of zones (Zone z) ≡ p
  pub local : is_local z w e ≡ true
  pub brands : (own_world_one w e).brands ≡ w.brands
  pub cell : CellOf d (own_world_one w e)

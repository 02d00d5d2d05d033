-- The cells of a machine, each in a place of its own.
use Rattle.std.specs.Prelude.{◌≡◌, ◌∷◌, [], ◌&&◌, ◌≤◌, ℕ, List, Bool, true, bytes_eq, map, not, vec_capacity, vec_len, if◌then◌else◌}
use Rattle.std.specs.List.{list_any}
use Rattle.indexmap.specs.IndexMap.{spare}
use Rattle.zn_base.specs.Names.{Name}
use Rattle.zone_cases.specs.declared.cell.Cell.{Cell}
use Rattle.zone_machine.specs.Code.Shown_zones.{shown_in}
use Rattle.zone_machine.specs.Code.Steps.{AsItWas}
use Rattle.zone_machine.specs.declared.machine.Machine.{Machine}
use Rattle.zone_machine.specs.Shown.{nothing_shown, shown_by}
use Rattle.zone_machine.specs.declared.machine.shown.Shown.{Shown}
use Rattle.zone_threads.specs.Folds.{folded}
use Rattle.zoneadmd_steps.specs.Code.Desks.{as_desk}
use Rattle.zoneadmd_steps.specs.Objects.{ids_of}
use Rattle.daemon_threads.specs.declared.cell.PlaceCell.{PlaceCell}
use Rattle.daemon_threads.specs.declared.cell.PlaceCell.TheVariants as cells
use Rattle.daemon_threads.specs.declared.dealing.Dealt.{Dealt}

abbrev pub names_of : List (Name × Cell) → List Name
names_of es = map (λ (e : Name × Cell). e.0) es

abbrev pub place_cell : Name × Cell → PlaceCell
place_cell e = cells.Zone e.0 e.1

-- what a cell shows of its zone
abbrev pub shown_of : Cell → Shown
shown_of c = shown_by (as_desk c.desk) (ids_of c.kernel.id)

-- what each zone shows, by the cells of some
abbrev pub shown_one : (Name → Shown) → Name × Cell → Name → Shown
shown_one f e y = if bytes_eq e.0 y then shown_of e.1 else f y

abbrev pub shown_all : List (Name × Cell) → Name → Shown
shown_all es = folded shown_one (λ y. nothing_shown) es

-- these zones are named and what they show is noted, and there is room for as many places, in which nothing lies
pub record IsRoomFor (es : List (Name × Cell)) (places : ℕ) (d : Dealt) : Type 0 where
  pub zones : d.zones.items ≡ names_of es
  pub shown : (y : Name) → shown_in d.shown y ≡ shown_all es y
  pub cells : d.cells.items ≡ []
  pub none : d.room.entries ≡ []
  pub capacity : places ≤ vec_capacity d.cells
  pub fits : places ≤ spare d.room

-- these zones have places, in order, behind that of the global zone, and there is room for as many cells as there are places
pub record IsDealt (es : List (Name × Cell)) (d : Dealt) : Type 0 where
  pub zones : d.zones.items ≡ names_of es
  pub cells : d.cells.items ≡ cells.Global ∷ map place_cell es
  pub shown : (y : Name) → shown_in d.shown y ≡ shown_all es y
  pub none : d.room.entries ≡ []
  pub fits : vec_len d.cells ≤ spare d.room

-- no zone stands twice
abbrev pub all_differ : List Name → Bool
all_differ [] = true
all_differ (z ∷ zs) = not (list_any (bytes_eq z) zs) && all_differ zs

-- the zones, if none stands twice
abbrev pub if_all_differ : List Name → List Name
if_all_differ zs = if all_differ zs then zs else []

-- a machine stands for just what it stood for
pub record IsAsBefore {D F : Type 0} (m n : Machine D F) : Type 0 where
  pub parts : AsItWas m.parts n.parts
  pub shared : n.parts.shared ≡ m.parts.shared
  pub bank : n.bank ≡ m.bank
  pub brands : n.brands ≡ m.brands

-- Room that is taken before anything is changed, and that nothing is changed by taking it.
use Rattle.std.specs.Prelude.{◌≡◌, ◌⊎◌, ◌<◌, List, [], ◌∷◌, length, Bool, Option, Some, None, bytes_eq, is_some, false, true}
use Rattle.datalink_table.specs.Claims.{pool_of}
use Rattle.indexmap.specs.IndexMap.{get_by, spare}
use Rattle.loopback_mounts.specs.Mounts.{Mounts}
use Rattle.zn_base.specs.Names.{Name}
use Rattle.zone_pools.specs.Asked.{A_pid, A_source, A_zid, An_item, Asked}
use Rattle.zone_pools.specs.Decisions.{asked_of}
use Rattle.zone_pools.specs.Owners.{owner}
use Rattle.zone_pools.specs.Pools.{Pools, has_serial}
use Rattle.commit_journal.specs.Bodies.{stored_text}
use Rattle.zoneadmd_steps.specs.Arrivals.{Arrival, New_claim, New_id, New_process, New_record, No_new_thing}
use Rattle.zone_cases.specs.Code.Cases.{case_active, decision_of, console_of_case, objects_of, seats}
use Rattle.zoneadmd_steps.specs.Code.Cases.{IsFreeFor, May_mount, Premise, premise_of}
use Rattle.zoneadmd_steps.specs.Code.Rooms.{HasRequestRoom, HasTurnRoom}
use Rattle.zone_cases.specs.Code.Consoles.{HasConsole}
use Rattle.zone_cases.specs.Code.Cells.{Outside, cell_world}
use Rattle.zone_machine.specs.Code.Cells.{common_in}
use Rattle.zone_machine.specs.Code.Needs.{pools_in}
use Rattle.zone_cases.specs.declared.cases.Case.{Case}
use Rattle.zone_cases.specs.declared.cell.Cell.{Cell}
use Rattle.zone_machine.specs.declared.machine.shared.Shared.{Shared}
use Rattle.zoneadmd_steps.specs.declared.objects.changes.ObjectEdit.{ObjectEdit}
use Rattle.zone_cases.specs.declared.cases.Case.TheVariants.{Put, Turn}
use Rattle.zoneadmd_steps.specs.declared.desks.Desk.{Desk}

-- a cell and a shared part are as they were, but for room
pub record Alike (c : Cell) (s : Shared) (d : Cell) (t : Shared) : Type 0 where
  pub world : (out : Outside) → cell_world out d ≡ cell_world out c
  pub rows : t.rows.entries ≡ s.rows.entries
  pub common : common_in t ≡ common_in s
  pub pools : pools_in t ≡ pools_in s

-- room for what the case puts on the desk
abbrev pub HasRoomFor : Desk → Case → Type 0
HasRoomFor d (Put request owner) = HasRequestRoom d
HasRoomFor d (Turn c) = HasTurnRoom d c
HasRoomFor d _ = Unit {0}

-- room for a record, by the pools that are asked for it. What comes to the kernel takes its room as it comes
abbrev pub HasRoomToStore : List Asked → Shared → Type 0
HasRoomToStore [] s = Unit {0}
HasRoomToStore (A_pid ∷ asked) s = Unit {0}
HasRoomToStore (A_zid ∷ asked) s = Unit {0}
HasRoomToStore (An_item pool item ∷ asked) s = Unit {0}
HasRoomToStore (A_source z ∷ asked) s = Unit {0}
HasRoomToStore (a ∷ asked) s = 0 < spare s.rows

-- the same of what came
abbrev pub HasRoomOf : Option Arrival → Shared → Type 0
HasRoomOf (Some (New_record row)) s = 0 < spare s.rows
HasRoomOf _ s = Unit {0}

-- no zone holds the number of what came to z, z may hold the item, and a record can be counted and has room in the store
abbrev pub IsFreeOf : Name → Option Arrival → Pools → Type 0
IsFreeOf z None P = Unit {0}
IsFreeOf z (Some (New_process p)) P = P.pid_used p.pid ≡ false
IsFreeOf z (Some (New_id i)) P = P.zid_used i.zid ≡ false
IsFreeOf z (Some (New_claim c)) P = P.may_hold z (pool_of c.kind) c.item ≡ true
IsFreeOf z (Some (New_record row)) P = (has_serial P ≡ true) × (P.may_store z (length (stored_text row)) ≡ true)
IsFreeOf z (Some No_new_thing) P = Unit {0}

-- room for what becomes of the zone's objects, where nothing refuses a mount, and what goes as the last is the last
abbrev pub HasRoomBy : Premise → Mounts → Type 0
HasRoomBy (May_mount dir) m = 0 < m.room
HasRoomBy _ m = Unit {0}

abbrev pub HasRoomToChange : ObjectEdit → Cell → Type 0
HasRoomToChange e c = HasRoomBy (premise_of e) c.mounts × IsFreeFor e c.mounts.list c.claims.claims

-- a zone whose state becomes none of the stored ones has its place among those that may be up
abbrev pub HasRoomToRise : Name → Case → Cell → Shared → Type 0
HasRoomToRise z case c s = is_some c.desk.active ≡ false → is_some (case_active case c.desk.active) ≡ true → is_some (get_by (bytes_eq z) s.ups) ≡ true

-- room for what a session does
abbrev pub HasRoomToSit : Cell → Shared → Type 0
HasRoomToSit c s = (0 < spare c.doings) × (0 < s.sessions.room)

abbrev pub HasRoomIf : Bool → Cell → Shared → Type 0
HasRoomIf true c s = HasRoomToSit c s
HasRoomIf false c s = Unit {0}

abbrev pub HasRoomIfSits : Case → Cell → Shared → Type 0
HasRoomIfSits case c s = HasRoomIf (seats case) c s

-- room for all that a case does
pub record HasRoom (z : Name) (case : Case) (c : Cell) (s : Shared) : Type 0 where
  pub stored : HasRoomToStore (asked_of (decision_of c.desk case)) s
  pub objects : HasRoomToChange (objects_of case) c
  pub sits : HasRoomIfSits case c s
  pub console : HasConsole (console_of_case case) c.console
  pub rises : HasRoomToRise z case c s
  pub desk : HasRoomFor c.desk case

-- a session is nobody's or the zone's
abbrev pub IsOpenTo : Name → Option Name → Type 0
IsOpenTo z o = (o ≡ None) ⊎ (o ≡ Some z)

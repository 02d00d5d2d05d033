-- What more than one zone may ask of the state: who holds which number, what is stored, the last numbers given, and what is
-- declared.
use Rattle.std.specs.Prelude.{◌≡◌, ℕ, ◌+◌, List, Option, Some, None, Bool, true, false, bytes_eq, is_some, length, if◌then◌else◌}
use Rattle.std.specs.List.{list_any}
use Rattle.zn_base.specs.Names.{Name}
use Rattle.zone_pools.specs.Owners as owners
use Rattle.brand_hooks.specs.Brands.{Tabled}
use Rattle.datalink_table.specs.Claims.{holds}
use Rattle.datalink_table.specs.declared.claims.Claim.{Claim}
use Rattle.zoneadmd_steps.specs.Arrivals.{Arrival, New_claim, New_id, New_process, New_record, No_new_thing}
use Rattle.zone_cases.specs.State.Decisions.{Act, acts_world}
use Rattle.kernel_objects.specs.Processes.{has_pid}
use Rattle.zoneadmd_steps.specs.Objects.{has_zid}
use Rattle.commit_journal.specs.Store.{change_text}
use Rattle.commit_journal.specs.Stored.{Rows, stored, with_stored}
use Rattle.zone_machine.specs.Machine.{declared_by}
use Rattle.zone_cases.specs.State.{State, bytes_used}
use Rattle.zone_cases.specs.State.Declarations.{Declared}
use Rattle.zone_cases.specs.State.Worlds.{World, world}
use Rattle.zone_cases.specs.declared.events.Event.{Event}
use Rattle.zone_cases.specs.declared.events.Event.TheVariants.{Restart}

pub record Common : Type 0 where
  -- whether a zone holds a process number, an id, a claimed item, a session
  pub pids : Name → ℕ → Bool
  pub zids : Name → ℕ → Bool
  pub claims : Name → Claim → Bool
  pub sessions : Name → ℕ → Bool
  -- whether a zone's state is none of the stored ones
  pub up : Name → Bool
  pub rows : Rows
  pub serial : ℕ
  -- how many bytes of the bank are in use
  pub used : ℕ
  pub last_pid : ℕ
  pub last_zid : ℕ
  pub declared : Declared
  pub brands : List Tabled
  pub started : Bool

-- each process's number is held by one zone at most
abbrev pub HoldOnce : (Name → ℕ → Bool) → Type 0
HoldOnce held = (y z : Name) (n : ℕ) → held y n ≡ true → held z n ≡ true → y ≡ z

-- what a world holds
abbrev pub holds_pid : World → ℕ → Bool
holds_pid w n = list_any (has_pid n) w.processes

abbrev pub holds_zid : World → ℕ → Bool
holds_zid w n = list_any (has_zid n) w.ids

abbrev pub holds_claim : World → Claim → Bool
holds_claim w c = holds c w.claims

abbrev pub is_up : World → Bool
is_up w = is_some w.desk.active

abbrev pub holds_session : World → ℕ → Bool
holds_session w n = is_some (w.sessions n)

abbrev pub common : State → Common
common S = record {
  pids = λ z. holds_pid (world z S);
  zids = λ z. holds_zid (world z S);
  claims = λ z. holds_claim (world z S);
  sessions = λ z. holds_session (world z S);
  up = λ z. is_up (world z S);
  rows = stored S.commits;
  serial = length S.commits;
  used = bytes_used S.commits;
  last_pid = S.last_pid;
  last_zid = S.last_zid;
  declared = S.declared;
  brands = S.brands;
  started = S.started;
}

-- z holds what its world holds, and each other zone what it held
abbrev pub holding : Name → World → Common → Common
holding z w c = record c {
  pids = owners.holding z (holds_pid w) c.pids;
  zids = owners.holding z (holds_zid w) c.zids;
  claims = owners.holding z (holds_claim w) c.claims;
  sessions = owners.holding z (holds_session w) c.sessions;
}

-- z is up as its world says, and each other zone as it was
abbrev pub standing : Name → World → Common → Common
standing z w c = record c { up = λ y. if bytes_eq z y then is_up w else c.up y }

-- what comes with a grant is stored, or its number is the last one given
abbrev pub came_common : Name → Option Arrival → Common → Common
came_common z None c = c
came_common z (Some (New_process p)) c = record c { last_pid = p.pid }
came_common z (Some (New_id i)) c = record c { last_zid = i.zid }
came_common z (Some (New_claim k)) c = c
came_common z (Some No_new_thing) c = c
came_common z (Some (New_record row)) c = record c { rows = with_stored z row c.rows; serial = c.serial + 1; used = c.used + 5 + length (change_text z row) }

-- an act of an event of z, from z's world and what was common
abbrev pub acts_common : Name → Option ℕ → Act → World → Common → Common
acts_common z n a w c = record (standing z (acts_world n a w) (holding z (acts_world n a w) (came_common z a.came c))) { started = true }

-- after a restart nobody holds anything, and both numbers begin anew
abbrev pub restarted_common : Common → Common
restarted_common c = record { pids = λ z n. false; zids = λ z n. false; claims = λ z k. false; sessions = λ z n. false; up = λ z. false; rows = c.rows; serial = c.serial; used = c.used; last_pid = 1; last_zid = 0; declared = c.declared; brands = c.brands; started = true }

-- an event of the whole system, from what was common
abbrev pub whole_common : Event → Common → Common
whole_common Restart c = restarted_common c
whole_common e c = record c { declared = declared_by e c.declared }

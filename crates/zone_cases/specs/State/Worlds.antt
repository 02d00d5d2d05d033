-- What belongs to one zone, and what an event of the zone may look at.
use Rattle.std.specs.Prelude.{ℕ, List, Option, Some, None, bytes_eq, filter, if◌then◌else◌}
use Rattle.brand_hooks.specs.Brands.{Tabled}
use Rattle.zn_base.specs.Names.{Name}
use Rattle.zone_pools.specs.Owned_lists.{mine}
use Rattle.zone_pools.specs.Firsts.{first_of}
use Rattle.zone_pools.specs.declared.owned.Owned.{Owned}
use Rattle.zoneadmd_steps.specs.Desks.{Desk}
use Rattle.kernel_objects.specs.Processes.{has_pid, with_pid, Process}
use Rattle.zoneadmd_steps.specs.Objects.{Objects}
use Rattle.zoneadmd_steps.specs.Turns.{Seen}
use Rattle.zone_cases.specs.State.Declarations.{Declared}
use Rattle.zone_cases.specs.State.{At, Doing, Idle, Session, State, stored}
use Rattle.kernel_objects.specs.declared.objects.Id.{Id}
use Rattle.loopback_mounts.specs.declared.mount.MountEntry.{MountEntry}
use Rattle.console_link.specs.Consoles.{Console}
use Rattle.datalink_table.specs.declared.claims.Claim.{Claim}
use Rattle.commit_journal.specs.declared.records.Record.{Record}

-- what a session does in z; nothing where it is away
abbrev pub doing : Name → Session → Option Doing
doing z Idle = None
doing z (At y d) = if bytes_eq z y then Some d else None

-- a zone's world: its objects, its stored record, its desk, its console, what each session does in it, and, of the system, what is declared
-- and which brands there are
pub record World : Type 0 where
  pub processes : List Process
  pub mounts : List MountEntry
  pub claims : List Claim
  pub devices : List (List ℕ)
  pub ids : List Id
  pub stored : Option Record
  pub desk : Desk
  pub console : Console
  pub sessions : ℕ → Option Doing
  pub declared : Declared
  pub brands : List Tabled

abbrev pub objects_of : World → Objects
objects_of w = record { processes = w.processes; mounts = w.mounts; claims = w.claims; devices = w.devices; ids = w.ids }

-- what a turn of the zone's daemon finds
abbrev pub seen_of : World → Seen
seen_of w = record { desk = w.desk; objects = objects_of w; stored = w.stored; declared = w.declared.devices; brands = w.brands }

abbrev pub world : Name → State → World
world z S = record {
  processes = mine z S.processes;
  mounts = mine z S.mounts;
  claims = mine z S.claims;
  devices = mine z S.devices;
  ids = mine z S.ids;
  stored = stored z S.commits;
  desk = S.desks z;
  console = S.consoles z;
  sessions = λ n. doing z (S.sessions n);
  declared = S.declared;
  brands = S.brands;
}

-- the process with this number, looked for among all zones' processes, where its tag is then z
abbrev pub process_of : Name → List (Owned Process) → ℕ → Option Process
process_of z os pid = first_of (mine z (filter (λ o. has_pid pid o.it) os))

-- what an event of z may look at
pub record View : Type 0 where
  pub zone : Name
  pub world : World
  pub process : ℕ → Option Process

unfoldable pub view : Name → State → View
view z S = record { zone = z; world = world z S; process = process_of z S.processes }

-- the same, from the zone's world alone
unfoldable pub view_of : Name → World → View
view_of z w = record { zone = z; world = w; process = λ pid. with_pid pid w.processes }

-- The machine's state: everything that all zones have, as flat lists, and as functions of a session's number and a zone's name.
pub mod Declarations
pub mod Worlds
pub mod Edits
pub mod Decisions
use Rattle.std.specs.Prelude.{ℕ, List, Option, Bool, map}
use Rattle.zn_base.specs.Names.{Name}
use Rattle.zone_disk.specs.Image.{used_by}
use Rattle.zone_pools.specs.declared.owned.Owned.{Owned}
use Rattle.zn_base.specs.declared.state.ZoneState.{ZoneState}
use Rattle.zoneadmd_steps.specs.Desks.{Desk, state_of}
use Rattle.kernel_objects.specs.declared.objects.Id.{Id}
use Rattle.loopback_mounts.specs.declared.mount.MountEntry.{MountEntry}
use Rattle.brand_hooks.specs.Brands.{Tabled}
use Rattle.console_link.specs.Consoles.{Console}
use Rattle.datalink_table.specs.declared.claims.Claim.{Claim}
use Rattle.zone_cases.specs.State.Declarations.{Declared}
use Rattle.kernel_objects.specs.Processes.{Process}
use Rattle.commit_journal.specs.Bodies.{body_text}
use Rattle.commit_journal.specs.Store.{row_of}
use Rattle.commit_journal.specs.Stored as rows
use Rattle.commit_journal.specs.declared.records.Commit.{Commit}
use Rattle.commit_journal.specs.declared.records.Record.{Record}
use Rattle.zonecfg_scopes.specs.Edited.{Edited}

-- what a session does in the zone that it belongs to
pub data Doing : Type 0 where
  -- it waits for a ticket of the zone's daemon
  Awaiting : (ticket : ℕ) → Doing
  -- it edits the zone's configuration, by zonecfg(8): what its editor holds
  Editing : Edited → Doing
  -- it is logged in by zlogin(1), with this process; a line that begins with the escape byte and a period ends that
  Logged_in : (pid : ℕ) → (escape : Option ℕ) → Doing
  -- it has the zone's console, by `zlogin -C`
  At_console : (escape : Option ℕ) → Doing

pub data Session : Type 0 where
  Idle : Session
  At : Name → Doing → Session

pub record State : Type 0 where
  pub processes : List (Owned Process)
  pub mounts : List (Owned MountEntry)
  pub claims : List (Owned Claim)
  pub devices : List (Owned (List ℕ))
  pub ids : List (Owned Id)
  pub commits : List Commit
  pub sessions : ℕ → Session
  pub desks : Name → Desk
  pub consoles : Name → Console
  pub declared : Declared
  -- the same in each state of a history
  pub brands : List Tabled
  pub last_pid : ℕ
  pub last_zid : ℕ
  pub started : Bool

-- what is stored of z
abbrev pub stored : Name → List Commit → Option Record
stored z commits = row_of z (rows.stored commits)

-- the bodies of some commits, and how many bytes of a bank they use
abbrev pub bodies_of : List Commit → List (List ℕ)
bodies_of commits = map body_text commits

abbrev pub bytes_used : List Commit → ℕ
bytes_used commits = used_by (bodies_of commits)

abbrev pub zone_state : Name → State → Option ZoneState
zone_state z S = state_of (stored z S.commits) (S.desks z)

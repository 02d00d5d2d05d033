-- The machine's cells and its shared part, as the definitions have them.
use Rattle.indexmap.specs.IndexMap.{get, get_by}
use Rattle.std.specs.Prelude.{◌≡◌, ℕ, Option, Bool, false, bytes_eq, nat_eq, is_some, unwrap_or, if◌then◌else◌}
use Rattle.std.specs.List.{list_any}
use Rattle.zn_base.specs.Names.{Name}
use Rattle.zone_pools.specs.Owners.{held_by, is_owner, owner}
use Rattle.commit_journal.specs.Zones.{rows_of}
use Rattle.zone_machine.specs.Machine.Common.{Common, common, holding, standing}
use Rattle.zone_cases.specs.Code.Cells.{Outside, cell_world, world_or_empty}
use Rattle.zone_cases.specs.State.{State, stored}
use Rattle.zone_cases.specs.State.Worlds.{World, world}
use Rattle.zone_cases.specs.declared.cell.Cell.{Cell}
use Rattle.zone_machine.specs.declared.machine.parts.Parts.{Parts}
use Rattle.commit_journal.specs.declared.records.Record.{Record}
use Rattle.zone_machine.specs.declared.machine.shared.Shared.{Shared}
use Rattle.datalink_table.specs.Claims.{holds}
use Rattle.datalink_table.specs.Shared.{holder}
use Rattle.datalink_table.specs.declared.claims.Claim.{Claim}
use Rattle.kernel_objects.specs.Processes.{has_pid}
use Rattle.zone_cases.specs.State.Declarations.{Declared}
use Rattle.kernel_objects.specs.Shared.{pid_owner, zid_owner}
use Rattle.zoneadmd_steps.specs.Objects.{has_zid, ids_of}

abbrev pub row_in : Name → Shared → Option Record
row_in z s = get_by (bytes_eq z) s.rows

abbrev pub declared_in : Shared → Declared
declared_in s = record { items = s.claims.declared; devices = s.kernel.devices }

abbrev pub outside_in : Name → Shared → Outside
outside_in z s = record { stored = row_in z s; declared = declared_in s; brands = s.brands }

-- whether a zone's state is none of the stored ones
abbrev pub is_up_in : Shared → Name → Bool
is_up_in s z = unwrap_or (get_by (bytes_eq z) s.ups) false

abbrev pub common_in : Shared → Common
common_in s = record {
  pids = held_by (pid_owner s.kernel);
  zids = held_by (zid_owner s.kernel);
  claims = held_by (λ k. holder k s.claims);
  sessions = held_by (owner nat_eq s.sessions);
  up = is_up_in s;
  rows = rows_of s.rows.entries;
  serial = s.serial;
  used = s.used;
  last_pid = s.kernel.last_pid;
  last_zid = s.kernel.last_zid;
  declared = declared_in s;
  brands = s.brands;
  started = s.started;
}

-- the shared part has what is common
abbrev pub SharedOf : Shared → Common → Type 0
SharedOf s k = k ≡ common_in s

abbrev pub cell_at : Name → Parts → Option Cell
cell_at z p = get_by (bytes_eq z) p.cells

-- the parts stand for the state S: each cell has its zone's world, each zone without one has nothing
pub record Stands (S : State) (p : Parts) : Type 0 where
  pub worlds : (z : Name) → world z S ≡ world_or_empty (record { stored = stored z S.commits; declared = S.declared; brands = S.brands }) (cell_at z p)
  pub shared : SharedOf p.shared (common S)

-- z has what a cell has from now on, and each other zone what it had
abbrev pub Keeps : Name → Cell → (Name → Option Cell) → (Name → Option Cell) → Type 0
Keeps z d old new = (out : Outside) (y : Name) → world_or_empty out (new y) ≡ (if bytes_eq z y then cell_world out d else world_or_empty out (old y))

-- the shared part names for z exactly what its cell has
pub record Agree (z : Name) (c : Cell) (s : Shared) : Type 0 where
  pub pids : (n : ℕ) → list_any (has_pid n) c.kernel.processes ≡ is_owner z (pid_owner s.kernel n)
  pub zids : (n : ℕ) → list_any (has_zid n) (ids_of c.kernel.id) ≡ is_owner z (zid_owner s.kernel n)
  pub claims : (k : Claim) → holds k c.claims.claims ≡ is_owner z (holder k s.claims)
  pub sessions : (n : ℕ) → is_some (get nat_eq c.doings n) ≡ is_owner z (owner nat_eq s.sessions n)

-- where the shared part names what the cell has, z's world was changed so and what is common so: z holds what it has then, and
-- the other zones hold what they held
pub record Does (z : Name) (f : World → World) (g : Common → Common) (c : Cell) (s : Shared) (d : Cell) (t : Shared) : Type 0 where
  pub world : Agree z c s → cell_world (outside_in z t) d ≡ f (cell_world (outside_in z s) c)
  pub common : Agree z c s → common_in t ≡ holding z (f (cell_world (outside_in z s) c)) (g (common_in s))

-- the same, and the shared part, which said whether z was up, says whether it is from now on
pub record Acts (z : Name) (f : World → World) (g : Common → Common) (c : Cell) (s : Shared) (d : Cell) (t : Shared) : Type 0 where
  pub world : Agree z c s → cell_world (outside_in z t) d ≡ f (cell_world (outside_in z s) c)
  pub common : Agree z c s → is_up_in s z ≡ is_some c.desk.active → common_in t ≡ standing z (f (cell_world (outside_in z s) c)) (holding z (f (cell_world (outside_in z s) c)) (g (common_in s)))

abbrev pub kept : Common → Common
kept c = c

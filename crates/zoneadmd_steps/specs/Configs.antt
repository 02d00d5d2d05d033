-- What a daemon takes from a zone's configuration, by zonecfg(8).
use Rattle.std.specs.Prelude.{ℕ, List, [], ◌∷◌, ◌++◌, ◌||◌, Option, Some, None, Bool, false, bytes_eq, codes, filter, find, map, min, Result, Ok, Err, if◌then◌else◌}
use Rattle.std.specs.List.{filter_map, list_any}
use Rattle.commit_journal.specs.declared.records.Record.{Record}
use Rattle.config_terms.specs.Fields.{path_text}
use Rattle.config_terms.specs.declared.fault.ConfigFault.{ConfigFault}
use Rattle.config_terms.specs.declared.terms.Fs.{Fs}
use Rattle.config_terms.specs.declared.terms.IpType.{IpType}
use Rattle.config_terms.specs.declared.terms.IpType.TheVariants.{Exclusive, Shared}
use Rattle.config_terms.specs.declared.terms.Limit.{Limit}
use Rattle.config_terms.specs.declared.terms.Net.{Net}
use Rattle.config_terms.specs.declared.terms.Rctl.{Rctl}
use Rattle.config_verify.specs.Flaws.{claimed, has_dir}
use Rattle.datalink_table.specs.Claims.{claim_of}
use Rattle.datalink_table.specs.declared.claims.Claim.{Claim}
use Rattle.datalink_table.specs.declared.claims.ClaimKind.{ClaimKind}
use Rattle.datalink_table.specs.declared.claims.ClaimKind.TheVariants.{Address, Dataset, Link}
use Rattle.kernel_objects.specs.Kernel.{limited}
use Rattle.kernel_objects.specs.Shared.{fits_some}
use Rattle.kernel_objects.specs.declared.objects.Id.{Id}
use Rattle.loopback_mounts.specs.Mounts.{precedes}
use Rattle.loopback_mounts.specs.declared.mount.Mount.{Mount}
use Rattle.priv_sets.specs.Limit.{limit_of}
use Rattle.priv_sets.specs.declared.limit.PrivFault.{PrivFault}
use Rattle.zn_base.specs.declared.values.Value.TheVariants.{Simple}
use Rattle.zone_config.specs.Edits.{with_property}
use Rattle.zone_config.specs.declared.terms.Contents.{Contents}
use Rattle.zone_pools.specs.Owned_lists.{put}

-- paths in byte order
abbrev pub in_order : List (List ℕ) → List (List ℕ)
in_order [] = []
in_order (dir ∷ dirs) = put (λ other. precedes other dir) dir (in_order dirs)

-- where file systems are mounted in the zone, in the order in which they are mounted
abbrev pub fs_dirs : Contents → List (List ℕ)
fs_dirs c = in_order (filter_map (λ f. f.dir) c.fs)

abbrev pub root_dir : List ℕ
root_dir = codes "/"

-- the zone's root, from below its zonepath
abbrev pub root_mount : Contents → Mount
root_mount c = record { dir = root_dir; fstype = codes "root"; special = path_text c.zonepath ++ codes "/root"; read_only = false; by_process = false }

-- a file system at a directory, read-only where it has the option `ro`
abbrev pub mount_by : List ℕ → Option Fs → Mount
mount_by dir None = record { dir = dir; fstype = []; special = []; read_only = false; by_process = false }
mount_by dir (Some f) = record { dir = dir; fstype = f.fstype; special = f.special; read_only = list_any (bytes_eq (codes "ro")) f.options; by_process = false }

abbrev pub fs_mount : Contents → List ℕ → Mount
fs_mount c dir = mount_by dir (find (has_dir dir) c.fs)

-- what is claimed: the datasets, and then what each net takes for its zone alone, a link where the zone has an IP stack of
-- its own, else an address
abbrev pub net_kind : IpType → ClaimKind
net_kind Exclusive = Link
net_kind Shared = Address

abbrev pub dataset_claim : List ℕ → Claim
dataset_claim name = claim_of Dataset name

abbrev pub net_claim : IpType → Net → Claim
net_claim ip n = claim_of (net_kind ip) (claimed ip n)

abbrev pub claims_of : Contents → List Claim
claims_of c = map dataset_claim c.dataset ++ map (net_claim c.ip) c.net

-- the declared devices that fit one of the configuration's patterns, in order of declaration
abbrev pub devices_by : Contents → (declared : List (List ℕ)) → List (List ℕ)
devices_by c declared = filter (fits_some c.device) declared

-- the set of a limitpriv; what denotes none is refused before a zone is made ready
abbrev pub set_or_none : Result (List ℕ) PrivFault → List ℕ
set_or_none (Ok set) = set
set_or_none (Err fault) = []

-- the lesser of two bounds, of which each may be missing
abbrev pub lesser : Option ℕ → Option ℕ → Option ℕ
lesser None n = n
lesser (Some m) None = Some m
lesser (Some m) (Some n) = Some (min m n)

-- by resource_controls(7): the least value that denies
abbrev pub denied_at : Limit → Option ℕ
denied_at v = if v.deny then Some v.limit else None

abbrev pub least_denied : List Limit → Option ℕ
least_denied [] = None
least_denied (v ∷ vs) = lesser (denied_at v) (least_denied vs)

-- a process has one lwp, so that the bound of lwps is one of processes
abbrev pub bounds_processes : Rctl → Bool
bounds_processes r = bytes_eq r.name (codes "zone.max-processes") || bytes_eq r.name (codes "zone.max-lwps")

abbrev pub bound_of : Rctl → Option ℕ
bound_of r = if bounds_processes r then least_denied r.values else None

-- how many processes there may be: the least of all bounds
abbrev pub most_processes : List Rctl → Option ℕ
most_processes [] = None
most_processes (r ∷ rs) = lesser (bound_of r) (most_processes rs)

-- the limits that a zone's id gets
abbrev pub limits_by : Contents → Id → Id
limits_by c i = limited (set_or_none (limit_of c.limitpriv)) (most_processes c.rctl) c.fs_allowed i

-- the configuration with another zonepath, or why there is none; a path other than `/` is refused for the length of the export
-- text alone
abbrev pub with_zonepath : List ℕ → Contents → Result Contents ConfigFault
with_zonepath path c = with_property (codes "zonepath") (Simple path) c

-- the record that a move makes, with its number as its revision
abbrev pub moved_record : Contents → Record → ℕ → Record
moved_record config row n = record row { config = config; revision = n }

-- The objects of the kernel that one zone has, and what an event may do to them.
use Rattle.std.specs.Prelude.{ℕ, List, [], ◌∷◌, Option, Some, None, Bool, true, nat_eq}
use Rattle.std.specs.Option.{option_map}
use Rattle.datalink_table.specs.declared.claims.Claim.{Claim}
use Rattle.kernel_objects.specs.Kernel.{Kernel}
use Rattle.kernel_objects.specs.Processes.{Process}
use Rattle.kernel_objects.specs.declared.objects.Id.{Id}
use Rattle.zone_pools.specs.Firsts.{first_of}
use Rattle.zone_pools.specs.Owned_lists.{Change, Go, List_edit, edited}
use Rattle.loopback_mounts.specs.declared.mount.MountEntry.{MountEntry}

pub record Objects : Type 0 where
  pub processes : List Process
  pub mounts : List MountEntry
  -- in the order of their claims
  pub claims : List Claim
  pub devices : List (List ℕ)
  pub ids : List Id

-- what becomes of them beside what comes with a grant. A process and an id keep their number where they change
pub data Object_edit : Type 0 where
  Processes_go : (Process → Bool) → Object_edit
  -- one goes, and its children get another parent
  Process_goes : (pid : ℕ) → Object_edit
  Processes_change : (Process → Process) → Object_edit
  Of_mounts : List_edit MountEntry → Object_edit
  Last_claim_goes : Object_edit
  Devices_are : List (List ℕ) → Object_edit
  Ids_go : (Id → Bool) → Object_edit
  Ids_change : (Id → Id) → Object_edit

abbrev pub keeping_pid : (Process → Process) → Process → Process
keeping_pid f p = record (f p) { pid = p.pid }

abbrev pub keeping_zid : (Id → Id) → Id → Id
keeping_zid f i = record (f i) { zid = i.zid }

-- the mounts, the devices and the ids after edits
abbrev pub mounts_after : List Object_edit → List MountEntry → List MountEntry
mounts_after [] ms = ms
mounts_after (Of_mounts e ∷ es) ms = mounts_after es (edited e ms)
mounts_after (_ ∷ es) ms = mounts_after es ms

abbrev pub devices_after : List Object_edit → List (List ℕ) → List (List ℕ)
devices_after [] ds = ds
devices_after (Devices_are new ∷ es) ds = devices_after es new
devices_after (_ ∷ es) ds = devices_after es ds

abbrev pub ids_after : List Object_edit → List Id → List Id
ids_after [] is = is
ids_after (Ids_go p ∷ es) is = ids_after es (edited (Go p) is)
ids_after (Ids_change f ∷ es) is = ids_after es (edited (Change (keeping_zid f)) is)
ids_after (_ ∷ es) is = ids_after es is

-- what the kernel's calls see of them. A zone has one id at most
abbrev pub kernel_of : Objects → Kernel
kernel_of o = record { id = first_of o.ids; processes = o.processes; devices = o.devices }

abbrev pub all_of : {A : Type 0} → A → Bool
all_of x = true

abbrev pub has_zid : ℕ → Id → Bool
has_zid n i = nat_eq i.zid n

abbrev pub zid_of : List Id → Option ℕ
zid_of ids = option_map (λ i. i.zid) (first_of ids)

-- the ids of a zone, which has one at most
abbrev pub ids_of : Option Id → List Id
ids_of None = []
ids_of (Some i) = i ∷ []

-- The order in which a zone's objects are told.
use Rattle.std.specs.Prelude.{ℕ, List, [], ◌∷◌, ◌++◌, Bool, Option, Some, None, IsPermutation, IsSorted, map, if◌then◌else◌}
use Rattle.std.specs.Cmp.Lexicographic.{slice_cmp}
use Rattle.std.specs.Ordering.{nat_cmp, ordering_then}
use Rattle.kernel_objects.specs.declared.objects.ProcRow.{ProcRow}
use Rattle.loopback_mounts.specs.declared.mount.Mount as mount_types
use Rattle.std.specs.declared.cmp.Ordering.{Ordering}
use Rattle.zn_base.specs.Names.{Name}
use Rattle.zone_cases.specs.State.{State}
use Rattle.zone_cases.specs.State.Worlds.{World, world}
use Rattle.zone_machine.specs.Code.Cells.{Stands}
use Rattle.zone_machine.specs.declared.machine.parts.Parts.{Parts}
use Rattle.zone_machine.specs.Machine.Told as told
use Rattle.datalink_table.specs.declared.claims.ClaimKind.TheVariants as claims
use Rattle.zone_views.specs.Naming.{Address, Console, Dataset, Device, Id, Kind, Link, Mount, Object, Process, id, mount, object, objects, process}

-- the place of a kind
abbrev pub kind_place : Kind → ℕ
kind_place Process = 0
kind_place Mount = 1
kind_place Link = 2
kind_place Address = 3
kind_place Dataset = 4
kind_place Device = 5
kind_place Console = 6
kind_place Id = 7

-- by kind, and within a kind by key, byte by byte
abbrev pub object_cmp : Object → Object → Ordering
object_cmp a b = ordering_then (nat_cmp (kind_place a.kind) (kind_place b.kind)) (slice_cmp nat_cmp a.key b.key)

-- a list has exactly these objects, and in this order
pub record IsInOrder (these list : List Object) : Type 0 where
  pub same : IsPermutation these list
  pub sorted : IsSorted object_cmp list

-- of every state that a machine's parts stand for, it is what z has
abbrev pub IsView : Parts → Name → List Object → Type 0
IsView p z list = (S : State) → Stands S p → IsInOrder (objects z (world z S)) list

-- the objects of z, kind by kind, by what is told of it
abbrev pub processes_told : Name → List ProcRow → List Object
processes_told z rows = map (λ r. process z r.pid) rows

abbrev pub mounts_told : Name → List mount_types.Mount → List Object
mounts_told z ms = map (λ m. mount z m.dir) ms

abbrev pub id_told : Name → Option ℕ → List Object
id_told z None = []
id_told z (Some zid) = id z zid ∷ []

abbrev pub console_told : Name → Bool → List Object
console_told z used = if used then object z Console [] ∷ [] else []

abbrev pub claims_told : Name → World → List Object
claims_told z w = map (object z Link) (told.claims claims.Link w) ++ (map (object z Address) (told.claims claims.Address w) ++ map (object z Dataset) (told.claims claims.Dataset w))

abbrev pub all_told : Name → World → List Object
all_told z w =
    processes_told z (told.processes w) ++ (mounts_told z (told.mounts w) ++ (claims_told z w ++ (map (object z Device) (told.devices w) ++ (id_told z (told.zid_of w) ++ console_told z (told.console_in_use w)))))

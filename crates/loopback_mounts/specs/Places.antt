-- The place of a path: among all mounts whose components are the first of the path's, the one with most, and the rest of
-- the path.
use Rattle.std.specs.Prelude.{◌≡◌, ◌≤◌, ℕ, List, [], ◌∷◌, ◌++◌, Option, Some, None, Bool, true, false, not, ◌&&◌, ◌||◌, bytes_eq, codes, filter, length, nat_lt, Contains, All, Result, Ok, Err, if◌then◌else◌}
use Rattle.kernel_objects.specs.declared.faults.Errno.TheVariants.{ENAMETOOLONG, ENOENT, EROFS}
use Rattle.zn_base.specs.Path.{is_path}
use Rattle.zone_pools.specs.Firsts.{is_nil}
use Rattle.loopback_mounts.specs.Paths.{covers, depth, rest_below}
use Rattle.loopback_mounts.specs.declared.faults.MountFault.{MountFault}
use Rattle.loopback_mounts.specs.declared.faults.MountFault.TheVariants.{Refused}
use Rattle.loopback_mounts.specs.declared.limits.TheConstants.{PLACE_MAX}
use Rattle.loopback_mounts.specs.declared.mount.MountEntry.{MountEntry}
use Rattle.loopback_mounts.specs.declared.places.Place.{Place}

abbrev pub covers_path : List ℕ → MountEntry → Bool
covers_path path m = covers m.mount.dir path

-- of two mounts the one with more components, and the first where both have as many
abbrev pub deeper : MountEntry → Option MountEntry → MountEntry
deeper m None = m
deeper m (Some n) = if nat_lt (depth m.mount.dir) (depth n.mount.dir) then n else m

abbrev pub deepest : List MountEntry → Option MountEntry
deepest [] = None
deepest (m ∷ ms) = Some (deeper m (deepest ms))

abbrev pub mount_over : List MountEntry → List ℕ → Option MountEntry
mount_over ms path = deepest (filter (covers_path path) ms)

-- what that is, said of all mounts
pub record IsOver (ms : List MountEntry) (path : List ℕ) (m : MountEntry) : Type 0 where
  pub among : Contains ms m
  pub over : covers_path path m ≡ true
  pub most : All (λ n. covers_path path n ≡ true → depth n.mount.dir ≤ depth m.mount.dir) ms

pub record Found : Type 0 where
  pub fstype : List ℕ
  pub special : List ℕ
  pub rest : List ℕ

abbrev pub found_in : MountEntry → List ℕ → Found
found_in m path = record { fstype = m.mount.fstype; special = m.mount.special; rest = rest_below m.mount.dir path }

-- ENOENT where no mount is over the path, EROFS for a write where that one is read-only
abbrev pub resolved_in : Option MountEntry → List ℕ → (write : Bool) → Result Found MountFault
resolved_in None path write = Err (Refused ENOENT)
resolved_in (Some m) path write = if write && m.mount.read_only then Err (Refused EROFS) else Ok (found_in m path)

abbrev pub resolved : List MountEntry → List ℕ → (write : Bool) → Result Found MountFault
resolved ms path write = resolved_in (mount_over ms path) path write

-- a place as text: the special and then the rest, where a special `/` before a rest is left out. Types other than lofs
-- and root are shown
abbrev pub is_plain : List ℕ → Bool
is_plain fstype = bytes_eq fstype (codes "lofs") || bytes_eq fstype (codes "root")

abbrev pub with_rest : (special rest : List ℕ) → List ℕ
with_rest special rest = if bytes_eq special (codes "/") && not (is_nil rest) then rest else special ++ rest

abbrev pub place_text : Found → List ℕ
place_text p =
    if is_plain p.fstype then with_rest p.special p.rest
    else codes "<" ++ (p.fstype ++ (codes ":" ++ (p.special ++ (codes ">" ++ p.rest))))

-- a place has a bounded length
abbrev pub place_answer : Found → Result (List ℕ) MountFault
place_answer p = if nat_lt PLACE_MAX (length (place_text p)) then Err (Refused ENAMETOOLONG) else Ok (place_text p)

-- the place of a path as text
abbrev pub placed : Result Found MountFault → Result (List ℕ) MountFault
placed (Err fault) = Err fault
placed (Ok p) = place_answer p

abbrev pub place_at : List MountEntry → List ℕ → (write : Bool) → Result (List ℕ) MountFault
place_at ms path write = placed (resolved ms path write)

-- what is mounted, by mount(2) and lofs(4FS): of lofs the place of a path, else what is given. What is no absolute path has no
-- place
abbrev pub path_place : List MountEntry → List ℕ → Result (List ℕ) MountFault
path_place ms path = if is_path path then place_at ms path false else Err (Refused ENOENT)

abbrev pub special_at : List MountEntry → (fstype special : List ℕ) → Result (List ℕ) MountFault
special_at ms fstype special = if bytes_eq fstype (codes "lofs") then path_place ms special else Ok special

-- a place as the program has it
abbrev pub as_found : Place → Found
as_found p = record { fstype = p.fstype.now; special = p.special.now; rest = p.rest.now }

-- The mounts of one zone, in byte order of their directories, with the holds on them.
use Rattle.std.specs.Prelude.{ℕ, List, [], ◌∷◌, Option, Some, None, Bool, true, false, not, ◌&&◌, ◌||◌, bytes_eq, filter, is_some, length, map, nat_le, nat_lt, Result, Ok, Err, if◌then◌else◌}
use Rattle.std.specs.Cmp.Lexicographic.{slice_cmp}
use Rattle.std.specs.List.{list_all, list_any}
use Rattle.std.specs.Ordering.{is_lt, nat_cmp}
use Rattle.kernel_objects.specs.declared.faults.Errno.TheVariants.{EBUSY, EINVAL}
use Rattle.zn_base.specs.Path.{is_path}
use Rattle.zone_pools.specs.Firsts.{first_of}
use Rattle.zone_pools.specs.Owned_lists.{Change, Go, Put, edited}
use Rattle.loopback_mounts.specs.Paths.{is_below}
use Rattle.loopback_mounts.specs.declared.faults.HoldFault.{HoldFault}
use Rattle.loopback_mounts.specs.declared.faults.HoldFault.TheVariants.{HoldState, NoMount}
use Rattle.loopback_mounts.specs.declared.faults.MountFault.{MountFault}
use Rattle.loopback_mounts.specs.declared.faults.MountFault.TheVariants.{Refused, TooManyMounts}
use Rattle.loopback_mounts.specs.declared.limits.TheConstants.{MOUNTS_MAX}
use Rattle.loopback_mounts.specs.declared.mount.Last.{Last}
use Rattle.loopback_mounts.specs.declared.mount.Last.TheVariants.{Held, Nothing, Removed}
use Rattle.loopback_mounts.specs.declared.mount.Mount.{Mount}
use Rattle.loopback_mounts.specs.declared.mount.MountEntry.{MountEntry}

-- the mounts, and how many more are taken without memory
pub record Mounts : Type 0 where
  pub list : List MountEntry
  pub room : ℕ

-- byte order
abbrev pub precedes : List ℕ → List ℕ → Bool
precedes a b = is_lt (slice_cmp nat_cmp a b)

abbrev pub is_at : List ℕ → MountEntry → Bool
is_at dir m = bytes_eq m.mount.dir dir

abbrev pub before : List ℕ → MountEntry → Bool
before dir m = precedes m.mount.dir dir

-- whether each mount's directory precedes those of the mounts after it
abbrev pub in_order : List MountEntry → Bool
in_order [] = true
in_order (m ∷ ms) = list_all (λ n. precedes m.mount.dir n.mount.dir) ms && in_order ms

abbrev pub has_path : MountEntry → Bool
has_path m = is_path m.mount.dir

-- what a zone's mounts keep
abbrev pub well_kept : List MountEntry → Bool
well_kept ms = in_order ms && list_all has_path ms && nat_le (length ms) MOUNTS_MAX

abbrev pub mount_at : List ℕ → List MountEntry → Option MountEntry
mount_at dir ms = first_of (filter (is_at dir) ms)

-- mount(2): a directory has one mount at most
abbrev pub mount_answer : List ℕ → List MountEntry → Result (Unit {0}) MountFault
mount_answer dir ms =
    if is_some (mount_at dir ms) then Err (Refused EBUSY)
    else if nat_lt (length ms) MOUNTS_MAX then Ok tt
    else Err TooManyMounts

abbrev pub mounted : Mount → List MountEntry → List MountEntry
mounted mount ms = edited (Put (before mount.dir) (record { mount = mount; held = false })) ms

-- umount(2): a mount goes unless another lies below it or it is held
abbrev pub has_below : List ℕ → List MountEntry → Bool
has_below dir ms = list_any (λ m. is_below dir m.mount.dir) ms

abbrev pub unless_busy : Option MountEntry → Bool → Result Mount MountFault
unless_busy None below = Err (Refused EINVAL)
unless_busy (Some m) below = if m.held || below then Err (Refused EBUSY) else Ok m.mount

abbrev pub unmount_answer : List ℕ → List MountEntry → Result Mount MountFault
unmount_answer dir ms = unless_busy (mount_at dir ms) (has_below dir ms)

abbrev pub unmounted : List ℕ → List MountEntry → List MountEntry
unmounted dir ms = edited (Go (is_at dir)) ms

-- the mount with the greatest directory
abbrev pub last_of : {A : Type 0} → List A → Option A
last_of [] = None
last_of (x ∷ xs) = if is_some (last_of xs) then last_of xs else Some x

abbrev pub last_unless_held : Option MountEntry → Last
last_unless_held None = Nothing
last_unless_held (Some m) = if m.held then Held else Removed m.mount

abbrev pub last_answer : List MountEntry → Last
last_answer ms = last_unless_held (last_of ms)

-- the mounts after it went
abbrev pub without_this : Option MountEntry → List MountEntry → List MountEntry
without_this None ms = ms
without_this (Some m) ms = unmounted m.mount.dir ms

abbrev pub without_last : List MountEntry → List MountEntry
without_last ms = without_this (last_of ms) ms

-- and where it goes unless it is held
abbrev pub after_last : Last → List MountEntry → List MountEntry
after_last Nothing ms = ms
after_last Held ms = ms
after_last (Removed mount) ms = without_last ms

-- holds: a mount is held or free
abbrev pub is_held : Option MountEntry → Bool
is_held None = false
is_held (Some m) = m.held

abbrev pub hold_unless : Bool → Bool → Result (Unit {0}) HoldFault
hold_unless there wrong = if there then (if wrong then Err HoldState else Ok tt) else Err NoMount

abbrev pub hold_answer : List ℕ → List MountEntry → Result (Unit {0}) HoldFault
hold_answer dir ms = hold_unless (is_some (mount_at dir ms)) (is_held (mount_at dir ms))

abbrev pub release_answer : List ℕ → List MountEntry → Result (Unit {0}) HoldFault
release_answer dir ms = hold_unless (is_some (mount_at dir ms)) (not (is_held (mount_at dir ms)))

abbrev pub at_dir : List ℕ → (MountEntry → MountEntry) → MountEntry → MountEntry
at_dir dir f m = if is_at dir m then f m else m

abbrev pub with_hold : Bool → MountEntry → MountEntry
with_hold held m = record m { held = held }

abbrev pub held_at : List ℕ → List MountEntry → List MountEntry
held_at dir ms = edited (Change (at_dir dir (with_hold true))) ms

abbrev pub freed_at : List ℕ → List MountEntry → List MountEntry
freed_at dir ms = edited (Change (at_dir dir (with_hold false))) ms

-- what mount(8) lists
abbrev pub listed : List MountEntry → List Mount
listed ms = map (λ m. m.mount) ms

-- Where a directory's mount is, among mounts in byte order, or where it would go.
use Rattle.std.specs.Prelude.{◌≡◌, ◌<◌, ◌≤◌, ◌+◌, ℕ, List, Some, Bool, true, drop, length, slice_get, take}
use Rattle.std.specs.List.{list_all}
use Rattle.loopback_mounts.specs.Mounts.{before, is_at, precedes}
use Rattle.loopback_mounts.specs.declared.mount.MountEntry.{MountEntry}

abbrev pub after : List ℕ → MountEntry → Bool
after dir m = precedes dir m.mount.dir

pub record IsPlaceOf (dir : List ℕ) (ms : List MountEntry) (i : ℕ) : Type 0 where
  pub inside : i < length ms
  pub lower : list_all (before dir) (take i ms) ≡ true
  pub here : (m : MountEntry) → slice_get ms i ≡ Some m → is_at dir m ≡ true
  pub higher : list_all (after dir) (drop (i + 1) ms) ≡ true

pub record IsGapFor (dir : List ℕ) (ms : List MountEntry) (i : ℕ) : Type 0 where
  pub inside : i ≤ length ms
  pub lower : list_all (before dir) (take i ms) ≡ true
  pub higher : list_all (after dir) (drop i ms) ≡ true

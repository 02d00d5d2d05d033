-- A disk in memory, by the writes and syncs that it has had.
use Rattle.std.specs.Prelude.{◌≡◌, ◌⊎◌, ℕ, ◌+◌, ◌≤◌, ◌<◌, max, List, [], ◌∷◌, ◌++◌, length, take, drop, replicate, Contains, Option, Some, None, Result, Ok, Err}
use Rattle.zn_io.specs.Disk.{View, Torn, patched}
use Rattle.zn_io.specs.Streams.{one_more}
use Rattle.zn_io.specs.declared.room.Room.{Room}
use Rattle.zn_io.specs.declared.room.Extent.{Extent}
use Rattle.zn_io.specs.declared.room.Entry.{Entry}
use Rattle.zn_io.specs.declared.room.Entry.TheVariants.{Wrote, Synced}
use Rattle.zn_io.specs.declared.room.Fill.{Fill}
use Rattle.zn_io.specs.declared.room.Fill.TheVariants.{Old, New, Byte}

-- a write, or a sync that answered Ok
pub data Change : Type 0 where
  wrote : ℕ → List ℕ → Change
  synced : Change

-- the bytes at the opening and the changes since, in order; the room; the numbers of the calls that fail, counted
-- from 1; the call from which on all fail; and how many calls and faults there were
pub record MemoryDisk : Type 0 where
  pub opening : List ℕ
  pub changes : List Change
  pub room : Room
  pub failing : List ℕ
  pub stop : Option ℕ
  pub calls : ℕ
  pub faults : ℕ

-- what a read gives, what the last good sync left, and the ranges written since then, in order
pub record Platter : Type 0 where
  pub reads : List ℕ
  pub kept : List ℕ
  pub ranges : List Extent

abbrev pub changed : Change → Platter → Platter
changed (wrote at bytes) p = record { reads = patched p.reads at bytes; kept = p.kept; ranges = p.ranges ++ record { at = at; size = length bytes } ∷ [] }
changed synced p = record { reads = p.reads; kept = p.reads; ranges = [] }

abbrev pub after_changes : Platter → List Change → Platter
after_changes p [] = p
after_changes p (change ∷ changes) = after_changes (changed change p) changes

abbrev pub platter_of : List ℕ → List Change → Platter
platter_of opening changes = after_changes (record { reads = opening; kept = opening; ranges = [] }) changes

-- what a crash may leave of some ranges, written in order
abbrev pub IsTorn : List ℕ → List Extent → List ℕ → Type 0
IsTorn kept [] image = image ≡ kept
IsTorn kept (r ∷ ranges) image = (torn : List ℕ) × Torn r.at r.size kept torn × IsTorn torn ranges image

abbrev pub IsImage : Platter → List ℕ → Type 0
IsImage p image = IsTorn p.kept p.ranges image

-- what a crash may have left after k changes, for some k from t on
abbrev pub SinceOf : List ℕ → List Change → ℕ → List ℕ → Type 0
SinceOf opening changes t image = (k : ℕ) × (t ≤ k) × (k ≤ length changes) × IsImage (platter_of opening (take k changes)) image

abbrev pub platter : MemoryDisk → Platter
platter m = platter_of m.opening m.changes

abbrev pub view_of : MemoryDisk → View
view_of m = record {
  Keeps = Unit {0};
  reads = (platter m).reads;
  Now = IsImage (platter m);
  moment = length m.changes;
  Since = SinceOf m.opening m.changes;
  faults = m.faults;
}

-- all that was written, in bytes
abbrev pub total : List Change → ℕ
total [] = 0
total (wrote at bytes ∷ changes) = length bytes + total changes
total (synced ∷ changes) = total changes

-- a write of n bytes at an offset stays within the room
pub record HasRoom (m : MemoryDisk) (at n : ℕ) : Type 0 where
  pub calls : length m.changes < m.room.calls
  pub within : max (length (platter m).reads) (at + n) ≤ m.room.length
  pub written : total m.changes + n ≤ m.room.written

abbrev pub HasCome : Option ℕ → ℕ → Type 0
HasCome None n = ⊥
HasCome (Some stop) n = stop ≤ n

-- the next call fails by the list or by the stop
abbrev pub IsTold : MemoryDisk → Type 0
IsTold m = Contains m.failing (one_more m.calls) ⊎ HasCome m.stop (one_more m.calls)

-- a call is counted, and its fault
abbrev pub counted : {T E : Type 0} → MemoryDisk → Result T E → MemoryDisk
counted m (Ok x) = record m { calls = one_more m.calls }
counted m (Err e) = record m { calls = one_more m.calls; faults = one_more m.faults }

abbrev pub with_change : MemoryDisk → Change → MemoryDisk
with_change m change = record m { changes = m.changes ++ change ∷ [] }

-- a byte in all of some ranges, in order
abbrev pub filled : ℕ → List ℕ → List Extent → List ℕ
filled b image [] = image
filled b image (r ∷ ranges) = filled b (patched image r.at (replicate r.size b)) ranges

-- the image that a fill leaves
abbrev pub crashed : Fill → Platter → List ℕ
crashed Old p = p.kept
crashed New p = p.reads
crashed (Byte b) p = filled b p.kept p.ranges

-- the changes, from entries without bytes and all the bytes written
abbrev pub changes_of : List Entry → List ℕ → List Change
changes_of [] bytes = []
changes_of (Wrote e ∷ entries) bytes = wrote e.at (take e.size bytes) ∷ changes_of entries (drop e.size bytes)
changes_of (Synced ∷ entries) bytes = synced ∷ changes_of entries bytes

abbrev pub total_size : List Entry → ℕ
total_size [] = 0
total_size (Wrote e ∷ entries) = e.size + total_size entries
total_size (Synced ∷ entries) = total_size entries

-- what a disk in memory holds is what its changes leave
pub record IsPlayed (p : Platter) (bytes last : List ℕ) (extents : List Extent) (entries : List Entry) (all : List ℕ) : Type 0 where
  pub reads : bytes ≡ p.reads
  pub kept : last ≡ p.kept
  pub ranges : extents ≡ p.ranges
  pub sized : total_size entries ≡ length all

-- its lengths are within the room
pub record IsWithin (room : Room) (bytes last extents entries all : ℕ) : Type 0 where
  pub reads : bytes ≤ room.length
  pub kept : last ≤ bytes
  pub ranges : extents ≤ entries
  pub calls : entries ≤ room.calls
  pub written : all ≤ room.written

-- its capacities are such that no change within the room takes memory
pub record IsRoomy (room : Room) (bytes last extents entries all : ℕ) : Type 0 where
  pub reads : room.length ≤ bytes
  pub kept : room.length ≤ last
  pub ranges : room.calls ≤ extents
  pub calls : room.calls ≤ entries
  pub written : room.written ≤ all

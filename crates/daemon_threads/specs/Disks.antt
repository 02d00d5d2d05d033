-- What the disk of what the zones share has since a moment.
use Rattle.std.specs.Prelude.{◌≡◌, ◌≤◌, ◌++◌, [], ℕ, List, Bool, length, true, false}
use Rattle.commit_journal.specs.declared.records.Commit.{Commit}
use Rattle.zn_io.specs.Disk.{Leaves, View}
use Rattle.zn_io.specs.Streams.{Rose}
use Rattle.zone_machine.specs.Code.Records.{Passes}
use Rattle.zone_machine.specs.Machine.Images.{HoldsEither}
use Rattle.daemon_threads.specs.Sessions.{HoldsSome}

-- what a disk has since the moment of the view v, at which these commits were stored, where some more are stored now: a crash at any
-- moment since then leaves those of then and some of those that came since, and perhaps of the one that was under way when the disk
-- failed; a crash now leaves those that are stored, perhaps with that one. While the disk may be written none is under way. Where it may not its count of faults rose
pub record DiskOf (v : View) (before : List Commit) (sound : Bool) (w : View) (commits : List Commit) : Type 0 where
  pub more : List Commit
  pub grown : commits ≡ before ++ more
  pub perhaps : List Commit
  pub few : length perhaps ≤ 1
  pub settled : sound ≡ true → perhaps ≡ []
  pub any_moment : v.Keeps → Leaves v w (HoldsSome before (more ++ perhaps))
  pub now : v.Keeps → (image : List ℕ) → w.Now image → HoldsEither commits (commits ++ perhaps) image
  pub passes : Passes v w
  pub rose : sound ≡ false → Rose v.faults w.faults

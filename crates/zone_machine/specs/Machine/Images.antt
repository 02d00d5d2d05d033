-- What the images of a disk stand for, by the commits of a store, and what a step leaves on the disk.
use Rattle.std.specs.Prelude.{◌⊎◌, ℕ, List, Result, Ok, Err}
use Rattle.zn_io.specs.Disk.{Leaves, View}
use Rattle.commit_journal.specs.Store.{OpensStore, Stores}
use Rattle.commit_journal.specs.Stored.{stored}
use Rattle.commit_journal.specs.declared.fault.StoreFault.{StoreFault}
use Rattle.commit_journal.specs.declared.records.Commit.{Commit}
use Rattle.zone_cases.specs.State.{bodies_of}

-- an image stands for some commits: for their bodies, which leave the zones that they leave
abbrev pub Holds : List Commit → List ℕ → Type 0
Holds commits image = Stores (bodies_of commits) (stored commits) image

-- what opening an image comes to: the commits that it stands for, or the first fault
abbrev pub OpensAs : List ℕ → Result (List Commit) StoreFault → Type 0
OpensAs image (Ok commits) = Holds commits image
OpensAs image (Err fault) = OpensStore image (Err fault)

-- whatever a crash leaves now stands for the commits
abbrev pub NowHolds : View → List Commit → Type 0
NowHolds v commits = (image : List ℕ) → v.Now image → Holds commits image

-- a disk that keeps to its model, on which a crash leaves the commits
pub record IsStoreOf (v : View) (commits : List Commit) : Type 0 where
  pub keeps : v.Keeps
  pub now : NowHolds v commits

abbrev pub HoldsEither : List Commit → List Commit → List ℕ → Type 0
HoldsEither before after image = Holds before image ⊎ Holds after image

-- a step on a disk: what a crash at any moment meanwhile leaves, and at its end, stands for the commits from before or for those
-- after
pub record Goes (before after : List Commit) (old new : View) : Type 0 where
  pub any_moment : old.Keeps → Leaves old new (HoldsEither before after)
  pub now : old.Keeps → (image : List ℕ) → new.Now image → HoldsEither before after image

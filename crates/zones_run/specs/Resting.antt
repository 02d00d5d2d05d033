-- The zones that a crash leaves.
use Rattle.std.specs.Prelude.{ℕ, List, ◌++◌, All, IsTrue}
use Rattle.brand_hooks.specs.Brands.{Tabled}
use Rattle.commit_journal.specs.Stored.{stored}
use Rattle.commit_journal.specs.declared.records.Commit.{Commit}
use Rattle.zn_base.specs.States.{is_stored}
use Rattle.zone_machine.specs.Machine.{opening}
use Rattle.zone_machine.specs.Machine.Changes.{HoldsFront}
use Rattle.zone_cases.specs.declared.events.Entry.{Entry}

-- each zone that some commits leave is configured, incomplete or installed
abbrev pub HasStoredStates : List Commit → Type 0
HasStoredStates commits = All (λ row. IsTrue (is_stored row.it.state)) (stored commits)

-- a law: so is each zone of an image that stands for the commits of a store and those of some entries of a trace, as each image
-- does that a crash may leave of it
abbrev pub CrashesLeaveStoredStates : Type 0
CrashesLeaveStoredStates = (brands : List Tabled) (R : List Commit) (h : List Entry) (image : List ℕ) (f : HoldsFront (opening brands R) h image) → HasStoredStates (R ++ f.front)

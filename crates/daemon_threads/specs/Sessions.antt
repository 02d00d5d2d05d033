-- What sessions leave: their record, and what the disk has of it.
use Rattle.std.specs.Prelude.{◌≡◌, ◌≤◌, ◌++◌, [], ℕ, Bool, true, false, List, Option, Some, None, length}
use Rattle.zn_io.specs.Disk.{Leaves, View}
use Rattle.commit_journal.specs.declared.records.Commit.{Commit}
use Rattle.session_records.specs.Records.{IsPartial, IsRecord, Scripts}
use Rattle.zone_cases.specs.State.{State}
use Rattle.zone_cases.specs.declared.events.Entry.{Entry}
use Rattle.zone_machine.specs.Machine.Changes.{changes}
use Rattle.zone_machine.specs.Machine.Images.{Holds, HoldsEither}
use Rattle.zone_machine.specs.declared.faults.StepFault.{StepFault}
use Rattle.zone_machine.specs.declared.faults.StepFault.TheVariants.{Memory}

-- an image stands for some commits and a front of some more
pub record HoldsSome (R more : List Commit) (image : List ℕ) : Type 0 where
  pub front : List Commit
  pub rest : List Commit
  pub whole : more ≡ front ++ rest
  pub holds : Holds (R ++ front) image

-- what the disk has of what entries change: a crash at any moment meanwhile leaves the commits of the state and a front of those that the
-- entries add, and one now those of all. Unless it is settled, one commit more may have been under way when the disk failed
pub record LeavesChanges (settled : Bool) (S : State) (h : List Entry) (v w : View) : Type 0 where
  pub perhaps : List Commit
  pub few : length perhaps ≤ 1
  pub none : settled ≡ true → perhaps ≡ []
  pub model : v.Keeps → w.Keeps
  pub any_moment : v.Keeps → Leaves v w (HoldsSome S.commits (changes S h ++ perhaps))
  pub now : v.Keeps → (image : List ℕ) → w.Now image → HoldsEither (S.commits ++ changes S h) (S.commits ++ (changes S h ++ perhaps)) image

-- whether the disk has what was answered and no more
abbrev pub is_settled : Option StepFault → Bool
is_settled None = true
is_settled (Some Memory) = true
is_settled (Some fault) = false

-- from a state on sessions left these entries: a part of a record, and the whole where nothing ended them
pub record Lives (ended : Option StepFault) (S : State) (scripts : Scripts) (entries : List Entry) (v w : View) : Type 0 where
  pub part : IsPartial S scripts entries
  pub whole : ended ≡ None → IsRecord S scripts entries
  pub left : LeavesChanges (is_settled ended) S entries v w

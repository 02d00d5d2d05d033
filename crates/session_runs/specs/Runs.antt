-- A record that is run to its end: what is known before, and what entries are added, what the machine stands for and what the disk has then.
use Rattle.std.specs.Prelude.{◌≡◌, ◌≤◌, ◌++◌, [], ℕ, List, length, true}
use Rattle.brand_hooks.specs.Brands.{Tabled}
use Rattle.commit_journal.specs.declared.records.Commit.{Commit}
use Rattle.zn_io.specs.Disk.{Leaves, View}
use Rattle.zone_cases.specs.State.{State}
use Rattle.zone_cases.specs.declared.events.Entry.{Entry}
use Rattle.zone_machine.specs.Machine.{opening}
use Rattle.zone_machine.specs.Machine.Changes.{HoldsFront}
use Rattle.zone_machine.specs.Machine.Histories.{after, is_legal}
use Rattle.zone_machine.specs.Machine.Images.{HoldsEither}
use Rattle.zone_machine.specs.declared.faults.StepFault.{StepFault}
use Rattle.zone_machine.specs.declared.faults.StepFault.TheVariants.{Memory}
use Rattle.session_records.specs.Folds.{folded}
use Rattle.session_records.specs.Records.{IsPartial, IsRecord, Scripts}
use Rattle.session_records.specs.Scripts.{begun, noted}
use Rattle.session_runs.specs.Far.{AreFar, scripts_of}
use Rattle.session_runs.specs.declared.far.Far.{Far}
use Rattle.session_runs.specs.declared.far.Script.{Script}

-- some history reaches the state from some store
pub record IsReached (S : State) : Type 0 where
  pub brands : List Tabled
  pub commits : List Commit
  pub past : List Entry
  pub there : after (opening brands commits) past ≡ S

-- from a state on the entries are a part of a record of the scripts, which are so far by them, and a machine stands for the state
-- after them
pub record IsUnderWay (S : State) (scripts : List Script) (far : List Far) (h : List Entry) (stands : State → Type 0) : Type 0 where
  pub reached : IsReached S
  pub part : IsPartial S (scripts_of scripts) h
  pub far_by : AreFar scripts far (folded noted (begun (scripts_of scripts)) h)
  pub stood : stands (after S h)

-- what the disk has of entries from a state on, and of those of an event that was under way when the disk failed: an image of any moment
-- meanwhile stands for the commits of the state and those of a front of these, and one of now for those of all that were answered, or
-- also of the one under way
pub record LeavesFront (S : State) (more under_way : List Entry) (v w : View) : Type 0 where
  pub few : length under_way ≤ 1
  pub legal : is_legal S (more ++ under_way) ≡ true
  pub model : v.Keeps → w.Keeps
  pub any_moment : v.Keeps → Leaves v w (HoldsFront S (more ++ under_way))
  pub now : v.Keeps → (image : List ℕ) → w.Now image → HoldsEither (after S more).commits (after S (more ++ under_way)).commits image

-- all was run: with some entries more the record is whole, and the machine stands for the state after it
pub record IsOver (S : State) (scripts : Scripts) (old new : List Entry) (stands : State → Type 0) (v w : View) : Type 0 where
  pub more : List Entry
  pub whole : new ≡ old ++ more
  pub all : IsRecord S scripts new
  pub stood : stands (after S new)
  pub left : LeavesFront (after S old) more [] v w

-- a fault ended it: with some entries more it is still a part of a record. The machine stands for the state after it where memory ran
-- out, and only else an event was under way
pub record IsCut (fault : StepFault) (S : State) (scripts : Scripts) (old new : List Entry) (stands : State → Type 0) (v w : View) : Type 0 where
  pub more : List Entry
  pub whole : new ≡ old ++ more
  pub part : IsPartial S scripts new
  pub stood : fault ≡ Memory → stands (after S new)
  pub under_way : List Entry
  pub settled : fault ≡ Memory → under_way ≡ []
  pub left : LeavesFront (after S old) more under_way v w

-- What a trace or a script leaves on its disk, and what is left of a store that is only read.
use Rattle.std.specs.Prelude.{◌≡◌, ◌≤◌, ◌⊎◌, ◌++◌, ℕ, List, [], length, IsTrue, Option, IfSome, Result, IsErrOf, IsOk}
use Rattle.std.specs.Option.{option_map}
use Rattle.zn_io.specs.Disk.{Leaves, View}
use Rattle.zn_io.specs.Streams.{after_known}
use Rattle.brand_hooks.specs.Brands.{Tabled}
use Rattle.commit_journal.specs.declared.records.Commit.{Commit}
use Rattle.zone_machine.specs.Machine.Changes.{HoldsFront, changes}
use Rattle.zone_machine.specs.Machine.Histories.{is_history}
use Rattle.zone_machine.specs.Machine.Images.{Holds, HoldsEither, NowHolds}
use Rattle.zone_machine.specs.Machine.{opening}
use Rattle.zone_cases.specs.declared.events.Entry.{Entry}
use Rattle.zones_run.specs.Run.{IsWhole}
use Rattle.zones_run.specs.Scripts.{permits}
use Rattle.zones_run.specs.Statuses.{status_disk_fault, status_no_memory, status_read_fault}
use Rattle.zones_run.specs.Tracing.{entries_text, run_of}
use Rattle.zones_run.specs.declared.fault.RunFault.{RunFault}
use Rattle.zones_run.specs.declared.fault.RunFault.TheVariants.{Disk, Memory, Read}
use Rattle.zones_run.specs.declared.outcome.Complaint.{Complaint}
use Rattle.zones_run.specs.declared.words.Mode.{Mode}

-- a step that was answered: at any moment meanwhile a crash leaves the commits from before or those after it, and at its end
-- those after it
pub record GoesSurely (before after : List Commit) (old new : View) : Type 0 where
  pub any_moment : old.Keeps → Leaves old new (HoldsEither before after)
  pub now : old.Keeps → NowHolds new after
  pub model : old.Keeps → new.Keeps

-- the commits of a store, and then those that entries add
abbrev pub commits_with : List Tabled → List Commit → List Entry → List Commit
commits_with brands R h = R ++ changes (opening brands R) h

-- xs are the first of ys
pub record IsFront {A : Type 0} (xs ys : List A) : Type 0 where
  pub rest : List A
  pub whole : ys ≡ xs ++ rest

-- a run over a store that answered some entries, and perhaps began one more: they make a history under grants that are permitted, those
-- that the pools give or, where they are stated, those that fit; and they are the first ones of
-- `all` where those of the whole input are known. A crash at any moment meanwhile leaves the commits of the store and those of
-- some of the entries, from the first one on; a crash at the end leaves those of all that were answered, perhaps with that of
-- the one under way
pub record Records (mode : Mode) (brands : List Tabled) (R : List Commit) (answered under_way : List Entry) (all : Option (List Entry)) (old new : View) : Type 0 where
  pub few : length under_way ≤ 1
  pub permitted : IsTrue (is_history (permits mode) (opening brands R) (answered ++ under_way))
  pub begins : IfSome all (IsFront (answered ++ under_way))
  pub any_moment : Leaves old new (HoldsFront (opening brands R) (answered ++ under_way))
  pub now : (image : List ℕ) → new.Now image → HoldsEither (commits_with brands R answered) (commits_with brands R (answered ++ under_way)) image

-- the replies of some entries were taken, but for the last one's perhaps
pub record HasNearlyTold (mode : Mode) (answered : List Entry) (held holds : Option (List ℕ)) : Type 0 where
  pub told : List Entry
  pub untold : List Entry
  pub few : length untold ≤ 1
  pub whole : answered ≡ told ++ untold
  pub taken : holds ≡ after_known held (entries_text mode told)

-- what a run has recorded: an entry is under way only where the run was torn; the answered ones are all of the input's where
-- it is whole; their replies were taken where they are told, and nearly all of them where it was cut
pub record Ran (mode : Mode) (brands : List Tabled) (R : List Commit) (whole torn told cut : Type 0) (input held holds : Option (List ℕ)) (old new : View) : Type 0 where
  pub answered : List Entry
  pub under_way : List Entry
  pub records : Records mode brands R answered under_way (option_map (λ bytes. (run_of mode brands R bytes).entries) input) old new
  pub settled : (torn → ⊥) → under_way ≡ []
  pub all : whole → IfSome input (λ bytes. answered ≡ (run_of mode brands R bytes).entries)
  pub replies : told → holds ≡ after_known held (entries_text mode answered)
  pub nearly : cut → HasNearlyTold mode answered held holds

-- the same by how the run ended
abbrev pub RanAs : Mode → List Tabled → List Commit → Result (Option Complaint) RunFault → (input held holds : Option (List ℕ)) → (old new : View) → Type 0
RanAs mode brands R ended input held holds old new =
    Ran mode brands R (IsOk ended) (IsErrOf ended Disk) (IsErrOf ended Disk ⊎ (IsErrOf ended Read ⊎ IsOk ended)) (IsErrOf ended Memory) input held holds old new

-- the same by the exit status
abbrev pub RanBy : Mode → List Tabled → List Commit → ℕ → (input held holds : Option (List ℕ)) → (old new : View) → Type 0
RanBy mode brands R status input held holds old new =
    Ran mode brands R (IsWhole status) (status ≡ status_disk_fault) ((status ≡ status_disk_fault) ⊎ ((status ≡ status_read_fault) ⊎ IsWhole status)) (status ≡ status_no_memory) input held holds old new

-- a store that was only opened: a crash at any moment meanwhile, and at the end, leaves its commits
pub record KeepsStore (R : List Commit) (old new : View) : Type 0 where
  pub any_moment : Leaves old new (Holds R)
  pub now : NowHolds new R

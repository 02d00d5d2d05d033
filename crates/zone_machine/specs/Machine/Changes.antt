-- The commits that entries add to those of a state.
use Rattle.std.specs.Prelude.{◌≡◌, ℕ, List, [], ◌∷◌, ◌++◌, Option, Some}
use Rattle.zn_base.specs.Names.{Name}
use Rattle.commit_journal.specs.declared.records.Commit.{Commit}
use Rattle.zoneadmd_steps.specs.Arrivals.{Arrival, New_record}
use Rattle.zone_machine.specs.Machine.{decide, subject}
use Rattle.zone_machine.specs.Machine.Histories.{after_entry}
use Rattle.zone_machine.specs.Machine.Images.{Holds}
use Rattle.zone_cases.specs.State.{State}
use Rattle.zone_cases.specs.State.Decisions.{act_of}
use Rattle.zone_cases.specs.State.Worlds.{view}
use Rattle.zone_cases.specs.declared.events.Entry.{Entry}
use Rattle.zone_cases.specs.declared.events.Subject.{Subject}
use Rattle.zone_cases.specs.declared.events.Subject.TheVariants.{Zone, Global, Whole}

-- the commit of what comes to z, where that is stored
abbrev pub committed : Name → Option Arrival → List Commit
committed z (Some (New_record row)) = record { zone = z; stored = row } ∷ []
committed z _ = []

-- the commits that an entry adds, one at most
abbrev pub change_of : Subject → State → Entry → List Commit
change_of (Zone z) S e = committed z (act_of (decide (view z S) e.event) e.grant).came
change_of Global S e = []
change_of Whole S e = []

abbrev pub change : State → Entry → List Commit
change S e = change_of (subject S e.event) S e

-- the commits that entries add, in order
abbrev pub changes : State → List Entry → List Commit
changes S [] = []
changes S (e ∷ h) = change S e ++ changes (after_entry S e) h

-- an image stands for the commits of a state and some of those that entries add to them, from the first one on
pub record HoldsFront (S : State) (h : List Entry) (image : List ℕ) : Type 0 where
  pub front : List Commit
  pub rest : List Commit
  pub whole : changes S h ≡ front ++ rest
  pub holds : Holds (S.commits ++ front) image

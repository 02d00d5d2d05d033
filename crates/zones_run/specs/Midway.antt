-- What a machine, standard output, the bytes to come and the disk amount to in the midst of a trace or a script: a front of the run
-- of the whole input, which goes on from here.
use Rattle.std.specs.Prelude.{◌≡◌, ◌⊎◌, ◌++◌, ℕ, List, [], map, true, Option, Some, None, IfSome}
use Rattle.zn_base.specs.Lines.{lines_of}
use Rattle.zn_io.specs.Disk.{Leaves, View}
use Rattle.zn_io.specs.Streams.{after_known}
use Rattle.brand_hooks.specs.Brands.{Tabled}
use Rattle.commit_journal.specs.declared.records.Commit.{Commit}
use Rattle.zone_machine.specs.Machine.{opening}
use Rattle.zone_machine.specs.Machine.Changes.{HoldsFront}
use Rattle.zone_machine.specs.Machine.Histories.{after, is_history}
use Rattle.zone_machine.specs.Machine.Images.{IsStoreOf, NowHolds}
use Rattle.zone_cases.specs.State.{State}
use Rattle.zone_cases.specs.declared.events.Entry.{Entry}
use Rattle.zone_cases.specs.declared.events.Event.{Event}
use Rattle.zone_pools.specs.Pools.{or_else}
use Rattle.input_lines.specs.Lines.{AreWhole}
use Rattle.zones_run.specs.Recording.{commits_with}
use Rattle.zones_run.specs.Scripting.{numbered, state_past, turns_after, turns_until, with_events, with_turns}
use Rattle.zones_run.specs.Scripts.{Script, entries_from, permits, script_from}
use Rattle.zones_run.specs.Tracing.{Run, first_refused, entries_text}
use Rattle.zones_run.specs.declared.turns.Opened.{Opened}
use Rattle.zones_run.specs.declared.words.Mode.{Mode}

-- a run that has come so far, and goes on in a state with the events of a script
abbrev pub with_history : List Entry → Option ℕ → Script → List Entry → Run
with_history done refused script h =
    record { entries = done ++ h; refused = or_else refused (first_refused script.events h); ending = script.ending }

abbrev pub with_script : List Entry → Option ℕ → State → Script → Run
with_script done refused S script = with_history done refused script (entries_from S (map (λ e. e.1) script.events))

-- the script of the lines from a number on, in a state, with the turns that are put in
abbrev pub lines_from : Mode → ℕ → State → List (List ℕ) → Script
lines_from mode number S lines = with_turns mode S (script_from mode S.started number lines)

-- a run that has come so far, and goes on in a state with turns that are still put in, and then with the lines from a number on
abbrev pub run_onto : Mode → List Entry → Option ℕ → List (ℕ × Event) → ℕ → State → List (List ℕ) → Run
run_onto mode done refused to_put number S lines =
    with_script done refused S (with_events to_put (lines_from mode number (state_past S (map (λ e. e.1) to_put)) lines))

-- the same with the lines alone
abbrev pub run_on : Mode → List Entry → Option ℕ → ℕ → State → List (List ℕ) → Run
run_on mode done refused number S lines = run_onto mode done refused [] number S lines

-- no turns are put in any more
abbrev pub none_put : State → List (ℕ × Event)
none_put S = []

-- the turns that are put in after a line of a number
abbrev pub puts_after : Mode → Option Opened → ℕ → State → List (ℕ × Event)
puts_after mode said number S = numbered number (turns_after mode said S)

-- and those of them that are still put in, so many at most
abbrev pub puts_until : ℕ → Opened → ℕ → State → List (ℕ × Event)
puts_until more o number S = numbered number (turns_until more o S)

-- of a known input: what was taken as lines, and what is to come. Whatever lines follow those taken, the run over them
-- all is the run that has come so far and goes on with them
pub record Knows (mode : Mode) (brands : List Tabled) (R : List Commit) (refused : Option ℕ) (to_put : List (ℕ × Event)) (number : ℕ) (state : State) (done : List Entry) (bytes : Option (List ℕ)) (input : List ℕ) : Type 0 where
  pub past : List ℕ
  pub to_come : List ℕ
  pub here : bytes ≡ Some to_come
  pub all : input ≡ past ++ to_come
  pub fresh : AreWhole past ⊎ (to_come ≡ [])
  pub leads : (lines : List (List ℕ)) → run_on mode [] None 1 (opening brands R) (lines_of past ++ lines) ≡ run_onto mode done refused to_put number state lines

-- a machine that stands for a state after some entries, whose replies were written, with the bytes to come
pub record RunsOn (mode : Mode) (to_put : State → List (ℕ × Event)) (brands : List Tabled) (R : List Commit) (stands : State → Type 0) (refused : Option ℕ) (number : ℕ) (held holds bytes input : Option (List ℕ)) : Type 0 where
  pub state : State
  pub stood : stands state
  pub done : List Entry
  pub text : holds ≡ after_known held (entries_text mode done)
  pub known : IfSome input (Knows mode brands R refused (to_put state) number state done bytes)

-- a run that has come so far over a history whose grants are permitted, and what its entries have left on the disk
pub record Follows (mode : Mode) (to_put : State → List (ℕ × Event)) (brands : List Tabled) (R : List Commit) (stands : State → Type 0) (left_by : List Entry → Type 0) (refused : Option ℕ) (number : ℕ) (held holds bytes input : Option (List ℕ)) : Type 0 where
  pub run : RunsOn mode to_put brands R stands refused number held holds bytes input
  pub reached : run.state ≡ after (opening brands R) run.done
  pub legal : is_history (permits mode) (opening brands R) run.done ≡ true
  pub kept : left_by run.done

-- a crash at any moment leaves the commits and those of some of the entries, from the first one on; and now, those of all
pub record HasKept (brands : List Tabled) (R : List Commit) (h : List Entry) (old new : View) : Type 0 where
  pub keeps : new.Keeps
  pub any_moment : Leaves old new (HoldsFront (opening brands R) h)
  pub now : NowHolds new (commits_with brands R h)

-- what the disk of a run keeps of a store of R
abbrev pub Left : List Tabled → List Commit → (first now : View) → List Entry → Type 0
Left brands R v0 v h = IsStoreOf v0 R → HasKept brands R h v0 v

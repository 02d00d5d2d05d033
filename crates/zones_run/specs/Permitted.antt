-- What a run of lines comes to as a history of the zone machine.
use Rattle.std.specs.Prelude.{◌≡◌, ℕ, List, true, false}
use Rattle.brand_hooks.specs.Brands.{Tabled}
use Rattle.commit_journal.specs.declared.records.Commit.{Commit}
use Rattle.zone_machine.specs.Machine.{opening}
use Rattle.zone_machine.specs.Machine.Histories.{is_history}
use Rattle.zone_cases.specs.State.{State}
use Rattle.zones_run.specs.Scripting.{puts_in, with_turns}
use Rattle.zones_run.specs.Scripts.{permits, script_of, states}
use Rattle.zones_run.specs.Tracing.{run_of}
use Rattle.zones_run.specs.declared.words.Mode.{Mode}

-- a law: where no turns are put in and lines state no grants, the events of a whole input are those of its lines, up to where they end
abbrev pub LinesAreTheEvents : Type 0
LinesAreTheEvents = (mode : Mode) (S : State) (bytes : List ℕ) → puts_in mode ≡ false → states mode ≡ false → with_turns mode S (script_of mode bytes) ≡ script_of mode bytes

-- a law: the entries of a run make a history, under the grants that are permitted
abbrev pub EntriesAreTheMachines : Type 0
EntriesAreTheMachines = (mode : Mode) (brands : List Tabled) (R : List Commit) (bytes : List ℕ) → is_history (permits mode) (opening brands R) (run_of mode brands R bytes).entries ≡ true

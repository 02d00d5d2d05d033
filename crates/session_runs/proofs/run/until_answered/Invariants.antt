use Rattle.std.proofs.Common.{◌≡◌, ℕ, List, length}
use Rattle.std.specs.Prelude.{slice_index_or}
use Rattle.zone_cases.specs.State.{State}
use Rattle.zone_machine.specs.Code.Decided.{AsksBrands, MayGoOn}
use Rattle.zone_machine.specs.Code.Openings.{StandsFor}
use Rattle.zone_machine.specs.Code.Records.{Passes}
use Rattle.session_records.specs.Scripts.{Progress}
use Rattle.session_runs.specs.Midway.{AddsOn, IsMidway}
use Rattle.session_runs.specs.declared.far.Far.{Far}
use Rattle.session_runs.specs.declared.far.Script.{Script}
use Rattle.session_runs.proofs.run.until_answered.Given as goal

-- it goes on from where it began, and no line was typed
abbrev pub invariant-loop : goal.invariant-loop
invariant-loop g l =
    let view = g.D.Disk.view in
    record {
      next : (goal.iterator-loop g).can_next l.iterator';
      finite : (goal.iterator-loop g).is_finite l.iterator';
      run : (S : State) (p : ℕ → Progress) (scripts : List Script) → IsMidway S p scripts l.fn.far.items (λ T. StandsFor T l.fn.machine)
          → AddsOn S p scripts l.far.items l.fn.entries.items l.entries.items (λ T. StandsFor T l.machine) (view l.fn.machine.bank.disk) (view l.machine.bank.disk);
      len : length l.far.items ≡ length l.fn.far.items;
      done : (f : Far) → (slice_index_or l.far.items l.fn.at f).done ≡ (slice_index_or l.fn.far.items l.fn.at f).done;
      asks : AsksBrands g.F.Fn l.machine;
      ready : MayGoOn view l.machine;
      passes : Passes (view l.fn.machine.bank.disk) (view l.machine.bank.disk);
    }

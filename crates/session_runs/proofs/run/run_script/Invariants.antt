use Rattle.std.proofs.Common.{◌≡◌, ℕ, List, None, length}
use Rattle.zone_cases.specs.State.{State}
use Rattle.zone_machine.specs.Code.Decided.{AsksBrands, MayGoOn}
use Rattle.zone_machine.specs.Code.Openings.{StandsFor}
use Rattle.zone_machine.specs.Code.Records.{Passes}
use Rattle.session_records.specs.Scripts.{Progress}
use Rattle.session_runs.specs.Far.{Differ, IsAt}
use Rattle.session_runs.specs.Midway.{AddsOn, IsMidway}
use Rattle.session_runs.specs.declared.far.Script.{Script}
use Rattle.session_runs.proofs.run.run_script.Given as goal

-- it goes on from where it began, and the session waits for nothing before the line of this number
abbrev pub invariant-loop-number : goal.invariant-loop-number
invariant-loop-number g l =
    let view = g.D.Disk.view in
    record {
      run : (S : State) (p : ℕ → Progress) (scripts : List Script) → IsMidway S p scripts l.fn.far.items (λ T. StandsFor T l.fn.machine) → Differ scripts → IsAt scripts l.fn.at l.fn.script
          → AddsOn S p scripts l.far.items l.fn.entries.items l.entries.items (λ T. StandsFor T l.machine) (view l.fn.machine.bank.disk) (view l.machine.bank.disk);
      here : IsAt l.far.items l.fn.at (record { done = l.number; awaits = None });
      len : length l.far.items ≡ length l.fn.far.items;
      asks : AsksBrands g.F.Fn l.machine;
      ready : MayGoOn view l.machine;
      passes : Passes (view l.fn.machine.bank.disk) (view l.machine.bank.disk);
    }

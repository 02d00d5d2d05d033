use Rattle.std.proofs.Common.{◌≡◌, ℕ, length}
use Rattle.zone_cases.specs.State.{State}
use Rattle.zone_machine.specs.Code.Decided.{AsksBrands, MayGoOn}
use Rattle.zone_machine.specs.Code.Openings.{StandsFor}
use Rattle.zone_machine.specs.Code.Records.{Passes}
use Rattle.session_records.specs.Scripts.{Progress}
use Rattle.session_runs.specs.Midway.{IsMidway, RunsBefore}
use Rattle.session_runs.proofs.run.run_rest.Given as goal

-- it goes on from where it began, and the scripts before this one are done
abbrev pub invariant-loop-at : goal.invariant-loop-at
invariant-loop-at g l =
    let view = g.D.Disk.view in
    record {
      run : (S : State) (p : ℕ → Progress) → IsMidway S p l.fn.scripts l.fn.far.items (λ T. StandsFor T l.fn.machine)
          → RunsBefore l.at S p l.fn.scripts l.far.items l.fn.entries.items l.entries.items (λ T. StandsFor T l.machine) (view l.fn.machine.bank.disk) (view l.machine.bank.disk);
      len : length l.far.items ≡ length l.fn.far.items;
      asks : AsksBrands g.F.Fn l.machine;
      ready : MayGoOn view l.machine;
      passes : Passes (view l.fn.machine.bank.disk) (view l.machine.bank.disk);
    }

use Rattle.std.proofs.Common.{◌≡◌, ◌++◌, length}
use Rattle.std.specs.Vec.Iter.{into_iter_items, into_iter_len}
use Rattle.zone_cases.specs.State.{State}
use Rattle.zone_machine.specs.Code.Decided.{AsksBrands, MayGoOn}
use Rattle.zone_machine.specs.Code.Openings.{StandsFor}
use Rattle.zone_machine.specs.Code.Records.{Passes}
use Rattle.zones_live.specs.Declaring.{Declared}
use Rattle.zones_run.specs.Recording.{KeepsStore}
use Rattle.zones_live.proofs.declaring.declare.Given as goal

-- what came so far is declared, and the machine goes on
abbrev pub invariant-loop-what : goal.invariant-loop-what
invariant-loop-what g l =
    let view = g.D.Disk.view in
    record {
      all : l.yielded ++ into_iter_items l.what-iterator ≡ into_iter_items l.initial.what-iterator;
      long : into_iter_len l.what-iterator ≡ length (into_iter_items l.what-iterator);
      declared : (S : State) → StandsFor S l.fn.machine → Declared S l.yielded l.fn.entries.items l.entries.items (λ T. StandsFor T l.machine);
      kept : (S : State) → StandsFor S l.fn.machine → (view l.fn.machine.bank.disk).Keeps → KeepsStore S.commits (view l.fn.machine.bank.disk) (view l.machine.bank.disk);
      asks : AsksBrands g.F.Fn l.machine;
      ready : MayGoOn view l.machine;
      passes : Passes (view l.fn.machine.bank.disk) (view l.machine.bank.disk);
    }

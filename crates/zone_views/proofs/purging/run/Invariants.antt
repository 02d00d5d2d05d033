use Rattle.std.proofs.Common.{◌≡◌, ◌++◌, length}
use Rattle.std.specs.Vec.Iter.{into_iter_items, into_iter_len}
use Rattle.zone_cases.specs.State.{State}
use Rattle.zone_machine.specs.Code.Decided.{AsksBrands, MayGoOn}
use Rattle.zone_machine.specs.Code.Openings.{StandsFor}
use Rattle.zone_machine.specs.Code.Records.{Passes}
use Rattle.zone_views.proofs.Running_laws.{IsRunning}
use Rattle.zone_views.proofs.purging.run.Given as goal

-- the events so far were answered, and the machine goes on
abbrev pub invariant-loop-event : goal.invariant-loop-event
invariant-loop-event g l = record {
  all : l.yielded ++ into_iter_items l.event-iterator ≡ into_iter_items l.initial.event-iterator;
  long : into_iter_len l.event-iterator ≡ length (into_iter_items l.event-iterator);
  runs : (g.D.Disk.view l.fn.machine.bank.disk).Keeps → (S : State) → StandsFor S l.fn.machine → IsRunning S l.yielded l.entries.items l.machine;
  asks : AsksBrands g.F.Fn l.machine;
  ready : MayGoOn g.D.Disk.view l.machine;
  passes : Passes (g.D.Disk.view l.fn.machine.bank.disk) (g.D.Disk.view l.machine.bank.disk);
}

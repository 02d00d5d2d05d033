use Rattle.std.proofs.Common.{◌≡◌, ◌++◌, length}
use Rattle.std.specs.Vec.Iter.{into_iter_items, into_iter_len}
use Rattle.zone_cases.specs.State.{State}
use Rattle.zone_machine.specs.Code.Decided.{AsksBrands, MayGoOn}
use Rattle.zone_machine.specs.Code.Openings.{StandsFor}
use Rattle.zone_machine.specs.Code.Records.{Passes}
use Rattle.zone_views.proofs.Running_laws.{IsRunningGiven}
use Rattle.zone_views.proofs.purging.run_given.Given as goal

-- the events so far were answered, and the machine goes on
abbrev pub invariant-loop-entry : goal.invariant-loop-entry
invariant-loop-entry g l = record {
  all : l.yielded ++ into_iter_items l.entry-iterator ≡ into_iter_items l.initial.entry-iterator;
  long : into_iter_len l.entry-iterator ≡ length (into_iter_items l.entry-iterator);
  runs : (g.D.Disk.view l.fn.machine.bank.disk).Keeps → (S : State) → StandsFor S l.fn.machine → IsRunningGiven S l.yielded l.answered.items l.machine;
  asks : AsksBrands g.F.Fn l.machine;
  ready : MayGoOn g.D.Disk.view l.machine;
  passes : Passes (g.D.Disk.view l.fn.machine.bank.disk) (g.D.Disk.view l.machine.bank.disk);
}

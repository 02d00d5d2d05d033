use Rattle.zone_machine.specs.Code.Decided.{AsksBrands, MayGoOn}
use Rattle.zones_tests.proofs.machine.check_rows.Given as goal

-- the machine goes on
abbrev pub invariant-loop-at : goal.invariant-loop-at
invariant-loop-at g l = record { asks : AsksBrands g.F.Fn l.machine; ready : MayGoOn g.D.Disk.view l.machine }

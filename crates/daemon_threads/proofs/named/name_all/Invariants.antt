use Rattle.daemon_threads.specs.Dealing.{IsAsBefore}
use Rattle.daemon_threads.proofs.named.name_all.Given as goal

abbrev pub invariant-loop-script : goal.invariant-loop-script
invariant-loop-script g l = IsAsBefore l.fn.machine l.machine

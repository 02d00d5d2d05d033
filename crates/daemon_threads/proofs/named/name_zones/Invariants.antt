use Rattle.daemon_threads.specs.Dealing.{IsAsBefore}
use Rattle.daemon_threads.proofs.named.name_zones.Given as goal

abbrev pub invariant-loop-line : goal.invariant-loop-line
invariant-loop-line g l = IsAsBefore l.fn.machine l.machine

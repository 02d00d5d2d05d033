use Rattle.std.proofs.Common.{◌≡◌, map}
use Rattle.kernel_objects.specs.Processes.{heir, process_of}
use Rattle.kernel_objects.proofs.processes.Processes.heir.Given as goal

abbrev pub invariant-loop-pid : goal.invariant-loop-pid
invariant-loop-pid l = heir (map process_of l.pid-iterator) ≡ heir l.self

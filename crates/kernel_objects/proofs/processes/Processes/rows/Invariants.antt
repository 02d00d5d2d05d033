use Rattle.std.proofs.Common.{◌≡◌, ◌++◌, map}
use Rattle.kernel_objects.specs.Processes.{process_of, row_of}
use Rattle.kernel_objects.proofs.processes.Processes.rows.Given as goal

abbrev pub invariant-loop-pid : goal.invariant-loop-pid
invariant-loop-pid l = l.rows ++ map row_of (map process_of l.pid-iterator) ≡ map row_of l.self

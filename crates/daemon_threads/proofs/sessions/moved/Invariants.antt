use Rattle.std.proofs.Common.{◌≡◌, map}
use Rattle.daemon_threads.specs.Begun.{moved_script}
use Rattle.daemon_threads.proofs.sessions.moved.Given as goal

abbrev pub invariant-loop-script : goal.invariant-loop-script
invariant-loop-script l = l.moved.items ≡ map moved_script l.yielded

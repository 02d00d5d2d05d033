use Rattle.std.proofs.Common.{length}
use Rattle.zoneadmd_steps.proofs.configs.+most_processes.Given as goal

abbrev pub decreases-most_processes : goal.decreases-most_processes
decreases-most_processes l = length l.rctls.now

use Rattle.std.proofs.Common.{length}
use Rattle.zoneadmd_steps.proofs.configs.+least_denied.Given as goal

abbrev pub decreases-least_denied : goal.decreases-least_denied
decreases-least_denied l = length l.values.now

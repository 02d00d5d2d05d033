use Rattle.std.proofs.Common.{◌-◌, length}
use Rattle.zoneadmd_steps.proofs.ahead.+find_ahead.Given as goal

abbrev pub decreases-find_ahead : goal.decreases-find_ahead
decreases-find_ahead l = length l.steps.now - l.at

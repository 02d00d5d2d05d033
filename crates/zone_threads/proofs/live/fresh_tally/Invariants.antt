use Rattle.std.proofs.Common.{◌≡◌, length}
use Rattle.zone_threads.specs.Scripts.{TallyOf, beginning}
use Rattle.zone_threads.proofs.live.fresh_tally.Given as goal

abbrev pub invariant-loop : goal.invariant-loop
invariant-loop l = (length l.tally.items ≡ l.counter) × TallyOf l.tally.items beginning

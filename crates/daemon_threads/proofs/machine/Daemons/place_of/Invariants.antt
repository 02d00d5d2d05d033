use Rattle.std.proofs.Common.{◌≡◌, ◌+◌, drop}
use Rattle.session_records.specs.Places.{place_from}
use Rattle.daemon_threads.proofs.machine.Daemons.place_of.Given as goal

abbrev pub invariant-loop-at : goal.invariant-loop-at
invariant-loop-at g l = place_from 2 l.self.zones.items l.zone ≡ place_from (l.at + 2) (drop l.at l.self.zones.items) l.zone

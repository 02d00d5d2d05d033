use Rattle.std.proofs.Common.{◌≡◌, ◌+◌, ◌-◌, ◌≤◌, ◌++◌, length, take, vec_capacity}
use Rattle.zone_threads.specs.Ends.{Closed, rests}
use Rattle.zone_threads.specs.Records.{StandsFrom}
use Rattle.zone_threads.proofs.end.note_logs.Given as goal

-- behind the history is what these logs have left, and there is room for a run of each of the others
abbrev pub invariant-loop-log : goal.invariant-loop-log
invariant-loop-log g l = record {
  noted : (C : Closed g.M.Zoned.machine g.J.Start.starts g.J.Start.scripts g.N.Outset.zones l.fn.part.shared l.fn.part.tally.items l.fn.part.order.items l.logs)
      → StandsFrom g.M.Zoned.machine g.J.Start.starts g.J.Start.scripts l.part.shared l.part.tally.items l.part.order.items (C.h ++ rests (take l.log-index l.logs));
  shared : l.part.shared ≡ l.fn.part.shared;
  room : length l.part.order.items + (g.N.Outset.zones - l.log-index) ≤ vec_capacity l.part.order;
}

use Rattle.std.proofs.Common.{◌≤◌, length}
use Rattle.zones_live.specs.Writing.{IsTold}
use Rattle.zones_live.proofs.writing.write_record.Given as goal

-- what was taken is told
abbrev pub invariant-loop-entry : goal.invariant-loop-entry
invariant-loop-entry g l = record {
  told : IsTold (g.K.Sink.holds l.fn.out) (g.K.Sink.holds l.out) l.progress.waiting.items l.progress.taken l.progress.refused l.fn.entries l.entries;
  later : g.K.Sink.faults l.fn.out ≤ g.K.Sink.faults l.out;
}

abbrev pub decreases-loop-entry : goal.decreases-loop-entry
decreases-loop-entry g l = length l.entries

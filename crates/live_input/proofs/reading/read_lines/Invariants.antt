use Rattle.std.proofs.Common.{◌+◌, ◌≤◌}
use Rattle.std.specs.List.{All}
use Rattle.input_lines.specs.Reading.{lines_left}
use Rattle.live_input.specs.Input.{IsNumbered}
use Rattle.live_input.proofs.Further.{To_come}
use Rattle.live_input.proofs.reading.read_lines.Given as goal

-- behind what was read by now stands what is to come
abbrev pub invariant-loop-before : goal.invariant-loop-before
invariant-loop-before g l =
    let left = g.S.Source.left in
    record {
      same : To_come l.events.items l.started (l.before + 1) (lines_left l.ahead (left l.source)) (left l.fn.source);
      numbered : All IsNumbered l.events.items;
      later : g.S.Source.faults l.fn.source ≤ g.S.Source.faults l.source;
    }

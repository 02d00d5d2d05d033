use Rattle.std.proofs.Common.{◌≡◌, ◌++◌, replicate}
use Rattle.zones_run.specs.Bulk.{call_line}
use Rattle.zones_run.specs.Fixed.{text_of_lines}
use Rattle.zones_run.proofs.bulk.push_calls.Given as goal

-- as many calls are there as were put
abbrev pub invariant-loop-call : goal.invariant-loop-call
invariant-loop-call l = l.text.items ≡ l.fn.text.items ++ text_of_lines (replicate l.call (call_line l.fn.number))

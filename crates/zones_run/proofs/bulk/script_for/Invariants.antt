use Rattle.std.proofs.Common.{◌≡◌}
use Rattle.zones_run.specs.Bulk.{bulk_text}
use Rattle.zones_run.proofs.bulk.script_for.Given as goal

-- the script for the zones so far
abbrev pub invariant-loop-before : goal.invariant-loop-before
invariant-loop-before l = l.text.items ≡ bulk_text l.before

use Rattle.std.proofs.Common.{◌≡◌, ◌≤◌, take}
use Rattle.zone_cases.specs.State.{State}
use Rattle.zone_machine.specs.Code.Openings.{StandsFor}
use Rattle.zones_run.specs.Bulk.{is_installed, is_running, rows_that}
use Rattle.zones_run.proofs.bulk.count_zones.Given as goal

-- the zones so far are counted
abbrev pub invariant-loop-row : goal.invariant-loop-row
invariant-loop-row g l = record {
  running : (S : State) → StandsFor S l.fn.machine → l.counts.running ≡ rows_that is_running S (take l.row-index l.fn.rows);
  installed : (S : State) → StandsFor S l.fn.machine → l.counts.installed ≡ rows_that is_installed S (take l.row-index l.fn.rows);
  few_running : l.counts.running ≤ l.row-index;
  few_installed : l.counts.installed ≤ l.row-index;
}

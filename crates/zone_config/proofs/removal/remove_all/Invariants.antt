use Rattle.std.proofs.Common.{◌≡◌, ◌≤◌}
use Rattle.zone_config.specs.Resources.{count_of}
use Rattle.zone_config.proofs.Removing.{partly}
use Rattle.zone_config.proofs.removal.remove_all.Given as goal

abbrev pub invariant-loop-place : goal.invariant-loop-place
invariant-loop-place l = record {
  few : l.place ≤ 4294967295;
  inside : l.place ≤ count_of l.kind l.initial.config;
  tested : l.config ≡ partly l.kind l.wanted l.place l.initial.config;
}

abbrev pub decreases-loop-place : goal.decreases-loop-place
decreases-loop-place l = l.place

use Rattle.std.proofs.Common.{◌≡◌, ◌+◌, ◌-◌, ◌*◌, ◌≤◌, length}
use Rattle.zn_base.specs.Runs.{star_fits_from}
use Rattle.zn_base.proofs.pattern.star_fits.Given as goal

abbrev pub invariant-loop-next : goal.invariant-loop-next
invariant-loop-next l = record {
  same : star_fits_from l.fn.pattern l.fn.start l.fn.path l.fn.begin ≡ star_fits_from l.pattern l.at l.path l.place;
  within : l.at ≤ length l.pattern;
  within_path : l.place ≤ length l.path;
}

abbrev pub decreases-loop-next : goal.decreases-loop-next
decreases-loop-next l = (length l.path - l.place) * (length l.pattern + 1) + (length l.pattern - l.at)

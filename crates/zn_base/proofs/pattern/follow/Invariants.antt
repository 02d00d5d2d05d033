use Rattle.std.proofs.Common.{◌≡◌, ◌-◌, ◌≤◌, true, length}
use Rattle.zn_base.specs.Runs.{fits_from, star_fits_from}
use Rattle.zn_base.proofs.pattern.follow.Given as goal

-- what is left fits as the whole does, and after a star it fits where the whole does
abbrev pub invariant-loop-at : goal.invariant-loop-at
invariant-loop-at l = record {
  same : fits_from l.fn.pattern l.fn.start l.fn.path l.fn.begin ≡ fits_from l.pattern l.at l.path l.place;
  onward : star_fits_from l.fn.pattern l.fn.start l.fn.path l.fn.begin ≡ true → star_fits_from l.pattern l.at l.path l.place ≡ true;
  after : l.fn.start ≤ l.at;
  after_begin : l.fn.begin ≤ l.place;
  within : l.at ≤ length l.pattern;
  within_path : l.place ≤ length l.path;
}

abbrev pub decreases-loop-at : goal.decreases-loop-at
decreases-loop-at l = length l.pattern - l.at

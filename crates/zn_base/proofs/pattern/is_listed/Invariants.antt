use Rattle.std.proofs.Common.{◌≡◌, ◌-◌, ◌≤◌, drop, length}
use Rattle.zn_base.specs.Glob.{is_listed}
use Rattle.zn_base.proofs.pattern.is_listed.Given as goal

-- what is left lists the byte where the whole bracket does
abbrev pub invariant-loop-at : goal.invariant-loop-at
invariant-loop-at l = record {
  same : is_listed (drop l.at l.items) l.byte ≡ is_listed l.items l.byte;
  within : l.at ≤ length l.items;
}

abbrev pub decreases-loop-at : goal.decreases-loop-at
decreases-loop-at l = length l.items - l.at

use Rattle.std.proofs.Common.{◌≡◌, ◌+◌, ◌≤◌, length, map}
use Rattle.std.specs.Prelude.{bytes_eq}
use Rattle.indexmap.specs.IndexMap.{get_by, spare}
use Rattle.zn_base.specs.Names.{Name}
use Rattle.daemon_threads.specs.Gathering.{back_cell, put_all}
use Rattle.daemon_threads.proofs.dealing.gathered_back.Given as goal

-- some are back, and there is room for the rest
abbrev pub invariant-loop-back : goal.invariant-loop-back
invariant-loop-back l = record {
  put : (y : Name) → get_by (bytes_eq y) l.gathered ≡ put_all (map back_cell l.yielded) y;
  room : length l.fn.backs.items ≤ spare l.gathered + length l.yielded;
}

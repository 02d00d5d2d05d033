use Rattle.std.proofs.Common.{◌≡◌, ◌+◌, ◌≤◌, length}
use Rattle.std.specs.Prelude.{bytes_eq}
use Rattle.indexmap.specs.IndexMap.{get_by, spare}
use Rattle.zn_base.specs.Names.{Name}
use Rattle.daemon_threads.specs.Gathering.{put_all}
use Rattle.daemon_threads.proofs.dealing.gathered.Given as goal

-- some are back, and there is room for the rest
abbrev pub invariant-loop-cell : goal.invariant-loop-cell
invariant-loop-cell l = record {
  put : (y : Name) → get_by (bytes_eq y) l.gathered ≡ put_all l.yielded y;
  room : length l.fn.cells.items ≤ spare l.gathered + length l.yielded;
}

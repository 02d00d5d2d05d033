use Rattle.std.proofs.Common.{◌≡◌, ◌+◌, ◌++◌, List, length}
use Rattle.zn_base.specs.Names.{Name}
use Rattle.zone_cases.specs.declared.cell.Cell.{Cell}
use Rattle.daemon_threads.specs.Dealing.{IsRoomFor}
use Rattle.daemon_threads.proofs.dealing.shown_zones.Given as goal

-- some are named, and the rest is to come
abbrev pub invariant-loop-zone : goal.invariant-loop-zone
invariant-loop-zone l = (done : List (Name × Cell)) × (done ++ l.zone-iterator ≡ l.cells.entries) × IsRoomFor done (length l.cells.entries + 1) l.dealt

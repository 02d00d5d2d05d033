use Rattle.std.proofs.Common.{◌≡◌, ◌+◌, ◌≤◌, ◌++◌, ◌∷◌, [], List, length, map}
use Rattle.std.specs.Prelude.{vec_capacity}
use Rattle.indexmap.specs.IndexMap.{spare}
use Rattle.zn_base.specs.Names.{Name}
use Rattle.zone_cases.specs.declared.cell.Cell.{Cell}
use Rattle.zone_machine.specs.Code.Shown_zones.{shown_in}
use Rattle.daemon_threads.specs.Dealing.{names_of, place_cell, shown_all}
use Rattle.daemon_threads.specs.declared.cell.PlaceCell.TheVariants as cells
use Rattle.daemon_threads.proofs.dealing.in_places.Given as goal

-- some lie in their places, and there is room for the rest
abbrev pub invariant-loop-zone : goal.invariant-loop-zone
invariant-loop-zone l = record {
  done : List (Name × Cell);
  whole : done ++ l.zone-iterator ≡ l.fn.cells.entries;
  zones : l.dealt.zones.items ≡ names_of l.fn.cells.entries;
  shown : (y : Name) → shown_in l.dealt.shown y ≡ shown_all l.fn.cells.entries y;
  cells_are : l.dealt.cells.items ≡ cells.Global ∷ map place_cell done;
  none : l.dealt.room.entries ≡ [];
  capacity : length l.fn.cells.entries + 1 ≤ vec_capacity l.dealt.cells;
  fits : length l.fn.cells.entries + 1 ≤ spare l.dealt.room;
}

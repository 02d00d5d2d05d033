use Rattle.std.proofs.Common.{◌≡◌, All, take}
use Rattle.index_file.specs.Index.{index_text, IsIndexRow}
use Rattle.index_file.proofs.printing.print_index.Given as goal

abbrev pub invariant-loop-row : goal.invariant-loop-row
invariant-loop-row l = record {
  text : l.text.items ≡ index_text (take l.row-index l.rows);
  each : All IsIndexRow (take l.row-index l.rows);
}

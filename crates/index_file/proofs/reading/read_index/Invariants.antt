use Rattle.std.proofs.Common.{◌≡◌, ◌++◌, length}
use Rattle.index_file.specs.Index.{index_text, IsIndex}
use Rattle.index_file.proofs.reading.read_index.Given as goal

abbrev pub invariant-loop-rest : goal.invariant-loop-rest
invariant-loop-rest l = record {
  index : IsIndex l.rows.items;
  lines : l.text ≡ index_text l.rows.items ++ l.rest;
}

abbrev pub decreases-loop-rest : goal.decreases-loop-rest
decreases-loop-rest l = length l.rest

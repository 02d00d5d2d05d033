use Rattle.std.proofs.Common.{◌≡◌, ◌≤◌, ◌*◌, length, take}
use Rattle.std.specs.List.{flat_map}
use Rattle.config_terms.specs.Texts.{limit_line}
use Rattle.config_terms.proofs.lines.limit_lines_length.Given as goal

abbrev pub invariant-loop-value : goal.invariant-loop-value
invariant-loop-value l = record {
  so_far : l.total ≡ length (flat_map limit_line (take l.value-index l.values));
  bound : l.total ≤ 111 * l.value-index;
}

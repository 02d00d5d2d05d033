use Rattle.std.proofs.Common.{◌≡◌, ◌≤◌, ◌*◌, ◌∷◌, length, take}
use Rattle.std.specs.List.{flat_map}
use Rattle.config_terms.proofs.lines.more_options_length.Given as goal

abbrev pub invariant-loop-option : goal.invariant-loop-option
invariant-loop-option l = record {
  so_far : l.total ≡ length (flat_map (λ o. 44 ∷ o) (take l.option-index l.options));
  bound : l.total ≤ 4201 * l.option-index;
}

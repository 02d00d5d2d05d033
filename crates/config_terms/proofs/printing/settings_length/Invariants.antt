use Rattle.std.proofs.Common.{◌≡◌, ◌≤◌, ◌*◌, length, take}
use Rattle.std.specs.List.{flat_map}
use Rattle.config_terms.specs.Fields.{field_name}
use Rattle.config_terms.specs.Texts.{setting}
use Rattle.config_terms.proofs.printing.settings_length.Given as goal

abbrev pub invariant-loop-field : goal.invariant-loop-field
invariant-loop-field g l = record {
  so_far : l.total ≡ length (flat_map (λ f. setting (field_name f) (g.T.Entry.shown l.entry f)) (take l.field-index l.field-items));
  bound : l.total ≤ 4308 * l.field-index;
}

use Rattle.std.proofs.Common.{◌≡◌, ◌++◌, take}
use Rattle.std.specs.List.{flat_map}
use Rattle.config_terms.specs.Fields.{field_name}
use Rattle.config_terms.specs.Texts.{setting}
use Rattle.config_terms.proofs.printing.push_settings.Given as goal

abbrev pub invariant-loop-field : goal.invariant-loop-field
invariant-loop-field g l =
    l.out.items ≡ l.fn.out.items ++ flat_map (λ f. setting (field_name f) (g.T.Entry.shown l.entry f)) (take l.field-index l.field-items)

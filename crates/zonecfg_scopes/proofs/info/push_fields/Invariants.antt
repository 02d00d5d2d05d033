use Rattle.std.proofs.Common.{◌≡◌, ◌++◌, take}
use Rattle.std.specs.List.{flat_map}
use Rattle.config_terms.specs.Fields.{field_name}
use Rattle.zonecfg_scopes.specs.Info.{set_line}
use Rattle.zonecfg_scopes.proofs.info.push_fields.Given as goal

abbrev pub invariant-loop-field : goal.invariant-loop-field
invariant-loop-field g l = l.out ≡ l.fn.out ++ flat_map (λ f. set_line (field_name f) (g.T.Entry.shown l.entry f)) (take l.field-index l.field-items)

-- The one text of a configuration (zonecfg(8), export), and the bound that it keeps.
use Rattle.std.specs.Prelude.{ℕ, List, [], ◌∷◌, ◌++◌, length, nat_lt, Result, Ok, Err, codes, if◌then◌else◌}
use Rattle.std.specs.List.{flat_map}
use Rattle.config_terms.specs.declared.fault.ConfigFault.{ConfigFault}
use Rattle.config_terms.specs.declared.fault.ConfigFault.TheVariants.{TooLarge}
use Rattle.config_terms.specs.declared.terms.Kind.{Kind}
use Rattle.config_terms.specs.Fields.{kinds}
use Rattle.config_terms.specs.Texts.{setting}
use Rattle.zone_config.specs.declared.limits.TheConstants.{TEXT_MAX}
use Rattle.zone_config.specs.declared.terms.Contents.{Contents}
use Rattle.zone_config.specs.declared.terms.Property.{Property}
use Rattle.zone_config.specs.Kinds.{by_kind}
use Rattle.zone_config.specs.Property.{property_name, properties, shown}

abbrev pub property_line : Contents → Property → List ℕ
property_line c p = setting (property_name p) (shown p c)

-- the texts of the resources of a kind
abbrev pub kind_text : Contents → Kind → List ℕ
kind_text c k = by_kind k (λ A row. flat_map row.text (row.list c))

-- the lines of a new configuration, of each property that is set, and of each resource, kind by kind
unfoldable pub export_text : Contents → List ℕ
export_text c = codes "create -b" ++ 10 ∷ [] ++ flat_map (property_line c) properties ++ flat_map (kind_text c) kinds

abbrev pub unless_larger : ℕ → Contents → Result Contents ConfigFault
unless_larger size c = if nat_lt TEXT_MAX size then Err (TooLarge size) else Ok c

-- the configuration, unless its export text is too long
abbrev pub sized : Contents → Result Contents ConfigFault
sized c = unless_larger (length (export_text c)) c

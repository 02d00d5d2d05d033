-- The lines that the editor shows: those of `help`, `export` and `info` (zonecfg(8), SUBCOMMANDS).
use Rattle.std.specs.Prelude.{ℕ, List, [], ◌∷◌, ◌++◌, Option, Some, None, codes, find, map}
use Rattle.std.specs.List.{flat_map, join_with_byte}
use Rattle.zn_base.specs.Lines.{lines_of}
use Rattle.config_terms.specs.declared.fields.Field.{Field}
use Rattle.config_terms.specs.declared.terms.Kind.{Kind}
use Rattle.config_terms.specs.declared.terms.Limit.{Limit}
use Rattle.config_terms.specs.declared.terms.Rctl.{Rctl}
use Rattle.config_terms.specs.declared.terms.Resource.{Resource}
use Rattle.config_terms.specs.declared.terms.Resource.TheVariants as resource
use Rattle.config_terms.specs.Fields.{field_name, fields_of, kind_name, kind_of, kinds, resource_options, resource_shown, resource_values}
use Rattle.config_terms.specs.Texts.{joined, limit_text, options_text}
use Rattle.zone_config.specs.declared.terms.Alias.{Alias}
use Rattle.zone_config.specs.declared.terms.Contents.{Contents}
use Rattle.zone_config.specs.declared.terms.Property.{Property}
use Rattle.zone_config.specs.declared.terms.Setting.TheVariants.{Aliased, Kept}
use Rattle.zone_config.specs.Edits.{is_named_for}
use Rattle.zone_config.specs.Export.{export_text}
use Rattle.zone_config.specs.Kinds.{by_kind}
use Rattle.zone_config.specs.Property.{properties, property_name, shown}
use Rattle.zonecfg_scopes.specs.declared.command.Topic.{Topic}
use Rattle.zonecfg_scopes.specs.declared.command.Topic.TheVariants.{Everything, Resources, Setting}
use Rattle.zonecfg_scopes.specs.Commands.{verb_name, verbs}
use Rattle.zonecfg_scopes.specs.Open.{Open, Nothing, Whole, Inside}

-- the line of `help`: the words that begin subcommands, with spaces between them
unfoldable pub help_line : List ℕ
help_line = join_with_byte 32 (map verb_name verbs)

-- the line of a name and a value
abbrev pub named_line : List ℕ → List ℕ → List ℕ
named_line name value = joined (name ∷ codes ": " ∷ value ∷ [])

-- the line of a property of the global scope: nothing stands after the colon and the space where it is unset
abbrev pub property_line : Contents → Property → List ℕ
property_line c p = named_line (property_name p) (shown p c)

-- the line of a property of a resource, where it is set
unfoldable pub set_line : List ℕ → List ℕ → List (List ℕ)
set_line name [] = []
set_line name (b ∷ value) = joined (codes "    " ∷ name ∷ codes ": " ∷ (b ∷ value) ∷ []) ∷ []

-- the line of the options, where there are any
unfoldable pub options_line : List (List ℕ) → List (List ℕ)
options_line [] = []
options_line (o ∷ os) = (codes "    options: " ++ options_text (o ∷ os)) ∷ []

-- the line of a value of an rctl
unfoldable pub limit_line : Limit → List ℕ
limit_line v = codes "    value: " ++ limit_text v

-- the lines of the simple properties of a kind, by what each shows
unfoldable pub field_lines : Kind → (Field → List ℕ) → List (List ℕ)
field_lines k shown = flat_map (λ f. set_line (field_name f) (shown f)) (fields_of k)

-- the lines of a resource of a kind, by what its simple properties show and by what its lists have
unfoldable pub entry_lines : Kind → (Field → List ℕ) → List (List ℕ) → List Limit → List (List ℕ)
entry_lines k shown options values = (kind_name k ++ codes ":") ∷ field_lines k shown ++ options_line options ++ map limit_line values

abbrev pub resource_lines : Resource → List (List ℕ)
resource_lines r = entry_lines (kind_of r) (resource_shown r) (resource_options r) (resource_values r)

-- the lines of all resources of a kind, in their order
unfoldable pub kind_lines : Contents → Kind → List (List ℕ)
kind_lines c k = by_kind k (λ A row. flat_map (λ x. resource_lines (row.make x)) (row.list c))

abbrev pub rctl_lines_if : Option Rctl → List (List ℕ)
rctl_lines_if None = []
rctl_lines_if (Some r) = resource_lines (resource.Rctl r)

-- the lines of the rctl that has the name of an alias's, whatever its form, where there is one
unfoldable pub alias_lines : Alias → Contents → List (List ℕ)
alias_lines a c = rctl_lines_if (find (is_named_for a) c.rctl)

-- the lines of a whole configuration: the zone's name, each property, and each resource, kind by kind
unfoldable pub all_lines : List ℕ → Contents → List (List ℕ)
all_lines name c = named_line (codes "zonename") name ∷ map (property_line c) properties ++ flat_map (kind_lines c) kinds

-- the lines of what `info` shows of a configuration, by the zone's name
unfoldable pub topic_lines : Topic → List ℕ → Contents → List (List ℕ)
topic_lines Everything name c = all_lines name c
topic_lines (Setting (Kept p)) name c = property_line c p ∷ []
topic_lines (Setting (Aliased a)) name c = alias_lines a c
topic_lines (Resources k) name c = kind_lines c k

-- the lines of `info`: in the scope of a resource those of that resource
unfoldable pub info_lines : Topic → List ℕ → Open → List (List ℕ)
info_lines topic name Nothing = []
info_lines topic name (Whole c) = topic_lines topic name c
info_lines topic name (Inside c r at) = resource_lines r

-- the lines of `export`, which the global scope alone has
unfoldable pub export_lines : Open → List (List ℕ)
export_lines (Whole c) = lines_of (export_text c)
export_lines o = []

-- The commands of an export text, and the lines that say them (zonecfg(8), export).
use Rattle.std.specs.Prelude.{ℕ, List, [], ◌∷◌, ◌++◌, map, codes}
use Rattle.std.specs.List.{flat_map}
use Rattle.config_terms.specs.Fields.{field_name, fields_of, kind_name, kind_of, kinds, resource_options, resource_shown, resource_values}
use Rattle.config_terms.specs.Texts.{limit_text, options_text, value_text}
use Rattle.config_terms.specs.declared.fields.Field.{Field}
use Rattle.config_terms.specs.declared.terms.Kind.{Kind}
use Rattle.config_terms.specs.declared.terms.Limit.{Limit}
use Rattle.config_terms.specs.declared.terms.Resource.{Resource}
use Rattle.export_read.specs.declared.command.Command.{Command}
use Rattle.export_read.specs.declared.command.Command.TheVariants.{Create, Set, Open, Options, Value, End}
use Rattle.zone_config.specs.Kinds.{by_kind}
use Rattle.zone_config.specs.Property.{properties, property_name, shown}
use Rattle.zone_config.specs.declared.terms.Contents.{Contents}
use Rattle.zone_config.specs.declared.terms.Property.{Property}

-- the line of a command, without its newline
abbrev pub line_of : Command → List ℕ
line_of Create = codes "create -b"
line_of (Set name value) = codes "set " ++ (name ++ (codes "=" ++ value_text value))
line_of (Open kind) = codes "add " ++ kind_name kind
line_of (Options options) = codes "add options " ++ options_text options
line_of (Value limit) = codes "add value " ++ limit_text limit
line_of End = codes "end"

-- a property is set where it shows something
abbrev pub where_set : List ℕ → List ℕ → List Command
where_set name [] = []
where_set name (b ∷ value) = Set name (b ∷ value) ∷ []

abbrev pub where_any : List (List ℕ) → List Command
where_any [] = []
where_any (o ∷ options) = Options (o ∷ options) ∷ []

-- the commands of a resource of a kind, by what its simple properties show and by what its lists have
abbrev pub entry_commands : Kind → (Field → List ℕ) → List (List ℕ) → List Limit → List Command
entry_commands k shown options values =
    Open k ∷ (flat_map (λ f. where_set (field_name f) (shown f)) (fields_of k) ++ (where_any options ++ (map (λ v. Value v) values ++ End ∷ [])))

abbrev pub resource_commands : Resource → List Command
resource_commands r = entry_commands (kind_of r) (resource_shown r) (resource_options r) (resource_values r)

-- the commands of the resources of a kind
abbrev pub kind_commands : Contents → Kind → List Command
kind_commands c k = by_kind k (λ A row. flat_map (λ x. resource_commands (row.make x)) (row.list c))

abbrev pub property_commands : Contents → Property → List Command
property_commands c p = where_set (property_name p) (shown p c)

-- the commands of an export text, in order
unfoldable pub script : Contents → List Command
script c = Create ∷ (flat_map (property_commands c) properties ++ flat_map (kind_commands c) kinds)

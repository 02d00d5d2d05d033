-- The tables of resources: their names, their simple properties with names and rules, and what each shows.
use Rattle.std.specs.Prelude.{ℕ, List, [], ◌∷◌, Bool, false, Option, Some, None, find, codes, if◌then◌else◌}
use Rattle.std.specs.Str.{bytes_eq}
use Rattle.config_terms.specs.declared.fields.Field.{Field}
use Rattle.config_terms.specs.declared.fields.Field.TheVariants.{FsDir, FsSpecial, FsRaw, FsType, NetAddress, NetAllowed, NetPhysical, NetDefrouter, DeviceMatch, RctlName, AttrName, AttrType, AttrValue, DatasetName}
use Rattle.config_terms.specs.declared.fields.Named.{Named}
use Rattle.config_terms.specs.declared.fields.Named.TheVariants.{One, Many}
use Rattle.config_terms.specs.declared.rules.Rule.{Rule}
use Rattle.config_terms.specs.declared.rules.Rule.TheVariants.{RootedPath, Simple, TypeWord, ControlName, AttributeName, AttributeForm}
use Rattle.config_terms.specs.declared.terms.Limit.{Limit}
use Rattle.config_terms.specs.declared.terms.Kind.{Kind}
use Rattle.config_terms.specs.declared.terms.Kind.TheVariants as kind
use Rattle.config_terms.specs.declared.terms.Resource.{Resource}
use Rattle.config_terms.specs.declared.terms.Resource.TheVariants.{Fs, Rctl}
use Rattle.config_terms.specs.Kinds.{by_kind, by_resource}
pub use Rattle.config_terms.specs.Entries.{attr_shown, fs_shown, net_shown, path_text, rctl_shown, text_shown}

abbrev pub kind_name : Kind → List ℕ
kind_name k = by_kind k (λ A row. row.name)

-- all of them, in the order of an export text
abbrev pub kinds : List Kind
kinds = kind.Fs ∷ kind.Net ∷ kind.Device ∷ kind.Rctl ∷ kind.Attr ∷ kind.Dataset ∷ []

abbrev pub kind_named : List ℕ → Option Kind
kind_named name = find (λ k. bytes_eq name (kind_name k)) kinds

abbrev pub field_name : Field → List ℕ
field_name FsDir = codes "dir"
field_name FsSpecial = codes "special"
field_name FsRaw = codes "raw"
field_name FsType = codes "type"
field_name NetAddress = codes "address"
field_name NetAllowed = codes "allowed-address"
field_name NetPhysical = codes "physical"
field_name NetDefrouter = codes "defrouter"
field_name DeviceMatch = codes "match"
field_name RctlName = codes "name"
field_name AttrName = codes "name"
field_name AttrType = codes "type"
field_name AttrValue = codes "value"
field_name DatasetName = codes "name"

abbrev pub field_rule : Field → Rule
field_rule FsDir = RootedPath
field_rule FsSpecial = Simple
field_rule FsRaw = Simple
field_rule FsType = TypeWord
field_rule NetAddress = Simple
field_rule NetAllowed = Simple
field_rule NetPhysical = Simple
field_rule NetDefrouter = Simple
field_rule DeviceMatch = Simple
field_rule RctlName = ControlName
field_rule AttrName = AttributeName
field_rule AttrType = AttributeForm
field_rule AttrValue = Simple
field_rule DatasetName = Simple

-- the simple properties of a kind, in the order in which they are printed
abbrev pub fields_of : Kind → List Field
fields_of k = by_kind k (λ A row. row.fields)

-- the property that is a list of a kind, if it has one
abbrev pub list_name : Kind → Option (List ℕ)
list_name k = by_kind k (λ A row. row.list_name)

-- the property by which two resources of a kind are told apart, if there is one
abbrev pub key_field : Kind → Option Field
key_field k = by_kind k (λ A row. row.key)

-- the simple property of a kind that has a name
abbrev pub field_named : Kind → List ℕ → Option Field
field_named k name = find (λ f. bytes_eq name (field_name f)) (fields_of k)

abbrev pub is_name_of_list : Option (List ℕ) → List ℕ → Bool
is_name_of_list None name = false
is_name_of_list (Some own) name = bytes_eq name own

abbrev pub simple_or_list : Option Field → Bool → Option Named
simple_or_list (Some f) listed = Some (One f)
simple_or_list None listed = if listed then Some Many else None

-- what a name stands for in a resource of a kind
abbrev pub named : Kind → List ℕ → Option Named
named k name = simple_or_list (field_named k name) (is_name_of_list (list_name k) name)

abbrev pub kind_of : Resource → Kind
kind_of r = by_resource r (λ A row a. row.kind)

-- the options of a resource, which an fs alone may have
abbrev pub resource_options : Resource → List (List ℕ)
resource_options (Fs f) = f.options
resource_options _ = []

-- the values of a resource, which an rctl alone may have
abbrev pub resource_values : Resource → List Limit
resource_values (Rctl r) = r.values
resource_values _ = []

-- what each property of a resource shows: nothing where it isn't set
abbrev pub resource_shown : Resource → Field → List ℕ
resource_shown r = by_resource r (λ A row a. row.shown a)

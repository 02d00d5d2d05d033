-- The lines of an export text.
use Rattle.std.specs.Prelude.{ℕ, List, [], ◌∷◌, ◌++◌, Bool, true, false, ◌||◌, ◌==◌, codes, decimal, if◌then◌else◌}
use Rattle.std.specs.List.{list_all, list_any, flat_map}
use Rattle.config_terms.specs.declared.fields.Field.{Field}
use Rattle.config_terms.specs.declared.terms.Attr as attr
use Rattle.config_terms.specs.declared.terms.Fs as fs
use Rattle.config_terms.specs.declared.terms.Limit.{Limit}
use Rattle.config_terms.specs.declared.terms.Net as net
use Rattle.config_terms.specs.declared.terms.Rctl as rctl
use Rattle.config_terms.specs.declared.terms.Kind.{Kind}
use Rattle.config_terms.specs.declared.terms.Resource.{Resource}
use Rattle.config_terms.specs.declared.terms.Resource.TheVariants.{Fs, Net, Device, Rctl, Attr, Dataset}
use Rattle.config_terms.specs.Rules.{is_alphanumeric}
use Rattle.config_terms.specs.Fields.{kind_name, field_name, fields_of, kind_of, resource_shown, resource_options, resource_values}

-- letters, digits and `_-./:,*?!@+%`
abbrev pub is_bare_byte : ℕ → Bool
is_bare_byte b = is_alphanumeric b || list_any (λ c. b == c) (codes "_-./:,*?!@+%")

-- bare where each byte may stand so, and else in double quotes
abbrev pub value_text : List ℕ → List ℕ
value_text value = if list_all is_bare_byte value then value else 34 ∷ value ++ 34 ∷ []

-- the line that sets a property, where it is set
unfoldable pub setting : List ℕ → List ℕ → List ℕ
setting name [] = []
setting name (b ∷ value) = codes "set " ++ name ++ codes "=" ++ value_text (b ∷ value) ++ 10 ∷ []

-- pieces of text, one after another
abbrev pub joined : List (List ℕ) → List ℕ
joined pieces = flat_map (λ p. p) pieces

abbrev pub action : Bool → List ℕ
action true = codes "deny"
action false = codes "none"

-- one value of an rctl
unfoldable pub limit_text : Limit → List ℕ
limit_text v = joined (codes "(priv=privileged,limit=" ∷ decimal v.limit ∷ codes ",action=" ∷ action v.deny ∷ codes ")" ∷ [])

unfoldable pub limit_line : Limit → List ℕ
limit_line v = joined (codes "add value " ∷ limit_text v ∷ codes "\n" ∷ [])

unfoldable pub limit_lines : List Limit → List ℕ
limit_lines values = flat_map limit_line values

-- some options in square brackets
abbrev pub bracketed : List ℕ → List (List ℕ) → List ℕ
bracketed o os = joined (codes "[" ∷ o ∷ flat_map (λ x. 44 ∷ x) os ∷ codes "]" ∷ [])

unfoldable pub options_text : List (List ℕ) → List ℕ
options_text [] = codes "[]"
options_text (o ∷ os) = bracketed o os

abbrev pub bracketed_line : List ℕ → List (List ℕ) → List ℕ
bracketed_line o os = joined (codes "add options " ∷ bracketed o os ∷ codes "\n" ∷ [])

-- the line of the options, where there are any
unfoldable pub options_line : List (List ℕ) → List ℕ
options_line [] = []
options_line (o ∷ os) = bracketed_line o os

-- the lines of the simple properties of a kind, by what each shows
unfoldable pub settings : Kind → (Field → List ℕ) → List ℕ
settings k shown = flat_map (λ f. setting (field_name f) (shown f)) (fields_of k)

-- a resource of a kind, by what its simple properties show and by what its lists have
unfoldable pub entry_text : Kind → (Field → List ℕ) → List (List ℕ) → List Limit → List ℕ
entry_text k shown options values =
    joined (codes "add " ∷ kind_name k ∷ codes "\n" ∷ settings k shown ∷ options_line options ∷ limit_lines values ∷ codes "end\n" ∷ [])

-- the text of a resource
abbrev pub resource_text : Resource → List ℕ
resource_text r = entry_text (kind_of r) (resource_shown r) (resource_options r) (resource_values r)

-- the same by the type of its kind
abbrev pub fs_text : fs.Fs → List ℕ
fs_text f = resource_text (Fs f)

abbrev pub net_text : net.Net → List ℕ
net_text n = resource_text (Net n)

abbrev pub device_text : List ℕ → List ℕ
device_text m = resource_text (Device m)

abbrev pub rctl_text : rctl.Rctl → List ℕ
rctl_text r = resource_text (Rctl r)

abbrev pub attr_text : attr.Attr → List ℕ
attr_text a = resource_text (Attr a)

abbrev pub dataset_text : List ℕ → List ℕ
dataset_text d = resource_text (Dataset d)

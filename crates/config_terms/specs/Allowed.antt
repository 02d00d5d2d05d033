-- What a resource may hold, and how two are told apart.
use Rattle.std.specs.Prelude.{ℕ, List, [], ◌∷◌, length, Bool, true, false, nat_lt, not, ◌&&◌, ◌==◌, Option, Some, None, if◌then◌else◌}
use Rattle.std.specs.List.{list_all, list_any}
use Rattle.std.specs.Str.{bytes_eq}
use Rattle.config_terms.specs.declared.fields.Field.{Field}
use Rattle.config_terms.specs.declared.rules.Rule.TheVariants.{OptionWord}
use Rattle.config_terms.specs.declared.terms.Attr as attr
use Rattle.config_terms.specs.declared.terms.Fs as fs
use Rattle.config_terms.specs.declared.terms.Limit.{Limit}
use Rattle.config_terms.specs.declared.terms.Net as net
use Rattle.config_terms.specs.declared.terms.Rctl as rctl
use Rattle.config_terms.specs.declared.terms.Kind.{Kind}
use Rattle.config_terms.specs.declared.terms.Resource.{Resource}
use Rattle.config_terms.specs.declared.terms.Resource.TheVariants.{Fs, Net, Device, Rctl, Attr, Dataset}
use Rattle.config_terms.specs.Numbers.{is_limit}
use Rattle.config_terms.specs.Rules.{obeys, fits}
use Rattle.config_terms.specs.Fields.{fields_of, field_rule, key_field, kind_of, resource_options, resource_shown, resource_values}

abbrev pub is_allowed_limit : Limit → Bool
is_allowed_limit v = is_limit v.limit

-- whether each simple property of a kind is unset or obeys its rule
unfoldable pub fields_fit : Kind → (Field → List ℕ) → Bool
fields_fit k shown = list_all (λ f. fits (field_rule f) (shown f)) (fields_of k)

-- whether a resource of a kind is allowed, by what its simple properties show and by what its lists have
unfoldable pub entry_allowed : Kind → (Field → List ℕ) → List (List ℕ) → List Limit → Bool
entry_allowed k shown options values = fields_fit k shown && list_all (obeys OptionWord) options && list_all is_allowed_limit values

-- a path that is set isn't empty
abbrev pub is_kept_path : Option (List ℕ) → Bool
is_kept_path None = true
is_kept_path (Some path) = not (length path == 0)

-- whether the path of a file system, if it is set, isn't empty
abbrev pub is_whole : Resource → Bool
is_whole (Fs f) = is_kept_path f.dir
is_whole _ = true

-- whether a resource may stand in a configuration
abbrev pub is_allowed : Resource → Bool
is_allowed r = is_whole r && entry_allowed (kind_of r) (resource_shown r) (resource_options r) (resource_values r)

-- the same by the type of its kind
abbrev pub fs_allowed : fs.Fs → Bool
fs_allowed f = is_allowed (Fs f)

abbrev pub net_allowed : net.Net → Bool
net_allowed n = is_allowed (Net n)

abbrev pub device_allowed : List ℕ → Bool
device_allowed m = is_allowed (Device m)

abbrev pub rctl_allowed : rctl.Rctl → Bool
rctl_allowed r = is_allowed (Rctl r)

abbrev pub attr_allowed : attr.Attr → Bool
attr_allowed a = is_allowed (Attr a)

abbrev pub dataset_allowed : List ℕ → Bool
dataset_allowed d = is_allowed (Dataset d)

-- the limit that the options of a resource pass, if they pass one
abbrev pub options_passed : Resource → Option ℕ
options_passed (Fs f) = if nat_lt 32 (length f.options) then Some 32 else None
options_passed _ = None

-- whether one of a list has a key
abbrev pub has_key : {A : Type 0} → (A → List ℕ) → List ℕ → List A → Bool
has_key key k xs = list_any (λ x. bytes_eq (key x) k) xs

-- no two of a list have one key
abbrev pub are_distinct : {A : Type 0} → (A → List ℕ) → List A → Bool
are_distinct key [] = true
are_distinct key (x ∷ xs) = not (has_key key (key x) xs) && are_distinct key xs

abbrev pub are_distinct_in : {A : Type 0} → (A → Field → List ℕ) → Option Field → List A → Bool
are_distinct_in shown None xs = true
are_distinct_in shown (Some f) xs = are_distinct (λ x. shown x f) xs

-- whether no two of a kind have one key, where the kind has a key
abbrev pub are_told_apart : {A : Type 0} → (A → Field → List ℕ) → Kind → List A → Bool
are_told_apart shown k xs = are_distinct_in shown (key_field k) xs

-- whether one of a list of a kind has the key of a resource, where the kind has a key
abbrev pub is_taken_by : {A : Type 0} → (A → Field → List ℕ) → Option Field → A → List A → Bool
is_taken_by shown None x xs = false
is_taken_by shown (Some f) x xs = has_key (λ y. shown y f) (shown x f) xs

abbrev pub is_taken : {A : Type 0} → (A → Field → List ℕ) → Kind → A → List A → Bool
is_taken shown k x xs = is_taken_by shown (key_field k) x xs

-- whether a resource of a kind has the key of another, where the kind has a key
abbrev pub keeps_key_by : {A : Type 0} → (A → Field → List ℕ) → Option Field → A → A → Bool
keeps_key_by shown None x y = true
keeps_key_by shown (Some f) x y = bytes_eq (shown x f) (shown y f)

abbrev pub keeps_key : {A : Type 0} → (A → Field → List ℕ) → Kind → A → A → Bool
keeps_key shown k x y = keeps_key_by shown (key_field k) x y

-- What each edit makes of one resource.
use Rattle.std.specs.Prelude.{◌≡◌, ℕ, List, [], ◌∷◌, ◌++◌, length, Bool, false, nat_lt, ◌&&◌, ◌==◌, Option, Some, None, Result, Ok, Err, codes, position, remove, option_map, option_and_then, ok_or, if◌then◌else◌}
use Rattle.std.specs.List.{list_all}
use mathlib.Core.Bool.{beq}
use Rattle.std.specs.Str.{bytes_eq}
use Rattle.zn_base.specs.declared.values.Pair.{Pair}
use Rattle.zn_base.specs.declared.values.Value.{Value}
use Rattle.zn_base.specs.declared.values.Value.TheVariants.{Simple, Complex, List as Items}
use Rattle.config_terms.specs.declared.lists.ListEdit.{ListEdit}
use Rattle.config_terms.specs.declared.lists.ListEdit.TheVariants.{Put, Add, Remove}
use Rattle.config_terms.specs.declared.fault.ConfigFault.{ConfigFault}
use Rattle.config_terms.specs.declared.fault.ConfigFault.TheVariants.{Memory, UnknownProperty, BadValue, NoMatch, TooMany}
use Rattle.config_terms.specs.declared.fields.Field.{Field}
use Rattle.config_terms.specs.declared.fields.Named.{Named}
use Rattle.config_terms.specs.declared.fields.Named.TheVariants.{One, Many}
use Rattle.config_terms.specs.declared.rules.Rule.TheVariants.{OptionWord}
use Rattle.config_terms.specs.declared.terms.Fs as fs
use Rattle.config_terms.specs.declared.terms.Limit.{Limit}
use Rattle.config_terms.specs.declared.terms.Rctl as rctl
use Rattle.config_terms.specs.declared.terms.Kind.{Kind}
use Rattle.config_terms.specs.declared.terms.Resource.{Resource}
use Rattle.config_terms.specs.declared.terms.Resource.TheVariants.{Fs, Rctl}
use Rattle.config_terms.specs.Numbers.{number_of}
use Rattle.config_terms.specs.Rules.{obeys, is_one_of}
use Rattle.config_terms.specs.Fields.{field_rule, named, kind_of}
use Rattle.config_terms.specs.Kinds.{by_kind, by_resource}
pub use Rattle.config_terms.specs.Entries.{attr_with, dataset_with, device_with, fs_with, kept_path, net_with, rctl_with}

-- what was said came to be, or memory ran out, or it was refused; after a fault all is as before
abbrev pub Changes : {A : Type 0} → A → A → Result (Unit {0}) ConfigFault → Result A ConfigFault → Type 0
Changes old new (Ok _) said = said ≡ Ok new
Changes old new (Err Memory) said = new ≡ old
Changes old new (Err e) said = (said ≡ Err e) × (new ≡ old)

-- the same of a call that takes no memory
abbrev pub ChangesSurely : {A : Type 0} → A → A → Result (Unit {0}) ConfigFault → Result A ConfigFault → Type 0
ChangesSurely old new (Ok _) said = said ≡ Ok new
ChangesSurely old new (Err e) said = (said ≡ Err e) × (new ≡ old)

-- a resource of which nothing is set
abbrev pub empty : Kind → Resource
empty k = by_kind k (λ A row. row.make row.empty)

-- a text put in the place of a property; an empty one unsets it
abbrev pub with_field : Field → List ℕ → Resource → Resource
with_field field text r = by_resource r (λ A row a. row.make (row.put field text a))

abbrev pub with_dir : Option (List ℕ) → Resource → Resource
with_dir dir (Fs f) = Fs (record f { dir = dir })
with_dir dir r = r

-- a simple value put in the place of a property, where its rule allows the value
abbrev pub field_set : Field → Value → Resource → Result Resource ConfigFault
field_set field (Simple text) r = if obeys (field_rule field) text then Ok (with_field field text r) else Err BadValue
field_set field value r = Err BadValue

abbrev pub option_texts : List (List ℕ) → Option (List (List ℕ))
option_texts texts = if list_all (obeys OptionWord) texts then Some texts else None

-- the options that a value gives; an empty text gives none where it is put, and is no option elsewhere
abbrev pub options_given : ListEdit → Value → Option (List (List ℕ))
options_given Put (Simple []) = Some []
options_given edit (Simple text) = option_texts (text ∷ [])
options_given edit (Items texts) = option_texts texts
options_given edit (Complex pairs) = None

abbrev pub is_pair : List ℕ → List ℕ → Pair → Bool
is_pair name value p = bytes_eq p.name name && bytes_eq p.value value

abbrev pub is_action : Pair → Bool
is_action p = bytes_eq p.name (codes "action") && is_one_of (codes "deny" ∷ codes "none" ∷ []) p.value

-- whether pairs are `priv=privileged`, `limit=` and `action=deny` or `action=none`
abbrev pub are_limit_pairs : Pair → Pair → Pair → Bool
are_limit_pairs p l a = is_pair (codes "priv") (codes "privileged") p && bytes_eq l.name (codes "limit") && is_action a

abbrev pub limit_of_pairs : Pair → Pair → Pair → Option Limit
limit_of_pairs p l a =
    if are_limit_pairs p l a then option_map (λ n. record { limit = n; deny = bytes_eq a.value (codes "deny") }) (number_of l.value) else None

-- the value of an rctl that pairs are
abbrev pub limit_of : List Pair → Option Limit
limit_of (p ∷ l ∷ a ∷ []) = limit_of_pairs p l a
limit_of pairs = None

-- the value of an rctl that a value gives
abbrev pub limit_given : Value → Option Limit
limit_given (Complex pairs) = limit_of pairs
limit_given value = None

-- a list without the first item of a test
abbrev pub without_first : {A : Type 0} → (A → Bool) → List A → Option (List A)
without_first test xs = option_map (remove xs) (position test xs)

-- a list without the first equal item of each one given, if all are there
abbrev pub without_each : {A : Type 0} → (A → A → Bool) → List A → List A → Option (List A)
without_each same [] xs = Some xs
without_each same (g ∷ given) xs = option_and_then (without_each same given) (without_first (same g) xs)

-- a list after an edit by the items given
abbrev pub edited : {A : Type 0} → (A → A → Bool) → ListEdit → List A → List A → Result (List A) ConfigFault
edited same Put given xs = Ok given
edited same Add given xs = Ok (xs ++ given)
edited same Remove given xs = ok_or (without_each same given xs) NoMatch

-- whether an edit would leave more than 32 options
abbrev pub passes_options : ListEdit → List (List ℕ) → List (List ℕ) → Bool
passes_options Put given xs = nat_lt 32 (length given)
passes_options Add given xs = nat_lt 32 (length (xs ++ given))
passes_options Remove given xs = false

unfoldable pub options_edited : ListEdit → List (List ℕ) → List (List ℕ) → Result (List (List ℕ)) ConfigFault
options_edited edit given xs = if passes_options edit given xs then Err (TooMany 32) else edited bytes_eq edit given xs

abbrev pub same_limit : Limit → Limit → Bool
same_limit v w = v.limit == w.limit && beq v.deny w.deny

-- an answer, made of another one where that is no refusal
abbrev pub and_then : {A B : Type 0} → Result A ConfigFault → (A → Result B ConfigFault) → Result B ConfigFault
and_then (Ok x) f = f x
and_then (Err e) f = Err e

abbrev pub fs_edited : ListEdit → Value → fs.Fs → Result fs.Fs ConfigFault
fs_edited edit v f =
    and_then (ok_or (options_given edit v) BadValue) (λ given. and_then (options_edited edit given f.options) (λ os. Ok (record f { options = os })))

abbrev pub rctl_edited : ListEdit → Value → rctl.Rctl → Result rctl.Rctl ConfigFault
rctl_edited edit v r =
    and_then (ok_or (limit_given v) BadValue) (λ given. and_then (edited same_limit edit (given ∷ []) r.values) (λ vs. Ok (record r { values = vs })))

-- an edit of the list of a resource by a value
unfoldable pub list_edited : ListEdit → Value → Resource → Result Resource ConfigFault
list_edited edit v (Fs f) = and_then (fs_edited edit v f) (λ f. Ok (Fs f))
list_edited edit v (Rctl r) = and_then (rctl_edited edit v r) (λ r. Ok (Rctl r))
list_edited edit v _ = Err UnknownProperty

abbrev pub without_list : Resource → Resource
without_list (Fs f) = Fs (record f { options = [] })
without_list (Rctl r) = Rctl (record r { values = [] })
without_list r = r

abbrev pub put_in : Option Named → Value → Resource → Result Resource ConfigFault
put_in None v r = Err UnknownProperty
put_in (Some (One field)) v r = field_set field v r
put_in (Some Many) v r = list_edited Put v r

-- `set NAME=VALUE` on a resource: the resource then, or the refusal
unfoldable pub with_property : List ℕ → Value → Resource → Result Resource ConfigFault
with_property name v r = put_in (named (kind_of r) name) v r

abbrev pub cleared_in : Option Named → Resource → Result Resource ConfigFault
cleared_in None r = Err UnknownProperty
cleared_in (Some (One field)) r = Ok (with_field field [] r)
cleared_in (Some Many) r = Ok (without_list r)

-- `clear NAME` on a resource
unfoldable pub without_property : List ℕ → Resource → Result Resource ConfigFault
without_property name r = cleared_in (named (kind_of r) name) r

abbrev pub edited_in : Option Named → ListEdit → Value → Resource → Result Resource ConfigFault
edited_in (Some Many) edit v r = list_edited edit v r
edited_in _ edit v r = Err UnknownProperty

-- `add NAME VALUE` on a resource
unfoldable pub with_value : List ℕ → Value → Resource → Result Resource ConfigFault
with_value name v r = edited_in (named (kind_of r) name) Add v r

-- `remove NAME VALUE` on a resource
unfoldable pub without_value : List ℕ → Value → Resource → Result Resource ConfigFault
without_value name v r = edited_in (named (kind_of r) name) Remove v r

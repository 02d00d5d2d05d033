-- What a user of the edits of one resource relies on: `set`, `clear`, `add` and `remove` of its properties (zonecfg(8)).
use Rattle.std.specs.Prelude.{◌≡◌, ◌+◌, ◌≤◌, ◌<◌, ℕ, List, [], ◌∷◌, ◌++◌, Bool, true, false, length, count_by, map, position, slice_set, Option, Some, None, Result, Ok, Err}
use Rattle.std.specs.Str.{bytes_eq}
use Rattle.zn_base.specs.declared.values.Value.{Value}
use Rattle.zn_base.specs.declared.values.Value.TheVariants.{Simple}
use Rattle.config_terms.specs.declared.fault.ConfigFault.{ConfigFault}
use Rattle.config_terms.specs.declared.fault.ConfigFault.TheVariants.{UnknownProperty, BadValue, NoMatch, TooMany}
use Rattle.config_terms.specs.declared.fields.Field.{Field}
use Rattle.config_terms.specs.declared.fields.Named.{Named}
use Rattle.config_terms.specs.declared.fields.Named.TheVariants.{One, Many}
use Rattle.config_terms.specs.declared.lists.ListEdit.{ListEdit}
use Rattle.config_terms.specs.declared.lists.ListEdit.TheVariants.{Put, Add, Remove}
use Rattle.config_terms.specs.declared.terms.Kind.{Kind}
use Rattle.config_terms.specs.declared.terms.Limit.{Limit}
use Rattle.config_terms.specs.declared.terms.Resource.{Resource}
use Rattle.config_terms.specs.declared.terms.Resource.TheVariants.{Fs, Rctl}
use Rattle.config_terms.specs.Edits.{limit_given, options_given, passes_options, with_property, with_value, without_property, without_value}
use Rattle.config_terms.specs.Fields.{field_name, field_rule, fields_of, kind_of, named, resource_options, resource_shown, resource_values}
use Rattle.config_terms.specs.Rules.{obeys}

-- what the simple properties of a resource show, in the order of its kind's table
abbrev pub shown_texts : Resource → List (List ℕ)
shown_texts r = map (resource_shown r) (fields_of (kind_of r))

-- the place in a kind's table of the simple property that has a name
abbrev pub place_named : Kind → List ℕ → Option ℕ
place_named k name = position (λ f. bytes_eq name (field_name f)) (fields_of k)

-- the simple property of a name shows a text, and everything else is as it was
pub record ShowsText (name text : List ℕ) (old new : Resource) : Type 0 where
  pub place : ℕ
  pub there : place_named (kind_of old) name ≡ Some place
  pub kind : kind_of new ≡ kind_of old
  pub texts : shown_texts new ≡ slice_set (shown_texts old) place text
  pub options : resource_options new ≡ resource_options old
  pub values : resource_values new ≡ resource_values old

-- what items given make of a list: they take its place, follow it, or are taken out of it, each once
abbrev pub Lists : {A : Type 0} → ListEdit → List A → List A → List A → Type 0
Lists {A = A} Put given old new = new ≡ given
Lists {A = A} Add given old new = new ≡ old ++ given
Lists {A = A} Remove given old new = (test : A → Bool) → count_by test old ≡ count_by test given + count_by test new

-- some item is given more often than it is there
pub record Lacks {A : Type 0} (given old : List A) : Type 0 where
  pub test : A → Bool
  pub fewer : count_by test old < count_by test given

-- an edit that may lead to more items than there may be
abbrev pub is_growing : ListEdit → Bool
is_growing Remove = false
is_growing edit = true

-- the list of a resource after an edit by the items that a value gives, and everything else as it was
pub record ListsOptions (edit : ListEdit) (v : Value) (old new : Resource) : Type 0 where
  pub given : List (List ℕ)
  pub gives : options_given edit v ≡ Some given
  pub listed : Lists edit given (resource_options old) (resource_options new)
  pub few : is_growing edit ≡ true → length (resource_options new) ≤ 32
  pub kind : kind_of new ≡ kind_of old
  pub texts : shown_texts new ≡ shown_texts old

pub record ListsValues (edit : ListEdit) (v : Value) (old new : Resource) : Type 0 where
  pub given : Limit
  pub gives : limit_given v ≡ Some given
  pub listed : Lists edit (given ∷ []) (resource_values old) (resource_values new)
  pub kind : kind_of new ≡ kind_of old
  pub texts : shown_texts new ≡ shown_texts old

abbrev pub ShowsList : ListEdit → Value → Resource → Resource → Type 0
ShowsList edit v (Fs f) new = ListsOptions edit v (Fs f) new
ShowsList edit v (Rctl r) new = ListsValues edit v (Rctl r) new
ShowsList edit v old new = ⊥

-- more options than there may be would come of it
pub record Passes (edit : ListEdit) (v : Value) (options : List (List ℕ)) (limit : ℕ) : Type 0 where
  pub given : List (List ℕ)
  pub gives : options_given edit v ≡ Some given
  pub told : limit ≡ 32
  pub many : passes_options edit given options ≡ true

pub record LacksOptions (edit : ListEdit) (v : Value) (options : List (List ℕ)) : Type 0 where
  pub given : List (List ℕ)
  pub gives : options_given edit v ≡ Some given
  pub lacks : Lacks given options

pub record LacksValue (v : Value) (values : List Limit) : Type 0 where
  pub given : Limit
  pub gives : limit_given v ≡ Some given
  pub lacks : Lacks (given ∷ []) values

-- why an edit of the list of a resource may be refused
abbrev pub MayRefuseList : ListEdit → Value → Resource → ConfigFault → Type 0
MayRefuseList edit v (Fs f) BadValue = options_given edit v ≡ None
MayRefuseList edit v (Fs f) (TooMany limit) = Passes edit v f.options limit
MayRefuseList edit v (Fs f) NoMatch = LacksOptions edit v f.options
MayRefuseList edit v (Rctl r) BadValue = limit_given v ≡ None
MayRefuseList edit v (Rctl r) NoMatch = LacksValue v r.values
MayRefuseList edit v old fault = ⊥

-- whether the rule of a simple property allows a value
abbrev pub allows : Field → Value → Bool
allows f (Simple text) = obeys (field_rule f) text
allows f v = false

abbrev pub text_in : Value → List ℕ
text_in (Simple text) = text
text_in v = []

-- a resource after its property of a name was set to a value
abbrev pub Shows : Option Named → List ℕ → Value → Resource → Resource → Type 0
Shows None name v old new = ⊥
Shows (Some (One f)) name v old new = (allows f v ≡ true) × ShowsText name (text_in v) old new
Shows (Some Many) name v old new = ShowsList Put v old new

-- why setting it may be refused, but for running out of memory
abbrev pub MayRefuseSet : Option Named → Value → Resource → ConfigFault → Type 0
MayRefuseSet None v old UnknownProperty = Unit {0}
MayRefuseSet (Some (One f)) v old BadValue = allows f v ≡ false
MayRefuseSet (Some Many) v old fault = MayRefuseList Put v old fault
MayRefuseSet n v old fault = ⊥

-- a resource whose property of a name was cleared: a text is empty, and a list has no item
abbrev pub IsCleared : Option Named → List ℕ → Resource → Resource → Type 0
IsCleared None name old new = ⊥
IsCleared (Some (One f)) name old new = ShowsText name [] old new
IsCleared (Some Many) name old new =
    (kind_of new ≡ kind_of old) × (shown_texts new ≡ shown_texts old) × (resource_options new ≡ []) × (resource_values new ≡ [])

-- a resource after items were added to the list of a name, or taken out of it
abbrev pub ShowsEdit : Option Named → ListEdit → Value → Resource → Resource → Type 0
ShowsEdit (Some Many) edit v old new = ShowsList edit v old new
ShowsEdit n edit v old new = ⊥

abbrev pub MayRefuseEdit : Option Named → ListEdit → Value → Resource → ConfigFault → Type 0
MayRefuseEdit (Some Many) edit v old fault = MayRefuseList edit v old fault
MayRefuseEdit n edit v old UnknownProperty = Unit {0}
MayRefuseEdit n edit v old fault = ⊥

-- an edit came to be, or was refused for a stated cause
abbrev pub Comes : (Resource → Type 0) → (ConfigFault → Type 0) → Result Resource ConfigFault → Type 0
Comes shows refuses (Ok new) = shows new
Comes shows refuses (Err fault) = refuses fault

-- a law: a property of a resource is set where the kind has it and its rule allows the value, and is cleared where the kind
-- has it; items are added and removed where it is a list; each refusal has its cause
pub record ResourcesAreEdited : Type 0 where
  pub set : (name : List ℕ) (v : Value) (old : Resource) →
      Comes (Shows (named (kind_of old) name) name v old) (MayRefuseSet (named (kind_of old) name) v old) (with_property name v old)
  pub cleared : (name : List ℕ) (old : Resource) →
      Comes (IsCleared (named (kind_of old) name) name old) (λ fault. (named (kind_of old) name ≡ None) × (fault ≡ UnknownProperty)) (without_property name old)
  pub added : (name : List ℕ) (v : Value) (old : Resource) →
      Comes (ShowsEdit (named (kind_of old) name) Add v old) (MayRefuseEdit (named (kind_of old) name) Add v old) (with_value name v old)
  pub removed : (name : List ℕ) (v : Value) (old : Resource) →
      Comes (ShowsEdit (named (kind_of old) name) Remove v old) (MayRefuseEdit (named (kind_of old) name) Remove v old) (without_value name v old)

-- The words that subcommands are of, and what they name.
use Rattle.std.specs.Prelude.{ℕ, List, [], ◌∷◌, Option, Some, None, codes, find}
use Rattle.std.specs.Option.{option_map}
use Rattle.std.specs.Str.{bytes_eq}
use Rattle.config_terms.specs.Fields.{kind_named}
use Rattle.zone_config.specs.declared.terms.Setting.{Setting}
use Rattle.zone_config.specs.Property.{setting_named}
use Rattle.zonecfg_scopes.specs.declared.command.ListProperty.{ListProperty}
use Rattle.zonecfg_scopes.specs.declared.command.ListProperty.TheVariants.{Options, Value}
use Rattle.zonecfg_scopes.specs.declared.command.Topic.{Topic}
use Rattle.zonecfg_scopes.specs.declared.command.Topic.TheVariants as topic
use Rattle.zonecfg_scopes.specs.declared.verb.Verb.{Verb}
use Rattle.zonecfg_scopes.specs.declared.verb.Verb.TheVariants.{Add, Cancel, Clear, Commit, Create, Delete, End, Exit, Export, Help, Info, Remove, Revert, Select, Set, Verify}

abbrev pub verb_name : Verb → List ℕ
verb_name Add = codes "add"
verb_name Cancel = codes "cancel"
verb_name Clear = codes "clear"
verb_name Commit = codes "commit"
verb_name Create = codes "create"
verb_name Delete = codes "delete"
verb_name End = codes "end"
verb_name Exit = codes "exit"
verb_name Export = codes "export"
verb_name Help = codes "help"
verb_name Info = codes "info"
verb_name Remove = codes "remove"
verb_name Revert = codes "revert"
verb_name Select = codes "select"
verb_name Set = codes "set"
verb_name Verify = codes "verify"

-- all of them, in the order in which `help` lists them
abbrev pub verbs : List Verb
verbs =
    Add ∷ Cancel ∷ Clear ∷ Commit ∷ Create ∷ Delete ∷ End ∷ Exit ∷ Export ∷ Help ∷ Info ∷ Remove ∷ Revert ∷ Select ∷ Set ∷ Verify ∷ []

-- the subcommand that a word begins
unfoldable pub verb_named : List ℕ → Option Verb
verb_named word = find (λ v. bytes_eq word (verb_name v)) verbs

abbrev pub list_name : ListProperty → List ℕ
list_name Options = codes "options"
list_name Value = codes "value"

-- the property with a list that a word names
abbrev pub list_named : List ℕ → Option ListProperty
list_named name = find (λ l. bytes_eq name (list_name l)) (Options ∷ Value ∷ [])

abbrev pub topic_unless : Option Setting → Option Topic → Option Topic
topic_unless None other = other
topic_unless (Some setting) other = Some (topic.Setting setting)

-- what `info` shows by a word: a property of the global scope, or the resources of a type
abbrev pub topic_named : List ℕ → Option Topic
topic_named name = topic_unless (setting_named name) (option_map topic.Resources (kind_named name))

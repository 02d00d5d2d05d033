-- What each line makes of a configuration that is being read.
use Rattle.std.specs.Prelude.{ℕ, List, [], ◌∷◌, ◌++◌, Bool, true, false, nat_eq, Option, Some, None, option_and_then, option_map, if◌then◌else◌}
use Rattle.std.specs.List.{starts_with}
use Rattle.std.specs.Result.{result_ok}
use Rattle.std.specs.Str.{bytes_eq}
use Rattle.zn_base.specs.declared.values.Value.TheVariants.{Simple}
use Rattle.config_terms.specs.Edits.{empty, with_property as with_own}
use Rattle.config_terms.specs.Fields.{field_name, field_rule, key_field, kind_of}
use Rattle.config_terms.specs.declared.fields.Field.{Field}
use Rattle.config_terms.specs.declared.terms.Limit.{Limit}
use Rattle.config_terms.specs.declared.terms.Resource.{Resource}
use Rattle.config_terms.specs.declared.terms.Resource.TheVariants.{Fs, Rctl}
use Rattle.zn_base.specs.Lines.{lines_of}
use Rattle.export_read.specs.Reading.{command_of}
use Rattle.export_read.specs.declared.command.Command.{Command}
use Rattle.export_read.specs.declared.command.Command.TheVariants.{Create, Set, Open, Options, Value, End}
use Rattle.zone_config.specs.Edits.{with_property}
use Rattle.zone_config.specs.Export.{export_text}
use Rattle.zone_config.specs.Property.{blank}
use Rattle.zone_config.specs.Resources.{has_taken, with_resource}
use Rattle.zone_config.specs.declared.terms.Contents.{Contents}
use Rattle.export_read.specs.Names.{fresh, is_used}
use Rattle.export_read.specs.declared.draft.Draft.{Draft}

-- before the first line: the configuration with the shortest text
abbrev pub least : Contents
least = record blank { autoboot = true }

abbrev pub start : Draft
start = record { config = least; resource = None }

abbrev pub opened : Contents → Resource → Draft
opened c r = record { config = c; resource = Some r }

abbrev pub closed : Contents → Draft
closed c = record { config = c; resource = None }

-- a property is set in the open resource, or in the global scope where none is open
abbrev pub set_in : Option Resource → List ℕ → List ℕ → Contents → Option Draft
set_in None name value c = option_map closed (result_ok (with_property name (Simple value) c))
set_in (Some r) name value c = option_map (opened c) (result_ok (with_own name (Simple value) r))

abbrev pub with_options : List (List ℕ) → Resource → Option Resource
with_options options (Fs f) = Some (Fs (record f { options = options }))
with_options options r = None

abbrev pub with_limit : Limit → Resource → Option Resource
with_limit limit (Rctl r) = Some (Rctl (record r { values = r.values ++ limit ∷ [] }))
with_limit limit r = None

abbrev pub ended_in : Contents → Resource → Option Draft
ended_in c r = option_map closed (result_ok (with_resource r c))

-- the draft after a command, if nothing refuses it
abbrev pub put : Command → Draft → Option Draft
put Create d = Some d
put (Set name value) d = set_in d.resource name value d.config
put (Open kind) d = Some (opened d.config (empty kind))
put (Options options) d = option_map (opened d.config) (option_and_then (with_options options) d.resource)
put (Value limit) d = option_map (opened d.config) (option_and_then (with_limit limit) d.resource)
put End d = option_and_then (ended_in d.config) d.resource

-- a resource whose name is taken, under a shortest free one
abbrev pub renamed_by : Option Field → Contents → Resource → Option Resource
renamed_by None c r = None
renamed_by (Some key) c r = result_ok (with_own (field_name key) (Simple (fresh (field_rule key) (is_used key c))) r)

abbrev pub named_in : Contents → Resource → Option Resource
named_in c r = if has_taken r c then renamed_by (key_field (kind_of r)) c r else Some r

abbrev pub completed_by : Option Resource → Contents → Option Contents
completed_by None c = Some c
completed_by (Some r) c = option_and_then (λ r. result_ok (with_resource r c)) (named_in c r)

-- a configuration whose text the lines so far begin, and the shortest one of these, if there is one
unfoldable pub completed : Draft → Option Contents
completed d = completed_by d.resource d.config

-- the draft after some lines
unfoldable pub drafted : List (List ℕ) → Draft → Option Draft
drafted [] d = Some d
drafted (line ∷ lines) d = option_and_then (drafted lines) (option_and_then (λ x. put x d) (command_of line))

abbrev pub begun_by : List ℕ → Option Contents → Bool
begun_by bytes None = false
begun_by bytes (Some c) = starts_with nat_eq (export_text c) bytes

-- whether some whole lines begin an export text
unfoldable pub is_begun : List ℕ → Bool
is_begun bytes = begun_by bytes (option_and_then completed (drafted (lines_of bytes) start))

-- whether a configuration's text is this one, and no resource is open
abbrev pub is_printed : List ℕ → Option Resource → Contents → Bool
is_printed bytes None c = bytes_eq (export_text c) bytes
is_printed bytes (Some r) c = false

abbrev pub if_printed : List ℕ → Option Resource → Contents → Option Contents
if_printed bytes r c = if is_printed bytes r c then Some c else None

abbrev pub config_in : List ℕ → Option Draft → Option Contents
config_in bytes None = None
config_in bytes (Some d) = if_printed bytes d.resource d.config

-- the configuration whose export text the bytes are, if there is one
unfoldable pub config_of : List ℕ → Option Contents
config_of bytes = config_in bytes (drafted (lines_of bytes) start)

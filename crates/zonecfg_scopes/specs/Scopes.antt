-- What a subcommand makes of what is open, or why it is refused: a row for each subcommand that a scope
-- has (zonecfg(8), SUBCOMMANDS).
use Rattle.std.specs.Prelude.{ℕ, nat_lt, Bool, true, false, Option, Some, None, Result, Ok, Err, codes}
use Rattle.config_terms.specs.declared.fault.ConfigFault.{ConfigFault}
use Rattle.config_terms.specs.declared.terms.Resource.{Resource}
use Rattle.config_terms.specs.Edits.{empty}
use Rattle.config_terms.specs.Edits as edits
use Rattle.config_terms.specs.Fields.{kind_of}
use Rattle.zone_config.specs.declared.terms.Contents.{Contents}
use Rattle.zone_config.specs.Edits.{with_property, without_property}
use Rattle.zone_config.specs.Property.{blank}
use Rattle.zone_config.specs.Removal.{given, resource_at, without_all, without_found}
use Rattle.zone_config.specs.Resources.{count_of, found, length_of, with_replaced, with_resource}
use Rattle.zonecfg_scopes.specs.declared.command.Command.{Command}
use Rattle.zonecfg_scopes.specs.declared.command.Command.TheVariants.{Blank, Add, Append, Cancel, Clear, Create, Delete, End, Exit, Help, Info, Remove, RemoveItem, Revert, Select, Set}
use Rattle.zonecfg_scopes.specs.declared.command.Matching.{Matching}
use Rattle.zonecfg_scopes.specs.declared.command.Topic.TheVariants.{Everything}
use Rattle.zonecfg_scopes.specs.declared.fault.EditFault.{EditFault}
use Rattle.zonecfg_scopes.specs.declared.fault.EditFault.TheVariants.{NeedForce, NothingOpen, WrongScope}
use Rattle.zonecfg_scopes.specs.declared.fault.Scope.TheVariants.{Global, Resource as Scoped}
use Rattle.zonecfg_scopes.specs.Open.{Open, Nothing, Whole, Inside}
use Rattle.zonecfg_scopes.specs.declared.resource_scope.ResourceScope.{ResourceScope}
use Rattle.zonecfg_scopes.specs.Commands.{list_name}
use Rattle.zonecfg_scopes.specs.Faults.{passed_on}

-- a configuration of which nothing is set; without `-b` its brand is ipkg
abbrev pub created : Bool → Contents
created true = blank
created false = record blank { brand = codes "ipkg" }

-- a configuration without the one resource that matches, or with `-F` without all that match
unfoldable pub without_matching : Bool → Matching → Contents → Result Contents ConfigFault
without_matching false m c = without_found m.kind m.pairs c
without_matching true m c = without_all m.kind m.pairs c

-- the resource that a matching selects, with its place
abbrev pub selection : Matching → Contents → Result ResourceScope ConfigFault
selection m c = given (λ place. record { resource = resource_at m.kind place c; place = Some place }) (found m.kind m.pairs c)

-- a resource put back: last in its kind where it is new, else in its place
abbrev pub put_back : Option ℕ → Resource → Contents → Result Contents ConfigFault
put_back None r c = with_resource r c
put_back (Some place) r c = with_replaced place r c

-- an answer about a configuration, as the editor gives it
abbrev pub lifted : {A : Type 0} → Result A ConfigFault → Result A EditFault
lifted (Ok x) = Ok x
lifted (Err fault) = Err (passed_on fault)

-- how long the export text is once the scope that is open has ended, or why it may not end
abbrev pub ended_length : Open → Result ℕ EditFault
ended_length Nothing = Err NothingOpen
ended_length (Whole c) = Err (WrongScope Global)
ended_length (Inside c r at) = lifted (length_of (put_back at r c))

-- what a change leaves open, or its refusal
abbrev pub leaves : {A : Type 0} → (A → Open) → Result A ConfigFault → Result Open EditFault
leaves scope (Ok x) = Ok (scope x)
leaves scope (Err fault) = Err (passed_on fault)

abbrev pub needs_force : Bool → Open → Result Open EditFault
needs_force true o = Ok o
needs_force false o = Err NeedForce

-- whether what was selected has its place among the resources of its kind
abbrev pub is_placed : Option ℕ → Resource → Contents → Bool
is_placed None r c = true
is_placed (Some place) r c = nat_lt place (count_of (kind_of r) c)

abbrev pub is_in_place : Open → Bool
is_in_place Nothing = true
is_in_place (Whole c) = true
is_in_place (Inside c r at) = is_placed at r c

-- with nothing open
abbrev pub made_of_nothing : Command → Result Open EditFault
made_of_nothing Blank = Ok Nothing
made_of_nothing Help = Ok Nothing
made_of_nothing (Exit force) = Ok Nothing
made_of_nothing (Create force bare) = Ok (Whole (created bare))
made_of_nothing command = Err NothingOpen

-- in the global scope
abbrev pub made_of_whole : Contents → Command → Result Open EditFault
made_of_whole c (Create force bare) = needs_force force (Whole (created bare))
made_of_whole c (Delete force) = needs_force force (Whole c)
made_of_whole c (Revert force) = needs_force force (Whole c)
made_of_whole c (Set name value) = leaves Whole (with_property name value c)
made_of_whole c (Clear name) = leaves Whole (without_property name c)
made_of_whole c (Remove force m) = leaves Whole (without_matching force m c)
made_of_whole c (Add k) = Ok (Inside c (empty k) None)
made_of_whole c (Select m) = leaves (λ s. Inside c s.resource s.place) (selection m c)
made_of_whole c (Append list value) = Err (WrongScope Global)
made_of_whole c (RemoveItem list value) = Err (WrongScope Global)
made_of_whole c End = Err (WrongScope Global)
made_of_whole c Cancel = Err (WrongScope Global)
made_of_whole c command = Ok (Whole c)

-- in the scope of a resource, new or of a place in a configuration
abbrev pub made_of_inside : Contents → Resource → Option ℕ → Command → Result Open EditFault
made_of_inside c r at (Set name value) = leaves (λ s. Inside c s at) (edits.with_property name value r)
made_of_inside c r at (Clear name) = leaves (λ s. Inside c s at) (edits.without_property name r)
made_of_inside c r at (Append list value) = leaves (λ s. Inside c s at) (edits.with_value (list_name list) value r)
made_of_inside c r at (RemoveItem list value) = leaves (λ s. Inside c s at) (edits.without_value (list_name list) value r)
made_of_inside c r at End = leaves Whole (put_back at r c)
made_of_inside c r at Cancel = Ok (Whole c)
made_of_inside c r at Blank = Ok (Inside c r at)
made_of_inside c r at Help = Ok (Inside c r at)
made_of_inside c r at (Info Everything) = Ok (Inside c r at)
made_of_inside c r at (Exit true) = Ok (Inside c r at)
made_of_inside c r at command = Err (WrongScope (Scoped (kind_of r)))

-- what a subcommand makes of what is open, or its refusal: first what is open at all, then the scope, then
-- a missing `-F`, then what the change itself refuses
unfoldable pub made : Command → Open → Result Open EditFault
made command Nothing = made_of_nothing command
made command (Whole c) = made_of_whole c command
made command (Inside c r at) = made_of_inside c r at command

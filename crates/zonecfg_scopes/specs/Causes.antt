-- Why a subcommand may be refused, as a list of causes in their order (zonecfg(8), SUBCOMMANDS): nothing is open (33),
-- it has no place in the scope that is open (32), it lacks `-F` (34), or the change that it makes is refused.
use Rattle.std.specs.Prelude.{◌≡◌, List, [], ◌∷◌, Bool, true, false, not, ◌&&◌, Option, Some, None, Result, Ok, Err, option_map}
use Rattle.config_terms.specs.declared.fault.ConfigFault.{ConfigFault}
use Rattle.config_terms.specs.Edits as edits
use Rattle.config_terms.specs.Fields.{kind_of}
use Rattle.zone_config.specs.Edits.{with_property, without_property}
use Rattle.zone_config.specs.Resources.{found}
use Rattle.zonecfg_scopes.specs.declared.command.Command.{Command}
use Rattle.zonecfg_scopes.specs.declared.command.Command.TheVariants.{Append, Blank, Cancel, Clear, Create, Delete, End, Exit, Help, Info, Remove, RemoveItem, Revert, Select, Set}
use Rattle.zonecfg_scopes.specs.declared.command.Topic.TheVariants.{Everything}
use Rattle.zonecfg_scopes.specs.declared.fault.EditFault.{EditFault}
use Rattle.zonecfg_scopes.specs.declared.fault.EditFault.TheVariants.{NeedForce, NothingOpen, WrongScope}
use Rattle.zonecfg_scopes.specs.declared.fault.Scope.{Scope}
use Rattle.zonecfg_scopes.specs.declared.fault.Scope.TheVariants.{Global, Resource as Scoped}
use Rattle.zonecfg_scopes.specs.Commands.{list_name}
use Rattle.zonecfg_scopes.specs.Denotes.{refusal}
use Rattle.zonecfg_scopes.specs.Faults.{passed_on}
use Rattle.zonecfg_scopes.specs.Open.{Open, Nothing, Whole, Inside}
use Rattle.zonecfg_scopes.specs.Scopes.{put_back, without_matching}

-- a subcommand that is about a configuration or a resource
abbrev pub needs_open : Command → Bool
needs_open Blank = false
needs_open Help = false
needs_open (Exit force) = false
needs_open (Create force bare) = false
needs_open command = true

-- a subcommand that has a place in the global scope
abbrev pub is_global : Command → Bool
is_global (Append list value) = false
is_global (RemoveItem list value) = false
is_global End = false
is_global Cancel = false
is_global command = true

-- a subcommand that has a place in the scope of a resource
abbrev pub is_scoped : Command → Bool
is_scoped (Set name value) = true
is_scoped (Clear name) = true
is_scoped (Append list value) = true
is_scoped (RemoveItem list value) = true
is_scoped End = true
is_scoped Cancel = true
is_scoped Blank = true
is_scoped Help = true
is_scoped (Info Everything) = true
is_scoped (Exit force) = force
is_scoped command = false

-- a subcommand that throws away what is open, without `-F`
abbrev pub lacks_force : Command → Bool
lacks_force (Create force bare) = not force
lacks_force (Delete force) = not force
lacks_force (Revert force) = not force
lacks_force command = false

abbrev pub has_place : Command → Open → Bool
has_place command Nothing = true
has_place command (Whole c) = is_global command
has_place command (Inside c r at) = is_scoped command

abbrev pub scope_of : Open → Scope
scope_of (Inside c r at) = Scoped (kind_of r)
scope_of o = Global

abbrev pub is_nothing : Open → Bool
is_nothing Nothing = true
is_nothing o = false

abbrev pub refused_by : {A : Type 0} → Result A ConfigFault → Option ConfigFault
refused_by (Ok x) = None
refused_by (Err fault) = Some fault

-- why the change that a subcommand makes of what is open is refused, if it makes one that is
abbrev pub change_refused : Command → Open → Option ConfigFault
change_refused (Set name value) (Whole c) = refused_by (with_property name value c)
change_refused (Clear name) (Whole c) = refused_by (without_property name c)
change_refused (Remove force m) (Whole c) = refused_by (without_matching force m c)
change_refused (Select m) (Whole c) = refused_by (found m.kind m.pairs c)
change_refused (Set name value) (Inside c r at) = refused_by (edits.with_property name value r)
change_refused (Clear name) (Inside c r at) = refused_by (edits.without_property name r)
change_refused (Append list value) (Inside c r at) = refused_by (edits.with_value (list_name list) value r)
change_refused (RemoveItem list value) (Inside c r at) = refused_by (edits.without_value (list_name list) value r)
change_refused End (Inside c r at) = refused_by (put_back at r c)
change_refused command o = None

abbrev pub where_true : Bool → EditFault → Option EditFault
where_true true fault = Some fault
where_true false fault = None

-- the causes, each with its fault where it stands
abbrev pub causes : Command → Open → List (Option EditFault)
causes command o =
    where_true (needs_open command && is_nothing o) NothingOpen
    ∷ where_true (not (has_place command o)) (WrongScope (scope_of o))
    ∷ where_true (not (is_nothing o) && lacks_force command) NeedForce
    ∷ option_map passed_on (change_refused command o)
    ∷ []

abbrev pub first_cause : List (Option EditFault) → Option EditFault
first_cause [] = None
first_cause (Some fault ∷ more) = Some fault
first_cause (None ∷ more) = first_cause more

-- a law: a subcommand is refused for the first cause that stands, and obeyed where none does
abbrev pub RefusalIsTheFirstCause : Type 0
RefusalIsTheFirstCause = (command : Command) (o : Open) → refusal command o ≡ first_cause (causes command o)

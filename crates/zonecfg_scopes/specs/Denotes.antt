-- What a base and a list of subcommands denote, with scopes as brackets in the list.
use Rattle.std.specs.Prelude.{◌≡◌, ◌⊎◌, ℕ, List, [], ◌∷◌, ◌++◌, Bool, true, false, IsTrue, Option, Some, None, Result, Ok, Err}
use Rattle.config_terms.specs.declared.terms.Kind.{Kind}
use Rattle.config_terms.specs.declared.terms.Resource.{Resource}
use Rattle.config_terms.specs.Edits.{empty}
use Rattle.config_terms.specs.Edits as edits
use Rattle.zn_base.specs.declared.values.Value.{Value}
use Rattle.zone_config.specs.declared.terms.Contents.{Contents}
use Rattle.zone_config.specs.Edits.{with_property, without_property}
use Rattle.zone_config.specs.Resources.{found}
use Rattle.zonecfg_scopes.specs.declared.command.Command.{Command}
use Rattle.zonecfg_scopes.specs.declared.command.Command.TheVariants.{Blank, Add, Append, Cancel, Clear, Commit, Create, Delete, End, Exit, Export, Help, Info, Remove, RemoveItem, Revert, Select, Set, Verify}
use Rattle.zonecfg_scopes.specs.declared.command.ListProperty.{ListProperty}
use Rattle.zonecfg_scopes.specs.declared.command.Matching.{Matching}
use Rattle.zonecfg_scopes.specs.declared.fault.EditFault.{EditFault}
use Rattle.zonecfg_scopes.specs.declared.fault.EditFault.TheVariants.{Memory}
use Rattle.zonecfg_scopes.specs.Open.{Open, Nothing, Whole, Inside}
use Rattle.zonecfg_scopes.specs.Commands.{list_name}
use Rattle.zone_config.specs.Removal.{resource_at}
use Rattle.zonecfg_scopes.specs.Scopes.{created, made, put_back, without_matching}

abbrev pub fault_in : Result Open EditFault → Option EditFault
fault_in (Ok o) = None
fault_in (Err fault) = Some fault

-- why a subcommand is refused at what is open, if it is
abbrev pub refusal : Command → Open → Option EditFault
refusal command o = fault_in (made command o)

abbrev pub whole : Option Contents → Open
whole None = Nothing
whole (Some c) = Whole c

-- the subcommands that show something, or ask for something outside the editor
abbrev pub only_shows : Command → Bool
only_shows Blank = true
only_shows Commit = true
only_shows (Delete force) = true
only_shows (Exit force) = true
only_shows Export = true
only_shows Help = true
only_shows (Info topic) = true
only_shows (Revert force) = true
only_shows Verify = true
only_shows command = false

-- a subcommand that is refused, or only shows, denotes nothing new
abbrev pub Stays : Command → Open → Type 0
Stays command o = IsTrue (only_shows command) ⊎ ((fault : EditFault) × (refusal command o ≡ Some fault))

-- a subcommand begins a scope of a configuration: on an empty resource, or on the selected one at its place
pub data Begins (c : Contents) : Command → Resource → Option ℕ → Type 0 where
  adds : (k : Kind) → Begins c (Add k) (empty k) None
  selects : (m : Matching) (place : ℕ) → found m.kind m.pairs c ≡ Ok place → Begins c (Select m) (resource_at m.kind place c) (Some place)

-- an inner list builds one resource out of another, in a scope of a configuration
pub data Builds (c : Contents) (at : Option ℕ) (from : Resource) : List Command → Resource → Type 0 where
  built_from : Builds c at from [] from
  built_set : (cs : List Command) (r s : Resource) (name : List ℕ) (v : Value) → Builds c at from cs r → edits.with_property name v r ≡ Ok s → Builds c at from (cs ++ Set name v ∷ []) s
  built_cleared : (cs : List Command) (r s : Resource) (name : List ℕ) → Builds c at from cs r → edits.without_property name r ≡ Ok s → Builds c at from (cs ++ Clear name ∷ []) s
  built_appended : (cs : List Command) (r s : Resource) (list : ListProperty) (v : Value) → Builds c at from cs r → edits.with_value (list_name list) v r ≡ Ok s → Builds c at from (cs ++ Append list v ∷ []) s
  built_removed : (cs : List Command) (r s : Resource) (list : ListProperty) (v : Value) → Builds c at from cs r → edits.without_value (list_name list) v r ≡ Ok s → Builds c at from (cs ++ RemoveItem list v ∷ []) s
  built_kept : (cs : List Command) (r : Resource) (command : Command) → Builds c at from cs r → Stays command (Inside c r at) → Builds c at from (cs ++ command ∷ []) r

-- a base and a list of subcommands denote a configuration, or none
pub data Denotes (base : Option Contents) : List Command → Option Contents → Type 0 where
  based : Denotes base [] base
  denotes_created : (cs : List Command) (o : Option Contents) (force bare : Bool) → Denotes base cs o → refusal (Create force bare) (whole o) ≡ None → Denotes base (cs ++ Create force bare ∷ []) (Some (created bare))
  denotes_set : (cs : List Command) (c d : Contents) (name : List ℕ) (v : Value) → Denotes base cs (Some c) → with_property name v c ≡ Ok d → Denotes base (cs ++ Set name v ∷ []) (Some d)
  denotes_cleared : (cs : List Command) (c d : Contents) (name : List ℕ) → Denotes base cs (Some c) → without_property name c ≡ Ok d → Denotes base (cs ++ Clear name ∷ []) (Some d)
  denotes_removed : (cs : List Command) (c d : Contents) (force : Bool) (m : Matching) → Denotes base cs (Some c) → without_matching force m c ≡ Ok d → Denotes base (cs ++ Remove force m ∷ []) (Some d)
  denotes_ended : (cs inner : List Command) (c d : Contents) (first : Command) (from r : Resource) (at : Option ℕ) → Denotes base cs (Some c) → Begins c first from at → Builds c at from inner r → put_back at r c ≡ Ok d → Denotes base (cs ++ first ∷ inner ++ End ∷ []) (Some d)
  denotes_cancelled : (cs inner : List Command) (c : Contents) (first : Command) (from r : Resource) (at : Option ℕ) → Denotes base cs (Some c) → Begins c first from at → Builds c at from inner r → Denotes base (cs ++ first ∷ inner ++ Cancel ∷ []) (Some c)
  denotes_kept : (cs : List Command) (o : Option Contents) (command : Command) → Denotes base cs o → Stays command (whole o) → Denotes base (cs ++ command ∷ []) o

-- a list that ends inside a bracket denotes the configuration before it, and the open resource
pub record EndsInside (base : Option Contents) (cs : List Command) (c : Contents) (r : Resource) (at : Option ℕ) : Type 0 where
  pub front : List Command
  pub first : Command
  pub inner : List Command
  pub from : Resource
  pub before : Denotes base front (Some c)
  pub begins : Begins c first from at
  pub builds : Builds c at from inner r
  pub list : cs ≡ front ++ first ∷ inner

-- what is open is what a base and a list of subcommands denote
abbrev pub Stands : Option Contents → List Command → Open → Type 0
Stands base cs Nothing = Denotes base cs None
Stands base cs (Whole c) = Denotes base cs (Some c)
Stands base cs (Inside c r at) = EndsInside base cs c r at

-- the change was made, or memory ran out, or it was refused; after a fault all is as before
abbrev pub Follows : Command → Open → Open → Result (Unit {0}) EditFault → Type 0
Follows command old new (Ok _) = made command old ≡ Ok new
Follows command old new (Err Memory) = new ≡ old
Follows command old new (Err fault) = (made command old ≡ Err fault) × (new ≡ old)

-- the list that is stood for after a subcommand: where memory runs out, the list before
abbrev pub list_after : {A : Type 0} → List Command → Command → Result A EditFault → List Command
list_after cs command (Err Memory) = cs
list_after cs command result = cs ++ command ∷ []

-- what stood for a list stands for it with the subcommand
abbrev pub GoesOn : {A : Type 0} → Command → Open → Open → Result A EditFault → Type 0
GoesOn command old new result = (base : Option Contents) (cs : List Command) → Stands base cs old → Stands base (list_after cs command result) new

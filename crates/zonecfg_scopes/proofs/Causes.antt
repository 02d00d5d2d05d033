-- A subcommand is refused for the first cause that stands.
use Rattle.std.proofs.Common.{◌≡◌, ℕ, [], ◌∷◌, true, false, Option, Ok, Err, refl}
use Rattle.std.specs.Prelude.{Result, option_map}
use Rattle.config_terms.specs.declared.fault.ConfigFault.{ConfigFault}
use Rattle.config_terms.specs.declared.terms.Resource.{Resource}
use Rattle.config_terms.specs.Edits as edits
use Rattle.zone_config.specs.declared.terms.Contents.{Contents}
use Rattle.zone_config.specs.Edits.{with_property, without_property}
use Rattle.zone_config.specs.Resources.{found}
use Rattle.zonecfg_scopes.specs.declared.command.Command.{Command}
use Rattle.zonecfg_scopes.specs.declared.command.Command.TheVariants.{Add, Append, Blank, Cancel, Clear, Commit, Create, Delete, End, Exit, Export, Help, Info, Remove, RemoveItem, Revert, Select, Set, Verify}
use Rattle.zonecfg_scopes.specs.declared.command.Topic.TheVariants.{Everything, Resources, Setting}
use Rattle.zonecfg_scopes.specs.Causes.{RefusalIsTheFirstCause, causes, first_cause, refused_by}
use Rattle.zonecfg_scopes.specs.Commands.{list_name}
use Rattle.zonecfg_scopes.specs.Denotes.{fault_in, refusal}
use Rattle.zonecfg_scopes.specs.Faults.{passed_on}
use Rattle.zonecfg_scopes.specs.Open.{Open, Nothing, Whole, Inside}
use Rattle.zone_config.specs.Removal.{given}
use Rattle.zonecfg_scopes.specs.Scopes.{leaves, made, put_back, without_matching}

change : {A : Type 0} (f : A → Open) (x : Result A ConfigFault) → fault_in (leaves f x) ≡ first_cause (option_map passed_on (refused_by x) ∷ [])
change f (Ok x) = refl
change f (Err fault) = refl

change_given : {A B : Type 0} (f : B → Open) (g : A → B) (x : Result A ConfigFault) → fault_in (leaves f (given g x)) ≡ first_cause (option_map passed_on (refused_by x) ∷ [])
change_given f g (Ok x) = refl
change_given f g (Err fault) = refl

of_nothing : (command : Command) → refusal command Nothing ≡ first_cause (causes command Nothing)
unfolding made
of_nothing Blank = refl
of_nothing Help = refl
of_nothing (Exit force) = refl
of_nothing (Create force bare) = refl
of_nothing command = refl

of_whole : (c : Contents) (command : Command) → refusal command (Whole c) ≡ first_cause (causes command (Whole c))
unfolding made
of_whole c (Create true bare) = refl
of_whole c (Create false bare) = refl
of_whole c (Delete true) = refl
of_whole c (Delete false) = refl
of_whole c (Revert true) = refl
of_whole c (Revert false) = refl
of_whole c (Set name value) = change Whole (with_property name value c)
of_whole c (Clear name) = change Whole (without_property name c)
of_whole c (Remove force m) = change Whole (without_matching force m c)
of_whole c (Select m) = change_given _ _ (found m.kind m.pairs c)
of_whole c Blank = refl
of_whole c (Add k) = refl
of_whole c (Append list value) = refl
of_whole c Cancel = refl
of_whole c Commit = refl
of_whole c End = refl
of_whole c (Exit force) = refl
of_whole c Export = refl
of_whole c Help = refl
of_whole c (Info topic) = refl
of_whole c (RemoveItem list value) = refl
of_whole c Verify = refl

of_inside : (c : Contents) (r : Resource) (at : Option ℕ) (command : Command) → refusal command (Inside c r at) ≡ first_cause (causes command (Inside c r at))
unfolding made
of_inside c r at (Set name value) = change (λ s. Inside c s at) (edits.with_property name value r)
of_inside c r at (Clear name) = change (λ s. Inside c s at) (edits.without_property name r)
of_inside c r at (Append list value) = change (λ s. Inside c s at) (edits.with_value (list_name list) value r)
of_inside c r at (RemoveItem list value) = change (λ s. Inside c s at) (edits.without_value (list_name list) value r)
of_inside c r at End = change Whole (put_back at r c)
of_inside c r at Cancel = refl
of_inside c r at Blank = refl
of_inside c r at Help = refl
of_inside c r at (Info Everything) = refl
of_inside c r at (Info (Setting s)) = refl
of_inside c r at (Info (Resources k)) = refl
of_inside c r at (Exit true) = refl
of_inside c r at (Exit false) = refl
of_inside c r at (Create force bare) = refl
of_inside c r at (Delete force) = refl
of_inside c r at (Revert force) = refl
of_inside c r at (Remove force m) = refl
of_inside c r at (Select m) = refl
of_inside c r at (Add k) = refl
of_inside c r at Commit = refl
of_inside c r at Export = refl
of_inside c r at Verify = refl

pub first_of_causes : RefusalIsTheFirstCause
first_of_causes command Nothing = of_nothing command
first_of_causes command (Whole c) = of_whole c command
first_of_causes command (Inside c r at) = of_inside c r at command

-- The subcommands of a line, obeyed in turn.
use Rattle.std.proofs.Common.{◌≡◌, ◌<◌, ℕ, List, Some, None, Result, Ok, Err, length, ap, ◌∙◌, arith}
use Rattle.zonecfg_scopes.specs.declared.command.Command.{Command}
use Rattle.zonecfg_scopes.specs.declared.fault.EditFault.{EditFault}
use Rattle.zonecfg_scopes.specs.declared.fault.EditFault.TheVariants.{Memory, Lex, UnknownCommand, Usage, NotHere, NothingOpen, WrongScope, NeedForce, Config}
use Rattle.zonecfg_scopes.specs.Open.{Open}
use Rattle.zonecfg_scopes.specs.Turns.{ReadsFirst, ReadsNext, goes_on, in_turn}
use Rattle.zones_run.specs.declared.refusal.Refusal.{Refusal}
use Rattle.zones_run.specs.declared.refusal.Refusal.TheVariants.{Edit, Flawed, Memory as Wants_memory}
use Rattle.zones_run.specs.Refusals.{refused}
use Rattle.zones_run.specs.Subcommands.{Edits, obeyed, obeyed_as}

in_turn_first : (texts left : List (List ℕ)) (read : Result Command EditFault) (o : Open) → ReadsFirst texts left read → in_turn obeyed_as texts o ≡ goes_on (obeyed_as read o) (in_turn obeyed_as left)
in_turn_first texts left read o first =
    ap (λ xs. in_turn obeyed_as xs o) first.first ∙ ap (λ r. goes_on (obeyed_as r o) (in_turn obeyed_as left)) first.reads

pub none_left : (texts left : List (List ℕ)) (o : Open) → ReadsNext texts left (Ok None) → in_turn obeyed_as texts o ≡ Ok o
none_left texts left o none = ap (λ xs. in_turn obeyed_as xs o) none

-- a subcommand that is obeyed leads on
pub first_obeyed : (texts left : List (List ℕ)) (command : Command) (o new : Open) → ReadsNext texts left (Ok (Some command)) → obeyed command o ≡ Ok new
    → in_turn obeyed_as texts o ≡ in_turn obeyed_as left new
first_obeyed texts left command o new first is =
    in_turn_first texts left (Ok command) o first ∙ ap (λ said. goes_on said (in_turn obeyed_as left)) is

-- one that is refused ends the line
pub first_refused : (texts left : List (List ℕ)) (command : Command) (o new : Open) (refusal : Refusal) → ReadsNext texts left (Ok (Some command))
    → Edits {A = Unit {0}} new (Err refusal) (obeyed command o) → Edits {A = Unit {0}} new (Err refusal) (in_turn obeyed_as texts o)
first_refused texts left command o new Wants_memory first is = tt
first_refused texts left command o new (Edit fault) first is = in_turn_first texts left (Ok command) o first ∙ ap (λ said. goes_on said (in_turn obeyed_as left)) is
first_refused texts left command o new (Flawed flaw) first is = in_turn_first texts left (Ok command) o first ∙ ap (λ said. goes_on said (in_turn obeyed_as left)) is

-- and so does one that can't be read
pub fault_refused : (texts left : List (List ℕ)) (fault : EditFault) (o new : Open) → ReadsNext texts left (Err fault) → Edits {A = Unit {0}} new (Err (refused fault)) (in_turn obeyed_as texts o)
fault_refused texts left Memory o new first = tt
fault_refused texts left (Lex fault) o new first = in_turn_first texts left (Err (Lex fault)) o first
fault_refused texts left UnknownCommand o new first = in_turn_first texts left (Err UnknownCommand) o first
fault_refused texts left Usage o new first = in_turn_first texts left (Err Usage) o first
fault_refused texts left NotHere o new first = in_turn_first texts left (Err NotHere) o first
fault_refused texts left NothingOpen o new first = in_turn_first texts left (Err NothingOpen) o first
fault_refused texts left (WrongScope scope) o new first = in_turn_first texts left (Err (WrongScope scope)) o first
fault_refused texts left NeedForce o new first = in_turn_first texts left (Err NeedForce) o first
fault_refused texts left (Config fault) o new first = in_turn_first texts left (Err (Config fault)) o first

-- fewer are left
pub fewer_left : (texts left : List (List ℕ)) (read : Result Command EditFault) → ReadsFirst texts left read → length left < length texts
fewer_left texts left read first = omega (arith, ap length first.first)

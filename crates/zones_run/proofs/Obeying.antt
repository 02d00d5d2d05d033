-- What a subcommand makes of what is open, by what the editor answers.
use Rattle.std.proofs.Common.{◌≡◌, ◌≢◌, ◌⊎◌, inl, inr, true, false, Result, Ok, Err, refl, ap, ◌∙◌}
use Rattle.zonecfg_scopes.specs.declared.command.Command.{Command}
use Rattle.zonecfg_scopes.specs.declared.command.Command.TheVariants.{Verify}
use Rattle.zonecfg_scopes.specs.declared.command.EditReply.{EditReply}
use Rattle.zonecfg_scopes.specs.declared.command.EditReply.TheVariants.{WantVerify}
use Rattle.zonecfg_scopes.specs.declared.fault.EditFault.{EditFault}
use Rattle.zonecfg_scopes.specs.declared.fault.EditFault.TheVariants.{Memory, NotHere}
use Rattle.zonecfg_scopes.specs.Edited.{Edited, answer_of, answered, or_stay, reply_of, stepped}
use Rattle.zonecfg_scopes.specs.Open.{Open}
use Rattle.zonecfg_scopes.specs.OpenOf.{config_of}
use Rattle.zonecfg_scopes.specs.Scopes.{made}
use Rattle.zones_run.specs.declared.refusal.Refusal.{Refusal}
use Rattle.zones_run.specs.declared.refusal.Refusal.TheVariants.{Edit, Flawed, Memory as Wants_memory}
use Rattle.zones_run.specs.Refusals.{refused}
use Rattle.zones_run.specs.Subcommands.{Edits, is_elsewhere, looked_over, obeyed, passed, verified}

-- a refusal that a definition gives
pub refuses : (new : Open) (refusal : Refusal) (said : Result Open Refusal) → said ≡ Err refusal → Edits {A = Unit {0}} new (Err refusal) said
refuses new Wants_memory said e = tt
refuses new (Edit fault) said e = e
refuses new (Flawed flaw) said e = e

pub elsewhere : (command : Command) (o : Open) → is_elsewhere command ≡ true → obeyed command o ≡ Err (refused NotHere)
unfolding obeyed
elsewhere command o is = rw is refl

here : (command : Command) (o : Open) → is_elsewhere command ≡ false → obeyed command o ≡ passed command (made command o)
unfolding obeyed
here command o is = rw is refl

unanswered : (command : Command) (e : Edited) (said : Result Open EditFault) (fault : EditFault) → answered command e said ≡ Err fault → said ≡ Err fault
unanswered command e (Ok o) fault h = absurd (cc)
unanswered command e (Err other) fault h = cc

-- the editor refuses it, or memory runs out
pub fails : (command : Command) (e : Edited) (new : Open) (fault : EditFault) → is_elsewhere command ≡ false → (fault ≡ Memory) ⊎ (answer_of command e ≡ Err fault) → Edits {A = Unit {0}} new (Err (refused fault)) (obeyed command e.opened)
fails command e new Memory is (inl h) = tt
fails command e new fault is (inl h) = absurd (cc)
fails command e new fault is (inr h) = refuses new (refused fault) (obeyed command e.opened) (here command e.opened is ∙ ap (passed command) (unanswered command e (made command e.opened) fault h))

done : (command : Command) (e : Edited) (said : Result Open EditFault) (o : Open) (reply : EditReply) → answered command e said ≡ Ok reply
    → (passed command said ≡ looked_over command (or_stay o said)) × (reply_of command e ≡ reply)
done command e (Ok x) o reply h = (refl, cc)
done command e (Err fault) o reply h = absurd (cc)

-- what is looked at after a subcommand is reported by the reply to it
abbrev looked_by : EditReply → Open → Result Open Refusal
looked_by WantVerify o = verified (config_of o) o
looked_by reply o = Ok o

looks : (command : Command) (e : Edited) (o : Open) → looked_over command o ≡ looked_by (reply_of command e) o
looks Verify e o = refl
looks command e o = refl

-- the editor does it
answers : (command : Command) (e : Edited) (reply : EditReply) → is_elsewhere command ≡ false → answer_of command e ≡ Ok reply → obeyed command e.opened ≡ looked_by reply (stepped command e.opened)
answers command e reply is h =
    let d = done command e (made command e.opened) e.opened reply h in
    here command e.opened is ∙ d.0 ∙ looks command e (stepped command e.opened) ∙ ap (λ r. looked_by r (stepped command e.opened)) d.1

-- and is asked to verify
pub verifies : (command : Command) (e : Edited) → is_elsewhere command ≡ false → answer_of command e ≡ Ok WantVerify
    → obeyed command e.opened ≡ verified (config_of (stepped command e.opened)) (stepped command e.opened)
verifies command e is h = answers command e WantVerify is h

unlooked : (reply : EditReply) (o : Open) → reply ≢ WantVerify → looked_by reply o ≡ Ok o
unlooked WantVerify o other = absurd (other refl)
unlooked reply o other = refl

-- or is not
pub does : (command : Command) (e : Edited) (reply : EditReply) → is_elsewhere command ≡ false → answer_of command e ≡ Ok reply → reply ≢ WantVerify
    → obeyed command e.opened ≡ Ok (stepped command e.opened)
does command e reply is h other = answers command e reply is h ∙ unlooked reply (stepped command e.opened) other

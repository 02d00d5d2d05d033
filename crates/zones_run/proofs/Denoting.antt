-- What is exported is what the subcommands of the input denote.
use Rattle.std.proofs.Common.{◌≡◌, ℕ, Bool, true, false, cond, List, [], ◌∷◌, ◌++◌, ◌+◌, Option, Some, None, Result, Ok, Err, refl, ap, sym, subst, ◌∙◌, arith, append_assoc}
use Rattle.std.proofs.lemmas.List.{append-nil}
use Rattle.std.specs.List.{flat_map}
use Rattle.zonecfg_lex.specs.declared.fault.LexFault.{LexFault}
use Rattle.zonecfg_lex.specs.Subcommands.{subcommands_of}
use Rattle.zone_config.specs.declared.terms.Contents.{Contents}
use Rattle.zone_config.specs.Export.{export_text}
use Rattle.config_verify.specs.declared.flaw.Flaw.{Flaw}
use Rattle.config_verify.specs.Flaws.{first, flaws}
use Rattle.zonecfg_scopes.specs.declared.command.Command.{Command}
use Rattle.zonecfg_scopes.specs.declared.command.Command.TheVariants.{Verify}
use Rattle.zonecfg_scopes.specs.declared.fault.EditFault.{EditFault}
use Rattle.zonecfg_scopes.specs.Denotes.{Stands, based}
use Rattle.zonecfg_scopes.specs.Edited.{commands_of, or_stay, with_command}
use Rattle.zonecfg_scopes.specs.Forms.{command_of}
use Rattle.zonecfg_scopes.specs.Open.{Open, Nothing, Whole, Inside}
use Rattle.zonecfg_scopes.specs.OpenOf.{config_of}
use Rattle.zonecfg_scopes.specs.Scopes.{made}
use Rattle.zonecfg_scopes.specs.Turns.{all_in_turn, commands_by, goes_on, in_turn, line_commands, line_in_turn, script_of}
use Rattle.zonecfg_scopes.proofs.Steps.{stands_stepped}
use Rattle.zones_run.specs.declared.refusal.Refusal.{Refusal}
use Rattle.zones_run.specs.Statuses.{status_done}
use Rattle.zones_run.specs.Denoted.{ExportsDenoted}
use Rattle.zones_run.specs.Exporting.{edited, ended, exported, led_on, written_unless_flawed}
use Rattle.zn_base.specs.Lines.{lines_of}
use Rattle.zones_run.specs.Complaints.{limit_at}
use Rattle.zones_run.specs.Output.{Output, is_past_limit, written}
use Rattle.zones_run.specs.Subcommands.{known_brands, edit_of, is_elsewhere, looked_over, obeyed, obeyed_as, passed, unless_flawed, verified}

passes_on : (answer : Result (Unit {0}) Flaw) (o new : Open) → unless_flawed answer o ≡ Ok new → o ≡ new
passes_on (Ok x) o new e = cc
passes_on (Err flaw) o new e = absurd (cc)

verifies_on : (config : Option Contents) (o new : Open) → verified config o ≡ Ok new → o ≡ new
verifies_on None o new e = cc
verifies_on (Some c) o new e = passes_on (first (flaws known_brands c)) o new e

-- looking for a flaw changes nothing
looks_on : (command : Command) (o new : Open) → looked_over command o ≡ Ok new → o ≡ new
looks_on Verify o new e = verifies_on (config_of o) o new e
looks_on command o new e = cc

made_by : (command : Command) (answer : Result Open EditFault) (new : Open) → passed command answer ≡ Ok new → answer ≡ Ok new
made_by command (Ok o) new e = ap Ok (looks_on command o new e)
made_by command (Err fault) new e = absurd (cc)

-- a subcommand that is obeyed made what is open then
makes : (command : Command) (o new : Open) (elsewhere : Bool) → is_elsewhere command ≡ elsewhere → obeyed command o ≡ Ok new → made command o ≡ Ok new
unfolding obeyed
makes command o new true is e = absurd (cc)
makes command o new false is e = made_by command (made command o) new (rw is at e)

module _ (base : Option Contents) where
  after : (cs : List Command) (command : Command) (o new : Open) → made command o ≡ Ok new → Stands base cs o → Stands base (cs ++ command ∷ []) new
  after cs command o new e s =
      let P : Open → Type 0 = λ x. Stands base (cs ++ command ∷ []) x in
      subst P (ap (or_stay o) e) (stands_stepped base cs command o s)

  -- one part of a line
  pub part_stands : (cs : List Command) (read : Result Command EditFault) (o new : Open) → obeyed_as read o ≡ Ok new → Stands base cs o → Stands base (cs ++ with_command read []) new
  part_stands cs (Ok command) o new e s = after cs command o new (makes command o new (is_elsewhere command) refl e) s
  part_stands cs (Err fault) o new e s = absurd (cc)

  pub with_front : (read : Result Command EditFault) (cs : List Command) → with_command read cs ≡ with_command read [] ++ cs
  with_front (Ok command) cs = refl
  with_front (Err fault) cs = refl

  -- the subcommands of a line from one on
  texts_stand : (texts : List (List ℕ)) (cs : List Command) (o new : Open) → in_turn obeyed_as texts o ≡ Ok new → Stands base cs o → Stands base (cs ++ commands_of texts) new
  texts_stand [] cs o new e s =
      let P : Open → Type 0 = λ x. Stands base (cs ++ []) x in
      let Q : List Command → Type 0 = λ xs. Stands base xs o in
      let same : o ≡ new = cc in
      subst P same (subst Q (sym (append-nil cs)) s)
  texts_stand (text ∷ texts) cs o new e s =
      let read = command_of text in
      elim (obeyed_as read o) as (λ answer. obeyed_as read o ≡ answer → goes_on answer (in_turn obeyed_as texts) ≡ Ok new → Stands base (cs ++ commands_of (text ∷ texts)) new) [
        | Err refusal ↦ λ is f. absurd (cc)
        | Ok next ↦ λ is f.
            let Q : List Command → Type 0 = λ xs. Stands base xs new in
            let first = part_stands cs read o next is s in
            subst Q (append_assoc cs (with_command read []) (commands_of texts) ∙ ap (λ xs. cs ++ xs) (sym (with_front read (commands_of texts))))
            (texts_stand texts (cs ++ with_command read []) next new f first)
      ] refl e

  line_by : (texts : Result (List (List ℕ)) LexFault) (cs : List Command) (o new : Open) → all_in_turn obeyed_as texts o ≡ Ok new → Stands base cs o → Stands base (cs ++ commands_by texts) new
  line_by (Ok texts) cs o new e s = texts_stand texts cs o new e s
  line_by (Err fault) cs o new e s = absurd (cc)

  -- one line
  pub line_stands : (line : List ℕ) (cs : List Command) (o new : Open) → edit_of line o ≡ Ok new → Stands base cs o → Stands base (cs ++ line_commands line) new
  unfolding edit_of line_in_turn line_commands
  line_stands line cs o new e s = line_by (subcommands_of line) cs o new e s

-- a run that goes on past a line
leads : (number : ℕ) (past : Bool) (said : Result Open Refusal) (more : Open → Output) → (cond past (limit_at number) (led_on number said more)).status ≡ status_done
    → (o : Open) × (said ≡ Ok o) × (cond past (limit_at number) (led_on number said more) ≡ more o)
leads number true said more done = absurd (omega (arith, done))
leads number false (Ok o) more done = (o, refl, refl)
leads number false (Err refusal) more done = absurd (omega (arith, done))

flawless : (found : List Flaw) (c : Contents) → (written_unless_flawed (first found) c).status ≡ status_done → (found ≡ []) × (written_unless_flawed (first found) c ≡ written (export_text c))
flawless [] c done = (refl, refl)
flawless (flaw ∷ found) c done = absurd (omega (arith, done))

-- the end of the input
end_denotes : (cs : List Command) (o : Open) → Stands None cs o → (ended o).status ≡ status_done → ExportsDenoted cs (ended o)
end_denotes cs Nothing s done = absurd (omega (arith, done))
end_denotes cs (Inside c r at) s done = absurd (omega (arith, done))
end_denotes cs (Whole c) s done =
    let none = flawless (flaws known_brands c) c done in
    record { config = c; denoted = s; flawless = none.0; text = none.1 }

-- the lines from one on
lines_denote : (lines : List (List ℕ)) (number : ℕ) (cs : List Command) (o : Open) → Stands None cs o → (edited number o lines).status ≡ status_done → ExportsDenoted (cs ++ flat_map line_commands lines) (edited number o lines)
lines_denote [] number cs o s done =
    let P : List Command → Type 0 = λ xs. ExportsDenoted xs (ended o) in
    subst P (sym (append-nil cs)) (end_denotes cs o s done)
lines_denote (line ∷ lines) number cs o s done =
    let led = leads number (is_past_limit number line) (edit_of line o) (λ next. edited (number + 1) next lines) done in
    let P : List Command → Type 0 = λ xs. ExportsDenoted xs (edited (number + 1) led.0 lines) in
    let Q : Output → Type 0 = λ output. ExportsDenoted (cs ++ flat_map line_commands (line ∷ lines)) output in
    let here = line_stands None line cs o led.0 led.1 s in
    subst Q (sym led.2)
    (subst P (append_assoc cs (line_commands line) (flat_map line_commands lines))
    (lines_denote lines (number + 1) (cs ++ line_commands line) led.0 here (sym (ap (λ output. output.status) led.2) ∙ done)))

pub exports_denoted : (bytes : List ℕ) → (exported bytes).status ≡ status_done → ExportsDenoted (script_of bytes) (exported bytes)
exports_denoted bytes done = lines_denote (lines_of bytes) 1 [] Nothing based done

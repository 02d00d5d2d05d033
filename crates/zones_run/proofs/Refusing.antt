-- What is refused is refused at what the subcommands before it denote.
use Rattle.std.proofs.Common.{◌≡◌, ◌⊎◌, inl, inr, ℕ, Bool, true, false, cond, List, [], ◌∷◌, ◌++◌, ◌+◌, length, None, Result, Ok, Err, refl, ap, sym, subst, ◌∙◌, arith, append_assoc}
use Rattle.std.proofs.lemmas.List.{append-nil, flat_map_more, length-append}
use Rattle.std.specs.List.{flat_map}
use Rattle.zonecfg_lex.specs.declared.fault.LexFault.{LexFault}
use Rattle.zonecfg_lex.specs.Subcommands.{subcommands_of}
use Rattle.zonecfg_scopes.specs.declared.command.Command.{Command}
use Rattle.zonecfg_scopes.specs.Denotes.{Stands, based}
use Rattle.zonecfg_scopes.specs.Open.{Open, Nothing}
use Rattle.zones_run.specs.declared.refusal.Refusal.{Refusal}
use Rattle.zones_run.specs.Statuses.{status_refused}
use Rattle.zonecfg_scopes.specs.Edited.{commands_of, with_command}
use Rattle.zonecfg_scopes.specs.Forms.{command_of}
use Rattle.zonecfg_scopes.specs.Turns.{all_in_turn, goes_on, in_turn, line_commands, line_in_turn}
use Rattle.zones_run.specs.Denoted.{RefusesAll, RefusesEnd, RefusesLine, RefusesSubcommand}
use Rattle.zones_run.specs.Obeyed.{lines_in_turn}
use Rattle.zones_run.specs.Exporting.{edited, exported, led_on, refused_at}
use Rattle.zn_base.specs.Lines.{lines_of}
use Rattle.zones_run.specs.Complaints.{limit_at}
use Rattle.zones_run.specs.Output.{Output, is_past_limit}
use Rattle.zones_run.specs.Subcommands.{edit_of, obeyed_as}
use Rattle.zones_run.proofs.Denoting.{line_stands, part_stands, with_front}

-- a run that ends with a refusal is refused at this line, or goes on past it
meets : (number : ℕ) (past : Bool) (said : Result Open Refusal) (more : Open → Output) → (cond past (limit_at number) (led_on number said more)).status ≡ status_refused
    → ((refusal : Refusal) × (said ≡ Err refusal) × (cond past (limit_at number) (led_on number said more) ≡ refused_at number refusal))
    ⊎ ((next : Open) × (said ≡ Ok next) × (cond past (limit_at number) (led_on number said more) ≡ more next))
meets number true said more is = absurd (omega (arith, is))
meets number false (Ok next) more is = inr (next, refl, refl)
meets number false (Err refusal) more is = inl (refusal, refl, refl)

-- the first of some subcommands that is refused
record Refused (cs : List Command) (o : Open) (texts : List (List ℕ)) (refusal : Refusal) : Type 0 where
  before : List (List ℕ)
  text : List ℕ
  rest : List (List ℕ)
  cut : texts ≡ before ++ text ∷ rest
  opened : Open
  obeyed : in_turn obeyed_as before o ≡ Ok opened
  stands : Stands None (cs ++ commands_of before) opened
  refused : obeyed_as (command_of text) opened ≡ Err refusal

first_refused : (texts : List (List ℕ)) (cs : List Command) (o : Open) (refusal : Refusal) → in_turn obeyed_as texts o ≡ Err refusal → Stands None cs o → Refused cs o texts refusal
first_refused [] cs o refusal e s = absurd (cc)
first_refused (text ∷ texts) cs o refusal e s =
    let read = command_of text in
    elim (obeyed_as read o) as (λ answer. obeyed_as read o ≡ answer → goes_on answer (in_turn obeyed_as texts) ≡ Err refusal → Refused cs o (text ∷ texts) refusal) [
      | Err other ↦ λ is f.
          let P : List Command → Type 0 = λ xs. Stands None xs o in
          record { before = []; text = text; rest = texts; cut = refl; opened = o; obeyed = refl; stands = subst P (sym (append-nil cs)) s; refused = is ∙ f }
      | Ok next ↦ λ is f.
          let more = first_refused texts (cs ++ with_command read []) next refusal f (part_stands None cs read o next is s) in
          let P : List Command → Type 0 = λ xs. Stands None xs more.opened in
          record {
            before = text ∷ more.before;
            text = more.text;
            rest = more.rest;
            cut = ap (λ xs. text ∷ xs) more.cut;
            opened = more.opened;
            obeyed = ap (λ answer. goes_on answer (in_turn obeyed_as more.before)) is ∙ more.obeyed;
            stands = subst P (append_assoc cs (with_command read []) (commands_of more.before) ∙ ap (λ xs. cs ++ xs) (sym (with_front None read (commands_of more.before)))) more.stands;
            refused = more.refused;
          }
    ] refl e

-- a line is refused at its first refused subcommand, or as a whole
line_refused : (line : List ℕ) (cs : List Command) (o : Open) (refusal : Refusal) (texts : Result (List (List ℕ)) LexFault) → subcommands_of line ≡ texts
    → all_in_turn obeyed_as texts o ≡ Err refusal → Stands None cs o → RefusesSubcommand cs o line refusal ⊎ RefusesAll line refusal
line_refused line cs o refusal (Ok texts) is e s =
    let first = first_refused texts cs o refusal e s in
    inl (record {
      before = first.before;
      text = first.text;
      rest = first.rest;
      cut = is ∙ ap Ok first.cut;
      opened = first.opened;
      obeyed = first.obeyed;
      stands = first.stands;
      refused = first.refused;
    })
line_refused line cs o refusal (Err fault) is e s = inr (record { fault = fault; wrong = is; refused = (cc) })

edit_refused : (line : List ℕ) (cs : List Command) (o : Open) (refusal : Refusal) → edit_of line o ≡ Err refusal → Stands None cs o → RefusesSubcommand cs o line refusal ⊎ RefusesAll line refusal
unfolding edit_of line_in_turn
edit_refused line cs o refusal e s = line_refused line cs o refusal (subcommands_of line) refl e s

-- one more line that is obeyed
pub turn_more : (lines : List (List ℕ)) (line : List ℕ) (from o next : Open) → lines_in_turn lines from ≡ Ok o → edit_of line o ≡ Ok next → lines_in_turn (lines ++ line ∷ []) from ≡ Ok next
turn_more [] line from o next done is =
    let same : from ≡ o = cc in
    ap (λ x. goes_on (edit_of line x) (λ y. Ok y)) same ∙ ap (λ answer. goes_on answer (λ y. Ok y)) is
turn_more (first ∷ lines) line from o next done is =
    elim (edit_of first from) as (λ answer. goes_on answer (lines_in_turn lines) ≡ Ok o → goes_on answer (lines_in_turn (lines ++ line ∷ [])) ≡ Ok next) [
      | Err refusal ↦ λ e. absurd (cc)
      | Ok then ↦ λ e. turn_more lines line then o next e is
    ] done

-- the lines from one on, after some that were obeyed
lines_refused : (lines : List (List ℕ)) (number : ℕ) (all before : List (List ℕ)) (o : Open)
    → all ≡ before ++ lines → number ≡ length before + 1 → Stands None (flat_map line_commands before) o → lines_in_turn before Nothing ≡ Ok o
    → (edited number o lines).status ≡ status_refused → RefusesLine all (edited number o lines) ⊎ RefusesEnd all (edited number o lines)
lines_refused [] number all before o cut is s done refused =
    let P : List (List ℕ) → Type 0 = λ xs. Stands None (flat_map line_commands xs) o in
    let Q : List (List ℕ) → Type 0 = λ xs. lines_in_turn xs Nothing ≡ Ok o in
    let whole : before ≡ all = sym (cut ∙ append-nil before) in
    inr (record { opened = o; obeyed = subst Q whole done; stands = subst P whole s; told = refl })
lines_refused (line ∷ lines) number all before o cut is s done refused =
    let more : Open → Output = λ next. edited (number + 1) next lines in
    elim (meets number (is_past_limit number line) (edit_of line o) more refused) as (λ _. RefusesLine all (edited number o (line ∷ lines)) ⊎ RefusesEnd all (edited number o (line ∷ lines))) [
      | inl here ↦ inl (record {
        before = before;
        line = line;
        rest = lines;
        cut = cut;
        opened = o;
        obeyed = done;
        stands = s;
        refusal = here.0;
        refused = edit_refused line (flat_map line_commands before) o here.0 here.1 s;
        told = here.2 ∙ ap (λ n. refused_at n here.0) is;
      })
      | inr on ↦
          let P : List Command → Type 0 = λ cs. Stands None cs on.0 in
          let Q : Output → Type 0 = λ output. RefusesLine all output ⊎ RefusesEnd all output in
          let front : List (List ℕ) = before ++ line ∷ [] in
          let longer : number + 1 ≡ length front + 1 = ap (λ n. n + 1) is ∙ ap (λ n. n + 1) (sym (length-append before (line ∷ []))) in
          let stands : Stands None (flat_map line_commands front) on.0 = subst P (flat_map_more line_commands [] before line) (line_stands None line (flat_map line_commands before) o on.0 on.1 s) in
          subst Q (sym on.2)
          (lines_refused lines (number + 1) all front on.0 (cut ∙ sym (append_assoc before (line ∷ []) lines)) longer stands (turn_more before line Nothing o on.0 done on.1)
          (sym (ap (λ output. output.status) on.2) ∙ refused))
    ]

pub refusals_denoted : (bytes : List ℕ) → (exported bytes).status ≡ status_refused → RefusesLine (lines_of bytes) (exported bytes) ⊎ RefusesEnd (lines_of bytes) (exported bytes)
refusals_denoted bytes refused = lines_refused (lines_of bytes) 1 (lines_of bytes) [] Nothing refl refl based refl refused

-- What is edited after a line is what its subcommands denote, up to the first that is refused.
use Rattle.std.proofs.Common.{◌≡◌, ◌||◌, ◌&&◌, ℕ, List, [], ◌∷◌, ◌++◌, Bool, true, false, cond, Option, Some, None, Result, Ok, Err, refl, ap, sym, subst, ◌∙◌}
use Rattle.zonecfg_lex.specs.declared.fault.LexFault.{LexFault}
use Rattle.config_verify.specs.declared.flaw.Flaw.{Flaw}
use Rattle.zonecfg_scopes.specs.declared.base.Base.{Base}
use Rattle.zonecfg_scopes.specs.declared.command.Command.{Command}
use Rattle.zonecfg_scopes.specs.declared.command.Command.TheVariants.{Commit, Delete, Exit, Revert, Verify}
use Rattle.zonecfg_scopes.specs.declared.fault.EditFault.{EditFault}
use Rattle.zonecfg_scopes.specs.Denotes.{Stands, based}
use Rattle.zonecfg_scopes.specs.Edited.{Edited, IsAfter, after_command, base_config, commands_of, opened_on, or_stay, reply_of, stepped}
use Rattle.zonecfg_scopes.specs.Edited as edited
use Rattle.zonecfg_scopes.specs.Forms.{command_of}
use Rattle.zonecfg_scopes.specs.Open.{Open, Nothing as Closed, Whole, Inside}
use Rattle.zonecfg_scopes.specs.OpenOf.{config_of}
use Rattle.zonecfg_scopes.specs.Scopes.{made}
use Rattle.zonecfg_scopes.proofs.Followed.{spelled}
use Rattle.zonecfg_scopes.proofs.Steps.{stands_stepped}
use Rattle.zonecfg_lines.specs.declared.refusal.LineRefusal.{LineRefusal}
use Rattle.zonecfg_lines.specs.declared.refusal.LineRefusal.TheVariants.{Usage}
use Rattle.zonecfg_lines.specs.declared.reply.Ending.{Ending}
use Rattle.zonecfg_lines.specs.declared.reply.Ending.TheVariants.{Nothing}
use Rattle.zonecfg_lines.specs.Laws.{AreDenoted, IsRefused, LineDenotes, RefusedLineStands, base_after, is_revert}
use Rattle.zonecfg_lines.specs.Order.{ends_line, has_misplaced, is_any_left}
use Rattle.zonecfg_lines.specs.Runs.{Run, answered, by_answer, first_flaw, followed_by, in_turn, line_by, line_run, obeyed, obeyed_as, refuses, reverted, run, unless_flawed}
use Rattle.zonecfg_lines.proofs.Lasting.{is_last, last_ends, reads_last}

right_false : (a b : Bool) → (a || b) ≡ false → b ≡ false
right_false true b h = absurd (cc)
right_false false b h = h

left_false : (a b : Bool) → (a || b) ≡ false → a ≡ false
left_false true b h = absurd (cc)
left_false false b h = refl

both : (a : Bool) → a ≡ true → (a && true) ≡ true
both true h = refl
both false h = absurd (cc)

-- what ends a line has nothing after it where nothing is misplaced
none_left : (text : List ℕ) (more : List (List ℕ)) → ends_line text ≡ true → has_misplaced (text ∷ more) ≡ false → more ≡ []
none_left text [] is h = refl
none_left text (next ∷ more) is h = absurd (cc (left_false (ends_line text && true) (has_misplaced (next ∷ more)) h, both (ends_line text) is))

rest_placed : (text : List ℕ) (more : List (List ℕ)) → has_misplaced (text ∷ more) ≡ false → has_misplaced more ≡ false
rest_placed text more h = right_false (ends_line text && is_any_left more) (has_misplaced more) h

-- a run asks for something
abbrev asks_more : Result Ending LineRefusal → Bool
asks_more (Ok Nothing) = false
asks_more (Ok ending) = true
asks_more (Err refusal) = false

verified_asks : (said : Result (Unit {0}) Flaw) (e : Edited) → asks_more (unless_flawed said e).end ≡ false
verified_asks (Ok x) e = refl
verified_asks (Err flaw) e = refl

reverted_asks : (stored : Option Base) (e : Edited) → asks_more (reverted stored e).end ≡ false
reverted_asks None e = refl
reverted_asks (Some base) e = refl

verified_edits : (said : Result (Unit {0}) Flaw) (e : Edited) → (unless_flawed said e).edited ≡ e
verified_edits (Ok x) e = refl
verified_edits (Err flaw) e = refl

reverted_stays : (stored : Option Base) (e : Edited) (refusal : LineRefusal) → (reverted stored e).end ≡ Err refusal → (reverted stored e).edited ≡ e
reverted_stays None e refusal h = refl
reverted_stays (Some base) e refusal h = absurd (cc)

-- `verify` and `revert` of themselves leave what is open
verify_stays : (o : Open) → stepped Verify o ≡ o
unfolding made
verify_stays Closed = refl
verify_stays (Whole c) = refl
verify_stays (Inside c r at) = refl

revert_stays : (force : Bool) (o : Open) → stepped (Revert force) o ≡ o
unfolding made
revert_stays force Closed = refl
revert_stays true (Whole c) = refl
revert_stays false (Whole c) = refl
revert_stays force (Inside c r at) = refl

open_same : (e : Edited) (o : Open) → o ≡ e.opened → record e { opened = o } ≡ e
open_same e o h = ap (λ (x : Open). record e { opened = x }) h

-- an editor of which nothing was asked yet
begun : (name : List ℕ) (base : Option Base) → IsAfter [] (opened_on name base)
begun name None = based
begun name (Some b) = based

module _ (stored : Option Base) (brands : List (List ℕ)) where
  abbrev by_made : Command → Edited → Result Open EditFault → Run
  by_made command e m = by_answer stored brands command (edited.answered command e m) e

  replied_last : (command : Command) (e new : Edited) → asks_more (answered stored brands (reply_of command e) new).end ≡ true → is_last command ≡ true
  replied_last Commit e new h = refl
  replied_last (Delete force) e new h = refl
  replied_last (Exit force) e new h = refl
  replied_last Verify e new h = absurd (cc (verified_asks (first_flaw brands (config_of new.opened)) new))
  replied_last (Revert force) e new h = absurd (cc (reverted_asks stored new))
  replied_last command e new h = absurd (cc)

  made_last : (command : Command) (e : Edited) (m : Result Open EditFault) → asks_more (by_made command e m).end ≡ true → is_last command ≡ true
  made_last command e (Ok o) h = replied_last command e (after_command command e) h
  made_last command e (Err fault) h = absurd (cc)

  obeyed_last : (command : Command) (e : Edited) → asks_more (obeyed stored brands command e).end ≡ true → is_last command ≡ true
  unfolding obeyed
  obeyed_last command e h = made_last command e (made command e.opened) h

  -- what asks for something ends the line
  read_last : (read : Result Command EditFault) (e : Edited) → asks_more (obeyed_as stored brands read e).end ≡ true → reads_last read ≡ true
  read_last (Ok command) e h = obeyed_last command e h
  read_last (Err fault) e h = absurd (cc)

  replied_edits : (command : Command) (e new : Edited) → is_revert (Ok command) ≡ false → (answered stored brands (reply_of command e) new).edited ≡ new
  replied_edits (Revert force) e new other = absurd (cc)
  replied_edits Verify e new other = verified_edits (first_flaw brands (config_of new.opened)) new
  replied_edits command e new other = refl

  made_edits : (command : Command) (e : Edited) (m : Result Open EditFault) → made command e.opened ≡ m → is_revert (Ok command) ≡ false → (by_made command e m).edited ≡ after_command command e
  made_edits command e (Ok o) h other = replied_edits command e (after_command command e) other
  made_edits command e (Err fault) h other = sym (ap (λ m. record e { opened = or_stay e.opened m }) h)

  obeyed_edits : (command : Command) (e : Edited) → is_revert (Ok command) ≡ false → (obeyed stored brands command e).edited ≡ after_command command e
  unfolding obeyed
  obeyed_edits command e other = made_edits command e (made command e.opened) refl other

  made_reverts : (force : Bool) (e : Edited) (m : Result Open EditFault) (s : Option Base) (asked : Ending) → stored ≡ s → (by_made (Revert force) e m).end ≡ Ok asked → (by_made (Revert force) e m).edited ≡ opened_on e.name stored
  made_reverts force e (Err fault) s asked is h = absurd (cc)
  made_reverts force e (Ok o) None asked is h = absurd (cc (ap (λ x. (reverted x (after_command (Revert force) e)).end) is))
  made_reverts force e (Ok o) (Some base) asked is h = ap (λ x. (reverted x (after_command (Revert force) e)).edited) is ∙ ap (opened_on e.name) (sym is)

  obeyed_reverts : (force : Bool) (e : Edited) (asked : Ending) → (obeyed stored brands (Revert force) e).end ≡ Ok asked → (obeyed stored brands (Revert force) e).edited ≡ opened_on e.name stored
  unfolding obeyed
  obeyed_reverts force e asked h = made_reverts force e (made (Revert force) e.opened) stored asked refl h

  -- a refused subcommand leaves what is edited
  replied_stays : (command : Command) (e : Edited) (refusal : LineRefusal) → (answered stored brands (reply_of command e) (after_command command e)).end ≡ Err refusal
      → (answered stored brands (reply_of command e) (after_command command e)).edited ≡ e
  replied_stays Verify e refusal h =
      verified_edits (first_flaw brands (config_of (after_command Verify e).opened)) (after_command Verify e) ∙ open_same e (stepped Verify e.opened) (verify_stays e.opened)
  replied_stays (Revert force) e refusal h =
      reverted_stays stored (after_command (Revert force) e) refusal h ∙ open_same e (stepped (Revert force) e.opened) (revert_stays force e.opened)
  replied_stays command e refusal h = absurd (cc)

  made_stays : (command : Command) (e : Edited) (m : Result Open EditFault) (refusal : LineRefusal) → (by_made command e m).end ≡ Err refusal → (by_made command e m).edited ≡ e
  made_stays command e (Ok o) refusal h = replied_stays command e refusal h
  made_stays command e (Err fault) refusal h = refl

  obeyed_stays : (command : Command) (e : Edited) (refusal : LineRefusal) → (obeyed stored brands command e).end ≡ Err refusal → (obeyed stored brands command e).edited ≡ e
  unfolding obeyed
  obeyed_stays command e refusal h = made_stays command e (made command e.opened) refusal h

  read_stays : (read : Result Command EditFault) (e : Edited) (refusal : LineRefusal) → (obeyed_as stored brands read e).end ≡ Err refusal → (obeyed_as stored brands read e).edited ≡ e
  read_stays (Ok command) e refusal h = obeyed_stays command e refusal h
  read_stays (Err fault) e refusal h = refl

  -- what is stood for after one more subcommand, and since which base
  abbrev since : Result Command EditFault → List (List ℕ) → List ℕ → List (List ℕ)
  since read before text = cond (is_revert read) [] (before ++ text ∷ [])

  abbrev now_base : Result Command EditFault → Edited → Option Base
  now_base read e = cond (is_revert read) stored e.base

  abbrev Goes : List (List ℕ) → List ℕ → Result Command EditFault → Edited → Edited → Type 0
  Goes before text read e new = IsAfter (since read before text) new × (new.base ≡ now_base read e)

  goes_along : (before : List (List ℕ)) (text : List ℕ) (read : Result Command EditFault) (e new other : Edited) → new ≡ other → Goes before text read e other → Goes before text read e new
  goes_along before text read e new other same goes = let P : Edited → Type 0 = λ x. Goes before text read e x in subst P (sym same) goes

  goes_stepped : (before : List (List ℕ)) (text : List ℕ) (command : Command) (e : Edited) → command_of text ≡ Ok command → IsAfter before e → IsAfter (before ++ text ∷ []) (after_command command e)
  goes_stepped before text command e h s =
      let Q : List Command → Type 0 = λ cs. Stands (base_config e.base) cs (after_command command e).opened in
      subst Q (sym (spelled before text command h)) (stands_stepped (base_config e.base) (commands_of before) command e.opened s)

  one_more : (before : List (List ℕ)) (text : List ℕ) (read : Result Command EditFault) (e : Edited) (asked : Ending) → command_of text ≡ read → IsAfter before e → (obeyed_as stored brands read e).end ≡ Ok asked
      → Goes before text read e (obeyed_as stored brands read e).edited
  one_more before text (Ok (Revert force)) e asked h s ends =
      goes_along before text (Ok (Revert force)) e (obeyed stored brands (Revert force) e).edited (opened_on e.name stored) (obeyed_reverts force e asked ends) (begun e.name stored, refl)
  one_more before text (Ok command) e asked h s ends =
      goes_along before text (Ok command) e (obeyed stored brands command e).edited (after_command command e) (obeyed_edits command e refl) (goes_stepped before text command e h s, refl)
  one_more before text (Err fault) e asked h s ends = absurd (cc)

  abbrev turn : List (List ℕ) → Edited → Run
  turn = in_turn stored brands

  abbrev one : List ℕ → Edited → Run
  one text e = obeyed_as stored brands (command_of text) e

  -- the first of some subcommands with its end, and those after it
  abbrev with_end : List ℕ → List (List ℕ) → Edited → Result Ending LineRefusal → Run
  with_end text more e end = followed_by (one text e).edited (one text e).told end (turn more)

  nothing_after : (text : List ℕ) (more : List (List ℕ)) (e : Edited) (asked : Ending) → asks_more (Ok asked) ≡ true → has_misplaced (text ∷ more) ≡ false → (one text e).end ≡ Ok asked → more ≡ []
  nothing_after text more e asked last placed ends = none_left text more (last_ends text (read_last (command_of text) e (ap asks_more ends ∙ last))) placed

  abbrev Denotes : List (List ℕ) → Ending → Type 0
  Denotes more ending = (before : List (List ℕ)) (e : Edited) → IsAfter before e → (turn more e).end ≡ Ok ending → AreDenoted stored before more e (turn more e).edited

  -- what is denoted after one subcommand is denoted after it and more
  led_on : (before : List (List ℕ)) (text : List ℕ) (more : List (List ℕ)) (e mid new : Edited) → mid.base ≡ now_base (command_of text) e → AreDenoted stored (since (command_of text) before text) more mid new → AreDenoted stored before (text ∷ more) e new
  led_on before text more e mid new same denoted = record {
    base = denoted.base ∙ ap (λ b. base_after stored b more) same;
    after = denoted.after;
  }

  last_denotes : (text : List ℕ) (more before : List (List ℕ)) (e : Edited) (asked : Ending) → more ≡ [] → IsAfter before e → (one text e).end ≡ Ok asked → AreDenoted stored before (text ∷ more) e (one text e).edited
  last_denotes text more before e asked none s ends =
      let goes = one_more before text (command_of text) e asked refl s ends in
      let P : List (List ℕ) → Type 0 = λ xs. AreDenoted stored before (text ∷ xs) e (one text e).edited in
      subst P (sym none) (record { base = goes.1; after = goes.0 })

  first_denotes : (text : List ℕ) (more before : List (List ℕ)) (e : Edited) (end : Result Ending LineRefusal) (ending : Ending) → has_misplaced (text ∷ more) ≡ false → Denotes more ending
      → IsAfter before e → (one text e).end ≡ end → (with_end text more e end).end ≡ Ok ending → AreDenoted stored before (text ∷ more) e (with_end text more e end).edited
  first_denotes text more before e (Ok Nothing) ending placed rest s ends all =
      let goes = one_more before text (command_of text) e Nothing refl s ends in
      led_on before text more e (one text e).edited (turn more (one text e).edited).edited goes.1 (rest (since (command_of text) before text) (one text e).edited goes.0 all)
  first_denotes text more before e (Ok asked) ending placed rest s ends all = last_denotes text more before e asked (nothing_after text more e asked refl placed ends) s ends
  first_denotes text more before e (Err refusal) ending placed rest s ends all = absurd (cc)

  turns_denote : (texts : List (List ℕ)) (ending : Ending) → has_misplaced texts ≡ false → Denotes texts ending
  turns_denote [] ending placed before e s all = record { base = refl; after = s }
  turns_denote (text ∷ more) ending placed before e s all =
      first_denotes text more before e (one text e).end ending placed (turns_denote more ending (rest_placed text more placed)) s refl all

  abbrev Refused : List (List ℕ) → LineRefusal → Type 0
  Refused more refusal = (before : List (List ℕ)) (e : Edited) → IsAfter before e → (turn more e).end ≡ Err refusal → IsRefused stored brands more before e (turn more e)

  -- the first is refused
  refused_here : (text : List ℕ) (more before : List (List ℕ)) (e : Edited) (refusal : LineRefusal) → IsAfter before e → (one text e).end ≡ Err refusal
      → IsRefused stored brands (text ∷ more) before e (run (one text e).edited (one text e).told (Err refusal))
  refused_here text more before e refusal s ends =
      let stays = read_stays (command_of text) e refusal ends in
      let P : Edited → Type 0 = λ x. AreDenoted stored before [] e x in
      record {
        front = [];
        refused = text;
        rest = more;
        line = refl;
        stands = subst P (sym stays) (record { base = refl; after = s });
        cause = ap (λ x. (one text x).end) stays ∙ ends;
      }

  first_refused : (text : List ℕ) (more before : List (List ℕ)) (e : Edited) (end : Result Ending LineRefusal) (refusal : LineRefusal) → Refused more refusal
      → IsAfter before e → (one text e).end ≡ end → (with_end text more e end).end ≡ Err refusal → IsRefused stored brands (text ∷ more) before e (with_end text more e end)
  first_refused text more before e (Ok Nothing) refusal rest s ends all =
      let goes = one_more before text (command_of text) e Nothing refl s ends in
      let later = rest (since (command_of text) before text) (one text e).edited goes.0 all in
      record {
        front = text ∷ later.front;
        refused = later.refused;
        rest = later.rest;
        line = ap (λ xs. text ∷ xs) later.line;
        stands = led_on before text later.front e (one text e).edited (turn more (one text e).edited).edited goes.1 later.stands;
        cause = later.cause;
      }
  first_refused text more before e (Ok asked) refusal rest s ends all = absurd (cc)
  first_refused text more before e (Err other) refusal rest s ends all = refused_here text more before e other s ends

  turns_refused : (texts : List (List ℕ)) (refusal : LineRefusal) → Refused texts refusal
  turns_refused [] refusal before e s all = absurd (cc)
  turns_refused (text ∷ more) refusal before e s all =
      first_refused text more before e (one text e).end refusal (turns_refused more refusal) s refl all

  texts_denote : (texts before : List (List ℕ)) (e : Edited) (ending : Ending) → IsAfter before e → (line_by stored brands (Ok texts) e).end ≡ Ok ending → AreDenoted stored before texts e (line_by stored brands (Ok texts) e).edited
  texts_denote texts before e ending s =
      elim (has_misplaced texts) as (λ b. has_misplaced texts ≡ b → (cond b (refuses Usage e) (turn texts e)).end ≡ Ok ending → AreDenoted stored before texts e (cond b (refuses Usage e) (turn texts e)).edited) [
        | true ↦ λ is all. absurd (cc)
        | false ↦ λ is all. turns_denote texts ending is before e s all
      ] refl

  texts_refused : (texts before : List (List ℕ)) (e : Edited) (refusal : LineRefusal) → IsAfter before e → has_misplaced texts ≡ false → (line_by stored brands (Ok texts) e).end ≡ Err refusal
      → IsRefused stored brands texts before e (line_by stored brands (Ok texts) e)
  texts_refused texts before e refusal s placed all =
      let P : Bool → Type 0 = λ b. (cond b (refuses Usage e) (turn texts e)).end ≡ Err refusal → IsRefused stored brands texts before e (cond b (refuses Usage e) (turn texts e)) in
      subst P (sym placed) (λ h. turns_refused texts refusal before e s h) all

pub line_denotes : LineDenotes
unfolding line_run
line_denotes stored brands line texts before e ending s read all =
    let P : Result (List (List ℕ)) LexFault → Type 0 = λ r. (line_by stored brands r e).end ≡ Ok ending → AreDenoted stored before texts e (line_by stored brands r e).edited in
    subst P (sym read) (texts_denote stored brands texts before e ending s) all

pub refused_line_stands : RefusedLineStands
unfolding line_run
refused_line_stands stored brands line texts before e refusal s read placed all =
    let P : Result (List (List ℕ)) LexFault → Type 0 = λ r. (line_by stored brands r e).end ≡ Err refusal → IsRefused stored brands texts before e (line_by stored brands r e) in
    subst P (sym read) (texts_refused stored brands texts before e refusal s placed) all

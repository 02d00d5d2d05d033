-- What a session edits is what subcommands denote over its base, after any history.
use Rattle.std.proofs.Common.{◌≡◌, ◌+◌, ◌∷◌, [], ◌∙◌, ℕ, List, Bool, Option, Some, None, Result, Ok, Err, true, false, cond, refl, ap, sym, subst}
use Rattle.std.specs.Prelude.{if◌then◌else◌}
use Rattle.zn_base.specs.Names.{Name}
use Rattle.brand_hooks.specs.Brands.{Tabled, tabled_names}
use Rattle.commit_journal.specs.declared.records.Commit.{Commit as Commit_of}
use Rattle.config_verify.specs.declared.flaw.Flaw.{Flaw}
use Rattle.zone_config.specs.declared.terms.Contents.{Contents}
use Rattle.zone_pools.specs.declared.grant.Grant.{Grant}
use Rattle.zonecfg_lex.specs.Subcommands.{subcommands_of}
use Rattle.zonecfg_lex.specs.declared.fault.LexFault.{LexFault}
use Rattle.zonecfg_scopes.specs.declared.base.Base.{Base}
use Rattle.zonecfg_scopes.specs.declared.command.Command.{Command}
use Rattle.zonecfg_scopes.specs.declared.command.Command.TheVariants.{Commit, Revert, Verify}
use Rattle.zonecfg_scopes.specs.declared.fault.EditFault.{EditFault}
use Rattle.zonecfg_scopes.specs.Denotes.{based as denotes_base}
use Rattle.zonecfg_scopes.specs.Edited as edited
use Rattle.zonecfg_scopes.specs.Edited.{Edited, after_command, or_stay, opened_on, reply_of}
use Rattle.zonecfg_scopes.specs.Forms.{command_of}
use Rattle.zonecfg_scopes.specs.Open.{Open, Nothing as Closed, Whole, Inside}
use Rattle.zonecfg_scopes.specs.OpenOf.{config_of}
use Rattle.zonecfg_scopes.specs.Scopes.{made}
use Rattle.zonecfg_lines.proofs.Denoting.{line_denotes, refused_line_stands}
use Rattle.zonecfg_lines.specs.Order.{has_misplaced}
use Rattle.zonecfg_lines.specs.Runs.{Run, answered, by_answer, first_flaw, followed_by, in_turn, line_by, line_run, obeyed, obeyed_as, refuses, reverted, unless_flawed}
use Rattle.zonecfg_lines.specs.declared.refusal.LineRefusal.{LineRefusal}
use Rattle.zonecfg_lines.specs.declared.refusal.LineRefusal.TheVariants.{Usage}
use Rattle.zonecfg_lines.specs.declared.reply.Ending.{Ending}
use Rattle.zonecfg_lines.specs.declared.reply.Ending.TheVariants as ending
use Rattle.zoneadmd_steps.specs.Arrivals.{Arrival, New_record}
use Rattle.zoneadmd_steps.specs.Objects.{Object_edit, Process_goes, Processes_go}
use Rattle.zone_machine.proofs.Turned_laws.{turn_act}
use Rattle.zone_machine.specs.Machine.{decide, opening, session_number}
use Rattle.zone_machine.specs.Machine.Histories.{after}
use Rattle.zone_cases.specs.Session.Commits.{base_now, based, committed_record, said_to}
use Rattle.zone_cases.specs.State.{At_console, Awaiting, Doing, Logged_in}
use Rattle.zone_cases.specs.State.Decisions.{act_of, acts_world, after_came_world, ticket_ended}
use Rattle.zone_cases.specs.State.Edits.{Edit, Of_objects, comes_world, console_gone_world, edit_world, edits_world, keeps_console, login_ended, logins_ended}
use Rattle.zone_cases.specs.State.Worlds.{World, view_of, world}
use Rattle.zone_cases.specs.declared.events.Entry.{Entry}
use Rattle.zone_cases.specs.declared.events.Event.{Event}
use Rattle.zone_views.proofs.Deciding.{Attaches, Called, Calls, Comes, Consoled, Consoles, Detaches, Does, Drops, Edits, Enters, Forks, Goes, Is_seated, Leaves_off, Opens, Puts, Records, Remounts, Removes, Renames, Says, Seat, Seated, Stores, Takes, Tells, Unseated, Writes, kept_turn, of_any}
use Rattle.zone_views.proofs.Keeping.{kept-after}
use Rattle.zone_views.proofs.Seating.{kept-gone, kept-here, kept-sweep, login-ends, logins-end, ticket-ends}
use Rattle.zone_views.specs.Edits.{EditsDenoted, IsDenoted}

-- an editor of a base to which nothing was said
begun : (name : List ℕ) (base : Option Base) → IsDenoted (opened_on name base)
begun name None = record { said = []; denotes = denotes_base }
begun name (Some b) = record { said = []; denotes = denotes_base }

module _ (stored : Option Base) (brands : List (List ℕ)) where
  abbrev line : List ℕ → Edited → Run
  line = line_run stored brands

  -- what a line leaves, by how it is cut
  line_read : (text : List ℕ) (e : Edited) (r : Result (List (List ℕ)) LexFault) → subcommands_of text ≡ r → line text e ≡ line_by stored brands r e
  unfolding line_run
  line_read text e r read = ap (λ r. line_by stored brands r e) read

  -- what is edited after a line is denoted, where it was before
  pub line_denoted : (text : List ℕ) (e : Edited) → IsDenoted e → IsDenoted (line text e).edited
  line_denoted text e d = at_parts (subcommands_of text) refl
    where
      at_parts : (r : Result (List (List ℕ)) LexFault) → subcommands_of text ≡ r → IsDenoted (line text e).edited
      at_parts (Err fault) read = subst IsDenoted (sym (ap (λ (r : Run). r.edited) (line_read text e (Err fault) read))) d
      at_parts (Ok texts) read = at_place (has_misplaced texts) refl
        where
          at_end : has_misplaced texts ≡ false → (end : Result Ending LineRefusal) → (line text e).end ≡ end → IsDenoted (line text e).edited
          at_end placed (Ok last) h = record { said = _; denotes = (line_denotes stored brands text texts d.said e last d.denotes read h).after }
          at_end placed (Err refusal) h = record { said = _; denotes = (refused_line_stands stored brands text texts d.said e refusal d.denotes read placed h).stands.after }

          at_place : (b : Bool) → has_misplaced texts ≡ b → IsDenoted (line text e).edited
          at_place true m = subst IsDenoted (sym (ap (λ (r : Run). r.edited) (line_read text e (Ok texts) read ∙ ap (λ b. if b then refuses Usage e else in_turn stored brands texts e) m))) d
          at_place false m = at_end m (line text e).end refl

  -- a line that asks for a commit leaves a configuration open in the global scope
  abbrev is_whole : Open → Bool
  is_whole (Whole c) = true
  is_whole o = false

  verified_commit : (said : Result (Unit {0}) Flaw) (e : Edited) → (unless_flawed said e).end ≡ Ok ending.Commit → ⊥
  verified_commit (Ok x) e h = absurd (cc)
  verified_commit (Err flaw) e h = absurd (cc)

  reverted_commit : (stored : Option Base) (e : Edited) → (reverted stored e).end ≡ Ok ending.Commit → ⊥
  reverted_commit None e h = absurd (cc)
  reverted_commit (Some base) e h = absurd (cc)

  commit_made : (o n : Open) → made Commit o ≡ Ok n → is_whole (or_stay o (made Commit o)) ≡ true
  unfolding made
  commit_made Closed n h = absurd (cc)
  commit_made (Whole c) n h = refl
  commit_made (Inside c r at) n h = absurd (cc)

  replied_whole : (command : Command) (e : Edited) (o : Open) → made command e.opened ≡ Ok o → (answered stored brands (reply_of command e) (after_command command e)).end ≡ Ok ending.Commit
      → is_whole (answered stored brands (reply_of command e) (after_command command e)).edited.opened ≡ true
  replied_whole Commit e o is h = commit_made e.opened o is
  replied_whole Verify e o is h = absurd (verified_commit (first_flaw brands (config_of (after_command Verify e).opened)) (after_command Verify e) h)
  replied_whole (Revert force) e o is h = absurd (reverted_commit stored (after_command (Revert force) e) h)
  replied_whole command e o is h = absurd (cc)

  made_whole : (command : Command) (e : Edited) (m : Result Open EditFault) → made command e.opened ≡ m → (by_answer stored brands command (edited.answered command e m) e).end ≡ Ok ending.Commit
      → is_whole (by_answer stored brands command (edited.answered command e m) e).edited.opened ≡ true
  made_whole command e (Ok o) is h = replied_whole command e o is h
  made_whole command e (Err fault) is h = absurd (cc)

  one_whole : (read : Result Command EditFault) (e : Edited) → (obeyed_as stored brands read e).end ≡ Ok ending.Commit → is_whole (obeyed_as stored brands read e).edited.opened ≡ true
  unfolding obeyed
  one_whole (Ok command) e h = made_whole command e (made command e.opened) refl h
  one_whole (Err fault) e h = absurd (cc)

  -- what one subcommand leaves
  abbrev one : List ℕ → Edited → Run
  one text e = obeyed_as stored brands (command_of text) e

  turn_whole : (texts : List (List ℕ)) (e : Edited) → (in_turn stored brands texts e).end ≡ Ok ending.Commit → is_whole (in_turn stored brands texts e).edited.opened ≡ true
  turn_whole [] e h = absurd (cc)
  turn_whole (text ∷ more) e h = at_end (turn_whole more) (one text e).end refl h
    where
      at_end : ((e : Edited) → (in_turn stored brands more e).end ≡ Ok ending.Commit → is_whole (in_turn stored brands more e).edited.opened ≡ true)
          → (end : Result Ending LineRefusal) → (one text e).end ≡ end → (followed_by (one text e).edited (one text e).told end (in_turn stored brands more)).end ≡ Ok ending.Commit
          → is_whole (followed_by (one text e).edited (one text e).told end (in_turn stored brands more)).edited.opened ≡ true
      at_end rest (Ok ending.Nothing) is h = rest (one text e).edited h
      at_end rest (Ok ending.Commit) is h = one_whole (command_of text) e is
      at_end rest (Ok other) is h = absurd (cc)
      at_end rest (Err refusal) is h = absurd (cc)

  line_whole : (text : List ℕ) (e : Edited) → (line text e).end ≡ Ok ending.Commit → is_whole (line text e).edited.opened ≡ true
  unfolding line_run
  line_whole text e h = at_parts (subcommands_of text) h
    where
      at_place : (b : Bool) (texts : List (List ℕ)) → (cond b (refuses Usage e) (in_turn stored brands texts e)).end ≡ Ok ending.Commit → is_whole (cond b (refuses Usage e) (in_turn stored brands texts e)).edited.opened ≡ true
      at_place true texts h = absurd (cc)
      at_place false texts h = turn_whole texts e h

      at_parts : (r : Result (List (List ℕ)) LexFault) → (line_by stored brands r e).end ≡ Ok ending.Commit → is_whole (line_by stored brands r e).edited.opened ≡ true
      at_parts (Ok texts) h = at_place (has_misplaced texts) texts h
      at_parts (Err fault) h = absurd (cc)

-- what was committed denotes nothing more over itself
stored_denoted : (config : Contents) (k : ℕ) (e : Edited) (o : Open) → e.opened ≡ o → is_whole None [] o ≡ true → config_of o ≡ Some config → IsDenoted (based config k e)
stored_denoted config k e Closed is h shown = absurd (cc)
stored_denoted config k e (Inside c r at) is h shown = absurd (cc)
stored_denoted config k e (Whole c) is h shown =
    let same : c ≡ config = cc in
    subst (λ o. IsDenoted (record (based config k e) { opened = o })) (sym (is ∙ ap Whole same)) (record { said = []; denotes = denotes_base })

module _ (z : Name) (w : World) (k : ℕ) (h : EditsDenoted (w.sessions k)) where
  seat_denoted : (d : Option Doing) → Seat z w k d → EditsDenoted d
  seat_denoted _ (Leaves_off e there) = tt
  seat_denoted _ (Opens base is idle) = begun z base
  seat_denoted _ (Says old text there) = line_denoted (base_now (view_of z w)) (tabled_names (view_of z w).world.brands) text old (subst EditsDenoted there h)
  seat_denoted _ (Stores old text config m there ends shown) =
      stored_denoted config m (said_to (view_of z w) old text).edited _ refl (line_whole (base_now (view_of z w)) (tabled_names (view_of z w).world.brands) text old ends) shown

abbrev AllDenoted : World → Type 0
AllDenoted w = (n : ℕ) → EditsDenoted (w.sessions n)

objects_denoted : (e : Object_edit) (w : World) → AllDenoted w → AllDenoted (edit_world None (Of_objects e) w)
objects_denoted (Processes_go p) w h = kept-sweep EditsDenoted tt logins_ended logins-end w.sessions h
objects_denoted (Process_goes pid) w h = kept-sweep EditsDenoted tt (login_ended pid) (login-ends pid) w.sessions h
objects_denoted e w h = h

comes_denoted : (c : Arrival) (w : World) → AllDenoted w → AllDenoted (comes_world c w)
comes_denoted (New_record row) w h = kept-gone EditsDenoted tt (keeps_console row) (record w { stored = row }) h
comes_denoted c w h = h

-- any other event
module _ (z : Name) (w : World) (h : AllDenoted w) where
  seated_denoted : (k : ℕ) (es : List Edit) → Seated z w k es → (v : World) → AllDenoted v → AllDenoted (edits_world (Some k) es v)
  seated_denoted k _ Unseated v is = is
  seated_denoted k _ (Is_seated d s) v is = kept-here EditsDenoted k d v.sessions (seat_denoted z w k (h k) d s) is

  called_denoted : (n : Option ℕ) (c : Option Arrival) (es : List Edit) → Called w n c es → AllDenoted (edits_world n es (after_came_world c w))
  called_denoted _ _ _ (Forks n parent pid p name is) = h
  called_denoted _ _ _ (Enters k pid name escape running idle) = kept-here EditsDenoted k (Some (Logged_in pid escape)) w.sessions tt h
  called_denoted _ _ _ (Comes k pid name running) = h
  called_denoted _ _ _ (Goes n pid) = kept-sweep EditsDenoted tt (login_ended pid) (login-ends pid) w.sessions h
  called_denoted _ _ _ (Renames n pid name) = h
  called_denoted _ _ _ (Drops n pid number) = h

  consoled_denoted : (n : Option ℕ) (es : List Edit) → Consoled w n es → AllDenoted (edits_world n es w)
  consoled_denoted _ _ (Writes n text) = h
  consoled_denoted _ _ (Takes n) = h
  consoled_denoted _ _ (Attaches k escape idle free) = kept-here EditsDenoted k (Some (At_console escape)) w.sessions tt h
  consoled_denoted _ _ (Detaches k escape there) = kept-here EditsDenoted k None w.sessions tt h

  does_denoted : (n : Option ℕ) (c : Option Arrival) (es : List Edit) → Does z w n c es → AllDenoted (edits_world n es (after_came_world c w))
  does_denoted _ _ _ (Tells n) = h
  does_denoted _ _ _ (Edits k es s) = seated_denoted k es s w h
  does_denoted _ _ _ (Records k stored config m es is says s) =
      let row = Some (committed_record z stored config m) in seated_denoted k es s (console_gone_world (keeps_console row) (record w { stored = row })) (kept-gone EditsDenoted tt (keeps_console row) (record w { stored = row }) h)
  does_denoted _ _ _ (Removes k row es is c r s) = seated_denoted k es s (console_gone_world false (record w { stored = None })) (kept-gone EditsDenoted tt false (record w { stored = None }) h)
  does_denoted _ _ _ (Puts k r row is idle room) = kept-here EditsDenoted k (Some (Awaiting (w.desk.last + 1))) w.sessions tt h
  does_denoted _ _ _ (Calls n c es called) = called_denoted n c es called
  does_denoted _ _ _ (Remounts n e mounted) = h
  does_denoted _ _ _ (Consoles n es consoled) = consoled_denoted n es consoled

denoted-event : (z : Name) (w : World) (e : Event) (g : Grant) → AllDenoted w → AllDenoted (acts_world (session_number e) (act_of (decide (view_of z w) e) g) w)
denoted-event z w e g h = of_any z w AllDenoted (λ v is. does_denoted z v is) h g (kept_turn AllDenoted objects_denoted (λ d w h. h) (λ t w h. kept-sweep EditsDenoted tt (ticket_ended t) (ticket-ends t) w.sessions h) comes_denoted (turn_act w g) w h) e

pub denoted-history : (z : Name) (brands : List Tabled) (commits : List Commit_of) (h : List Entry) (n : ℕ) → EditsDenoted ((world z (after (opening brands commits) h)).sessions n)
denoted-history z brands commits h = kept-after AllDenoted denoted-event (λ w d h. h) (λ w h n. tt) (opening brands commits) h (λ z n. tt) z

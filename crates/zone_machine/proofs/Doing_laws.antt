-- Changes of a cell and the shared part.
use Rattle.commit_journal.specs.Store.{change_text}
use Rattle.commit_journal.specs.Stored.{without}
use Rattle.std.proofs.Common.{◌≡◌, ◌∷◌, ◌++◌, [], ℕ, List, Bool, Option, Some, None, true, false, not, ◌&&◌, inl, inr, refl, ap, sym, subst, ◌∙◌, ◌+◌, map, length, arith}
use Rattle.indexmap.specs.IndexMap.{get, get_by, insert_entry}
use Rattle.std.specs.Prelude.{◌≢◌, bytes_eq, nat_eq, is_some, unwrap_or, if◌then◌else◌}
use Rattle.std.specs.Option.{option_map}
use Rattle.std.specs.List.{list_any}
use Rattle.std.proofs.lemmas.Bool.{eqb-true}
use Rattle.zn_base.specs.Names.{Name}
use Rattle.zone_pools.proofs.Holding.{column, gone_column, kept_column}
use Rattle.zone_pools.proofs.Owned_laws.{same_self}
use Rattle.zone_pools.specs.Firsts.{placed}
use Rattle.zone_pools.specs.Owners as owners
use Rattle.zone_pools.specs.Owners.{held_by, is_owner, owner}
use Rattle.commit_journal.proofs.Zones.{placed_is}
use Rattle.commit_journal.specs.Zones.{rows_of}
use Rattle.zone_machine.proofs.Acts_laws.{same_other}
use Rattle.zone_cases.proofs.Doings_laws.{some_ended}
use Rattle.zone_machine.specs.Code.Cells.{Acts, Agree, Does, common_in, declared_in, is_up_in, kept, outside_in, row_in}
use Rattle.zone_cases.specs.Code.Cells.{cell_world}
use Rattle.zoneadmd_steps.specs.Objects.{ids_of, has_zid}
use Rattle.zone_cases.specs.Code.Consoles.{console_edits, console_in}
use Rattle.zone_cases.specs.Code.Doings.{as_doing, ends_with, is_ended, sits, sweep_of, swept_by, unless_ended}
use Rattle.zone_machine.specs.Code.Works.{Works, arrival_by, endings, rest_of, with_row, work_act, work_world}
use Rattle.datalink_table.specs.Claims.{holds}
use Rattle.datalink_table.specs.Shared.{holder}
use Rattle.datalink_table.specs.declared.claims.Claim.{Claim}
use Rattle.zone_machine.specs.Machine.Common.{Common, came_common, holding, holds_claim, holds_pid, holds_zid, standing}
use Rattle.zone_cases.specs.State.Edits.{Edit, Here, Of_objects, Set_desk, at_session, console_gone_world, edit_world, edits_world, keeps_console, swept_doing}
use Rattle.console_link.specs.Consoles.{Console, new_console}
use Rattle.zone_cases.specs.State.Worlds.{World}
use Rattle.zone_cases.specs.declared.cell.Cell.{Cell}
use Rattle.kernel_objects.specs.Processes.{has_pid}
use Rattle.kernel_objects.specs.Shared.{pid_owner, zid_owner}
use Rattle.commit_journal.specs.declared.records.Record.{Record}
use Rattle.zone_machine.specs.declared.machine.shared.Shared.{Shared}
use Rattle.zoneadmd_steps.specs.declared.objects.changes.ObjectEdit.TheVariants.{EndIds, EndProcesses}
use Rattle.zoneadmd_steps.specs.declared.objects.changes.ObjectEdit.TheVariants as object
use Rattle.zoneadmd_steps.specs.Arrivals.{Arrival, New_claim, New_id, New_process, New_record, No_new_thing, in_kernel, in_store}
use Rattle.zone_cases.specs.State.Decisions.{Act, acts_world, after_came_world}
use Rattle.zone_machine.specs.Code.Rooms.{IsOpenTo}
use Rattle.zone_cases.specs.declared.cases.Sitting.{Sitting}
use Rattle.zone_cases.specs.declared.session.doings.Doing.{Doing}
use Rattle.zone_cases.specs.declared.session.doings.Doing.TheVariants.{AtConsole, Awaits, Edits, LoggedIn}
use Rattle.zone_cases.specs.declared.session.doings.Ended.{Ended}
use Rattle.zone_cases.specs.declared.session.doings.Ended.TheVariants.{Console as Console_ends, Process, Processes, Ticket}
use Rattle.zone_machine.specs.declared.machine.work.Work.{Work}
use Rattle.zoneadmd_steps.specs.declared.objects.changes.ObjectEdit.{ObjectEdit}
use Rattle.zoneadmd_steps.specs.declared.desks.Desk.{Desk}
use Rattle.zoneadmd_steps.specs.Desks as desks
use Rattle.zoneadmd_steps.specs.Code.Desks.{as_desk}
use Rattle.zoneadmd_steps.specs.Code.Cases.{object_edits}

-- the columns that stay
module _ (z : Name) (c : Cell) (s : Shared) (agree : Agree z c s) where
  pub same_pids : (y : Name) (n : ℕ) → held_by (pid_owner s.kernel) y n ≡ owners.holding z (λ n. list_any (has_pid n) c.kernel.processes) (held_by (pid_owner s.kernel)) y n
  same_pids = kept_column z (λ n. list_any (has_pid n) c.kernel.processes) (pid_owner s.kernel) agree.pids

  pub same_zids : (y : Name) (n : ℕ) → held_by (zid_owner s.kernel) y n ≡ owners.holding z (λ n. list_any (has_zid n) (ids_of c.kernel.id)) (held_by (zid_owner s.kernel)) y n
  same_zids = kept_column z (λ n. list_any (has_zid n) (ids_of c.kernel.id)) (zid_owner s.kernel) agree.zids

  pub same_claims : (y : Name) (k : Claim) → held_by (λ k. holder k s.claims) y k ≡ owners.holding z (λ k. holds k c.claims.claims) (held_by (λ k. holder k s.claims)) y k
  same_claims = kept_column z (λ k. holds k c.claims.claims) (λ k. holder k s.claims) agree.claims

  pub same_sessions : (y : Name) (n : ℕ) → held_by (owner nat_eq s.sessions) y n ≡ owners.holding z (λ n. is_some (get nat_eq c.doings n)) (held_by (owner nat_eq s.sessions)) y n
  same_sessions = kept_column z (λ n. is_some (get nat_eq c.doings n)) (owner nat_eq s.sessions) agree.sessions

pub holds_doing : (o : Option Doing) → is_some (option_map as_doing o) ≡ is_some o
holds_doing None = refl
holds_doing (Some d) = refl

-- what is common, by its columns
pub common_by : (z : Name) (w : World) (g : Common) (t : Shared) (doings : ℕ → Option Doing)
    → ((y : Name) (n : ℕ) → held_by (pid_owner t.kernel) y n ≡ owners.holding z (holds_pid w) g.pids y n)
    → ((y : Name) (n : ℕ) → held_by (zid_owner t.kernel) y n ≡ owners.holding z (holds_zid w) g.zids y n)
    → ((y : Name) (k : Claim) → held_by (λ k. holder k t.claims) y k ≡ owners.holding z (holds_claim w) g.claims y k)
    → ((y : Name) (n : ℕ) → held_by (owner nat_eq t.sessions) y n ≡ owners.holding z (λ n. is_some (doings n)) g.sessions y n)
    → ((n : ℕ) → is_some (w.sessions n) ≡ is_some (doings n))
    → is_up_in t ≡ g.up → rows_of t.rows.entries ≡ g.rows → t.serial ≡ g.serial → t.used ≡ g.used → t.kernel.last_pid ≡ g.last_pid → t.kernel.last_zid ≡ g.last_zid → declared_in t ≡ g.declared → t.brands ≡ g.brands → t.started ≡ g.started
    → common_in t ≡ holding z w g
common_by z w g t doings pids zids claims sessions seen up rows serial used last_pid last_zid declared brands started = λ i. record {
  pids = λ y n. pids y n i;
  zids = λ y n. zids y n i;
  claims = λ y k. claims y k i;
  up = up i;
  brands = brands i;
  sessions = λ y n. (sessions y n ∙ ap (λ b. if bytes_eq z y then b else g.sessions y n) (sym (seen n))) i;
  rows = rows i;
  serial = serial i;
  used = used i;
  last_pid = last_pid i;
  last_zid = last_zid i;
  declared = declared i;
  started = started i;
}

-- a session does something or nothing from now on, or what some did ends; d is the cell with what sessions do then
pub does_sits : (z : Name) (c d : Cell) (s t : Shared) (k : ℕ) (x : Option Doing) → IsOpenTo z (owner nat_eq s.sessions k)
    → ((n : ℕ) → owner nat_eq t.sessions n ≡ (if nat_eq k n then option_map (λ _. z) x else owner nat_eq s.sessions n))
    → ((n : ℕ) → get nat_eq d.doings n ≡ at_session (Some k) n x (get nat_eq c.doings n))
    → Does z (edits_world (Some k) (Here (option_map as_doing x) ∷ [])) kept c s (record c { doings = d.doings }) (record s { sessions = t.sessions })
does_sits z c d s t k x is_open taken h = record {
  world = λ a i. record (cell_world (outside_in z s) c) { sessions = λ n. doings n i };
  common = λ a. common_by z (record (cell_world (outside_in z s) c) { sessions = λ n. at_session (Some k) n (option_map as_doing x) (option_map as_doing (get nat_eq c.doings n)) }) (common_in s)
      (record s { sessions = t.sessions }) (get nat_eq d.doings) (same_pids z c s a) (same_zids z c s a) (same_claims z c s a)
      (column z (λ n. is_some (get nat_eq d.doings n)) (owner nat_eq s.sessions) (owner nat_eq t.sessions)
      (λ n. ap (is_owner z) (taken n) ∙ (here a n x (nat_eq k n) ∙ sym (ap is_some (h n)))) (λ y ne n. ap (is_owner y) (taken n) ∙ there y ne n x (nat_eq k n) refl))
      (λ n. ap is_some (sym (doings n)) ∙ holds_doing (get nat_eq d.doings n)) refl refl refl refl refl refl refl refl refl;
}
  where
    mapped : (b : Bool) (o : Option Doing) → option_map as_doing (if b then x else o) ≡ (if b then option_map as_doing x else option_map as_doing o)
    mapped true o = refl
    mapped false o = refl

    doings : (n : ℕ) → option_map as_doing (get nat_eq d.doings n) ≡ at_session (Some k) n (option_map as_doing x) (option_map as_doing (get nat_eq c.doings n))
    doings n = ap (option_map as_doing) (h n) ∙ mapped (nat_eq k n) (get nat_eq c.doings n)

    here : Agree z c s → (n : ℕ) (x : Option Doing) (b : Bool) → is_owner z (if b then option_map (λ _. z) x else owner nat_eq s.sessions n) ≡ is_some (if b then x else get nat_eq c.doings n)
    here a n (Some x) true = same_self z
    here a n None true = refl
    here a n x false = sym (a.sessions n)

    not_mine : (y : Name) → y ≢ z → (o : Option Name) → IsOpenTo z o → is_owner y o ≡ false
    not_mine y ne None is_open = refl
    not_mine y ne (Some w) (inl none) = absurd (cc)
    not_mine y ne (Some w) (inr some) = let same : w ≡ z = cc in ap (bytes_eq y) same ∙ same_other y z ne

    not_then : (y : Name) → y ≢ z → (x : Option Doing) → is_owner y (option_map (λ _. z) x) ≡ false
    not_then y ne None = refl
    not_then y ne (Some x) = same_other y z ne

    there : (y : Name) → y ≢ z → (n : ℕ) (x : Option Doing) (b : Bool) → nat_eq k n ≡ b → is_owner y (if b then option_map (λ _. z) x else owner nat_eq s.sessions n) ≡ is_owner y (owner nat_eq s.sessions n)
    there y ne n x true e = not_then y ne x ∙ sym (subst (λ m. is_owner y (owner nat_eq s.sessions m) ≡ false) (eqb-true k n e) (not_mine y ne (owner nat_eq s.sessions k) is_open))
    there y ne n x false e = refl

-- one test, of what a session does
swept_if : (b : Bool) (d : Doing) → option_map as_doing (if b then None else Some d) ≡ (if b then None else Some (as_doing d))
swept_if true d = refl
swept_if false d = refl

swept_as : (e : Ended) (o : Option Doing) → option_map as_doing (unless_ended e o) ≡ swept_doing (sweep_of e) (option_map as_doing o)
swept_as (Ticket t) None = refl
swept_as (Process pid) None = refl
swept_as Processes None = refl
swept_as Console_ends None = refl
swept_as (Ticket t) (Some (Awaits u)) = swept_if (nat_eq t u) (Awaits u)
swept_as (Ticket t) (Some (Edits e)) = refl
swept_as (Ticket t) (Some (LoggedIn p escape)) = refl
swept_as (Ticket t) (Some (AtConsole escape)) = refl
swept_as (Process pid) (Some (Awaits u)) = refl
swept_as (Process pid) (Some (Edits e)) = refl
swept_as (Process pid) (Some (LoggedIn p escape)) = swept_if (nat_eq pid p) (LoggedIn p escape)
swept_as (Process pid) (Some (AtConsole escape)) = refl
swept_as Processes (Some (Awaits u)) = refl
swept_as Processes (Some (Edits e)) = refl
swept_as Processes (Some (LoggedIn p escape)) = refl
swept_as Processes (Some (AtConsole escape)) = refl
swept_as Console_ends (Some (Awaits u)) = refl
swept_as Console_ends (Some (Edits e)) = refl
swept_as Console_ends (Some (LoggedIn p escape)) = refl
swept_as Console_ends (Some (AtConsole escape)) = refl

pub does_ends : (z : Name) (c d : Cell) (s t : Shared) (e : Ended) → ((n : ℕ) → get nat_eq d.doings n ≡ unless_ended e (get nat_eq c.doings n))
    → ((n : ℕ) → owner nat_eq t.sessions n ≡ (if is_ended e (get nat_eq c.doings n) then None else owner nat_eq s.sessions n))
    → Does z (swept_by e) kept c s (record c { doings = d.doings }) (record s { sessions = t.sessions })
does_ends z c d s t e h given = record {
  world = λ a i. record (cell_world (outside_in z s) c) { sessions = λ n. doings n i };
  common = λ a. common_by z (swept_by e (cell_world (outside_in z s) c)) (common_in s)
      (record s { sessions = t.sessions }) (get nat_eq d.doings) (same_pids z c s a) (same_zids z c s a) (same_claims z c s a)
      (gone_column z (λ n. is_some (get nat_eq c.doings n)) (λ n. is_some (get nat_eq d.doings n)) (λ n. is_ended e (get nat_eq c.doings n)) (owner nat_eq s.sessions) (owner nat_eq t.sessions)
      a.sessions (λ n. some_ended e (get nat_eq c.doings n)) given (λ n. ap is_some (h n) ∙ less (get nat_eq c.doings n)))
      (λ n. ap is_some (sym (doings n)) ∙ holds_doing (get nat_eq d.doings n)) refl refl refl refl refl refl refl refl refl;
}
  where
    doings : (n : ℕ) → option_map as_doing (get nat_eq d.doings n) ≡ swept_doing (sweep_of e) (option_map as_doing (get nat_eq c.doings n))
    doings n = ap (option_map as_doing) (h n) ∙ swept_as e (get nat_eq c.doings n)

    less : (o : Option Doing) → is_some (unless_ended e o) ≡ (is_some o && not (is_ended e o))
    less None = refl
    less (Some u) = at_test (ends_with e u)
      where
        at_test : (b : Bool) → is_some (if b then None else Some u) ≡ not b
        at_test true = refl
        at_test false = refl

-- a session that is nobody's or the zone's stays so
pub open_ended : (z : Name) (b : Bool) (o : Option Name) → IsOpenTo z o → IsOpenTo z (if b then None else o)
open_ended z true o h = inl refl
open_ended z false o h = h

-- a console is gone, which the cell has as new then, if at all, once those at it do something else
pub does_renew : (z : Name) (c d : Cell) (s : Shared) → console_in d.console ≡ new_console → Does z (λ w. record w { console = new_console }) kept c s (record c { console = d.console }) s
does_renew z c d s new = record {
  world = λ a i. record (cell_world (outside_in z s) c) { console = new i };
  common = λ a. common_by z (record (cell_world (outside_in z s) c) { console = new_console }) (common_in s) s (get nat_eq c.doings) (same_pids z c s a) (same_zids z c s a) (same_claims z c s a) (same_sessions z c s a)
      (λ n. holds_doing (get nat_eq c.doings n)) refl refl refl refl refl refl refl refl refl;
}

-- what becomes of a console
pub does_console : (z : Name) (f : Console → Console) (c d : Cell) (s : Shared) → console_in d.console ≡ f (console_in c.console) → Does z (λ w. record w { console = f w.console }) kept c s (record c { console = d.console }) s
does_console z f c d s is = record {
  world = λ a i. record (cell_world (outside_in z s) c) { console = is i };
  common = λ a. common_by z (record (cell_world (outside_in z s) c) { console = f (console_in c.console) }) (common_in s) s (get nat_eq c.doings) (same_pids z c s a) (same_zids z c s a) (same_claims z c s a) (same_sessions z c s a)
      (λ n. holds_doing (get nat_eq c.doings n)) refl refl refl refl refl refl refl refl refl;
}

-- a record is stored
pub does_record : (z : Name) (c : Cell) (s t : Shared) (r : Record) → t.rows.entries ≡ insert_entry bytes_eq s.rows.entries z r → row_in z t ≡ Some r
    → Does z (with_row (Some r)) (came_common z (Some (New_record (Some r)))) c s c (record s { rows = t.rows; serial = s.serial + 1; used = s.used + (5 + length (change_text z (Some r))) })
does_record z c s t r h found = record {
  world = λ a i. record (cell_world (outside_in z s) c) { stored = found i };
  common = λ a. common_by z (record (cell_world (outside_in z s) c) { stored = Some r }) (record (common_in s) { rows = placed z r (rows_of s.rows.entries); serial = s.serial + 1; used = s.used + 5 + length (change_text z (Some r)) })
      (record s { rows = t.rows; serial = s.serial + 1; used = s.used + (5 + length (change_text z (Some r))) }) (get nat_eq c.doings) (same_pids z c s a) (same_zids z c s a) (same_claims z c s a) (same_sessions z c s a) (λ n. holds_doing (get nat_eq c.doings n))
      refl (ap rows_of h ∙ placed_is z r s.rows.entries) refl (omega arith) refl refl refl refl refl;
}

pub does_removal : (z : Name) (c : Cell) (s t : Shared) → rows_of t.rows.entries ≡ without z (rows_of s.rows.entries) → row_in z t ≡ None
    → Does z (with_row None) (came_common z (Some (New_record None))) c s c (record s { rows = t.rows; serial = s.serial + 1; used = s.used + (5 + length (change_text z None)) })
does_removal z c s t h gone = record {
  world = λ a i. record (cell_world (outside_in z s) c) { stored = gone i };
  common = λ a. common_by z (record (cell_world (outside_in z s) c) { stored = None }) (record (common_in s) { rows = without z (rows_of s.rows.entries); serial = s.serial + 1; used = s.used + 5 + length (change_text z None) })
      (record s { rows = t.rows; serial = s.serial + 1; used = s.used + (5 + length (change_text z None)) }) (get nat_eq c.doings) (same_pids z c s a) (same_zids z c s a) (same_claims z c s a) (same_sessions z c s a) (λ n. holds_doing (get nat_eq c.doings n))
      refl h refl (omega arith) refl refl refl refl refl;
}

-- one after another
same_again : (z y : Name) (a b d : Bool) → (if bytes_eq z y then a else (if bytes_eq z y then b else d)) ≡ (if bytes_eq z y then a else d)
same_again z y a b d = at_zone (bytes_eq z y)
  where
    at_zone : (e : Bool) → (if e then a else (if e then b else d)) ≡ (if e then a else d)
    at_zone true = refl
    at_zone false = refl

pub holding_again : (z : Name) (v w : World) (c : Common) → holding z w (holding z v c) ≡ holding z w c
holding_again z v w c = λ i. record c {
  pids = λ y n. same_again z y (list_any (has_pid n) w.processes) (list_any (has_pid n) v.processes) (c.pids y n) i;
  zids = λ y n. same_again z y (list_any (has_zid n) w.ids) (list_any (has_zid n) v.ids) (c.zids y n) i;
  claims = λ y k. same_again z y (holds k w.claims) (holds k v.claims) (c.claims y k) i;
  sessions = λ y n. same_again z y (is_some (w.sessions n)) (is_some (v.sessions n)) (c.sessions y n) i;
}

own_if : (z : Name) (a b : Bool) → (if bytes_eq z z then a else b) ≡ a
own_if z a b = ap (λ e. if e then a else b) (same_self z)

-- the shared part still agrees with the cell
pub does_agree : (z : Name) (f : World → World) (g : Common → Common) (c d : Cell) (s t : Shared) → Does z f g c s d t → Agree z c s → Agree z d t
does_agree z f g c d s t does a = record {
  pids = λ n. ap (λ w. list_any (has_pid n) w.processes) (does.world a) ∙ sym (ap (λ k. k.pids z n) (does.common a) ∙ own_if z _ _);
  zids = λ n. ap (λ w. list_any (has_zid n) w.ids) (does.world a) ∙ sym (ap (λ k. k.zids z n) (does.common a) ∙ own_if z _ _);
  claims = λ k. ap (λ w. holds k w.claims) (does.world a) ∙ sym (ap (λ g. g.claims z k) (does.common a) ∙ own_if z _ _);
  sessions = λ n. sym (holds_doing (get nat_eq d.doings n)) ∙ (ap (λ w. is_some (w.sessions n)) (does.world a) ∙ sym (ap (λ k. k.sessions z n) (does.common a) ∙ own_if z _ _));
}

pub does_then : (z : Name) (f f' : World → World) (g g' : Common → Common) (c d e : Cell) (s t u : Shared) → ((w : World) (k : Common) → g' (holding z w k) ≡ holding z w (g' k))
    → Does z f g c s d t → Does z f' g' d t e u → Does z (λ w. f' (f w)) (λ k. g' (g k)) c s e u
does_then z f f' g g' c d e s t u apart one two = record {
  world = λ a. two.world (does_agree z f g c d s t one a) ∙ ap f' (one.world a);
  common = λ a.
      two.common (does_agree z f g c d s t one a)
      ∙ (ap (λ w. holding z (f' w) (g' (common_in t))) (one.world a)
      ∙ (ap (λ k. holding z (f' (f (cell_world (outside_in z s) c))) (g' k)) (one.common a)
      ∙ (ap (holding z (f' (f (cell_world (outside_in z s) c)))) (apart (f (cell_world (outside_in z s) c)) (g (common_in s)))
      ∙ holding_again z (f (cell_world (outside_in z s) c)) (f' (f (cell_world (outside_in z s) c))) (g' (g (common_in s))))));
}

-- what comes is apart from what the zones hold
pub kept_apart : (z : Name) (w : World) (k : Common) → kept (holding z w k) ≡ holding z w (kept k)
kept_apart z w k = refl

pub came_apart : (z : Name) (a : Option Arrival) (w : World) (k : Common) → came_common z a (holding z w k) ≡ holding z w (came_common z a k)
came_apart z None w k = refl
came_apart z (Some (New_process p)) w k = refl
came_apart z (Some (New_id i)) w k = refl
came_apart z (Some (New_claim c)) w k = refl
came_apart z (Some (New_record row)) w k = refl
came_apart z (Some No_new_thing) w k = refl

-- what is taken after it was given back
pub retaken : (b : Bool) (z : Name) (o : Option Name) → (if b then Some z else (if b then None else o)) ≡ (if b then Some z else o)
retaken true z o = refl
retaken false z o = refl

-- what becomes of the event's session, on a world whose desk is changed to what it was
pub sits_alone : (n : Option ℕ) (v : World) (d : desks.Desk) (es : List Edit) (x : Option Sitting) → sits x ≡ es → v.desk ≡ d → edits_world n (sits x ++ (Set_desk d ∷ [])) v ≡ edits_world n es v
sits_alone n v d es x is desk = at_sitting x ∙ ap (λ es. edits_world n es v) is
  where
    at_sitting : (x : Option Sitting) → edits_world n (sits x ++ (Set_desk d ∷ [])) v ≡ edits_world n (sits x) v
    at_sitting None = ap (λ (d : desks.Desk). record v { desk = d }) (sym desk)
    at_sitting (Some s) = ap (λ (d : desks.Desk). record (edits_world n (sits (Some s)) v) { desk = d }) (sym desk)

-- the act of some work on a world whose desk is changed already
pub edits-then : (n : Option ℕ) (xs ys : List Edit) (w : World) → edits_world n (xs ++ ys) w ≡ edits_world n ys (edits_world n xs w)
edits-then n [] ys w = refl
edits-then n (x ∷ xs) ys w = edits-then n xs ys (edit_world n x w)

desk-came : (c : Option Arrival) (w : World) (d : desks.Desk) → after_came_world c (record w { desk = d }) ≡ record (after_came_world c w) { desk = d }
desk-came None w d = refl
desk-came (Some (New_process p)) w d = refl
desk-came (Some (New_id i)) w d = refl
desk-came (Some (New_claim c)) w d = refl
desk-came (Some (New_record r)) w d = at_keeps (keeps_console r)
  where
    at_keeps : (b : Bool) → console_gone_world b (record w { desk = d; stored = r }) ≡ record (console_gone_world b (record w { stored = r })) { desk = d }
    at_keeps true = refl
    at_keeps false = refl
desk-came (Some No_new_thing) w d = refl

pub desk-objects : (n : Option ℕ) (o : ObjectEdit) (w : World) (d : desks.Desk) → edits_world n (map Of_objects (object_edits o)) (record w { desk = d }) ≡ record (edits_world n (map Of_objects (object_edits o)) w) { desk = d }
desk-objects n object.Nothing w d = refl
desk-objects n object.EndProcesses w d = refl
desk-objects n (object.Mount m) w d = refl
desk-objects n (object.Unmount dir) w d = refl
desk-objects n (object.UnmountLast dir) w d = refl
desk-objects n (object.ReleaseLast claim) w d = refl
desk-objects n (object.Hold dir) w d = refl
desk-objects n (object.Release dir) w d = refl
desk-objects n object.EndIds w d = refl
desk-objects n object.EndClaim w d = refl
desk-objects n (object.SetDevices ds) w d = refl
desk-objects n object.DropDevices w d = refl
desk-objects n (object.SetBootargs args) w d = refl
desk-objects n object.Clear w d = refl
desk-objects n (object.EndProcess pid) w d = refl
desk-objects n (object.Rename pid name) w d = refl
desk-objects n (object.GiveUp pid number) w d = refl
desk-objects n (object.SetLimits l) w d = refl
desk-objects n object.ClearLimits w d = refl

desk-sits : (n : Option ℕ) (x : Option Sitting) (w : World) (d : desks.Desk) → edits_world n (sits x) (record w { desk = d }) ≡ record (edits_world n (sits x) w) { desk = d }
desk-sits n None w d = refl
desk-sits n (Some s) w d = refl

work-desk : (n : Option ℕ) (w : World) (d : desks.Desk) (work : Work) → work_world n work (record w { desk = d }) ≡ acts_world n (work_act work d) w
work-desk n w d work =
    let came = arrival_by work.stored in
    let objects = map Of_objects (object_edits work.objects) in
    let after = after_came_world came w in
    let sat = edits_world n (sits work.sits) after in
    let ends = console_edits work.console ++ endings work.ended in
    ap (λ (v : World). edits_world n (endings work.ended) (edits_world n (console_edits work.console) v))
    (ap (λ v. edits_world n objects (edits_world n (sits work.sits) v)) (desk-came came w d) ∙ (ap (edits_world n objects) (desk-sits n work.sits after d) ∙ desk-objects n work.objects sat d))
    ∙ sym (edits-then n (sits work.sits) (objects ++ (Set_desk d ∷ ends)) after
    ∙ (edits-then n objects (Set_desk d ∷ ends) sat
    ∙ edits-then n (console_edits work.console) (endings work.ended) (record (edits_world n objects sat) { desk = d })))

-- so work that does what an act says does it, where the desk is changed before
pub does_work : (z : Name) (n : Option ℕ) (a : Act) (work : Work) (c d : Cell) (desk : Desk) (s t : Shared) → Works n a (cell_world (outside_in z s) c) (as_desk desk) work
    → Does z (work_world n work) (came_common z (arrival_by work.stored)) (record c { desk = desk }) s d t → Does z (acts_world n a) (came_common z a.came) c s d t
does_work z n a work c d desk s t works does =
    let w = cell_world (outside_in z s) c in
    let lasts : work_world n work (record w { desk = as_desk desk }) ≡ acts_world n a w = work-desk n w (as_desk desk) work ∙ works.world in
    record {
      world = λ a. does.world (record { pids = a.pids; zids = a.zids; claims = a.claims; sessions = a.sessions }) ∙ lasts;
      common = λ agree.
          does.common (record { pids = agree.pids; zids = agree.zids; claims = agree.claims; sessions = agree.sessions })
          ∙ (ap (λ v. holding z v (came_common z (arrival_by work.stored) (common_in s))) lasts
          ∙ ap (λ x. holding z (acts_world n a w) (came_common z x (common_in s))) works.came);
    }

-- the parts of what came
came_parts : (a : Option Arrival) (w : World) → after_came_world (in_store a) (after_came_world (in_kernel a) w) ≡ after_came_world a w
came_parts None w = refl
came_parts (Some (New_process p)) w = refl
came_parts (Some (New_id i)) w = refl
came_parts (Some (New_claim c)) w = refl
came_parts (Some (New_record row)) w = refl
came_parts (Some No_new_thing) w = refl

common_parts : (z : Name) (a : Option Arrival) (k : Common) → came_common z (in_store a) (came_common z (in_kernel a) k) ≡ came_common z a k
common_parts z None k = refl
common_parts z (Some (New_process p)) k = refl
common_parts z (Some (New_id i)) k = refl
common_parts z (Some (New_claim c)) k = refl
common_parts z (Some (New_record row)) k = refl
common_parts z (Some No_new_thing) k = refl

-- the shared part says whether z is up, once all else is done; u is the shared part then
pub acts_up : (z : Name) (f : World → World) (g : Common → Common) (c d : Cell) (s t u : Shared) → Does z f g c s d t → t.ups ≡ s.ups → u ≡ record t { ups = u.ups }
    → (is_up_in t z ≡ is_some c.desk.active → (y : Name) → is_up_in u y ≡ (if bytes_eq z y then is_some d.desk.active else is_up_in t y)) → Acts z f g c s d u
acts_up z f g c d s t u does same only marked = record {
  world = λ a. ap (λ (u : Shared). cell_world (outside_in z u) d) only ∙ does.world a;
  common = λ a was.
      ap common_in only
      ∙ ((λ i. record (common_in t) { up = λ y. marked (ap (λ ups. unwrap_or (get_by (bytes_eq z) ups) false) same ∙ was) y i })
      ∙ (ap (λ w. standing z w (common_in t)) (does.world a)
      ∙ ap (standing z (f (cell_world (outside_in z s) c))) (does.common a)));
}

-- one after another, where the first leaves who is up
pub acts_then : (z : Name) (f f' : World → World) (g g' : Common → Common) (c d e : Cell) (s t u : Shared) → ((w : World) (k : Common) → g' (holding z w k) ≡ holding z w (g' k))
    → is_up_in t z ≡ is_up_in s z → d.desk.active ≡ c.desk.active → Does z f g c s d t → Acts z f' g' d t e u → Acts z (λ w. f' (f w)) (λ k. g' (g k)) c s e u
acts_then z f f' g g' c d e s t u apart up desk one two = record {
  world = λ a. two.world (does_agree z f g c d s t one a) ∙ ap f' (one.world a);
  common = λ a was.
      two.common (does_agree z f g c d s t one a) (up ∙ (was ∙ ap is_some (sym desk)))
      ∙ (ap (λ w. standing z (f' w) (holding z (f' w) (g' (common_in t)))) (one.world a)
      ∙ ap (standing z (f' (f (cell_world (outside_in z s) c))))
      (ap (λ k. holding z (f' (f (cell_world (outside_in z s) c))) (g' k)) (one.common a)
      ∙ (ap (holding z (f' (f (cell_world (outside_in z s) c)))) (apart (f (cell_world (outside_in z s) c)) (g (common_in s)))
      ∙ holding_again z (f (cell_world (outside_in z s) c)) (f' (f (cell_world (outside_in z s) c))) (g' (g (common_in s))))));
}

-- a whole act: what comes to the kernel, and then the rest
pub acts_whole : (z : Name) (n : Option ℕ) (a : Act) (c d e : Cell) (s t u : Shared) → is_up_in t z ≡ is_up_in s z → d.desk.active ≡ c.desk.active → Does z (after_came_world (in_kernel a.came)) (came_common z (in_kernel a.came)) c s d t
    → Acts z (acts_world n (rest_of a)) (came_common z (in_store a.came)) d t e u → Acts z (acts_world n a) (came_common z a.came) c s e u
acts_whole z n a c d e s t u up desk one two =
    let both = acts_then z (after_came_world (in_kernel a.came)) (acts_world n (rest_of a)) (came_common z (in_kernel a.came)) (came_common z (in_store a.came)) c d e s t u (came_apart z (in_store a.came)) up desk one two in
    let w = cell_world (outside_in z s) c in
    let acts : acts_world n (rest_of a) (after_came_world (in_kernel a.came) w) ≡ acts_world n a w = ap (edits_world n a.effect.edits) (came_parts a.came w) in
    record {
      world = λ g. both.world g ∙ acts;
      common = λ g was. both.common g was
          ∙ (ap (λ v. standing z v (holding z v (came_common z (in_store a.came) (came_common z (in_kernel a.came) (common_in s))))) acts
          ∙ ap (λ k. standing z (acts_world n a w) (holding z (acts_world n a w) k)) (common_parts z a.came (common_in s)));
    }

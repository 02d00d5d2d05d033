-- What a session's line does to the sessions: where it is answered a ticket its session waits for that ticket from then on, and of no other
-- session does it end a wait.
use Rattle.std.proofs.Common.{◌≡◌, ◌&&◌, ◌⊎◌, ◌+◌, ◌++◌, ◌∷◌, [], ℕ, List, Bool, Option, Some, None, true, false, ap, inl, inr, nat_eq, not, refl, sym, subst, ◌∙◌}
use Rattle.std.specs.Prelude.{◌==◌, ◌||◌, Result, Ok as Right, Err, bytes_eq, if◌then◌else◌}
use Rattle.std.specs.List.{list_all}
use Rattle.std.proofs.lemmas.Bool.{and_from, and_parts, eq-eqb, false≢true}
use Rattle.brand_hooks.specs.Brands.{Tabled, tabled_names}
use Rattle.commit_journal.specs.declared.records.Record.{Record}
use Rattle.config_verify.specs.Flaws.{first, flaws}
use Rattle.config_verify.specs.declared.flaw.Flaw.{Flaw}
use Rattle.console_link.specs.Consoles.{Console}
use Rattle.kernel_objects.specs.Kernel.{Kernel, at_limit, entered, fork_set, fs_allowed_of}
use Rattle.kernel_objects.specs.Processes.{Process, ends, may_exec, may_mount}
use Rattle.kernel_objects.specs.declared.faults.Errno.{Errno}
use Rattle.kernel_objects.specs.declared.objects.Signal.{Signal}
use Rattle.loopback_mounts.specs.Mounts.{mount_answer, mount_at, unmount_answer}
use Rattle.loopback_mounts.specs.Places.{place_at, special_at}
use Rattle.loopback_mounts.specs.Types.{may_mount_type}
use Rattle.loopback_mounts.specs.declared.faults.HoldFault.{HoldFault}
use Rattle.loopback_mounts.specs.declared.faults.MountFault.{MountFault}
use Rattle.loopback_mounts.specs.declared.mount.Mount.{Mount}
use Rattle.loopback_mounts.specs.declared.mount.MountEntry.{MountEntry}
use Rattle.process_calls.specs.Calls.{Said, call_of}
use Rattle.process_calls.specs.declared.call.Call.{Call}
use Rattle.process_calls.specs.declared.call.Call.TheVariants as call
use Rattle.process_calls.specs.declared.call.MountCall.{MountCall}
use Rattle.zn_base.specs.Names.{Name, name_of}
use Rattle.zn_base.specs.declared.name.NameFault.{NameFault}
use Rattle.zone_config.specs.Same.{same_contents}
use Rattle.zone_config.specs.declared.terms.Contents.{Contents}
use Rattle.zone_pools.specs.Decisions.{Ask, Just}
use Rattle.zone_pools.specs.Firsts.{is_nil}
use Rattle.zone_pools.specs.declared.grant.Grant.{Grant}
use Rattle.zonecfg_lines.specs.Runs.{Run}
use Rattle.zonecfg_lines.specs.declared.refusal.LineRefusal.{LineRefusal}
use Rattle.zonecfg_lines.specs.declared.reply.Ending.{Ending}
use Rattle.zonecfg_lines.specs.declared.reply.Ending.TheVariants as ending
use Rattle.zonecfg_scopes.specs.Edited.{is_changed, revision_of}
use Rattle.zonecfg_scopes.specs.OpenOf.{config_of}
use Rattle.zoneadmd_steps.specs.Arrivals.{Arrival, New_claim, New_id, New_process, New_record, No_new_thing}
use Rattle.zoneadmd_steps.specs.Desks.{Desk, has_request, is_full, state_now, with_request}
use Rattle.zoneadmd_steps.specs.Objects.{Object_edit, Process_goes, Processes_go, kernel_of}
use Rattle.zoneadmd_steps.specs.declared.requests.Request.{Request}
use Rattle.zoneadmd_steps.specs.declared.requests.Request.TheVariants as request
use Rattle.zone_cases.specs.Calls.{calls, calls_if_there, ending, forks, is_by_process, mount_of, mounts, mounts_if_free, mounts_special, signals, tells_place, unmounts, unmounts_if_free}
use Rattle.zone_cases.specs.Session.Commits.{A_session, Alone, Goes_on, Hearer, Leaves, Of_its_own, Typist, commit, commit_over, commit_seen, commit_unless, commits, delete, edits_line, ended, goes, goes_over, is_configured, keeps_place, leaves, line_refusal, records, refuses, removes, revision_now, said_alone, said_to, telling, typist, zonecfg}
use Rattle.zone_cases.specs.Session.Lines.{Ask as Asks, Clone, Command, Console as Console_line, Enter, Hold, Kill, Line, List_one, Login, Release, Verify, Zonecfg, line_of}
use Rattle.zone_cases.specs.Session.Listed.{config_refusal, list_one_reply, verify_reply}
use Rattle.zone_cases.specs.Session.Logins.{alone, call_word, console_line, console_refusal, entered_line, enters, entry_refusal, errand, escapes, goes_after, holds_console, logged_line, login_of, logs_in, passed_as, passed_on, said_in, status_of, unless, with_newcomer, with_status}
use Rattle.zone_cases.specs.Session.Typed.{held_answer, holding_at, holds, idle_line, put_clone, put_request, typed}
use Rattle.zone_cases.specs.State.{At, At_console, Awaiting, Doing, Editing, Logged_in, State}
use Rattle.zone_cases.specs.State.Decisions.{Act, Decision, Effect, act_of, after_came, answers, done_saying, head_of, refused, says}
use Rattle.zone_cases.specs.State.Edits.{Edit, Here, Of_console, Of_objects, Set_desk, Sweep, comes, console_gone, console_left, edit, edits, keeps_console, login_ended, logins_ended, session_of, swept}
use Rattle.zone_cases.specs.State.Worlds.{View, objects_of, view}
use Rattle.zone_cases.specs.declared.events.Event.TheVariants.{Session}
use Rattle.zone_cases.specs.declared.events.Subject.{Subject}
use Rattle.zone_cases.specs.declared.events.Subject.TheVariants.{Global, Whole, Zone}
use Rattle.zone_cases.specs.declared.replies.Body.{Body}
use Rattle.zone_cases.specs.declared.replies.Head.{Head}
use Rattle.zone_cases.specs.declared.replies.Head.TheVariants.{Ok, Refused, Ticket}
use Rattle.zone_cases.specs.declared.replies.Refusal.{Refusal}
use Rattle.zone_cases.specs.declared.replies.Refusal.TheVariants.{Changed, Denied, DeskFull, DeskInUse, Flawed, NoZone, WrongState}
use Rattle.zone_machine.proofs.Turned_laws.{In, in-act}
use Rattle.zone_machine.specs.Machine.{decide, one, one_of, subject}

abbrev is_ticket : Head → Bool
is_ticket (Ticket t) = true
is_ticket head = false

abbrev ticket_in : Head → ℕ
ticket_in (Ticket t) = t
ticket_in head = 0

-- an edit that ends no wait of a session that didn't make it
abbrev pub is_calm : Edit → Bool
is_calm (Sweep f) = false
is_calm e = true

-- an effect that ends no other's wait, and answers no ticket
abbrev Quiet : Option Arrival → Effect → Type 0
Quiet c e = (list_all is_calm e.edits && not (is_ticket e.reply.head)) ≡ true

-- or a request is put on the desk, and its session waits for the ticket
record Puts (c : Option Arrival) (e : Effect) : Type 0 where
  ticket : ℕ
  desk : Desk
  does : e ≡ done_saying (Set_desk desk ∷ Here (Some (Awaiting ticket)) ∷ []) (Ticket ticket)

abbrev Fits : Option Arrival → Effect → Type 0
Fits c e = Quiet c e ⊎ Puts c e

quiet-if : (b : Bool) (d e : Decision) → In Quiet d → In Quiet e → In Quiet (if b then d else e)
quiet-if true d e h k = h
quiet-if false d e h k = k

-- calls
quiet-fork : (p : Process) (name : List ℕ) (set : Result (List ℕ) Errno) → In Quiet (forks p name set)
quiet-fork p name (Err e) = refl
quiet-fork p name (Right set) = (λ pool. refl, λ n. refl)

quiet-signal : (inside : Bool) (signal : Signal) (pid : ℕ) (q : Option Process) → In Quiet (signals inside signal pid q)
quiet-signal inside signal pid None = refl
quiet-signal inside signal pid (Some p) = at_test (ends inside signal p)
  where
    at_test : (b : Bool) → Quiet None (done_saying (ending b pid) Ok)
    at_test true = refl
    at_test false = refl

quiet-free : (mount : Mount) (answer : Result (Unit {0}) MountFault) → In Quiet (mounts_if_free mount answer)
quiet-free mount (Err fault) = refl
quiet-free mount (Right free) = refl

quiet-special : (m : MountCall) (ms : List MountEntry) (special : Result (List ℕ) MountFault) → In Quiet (mounts_special m ms special)
quiet-special m ms (Err fault) = refl
quiet-special m ms (Right special) = quiet-free (mount_of m special) (mount_answer m.dir ms)

quiet-mount : (p : Process) (allowed : Option (List ℕ)) (m : MountCall) (ms : List MountEntry) → In Quiet (mounts p allowed m ms)
quiet-mount p allowed m ms = quiet-if (may_mount p && may_mount_type allowed m.fstype) _ _ (quiet-special m ms (special_at ms m.fstype m.special)) refl

quiet-unmount : (p : Process) (dir : List ℕ) (ms : List MountEntry) → In Quiet (unmounts p dir ms)
quiet-unmount p dir ms = quiet-if (may_mount p && is_by_process (mount_at dir ms)) _ _ (at_answer (unmount_answer dir ms)) refl
  where
    at_answer : (answer : Result Mount MountFault) → In Quiet (unmounts_if_free dir answer)
    at_answer (Err fault) = refl
    at_answer (Right mount) = refl

quiet-place : (place : Result (List ℕ) MountFault) → In Quiet (tells_place place)
quiet-place (Err fault) = refl
quiet-place (Right place) = refl

quiet-call : (v : View) (pid : ℕ) (p : Process) (c : Call) → In Quiet (calls v pid p c)
quiet-call v pid p (call.Fork name) = quiet-fork p name (fork_set (Some p) (at_limit (kernel_of (objects_of v.world))))
quiet-call v pid p (call.Exec name) = quiet-if (may_exec p) _ _ refl refl
quiet-call v pid p (call.Kill signal target) = quiet-signal true signal target (v.process target)
quiet-call v pid p (call.Mount m) = quiet-mount p (fs_allowed_of (kernel_of (objects_of v.world)).id) m v.world.mounts
quiet-call v pid p (call.Umount dir) = quiet-unmount p dir v.world.mounts
quiet-call v pid p (call.Read path) = quiet-place (place_at v.world.mounts path false)
quiet-call v pid p (call.Write path) = quiet-place (place_at v.world.mounts path true)
quiet-call v pid p _ = refl

quiet-called : (v : View) (pid : ℕ) (q : Option Process) (c : Call) → In Quiet (calls_if_there v pid q c)
quiet-called v pid None c = refl
quiet-called v pid (Some p) c = quiet-call v pid p c

-- zlogin(1)
passed-head : (status : ℕ) (head : Head) (body : Body) → is_ticket (passed_on status (record { head = head; body = body })).head ≡ false
passed-head status (Refused why) body = refl
passed-head status _ body = refl

quiet-passed : (status : ℕ) (e : Effect) → Quiet None e → Quiet None (with_status status e)
quiet-passed status e h = and_from _ _ (and_parts (list_all is_calm e.edits) (not (is_ticket e.reply.head)) h).0 (ap not (passed-head status e.reply.head e.reply.body))

quiet-passed-as : (status : ℕ) (d : Decision) → In Quiet d → In Quiet (passed_as status d)
quiet-passed-as status (Just e) h = quiet-passed status e h
quiet-passed-as status (Ask c asked denied given) h = (λ pool. quiet-passed status (denied pool) (h.0 pool), λ n. quiet-passed status (given n) (h.1 n))

quiet-said : (v : View) (pid : ℕ) (said : Said) → In Quiet (said_in v pid said)
quiet-said v pid (Err fault) = refl
quiet-said v pid (Right c) = quiet-passed-as (status_of c) (calls_if_there v pid (v.process pid) c) (quiet-called v pid (v.process pid) c)

quiet-logged : (v : View) (pid : ℕ) (escape : Option ℕ) (text : List ℕ) → In Quiet (logged_line v pid escape text)
quiet-logged v pid escape text = quiet-if (escapes escape text) _ _ refl (quiet-if (is_nil text) _ _ refl (quiet-said v pid (call_of text)))

quiet-console : (v : View) (escape : Option ℕ) (text : List ℕ) → In Quiet (console_line v escape text)
quiet-console v escape text = quiet-if (escapes escape text) _ _ refl refl

quiet-unless : (refusal : Option Refusal) (d : Decision) → In Quiet d → In Quiet (unless refusal d)
quiet-unless None d h = h
quiet-unless (Some refusal) d h = refl

quiet-login : (escape : Option ℕ) (stored : Option Record) (d : Desk) (k : Kernel) → In Quiet (logs_in escape stored d k)
quiet-login escape stored d k = quiet-unless (entry_refusal stored d k) (login_of k escape) (λ pool. refl, λ n. refl)

quiet-holder : (escape : Option ℕ) (stored : Option Record) (d : Desk) (c : Console) → In Quiet (holds_console escape stored d c)
quiet-holder escape stored d c = quiet-unless (console_refusal stored d c) _ refl

calm-goes : (n : ℕ) (es : List Edit) → list_all is_calm es ≡ true → list_all is_calm (es ++ Of_objects (Process_goes n) ∷ []) ≡ true
calm-goes n [] h = refl
calm-goes n (e ∷ es) h = let parts = and_parts (is_calm e) (list_all is_calm es) h in and_from _ _ parts.0 (calm-goes n es parts.1)

quiet-goes-after : (n : ℕ) (e : Effect) → Quiet None e → Quiet None (goes_after n e)
quiet-goes-after n e h = let parts = and_parts (list_all is_calm e.edits) (not (is_ticket e.reply.head)) h in and_from _ _ (calm-goes n e.edits parts.0) parts.1

quiet-alone : (d : Decision) → In Quiet d → Quiet None (alone d)
quiet-alone (Just e) h = h
quiet-alone (Ask c asked denied given) h = refl

quiet-errand : (v : View) (p : Process) (c : Call) → Quiet None (errand v p c)
quiet-errand v p c = let w = with_newcomer p v in quiet-passed (status_of c) (alone (calls w p.pid p c)) (quiet-alone (calls w p.pid p c) (quiet-call w p.pid p c))

quiet-enters : (v : View) (c : Call) → In Quiet (enters v c)
quiet-enters v c =
    let p = entered (kernel_of (objects_of v.world)) (call_word c) false 0 in
    (λ pool. refl, λ n. quiet-goes-after n (errand v (record p { pid = n }) c) (quiet-errand v (record p { pid = n }) c))

quiet-entered : (v : View) (said : Said) → In Quiet (entered_line v said)
quiet-entered v (Err fault) = refl
quiet-entered v (Right c) = quiet-unless (entry_refusal v.world.stored v.world.desk (kernel_of (objects_of v.world))) (enters v c) (quiet-enters v c)

-- zonecfg(8)
quiet-refuses : (t : Typist) (refusal : Refusal) (told : List (List ℕ)) → Quiet None (refuses t refusal told)
quiet-refuses Alone refusal told = refl
quiet-refuses (Goes_on e) refusal told = refl
quiet-refuses (Leaves e) refusal told = refl

quiet-goes : (t : Typist) (told : List (List ℕ)) → Quiet None (telling (goes t) Ok told)
quiet-goes Alone told = refl
quiet-goes (Goes_on e) told = refl
quiet-goes (Leaves e) told = refl

quiet-goes-over : (config : Contents) (n : ℕ) (t : Typist) (told : List (List ℕ)) → Quiet None (telling (goes_over config n t) Ok told)
quiet-goes-over config n Alone told = refl
quiet-goes-over config n (Goes_on e) told = refl
quiet-goes-over config n (Leaves e) told = refl

quiet-records : (z : Name) (stored : Option Record) (config : Contents) (told : List (List ℕ)) (t : Typist) → In Quiet (records z stored config told t)
quiet-records z stored config told t = (λ pool. quiet-refuses t (Denied pool) told, λ n. quiet-goes-over config n t told)

quiet-over : (z : Name) (d : Desk) (stored : Option Record) (config : Contents) (told : List (List ℕ)) (t : Typist) → In Quiet (commit_over z d stored config told t)
quiet-over z d None config told t = quiet-records z None config told t
quiet-over z d (Some row) config told t =
    quiet-if (same_contents config row.config) _ _ (quiet-goes t told)
    (quiet-if (keeps_place row config || is_configured (state_now row d)) _ _ (quiet-records z (Some row) config told t) (quiet-refuses t (WrongState (state_now row d)) told))

quiet-seen : (seen : ℕ) (z : Name) (d : Desk) (stored : Option Record) (config : Contents) (told : List (List ℕ)) (t : Typist) → In Quiet (commit_seen seen z d stored config told t)
quiet-seen seen z d stored config told t = quiet-if (revision_now stored == seen) _ _ (quiet-over z d stored config told t) (quiet-refuses t (Changed seen (revision_now stored)) told)

quiet-flaw : (r : Result (Unit {0}) Flaw) (seen : ℕ) (z : Name) (d : Desk) (stored : Option Record) (config : Contents) (told : List (List ℕ)) (t : Typist) → In Quiet (commit_unless r seen z d stored config told t)
quiet-flaw (Err flaw) seen z d stored config told t = quiet-refuses t (Flawed flaw) told
quiet-flaw (Right fine) seen z d stored config told t = quiet-seen seen z d stored config told t

quiet-commit : (v : View) (seen : ℕ) (config : Option Contents) (told : List (List ℕ)) (t : Typist) → In Quiet (commit v seen config told t)
quiet-commit v seen None told t = quiet-goes t told
quiet-commit v seen (Some config) told t = quiet-flaw (first (flaws (tabled_names v.world.brands) config)) seen v.zone v.world.desk v.world.stored config told t

quiet-removes : (told : List (List ℕ)) (t : Typist) → In Quiet (removes told t)
quiet-removes told t = (λ pool. quiet-refuses t (Denied pool) told, λ n. quiet-goes t told)

quiet-delete : (seen : ℕ) (d : Desk) (stored : Option Record) (told : List (List ℕ)) (t : Typist) → In Quiet (delete seen d stored told t)
quiet-delete seen d None told t = quiet-refuses t NoZone told
quiet-delete seen d (Some row) told t =
    quiet-if (row.revision == seen) _ _
    (quiet-if (not (is_configured (state_now row d))) _ _ (quiet-refuses t (WrongState (state_now row d)) told) (quiet-if (has_request d) _ _ (quiet-refuses t DeskInUse told) (quiet-removes told t)))
    (quiet-refuses t (Changed seen row.revision) told)

quiet-leaves : (v : View) (seen : ℕ) (e : Ending) (told : List (List ℕ)) (t : Typist) → In Quiet (leaves v seen e told t)
quiet-leaves v seen ending.Delete told t = quiet-delete seen v.world.desk v.world.stored told t
quiet-leaves v seen _ told t = quiet-goes t told

quiet-ended : (v : View) (h : Hearer) (run : Run) (r : Result Ending LineRefusal) → In Quiet (ended v h run r)
quiet-ended v h run (Err refusal) = quiet-refuses (typist h ending.Nothing run.edited) (line_refusal refusal) run.told
quiet-ended v h run (Right e) =
    let t = typist h e run.edited in
    quiet-if (commits e (is_changed run.edited)) _ _ (quiet-commit v (revision_of run.edited.base) (config_of run.edited.opened) run.told t) (quiet-leaves v (revision_of run.edited.base) e run.told t)

-- what the global zone holds
quiet-hold : (stored : Option Record) (answer : Result (Unit {0}) HoldFault) (e : Object_edit) → In Quiet (holds stored answer e)
quiet-hold None answer e = refl
quiet-hold (Some row) (Err fault) e = refl
quiet-hold (Some row) (Right done) e = refl

quiet-verify : (brands : List Tabled) (stored : Option Record) → Quiet None (answers (verify_reply brands stored))
quiet-verify brands None = refl
quiet-verify brands (Some row) = at_refusal (config_refusal brands row.config)
  where
    at_refusal : (refusal : Option Refusal) → Quiet None (answers (says (head_of refusal)))
    at_refusal None = refl
    at_refusal (Some refusal) = refl

-- requests
fits-put : (d : Desk) (r : Request) (stored : Option Record) → Fits None (put_request d r stored)
fits-put d r None = inl refl
fits-put d r (Some row) = at_test (is_full d)
  where
    at_test : (b : Bool) → Fits None (if b then refused DeskFull else done_saying (Set_desk (with_request d r) ∷ Here (Some (Awaiting (d.last + 1))) ∷ []) (Ticket (d.last + 1)))
    at_test true = inl refl
    at_test false = inr (record { ticket = d.last + 1; desk = with_request d r; does = refl })

fits-clone : (d : Desk) (source : Result Name NameFault) (stored : Option Record) → Fits None (put_clone d source stored)
fits-clone d (Err fault) stored = inl refl
fits-clone d (Right source) stored = fits-put d (request.Clone source) stored

fits : (d : Decision) → In Quiet d → In Fits d
fits (Just e) h = inl h
fits (Ask c asked denied given) h = (λ pool. inl (h.0 pool), λ n. inl (h.1 n))

fits-line : (v : View) (c : Command) → In Fits (idle_line v c)
fits-line v (Zonecfg text) = fits (zonecfg v text) (quiet-ended v Of_its_own (said_alone v text) (said_alone v text).end)
fits-line v (Asks r) = fits-put v.world.desk r v.world.stored
fits-line v (Clone word) = fits-clone v.world.desk (name_of word) v.world.stored
fits-line v (Kill signal pid) = fits (signals false signal pid (v.process pid)) (quiet-signal false signal pid (v.process pid))
fits-line v (Hold dir) = fits (idle_line v (Hold dir)) (quiet-hold v.world.stored (held_answer true dir v.world.mounts) (holding_at true dir))
fits-line v (Release dir) = fits (idle_line v (Release dir)) (quiet-hold v.world.stored (held_answer false dir v.world.mounts) (holding_at false dir))
fits-line v (Login escape) = fits (idle_line v (Login escape)) (quiet-login escape v.world.stored v.world.desk (kernel_of (objects_of v.world)))
fits-line v (Console_line escape) = fits (idle_line v (Console_line escape)) (quiet-holder escape v.world.stored v.world.desk v.world.console)
fits-line v (Enter text) = fits (entered_line v (call_of text)) (quiet-entered v (call_of text))
fits-line v Verify = inl (quiet-verify v.world.brands v.world.stored)
fits-line v (List_one form) = inl (at_stored v.world.stored)
  where
    at_stored : (stored : Option Record) → Quiet None (answers (list_one_reply v.zone form stored v.world.desk v.world.ids))
    at_stored None = refl
    at_stored (Some row) = refl
fits-line v _ = inl refl

fits-typed : (v : View) (d : Option Doing) (line : Line) → In Fits (typed v d line)
unfolding typed
fits-typed v None line = fits-line v line.command
fits-typed v (Some (Awaiting t)) line = inl refl
fits-typed v (Some (Editing e)) line = fits (edits_line v e line.text) (quiet-ended v A_session (said_to v e line.text) (said_to v e line.text).end)
fits-typed v (Some (Logged_in pid escape)) line = fits (logged_line v pid escape line.text) (quiet-logged v pid escape line.text)
fits-typed v (Some (At_console escape)) line = fits (console_line v escape line.text) (quiet-console v escape line.text)

calm : (c : Option Arrival) (e : Effect) → Fits c e → list_all is_calm e.edits ≡ true
calm c e (inl quiet) = (and_parts (list_all is_calm e.edits) (not (is_ticket e.reply.head)) quiet).0
calm c e (inr puts) = ap (λ (e : Effect). list_all is_calm e.edits) puts.does

-- an event that no session typed, or another one
abbrev pub IsOther : Option ℕ → ℕ → Type 0
IsOther None n = Unit {0}
IsOther (Some m) n = nat_eq m n ≡ false

-- a session n that waits for a ticket of y
module _ (z y : Name) (t n : ℕ) where
  abbrev pub Waits : State → Type 0
  Waits S = S.sessions n ≡ At y (Awaiting t)

  -- of z's sessions some end what they do, of which this is none
  stays-there : (f : Doing → Option Doing) → f (Awaiting t) ≡ Some (Awaiting t) → (S : State) → Waits S → swept z f (S.sessions n) ≡ At y (Awaiting t)
  stays-there f same S is = ap (swept z f) is ∙ at_zone (bytes_eq z y)
    where
      at_zone : (b : Bool) → (if b then session_of y (f (Awaiting t)) else At y (Awaiting t)) ≡ At y (Awaiting t)
      at_zone true = ap (session_of y) same
      at_zone false = refl

  pub waits-edit : (o : Option ℕ) → IsOther o n → (e : Edit) → is_calm e ≡ true → (S : State) → Waits S → Waits (edit z o e S)
  unfolding edit
  waits-edit o other (Of_objects (Processes_go p)) calm S is = stays-there logins_ended refl S is
  waits-edit o other (Of_objects (Process_goes pid)) calm S is = stays-there (login_ended pid) refl S is
  waits-edit o other (Of_objects e) calm S is = is
  waits-edit o other (Set_desk d) calm S is = is
  waits-edit o other (Of_console e) calm S is = is
  waits-edit None other (Here d) calm S is = is
  waits-edit (Some m) other (Here d) calm S is = ap (λ b. if b then session_of z d else S.sessions n) other ∙ is
  waits-edit o other (Sweep f) calm S is = absurd (false≢true calm)

  waits-edits : (o : Option ℕ) → IsOther o n → (es : List Edit) → list_all is_calm es ≡ true → (S : State) → Waits S → Waits (edits z o es S)
  waits-edits o other [] calm S is = is
  waits-edits o other (e ∷ es) calm S is =
      let parts = and_parts (is_calm e) (list_all is_calm es) calm in waits-edits o other es parts.1 (edit z o e S) (waits-edit o other e parts.0 S is)

  waits-gone : (keeps : Bool) (S : State) → Waits S → Waits (console_gone z keeps S)
  waits-gone true S is = is
  waits-gone false S is = stays-there console_left refl S is

  pub waits-came : (c : Option Arrival) (S : State) → Waits S → Waits (after_came z c S)
  unfolding comes
  waits-came None S is = is
  waits-came (Some (New_record row)) S is = waits-gone (keeps_console row) (record S { commits = S.commits ++ record { zone = z; stored = row } ∷ [] }) is
  waits-came (Some (New_process p)) S is = is
  waits-came (Some (New_id i)) S is = is
  waits-came (Some (New_claim c)) S is = is
  waits-came (Some No_new_thing) S is = is

  waits-acts : (m : ℕ) → nat_eq m n ≡ false → (a : Act) → Fits a.came a.effect → (S : State) → Waits S → Waits (edits z (Some m) a.effect.edits (after_came z a.came S))
  waits-acts m other a fit S is = waits-edits (Some m) other a.effect.edits (calm a.came a.effect fit) (after_came z a.came S) (waits-came a.came S is)

-- a line of another session ends no wait
pub waits-line : (S : State) (m n : ℕ) (text : List ℕ) (g : Grant) (y : Name) (t : ℕ) → nat_eq m n ≡ false → S.sessions n ≡ At y (Awaiting t) → (one S (Session m text) g).state.sessions n ≡ At y (Awaiting t)
unfolding one decide
waits-line S m n text g y t other is = at_subject (subject S (Session m text))
  where
    at_subject : (s : Subject) → (one_of s S (Session m text) g).state.sessions n ≡ At y (Awaiting t)
    at_subject (Zone z) =
        let v = view z S in
        let d = typed v (v.world.sessions m) (line_of text) in
        waits-acts z y t n m other (act_of d g) (in-act Fits d g (fits-typed v (v.world.sessions m) (line_of text))) S is
    at_subject Global = is
    at_subject Whole = is

-- whoever put a request on the desk waits for its ticket
put-waits : (z : Name) (m t : ℕ) (a : Act) (S : State) → Fits a.came a.effect → a.effect.reply.head ≡ Ticket t → (edits z (Some m) a.effect.edits (after_came z a.came S)).sessions m ≡ At z (Awaiting t)
unfolding edit
put-waits z m t a S (inl quiet) is = absurd (false≢true (sym (ap (λ h. not (is_ticket h)) is) ∙ (and_parts (list_all is_calm a.effect.edits) (not (is_ticket a.effect.reply.head)) quiet).1))
put-waits z m t a S (inr puts) is =
    let same : puts.ticket ≡ t = ap ticket_in (sym (ap (λ (e : Effect). e.reply.head) puts.does) ∙ is) in
    ap (λ (e : Effect). (edits z (Some m) e.edits (after_came z a.came S)).sessions m) puts.does
    ∙ (ap (λ b. if b then At z (Awaiting puts.ticket) else (after_came z a.came S).sessions m) (eq-eqb m m refl) ∙ ap (λ u. At z (Awaiting u)) same)

-- a line that is answered a ticket leaves its session waiting for it
pub ticket-waits : (S : State) (m : ℕ) (text : List ℕ) (g : Grant) (z : Name) (t : ℕ) → subject S (Session m text) ≡ Zone z → (one S (Session m text) g).reply.head ≡ Ticket t
    → (one S (Session m text) g).state.sessions m ≡ At z (Awaiting t)
unfolding one decide
ticket-waits S m text g z t whose = subst (λ s. (one_of s S (Session m text) g).reply.head ≡ Ticket t → (one_of s S (Session m text) g).state.sessions m ≡ At z (Awaiting t)) (sym whose) here
  where
    here : (one_of (Zone z) S (Session m text) g).reply.head ≡ Ticket t → (one_of (Zone z) S (Session m text) g).state.sessions m ≡ At z (Awaiting t)
    here is =
        let v = view z S in
        let d = typed v (v.world.sessions m) (line_of text) in
        put-waits z m t (act_of d g) S (in-act Fits d g (fits-typed v (v.world.sessions m) (line_of text))) is

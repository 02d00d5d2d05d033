-- What a case names that is no turn of the daemon: what is in the zone's tables, or the process that comes.
use Rattle.std.proofs.Common.{◌≡◌, ◌⊎◌, ◌∷◌, ◌++◌, [], ◌&&◌, ◌||◌, ◌==◌, ℕ, List, Bool, Option, Some, None, Result, Ok as Right, Err, true, false, inl, inr, ap, filter, map, nat_eq, refl, subst}
use Rattle.std.specs.Prelude.{if◌then◌else◌}
use Rattle.std.specs.List.{AllByRecursion}
use Rattle.brand_hooks.specs.Brands.{tabled_names}
use Rattle.commit_journal.specs.declared.records.Record.{Record}
use Rattle.config_verify.specs.Flaws.{first, flaws}
use Rattle.config_verify.specs.declared.flaw.Flaw.{Flaw}
use Rattle.datalink_table.specs.Claims.{is_of, items_of}
use Rattle.datalink_table.specs.declared.claims.Claim.{Claim}
use Rattle.datalink_table.specs.declared.claims.ClaimKind.{ClaimKind}
use Rattle.datalink_table.specs.declared.claims.ClaimKind.TheVariants as kind
use Rattle.kernel_objects.specs.Kernel.{at_limit, entered, fork_set, fs_allowed_of}
use Rattle.kernel_objects.specs.Processes.{Process, below, may_exec, may_mount, row_of}
use Rattle.kernel_objects.specs.declared.faults.Errno.{Errno}
use Rattle.kernel_objects.specs.declared.objects.ProcRow.{ProcRow}
use Rattle.kernel_objects.specs.declared.objects.Signal.{Signal}
use Rattle.loopback_mounts.specs.Mounts.{listed, mount_answer, mount_at, unmount_answer}
use Rattle.loopback_mounts.specs.Places.{place_at, special_at}
use Rattle.loopback_mounts.specs.Types.{may_mount_type}
use Rattle.loopback_mounts.specs.declared.faults.HoldFault.{HoldFault}
use Rattle.loopback_mounts.specs.declared.faults.MountFault.{MountFault}
use Rattle.loopback_mounts.specs.declared.mount.Mount.{Mount}
use Rattle.loopback_mounts.specs.declared.mount.MountEntry.{MountEntry}
use Rattle.process_calls.specs.Calls.{Said, call_of}
use Rattle.process_calls.specs.declared.call.Call.{Call}
use Rattle.process_calls.specs.declared.call.Call.TheVariants as call
use Rattle.process_calls.specs.declared.call.MountCall.{MountCall}
use Rattle.zn_base.specs.Names.{Name, name_of}
use Rattle.zn_base.specs.declared.name.NameFault.{NameFault}
use Rattle.zone_config.specs.Same.{same_contents}
use Rattle.zone_config.specs.declared.terms.Contents.{Contents}
use Rattle.zone_pools.specs.Decisions.{Ask, Just}
use Rattle.zone_pools.specs.Firsts.{is_nil}
use Rattle.zonecfg_lines.specs.Runs.{Run}
use Rattle.zonecfg_lines.specs.declared.refusal.LineRefusal.{LineRefusal}
use Rattle.zonecfg_lines.specs.declared.reply.Ending.{Ending}
use Rattle.zonecfg_lines.specs.declared.reply.Ending.TheVariants as ending
use Rattle.zonecfg_scopes.specs.Edited.{is_changed, revision_of}
use Rattle.zonecfg_scopes.specs.OpenOf.{config_of}
use Rattle.zoneadmd_steps.specs.Arrivals.{Arrival, New_process}
use Rattle.zoneadmd_steps.specs.Desks.{Desk, has_request, is_full, state_now}
use Rattle.zoneadmd_steps.specs.Objects.{kernel_of}
use Rattle.zoneadmd_steps.specs.declared.requests.Request.{Request}
use Rattle.zoneadmd_steps.specs.declared.requests.Request.TheVariants as request
use Rattle.zone_machine.proofs.Turned_laws.{In}
use Rattle.zone_machine.specs.Machine.{decide}
use Rattle.zone_cases.specs.Calls.{called, calls, calls_if_there, execs, forks, is_by_process, mount_of, mounts, mounts_if_free, mounts_special, signals, tells_place, unmounts, unmounts_if_free}
use Rattle.zone_cases.specs.Session.Commits.{Hearer, Typist, A_session, Of_its_own, commit, commit_over, commit_unless, commits, delete, delete_seen, ended, ends as ends_line, is_configured, keeps_place, leaves, revision_now, said_alone, said_to, typist}
use Rattle.zone_cases.specs.Session.Lines.{Ask as Asks, Blank, Clone, Command, Console, Edit, Enter, Help, Hold, Kill, Line, List_one, List_zones, Login, Release, Unforced, Unknown, Verify, Zonecfg, line_of}
use Rattle.zone_cases.specs.Session.Listed.{config_refusal, list_one_reply, verify_reply}
use Rattle.zone_cases.specs.Session.Logins.{alone, call_word, console_line, console_refusal, entered_line, entry_refusal, enters, errand, escapes, holds_console, logged_line, login_of, logs_in, passed_as, passed_on, said_in, status_of, unless, with_newcomer}
use Rattle.zone_cases.specs.Session.Typed.{held_answer, holding_at, holds, idle_line, put_clone, put_request, typed}
use Rattle.zone_cases.specs.State.{At_console, Awaiting, Doing, Editing, Logged_in}
use Rattle.zone_cases.specs.State.Decisions.{Decision, Effect, head_of, says}
use Rattle.zone_cases.specs.State.Edits.{comes_world}
use Rattle.zone_cases.specs.State.Worlds.{View, World, objects_of, view_of}
use Rattle.zone_cases.specs.declared.events.Event.{Event}
use Rattle.zone_cases.specs.declared.events.Event.TheVariants.{Process as Call_of, Restart, Session, System, Turn}
use Rattle.zone_cases.specs.declared.session.listing.Form.{Form}
use Rattle.zone_cases.specs.declared.replies.Body.{Body}
use Rattle.zone_cases.specs.declared.replies.Body.TheVariants.{Processes}
use Rattle.zone_cases.specs.declared.replies.Head.{Head}
use Rattle.zone_cases.specs.declared.replies.Head.TheVariants as head
use Rattle.zone_cases.specs.declared.replies.Refusal.{Refusal}
use Rattle.zone_views.proofs.Belonging.{IsIn, each-both, each-flat, each-map, each-so, has-claim, has-device, has-mount, has-process, of-filter, of-map, of-put}
use Rattle.zone_views.proofs.Naming_turns.{HasPid, Parents, parents-put}
use Rattle.zone_views.specs.Naming.{Address, Dataset, Device, Link, Object, claim, granted, mount, named_by_body, named_by_head, named_by_row, names, object, process, tables}

-- what a call names, where each of these has what is asked of it: the zone's processes, mounts, claims and devices
module _ (z : Name) (w : World) (look : ℕ → Option Process) (pid : ℕ) (p : Process) (T : Object → Type 0)
    (has_process : (q : Process) → IsIn q w.processes → T (process z q.pid)) (has_mount : (m : MountEntry) → IsIn m w.mounts → T (mount z m.mount.dir))
    (has_claim : (c : Claim) → IsIn c w.claims → T (claim z c)) (has_device : (path : List ℕ) → IsIn path w.devices → T (object z Device path))
    (parents : Parents w.processes) where
  abbrev v : View
  v = record { zone = z; world = w; process = look }

  abbrev There : Option Arrival → Object → Type 0
  There came o = T o ⊎ IsIn o (granted z came)

  abbrev Told : Option Arrival → Effect → Type 0
  Told came e = AllByRecursion (There came) (names z e.reply)

  signal_told : (signal : Signal) (target : ℕ) (q : Option Process) → In Told (signals true signal target q)
  signal_told signal target None = tt
  signal_told signal target (Some q) = tt

  fork_told : (name : List ℕ) (set : Result (List ℕ) Errno) → In Told (forks p name set)
  fork_told name (Err e) = tt
  fork_told name (Right set) = (λ pool. tt, λ n. (inr (inl refl), tt))

  exec_told : (name : List ℕ) → In Told (execs pid p name)
  exec_told name = at_test (may_exec p) refl
    where
      at_test : (b : Bool) → may_exec p ≡ b → In Told (execs pid p name)
      at_test true e = simp e tt
      at_test false e = simp e tt

  free_told : (m : Mount) (answer : Result (Unit {0}) MountFault) → In Told (mounts_if_free m answer)
  free_told m (Err fault) = tt
  free_told m (Right free) = tt

  special_told : (c : MountCall) (special : Result (List ℕ) MountFault) → In Told (mounts_special c w.mounts special)
  special_told c (Err fault) = tt
  special_told c (Right special) = free_told (mount_of c special) (mount_answer c.dir w.mounts)

  mount_told : (allowed : Option (List ℕ)) (c : MountCall) → In Told (mounts p allowed c w.mounts)
  mount_told allowed c = at_test (may_mount p && may_mount_type allowed c.fstype) refl
    where
      at_test : (b : Bool) → (may_mount p && may_mount_type allowed c.fstype) ≡ b → In Told (mounts p allowed c w.mounts)
      at_test true e = rw e (special_told c (special_at w.mounts c.fstype c.special))
      at_test false e = rw e tt

  unmount_told : (dir : List ℕ) → In Told (unmounts p dir w.mounts)
  unmount_told dir = at_test (may_mount p && is_by_process (mount_at dir w.mounts)) refl
    where
      at_answer : (answer : Result Mount MountFault) → In Told (unmounts_if_free dir answer)
      at_answer (Err fault) = tt
      at_answer (Right m) = tt

      at_test : (b : Bool) → (may_mount p && is_by_process (mount_at dir w.mounts)) ≡ b → In Told (unmounts p dir w.mounts)
      at_test true e = rw e (at_answer (unmount_answer dir w.mounts))
      at_test false e = rw e tt

  place_told : (place : Result (List ℕ) MountFault) → In Told (tells_place place)
  place_told (Err fault) = tt
  place_told (Right place) = tt

  -- each row names a process of the zone, and its parent is one
  row_told : (q : Process) → IsIn q w.processes → AllByRecursion (There None) (named_by_row z (row_of q))
  row_told q h = (inl (has_process q h), at_parent (nat_eq q.parent 0) refl (parents q h))
    where
      at_parent : (b : Bool) → nat_eq q.parent 0 ≡ b → (q.parent ≡ 0) ⊎ HasPid q.parent w.processes → AllByRecursion (There None) (if b then [] else process z q.parent ∷ [])
      at_parent true e are = tt
      at_parent false e (inl none) = let wrong = subst (λ n. nat_eq n 0 ≡ false) none e in absurd (cc)
      at_parent false e (inr x) = (inl (subst (λ n. T (process z n)) x.same (has_process x.it x.there)), tt)

  rows_told : AllByRecursion (There None) (named_by_body z (Processes (map row_of w.processes)))
  rows_told = each-flat (There None) (named_by_row z) (map row_of w.processes) (λ row h. let back = of-map row_of row w.processes h in subst (λ (r : ProcRow). AllByRecursion (There None) (named_by_row z r)) back.2 (row_told back.0 back.1))

  mounts_told : AllByRecursion (There None) (map (λ (m : Mount). mount z m.dir) (listed w.mounts))
  mounts_told = each-map (There None) (λ (m : Mount). mount z m.dir) (listed w.mounts) (λ m h. let back = of-map (λ (e : MountEntry). e.mount) m w.mounts h in inl (subst (λ (m : Mount). T (mount z m.dir)) back.2 (has_mount back.0 back.1)))

  items_told : (k : ClaimKind) (shows : List ℕ → Object) → ((c : Claim) → is_of k c ≡ true → claim z c ≡ shows c.item) → AllByRecursion (There None) (map shows (items_of k w.claims))
  items_told k shows same = each-map (There None) shows (items_of k w.claims) (λ item h.
      let back = of-map (λ (c : Claim). c.item) item (filter (is_of k) w.claims) h in
      let found = of-filter (is_of k) back.0 w.claims back.1 in
      inl (subst (λ item. T (shows item)) back.2 (subst T (same back.0 found.1) (has_claim back.0 found.0))))

  of_link : (k : ClaimKind) (item : List ℕ) → is_of kind.Link (record { kind = k; item = item }) ≡ true → claim z (record { kind = k; item = item }) ≡ object z Link item
  of_link kind.Link item h = refl
  of_link kind.Address item h = absurd (cc)
  of_link kind.Dataset item h = absurd (cc)

  of_address : (k : ClaimKind) (item : List ℕ) → is_of kind.Address (record { kind = k; item = item }) ≡ true → claim z (record { kind = k; item = item }) ≡ object z Address item
  of_address kind.Link item h = absurd (cc)
  of_address kind.Address item h = refl
  of_address kind.Dataset item h = absurd (cc)

  of_dataset : (k : ClaimKind) (item : List ℕ) → is_of kind.Dataset (record { kind = k; item = item }) ≡ true → claim z (record { kind = k; item = item }) ≡ object z Dataset item
  of_dataset kind.Link item h = absurd (cc)
  of_dataset kind.Address item h = absurd (cc)
  of_dataset kind.Dataset item h = refl

  call_told : (c : Call) → In Told (calls v pid p c)
  call_told (call.Fork name) = fork_told name (fork_set (Some p) (at_limit (kernel_of (objects_of w))))
  call_told (call.Exec name) = exec_told name
  call_told (call.Kill signal target) = signal_told signal target (look target)
  call_told call.Ps = rows_told
  call_told (call.Mount c) = mount_told (fs_allowed_of (kernel_of (objects_of w)).id) c
  call_told (call.Umount dir) = unmount_told dir
  call_told (call.Read path) = place_told (place_at w.mounts path false)
  call_told (call.Write path) = place_told (place_at w.mounts path true)
  call_told call.Mounts = mounts_told
  call_told call.Links = each-both (There None) _ _ (items_told kind.Link (object z Link) (λ c h. of_link c.kind c.item h)) (items_told kind.Address (object z Address) (λ c h. of_address c.kind c.item h))
  call_told call.Datasets = items_told kind.Dataset (object z Dataset) (λ c h. of_dataset c.kind c.item h)
  call_told call.Devices = each-map (There None) (object z Device) w.devices (λ path h. inl (has_device path h))
  call_told _ = tt

-- what is passed on of a call names no more
passed_told : (z : Name) (T : Object → Type 0) (status : ℕ) (h : Head) (b : Body) → AllByRecursion T (names z (record { head = h; body = b })) → AllByRecursion T (names z (passed_on status (record { head = h; body = b })))
passed_told z T status (head.Refused why) b told = tt
passed_told z T status head.Ok b told = told
passed_told z T status (head.Ticket n) b told = told
passed_told z T status (head.Status n) b told = told
passed_told z T status (head.Turned r) b told = rest (named_by_head z (head.Turned r)) (named_by_body z b) told
  where
    rest : (xs ys : List Object) → AllByRecursion T (xs ++ ys) → AllByRecursion T ys
    rest [] ys h = h
    rest (x ∷ xs) ys h = rest xs ys h.1

module _ (z : Name) (w : World) (parents : Parents w.processes) where
  abbrev InTables : Object → Type 0
  InTables o = IsIn o (tables z (objects_of w))

  abbrev Names : Option Arrival → Effect → Type 0
  Names came e = AllByRecursion (λ o. InTables o ⊎ IsIn o (granted z came)) (names z e.reply)

  either_told : (b : Bool) (d e : Decision) → In Names d → In Names e → In Names (if b then d else e)
  either_told true d e h k = h
  either_told false d e h k = k

  own_call : (look : ℕ → Option Process) (pid : ℕ) (p : Process) (c : Call) → In Names (calls (record { zone = z; world = w; process = look }) pid p c)
  own_call look pid p c = call_told z w look pid p InTables (has-process z (objects_of w)) (has-mount z (objects_of w)) (has-claim z (objects_of w)) (has-device z (objects_of w)) parents c

  called_told : (pid : ℕ) (p : Option Process) (c : Call) → In Names (calls_if_there (view_of z w) pid p c)
  unfolding view_of
  called_told pid None c = tt
  called_told pid (Some p) c = own_call (view_of z w).process pid p c

  as_told : (status : ℕ) (d : Decision) → In Names d → In Names (passed_as status d)
  as_told status (Just e) h = passed_told z _ status e.reply.head e.reply.body h
  as_told status (Ask c asked denied given) h = (λ pool. passed_told z _ status (denied pool).reply.head (denied pool).reply.body (h.0 pool), λ n. passed_told z _ status (given n).reply.head (given n).reply.body (h.1 n))

  said_told : (pid : ℕ) (said : Said) → In Names (said_in (view_of z w) pid said)
  said_told pid (Right c) = as_told (status_of c) _ (called_told pid ((view_of z w).process pid) c)
  said_told pid (Err fault) = tt

  logged_told : (pid : ℕ) (escape : Option ℕ) (text : List ℕ) → In Names (logged_line (view_of z w) pid escape text)
  logged_told pid escape text = either_told (escapes escape text) _ _ tt (either_told (is_nil text) _ _ tt (said_told pid (call_of text)))

  console_told : (escape : Option ℕ) (text : List ℕ) → In Names (console_line (view_of z w) escape text)
  console_told escape text = either_told (escapes escape text) _ _ tt tt

  -- a process that comes for one call
  module _ (name : List ℕ) (pid : ℕ) where
    abbrev newcomer : Process
    newcomer = entered (kernel_of (objects_of w)) name false pid

    abbrev here : World
    here = comes_world (New_process newcomer) w

    abbrev Comes_there : Object → Type 0
    Comes_there o = InTables o ⊎ IsIn o (granted z (Some (New_process newcomer)))

    there : (q : Process) → IsIn q here.processes → Comes_there (process z q.pid)
    there q h = elim (of-put (below pid) newcomer q w.processes h) [
      | inl same ↦ inr (inl (ap (λ (q : Process). process z q.pid) same))
      | inr old ↦ inl (has-process z (objects_of w) q old)
    ]

    abbrev Named_there : Option Arrival → Effect → Type 0
    Named_there came e = AllByRecursion (λ o. Comes_there o ⊎ IsIn o (granted z came)) (names z e.reply)

    by_alone : (d : Decision) → In Named_there d → AllByRecursion Comes_there (names z (alone d).reply)
    by_alone (Just e) h = each-so (λ o. Comes_there o ⊎ IsIn o (granted z None)) Comes_there (names z e.reply) (λ o k. elim k [ inl x ↦ x | inr x ↦ absurd x ]) h
    by_alone (Ask k asked denied given) h = tt

    alone_told : (look : ℕ → Option Process) (c : Call) → In Named_there (calls (record { zone = z; world = here; process = look }) pid newcomer c)
    alone_told look c = call_told z here look pid newcomer Comes_there there (λ m h. inl (has-mount z (objects_of w) m h)) (λ c h. inl (has-claim z (objects_of w) c h)) (λ path h. inl (has-device z (objects_of w) path h)) (parents-put newcomer w.processes (inl refl) parents) c

    errand_told : (c : Call) → AllByRecursion Comes_there (names z (errand (view_of z w) newcomer c).reply)
    unfolding view_of
    errand_told c =
        let look = (with_newcomer newcomer (view_of z w)).process in
        let d = calls (record { zone = z; world = here; process = look }) pid newcomer c in
        passed_told z Comes_there (status_of c) (alone d).reply.head (alone d).reply.body (by_alone d (alone_told look c))

  unless_told : (o : Option Refusal) (d : Decision) → In Names d → In Names (unless o d)
  unless_told None d h = h
  unless_told (Some refusal) d h = tt

  enters_told : (c : Call) → In Names (enters (view_of z w) c)
  unfolding view_of
  enters_told c = (λ pool. tt, λ n. errand_told (call_word c) n c)

  entered_told : (said : Said) → In Names (entered_line (view_of z w) said)
  entered_told (Err fault) = tt
  entered_told (Right c) = let v = view_of z w in unless_told (entry_refusal v.world.stored v.world.desk (kernel_of (objects_of v.world))) (enters v c) (enters_told c)

  login_told : (escape : Option ℕ) → In Names (logs_in escape w.stored w.desk (kernel_of (objects_of w)))
  login_told escape = unless_told (entry_refusal w.stored w.desk (kernel_of (objects_of w))) (login_of (kernel_of (objects_of w)) escape) (λ pool. tt, λ n. tt)

  holder_told : (escape : Option ℕ) → In Names (holds_console escape w.stored w.desk w.console)
  holder_told escape = unless_told (console_refusal w.stored w.desk w.console) _ tt

  -- lines of zonecfg(8) tell texts alone
  over_told : (d : Desk) (stored : Option Record) (config : Contents) (told : List (List ℕ)) (t : Typist) → In Names (commit_over z d stored config told t)
  over_told d None config told t = (λ pool. tt, λ m. tt)
  over_told d (Some row) config told t =
      either_told (same_contents config row.config) _ _ tt (either_told (keeps_place row config || is_configured (state_now row d)) _ _ (λ pool. tt, λ m. tt) tt)

  flawed_told : (r : Result (Unit {0}) Flaw) (seen : ℕ) (d : Desk) (stored : Option Record) (config : Contents) (told : List (List ℕ)) (t : Typist) → In Names (commit_unless r seen z d stored config told t)
  flawed_told (Err flaw) seen d stored config told t = tt
  flawed_told (Right fine) seen d stored config told t = either_told (revision_now stored == seen) _ _ (over_told d stored config told t) tt

  commit_told : (seen : ℕ) (o : Option Contents) (told : List (List ℕ)) (t : Typist) → In Names (commit (view_of z w) seen o told t)
  unfolding view_of
  commit_told seen None told t = tt
  commit_told seen (Some config) told t = flawed_told (first (flaws (tabled_names w.brands) config)) seen w.desk w.stored config told t

  delete_told : (seen : ℕ) (d : Desk) (stored : Option Record) (told : List (List ℕ)) (t : Typist) → In Names (delete seen d stored told t)
  delete_told seen d None told t = tt
  delete_told seen d (Some row) told t = either_told (row.revision == seen) _ _ (at_state (is_configured (state_now row d)) refl (has_request d) refl) tt
    where
      at_state : (c : Bool) → is_configured (state_now row d) ≡ c → (b : Bool) → has_request d ≡ b → In Names (delete_seen d row told t)
      at_state false e b f = simp e tt
      at_state true e true f = simp (e, f) tt
      at_state true e false f = simp (e, f) (λ pool. tt, λ m. tt)

  leaves_told : (seen : ℕ) (e : Ending) (told : List (List ℕ)) (t : Typist) → In Names (leaves (view_of z w) seen e told t)
  leaves_told seen ending.Delete told t = delete_told seen (view_of z w).world.desk (view_of z w).world.stored told t
  leaves_told seen ending.Commit told t = tt
  leaves_told seen (ending.Exit force) told t = tt
  leaves_told seen ending.Nothing told t = tt

  ends_told : (seen : ℕ) (run : Run) (e : Ending) (t : Typist) → In Names (ends_line (view_of z w) seen run e t)
  ends_told seen run e t = either_told (commits e (is_changed run.edited)) _ _ (commit_told seen (config_of run.edited.opened) run.told t) (leaves_told seen e run.told t)

  ended_told : (h : Hearer) (run : Run) (r : Result Ending LineRefusal) → In Names (ended (view_of z w) h run r)
  ended_told h run (Err refusal) = tt
  ended_told h run (Right e) = ends_told (revision_of run.edited.base) run e (typist h e run.edited)

  request_told : (d : Desk) (r : Request) (row : Option Record) → Names None (put_request d r row)
  request_told d r None = tt
  request_told d r (Some row) = at_test (is_full d) refl
    where
      at_test : (b : Bool) → is_full d ≡ b → Names None (put_request d r (Some row))
      at_test true e = simp e tt
      at_test false e = simp e tt

  clone_told : (d : Desk) (r : Result Name NameFault) (row : Option Record) → Names None (put_clone d r row)
  clone_told d (Err fault) row = tt
  clone_told d (Right source) row = request_told d (request.Clone source) row

  sent_told : (signal : Signal) (pid : ℕ) (p : Option Process) → In Names (signals false signal pid p)
  sent_told signal pid None = tt
  sent_told signal pid (Some p) = tt

  hold_told : (row : Option Record) (answer : Result (Unit {0}) HoldFault) (held : Bool) (dir : List ℕ) → In Names (holds row answer (holding_at held dir))
  hold_told None answer held dir = tt
  hold_told (Some row) (Err fault) held dir = tt
  hold_told (Some row) (Right done) held dir = tt

  verify_told : (row : Option Record) → Names None (record { edits = []; reply = verify_reply w.brands row })
  verify_told None = tt
  verify_told (Some row) = at_refusal (config_refusal w.brands row.config)
    where
      at_refusal : (o : Option Refusal) → AllByRecursion (λ o. InTables o ⊎ IsIn o (granted z None)) (names z (says (head_of o)))
      at_refusal None = tt
      at_refusal (Some refusal) = tt

  listed_told : (form : Form) (row : Option Record) → Names None (record { edits = []; reply = list_one_reply z form row w.desk w.ids })
  listed_told form None = tt
  listed_told form (Some row) = tt

  line_told : (command : Command) → In Names (idle_line (view_of z w) command)
  unfolding view_of
  line_told Blank = tt
  line_told Edit = tt
  line_told (Zonecfg text) = ended_told Of_its_own (said_alone (view_of z w) text) (said_alone (view_of z w) text).end
  line_told (Asks r) = request_told w.desk r w.stored
  line_told (Clone word) = clone_told w.desk (name_of word) w.stored
  line_told Unforced = tt
  line_told (Kill signal pid) = sent_told signal pid ((view_of z w).process pid)
  line_told (Hold dir) = hold_told w.stored (held_answer true dir w.mounts) true dir
  line_told (Release dir) = hold_told w.stored (held_answer false dir w.mounts) false dir
  line_told (Login escape) = login_told escape
  line_told (Console escape) = holder_told escape
  line_told (Enter text) = entered_told (call_of text)
  line_told Help = tt
  line_told Verify = verify_told w.stored
  line_told (List_one form) = listed_told form w.stored
  line_told (List_zones options) = tt
  line_told Unknown = tt

  typed_told : (d : Option Doing) (line : Line) → In Names (typed (view_of z w) d line)
  unfolding typed
  typed_told None line = line_told line.command
  typed_told (Some (Awaiting t)) line = tt
  typed_told (Some (Editing e)) line = ended_told A_session (said_to (view_of z w) e line.text) (said_to (view_of z w) e line.text).end
  typed_told (Some (Logged_in pid escape)) line = logged_told pid escape line.text
  typed_told (Some (At_console escape)) line = console_told escape line.text

  abbrev is_turn : Event → Bool
  is_turn (Turn y) = true
  is_turn e = false

  -- an event that is no turn
  pub case_told : (e : Event) → is_turn e ≡ false → In Names (decide (view_of z w) e)
  unfolding decide called
  case_told (Session n text) h = typed_told ((view_of z w).world.sessions n) (line_of text)
  case_told (Call_of y pid c) h = called_told pid ((view_of z w).process pid) c
  case_told (System what) h = tt
  case_told Restart h = tt
  case_told (Turn y) h = absurd (cc)

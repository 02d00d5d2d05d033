-- In every state of a history with grants that fit, the process numbers differ, and so do the zone numbers.
use Rattle.std.proofs.Common.{map, ◌≡◌, ◌∙◌, ◌∷◌, ◌≤◌, ◌&&◌, [], ℕ, List, Bool, true, false, Option, arith, refl, subst, sym}
use Rattle.std.specs.Prelude.{bytes_eq, nat_eq, nat_le, not, if◌then◌else◌}
use Rattle.std.specs.List.{IsDistinct, list_all, list_any}
use Rattle.std.proofs.lemmas.Bool.{and_from, and_parts, eqb-true, false≢true, leb-true, not-true}
use Rattle.zone_pools.proofs.Same_laws.{grant-Decides}
use Rattle.zn_base.specs.Names.{Name}
use Rattle.zone_pools.specs.declared.grant.Grant.{Grant}
use Rattle.zone_pools.specs.declared.grant.Grant.TheVariants.{Nothing, Number, Yes, Denied}
use Rattle.zone_pools.proofs.Owned_laws.{same_true}
use Rattle.zone_machine.proofs.Common_laws.{any_mine, has_it}
use Rattle.zone_machine.specs.Machine.Common.{HoldOnce, common}
use Rattle.zoneadmd_steps.proofs.Of_turns.{is_asked_for}
use Rattle.zoneadmd_steps.specs.Arrivals.{A_claim, A_process, A_record, An_id, Comes, No_thing, arrived}
use Rattle.zone_cases.specs.State.Decisions.{Decision, act_of, acts, after_came}
use Rattle.zone_pools.specs.Asked.{A_pid, A_zid, Asked}
use Rattle.zone_pools.specs.Decisions.{Ask, Just, asked_of}
use Rattle.zone_cases.specs.State.Edits.{Edit, Of_objects, comes, console_gone, edit, edits, keeps_console}
use Rattle.zone_machine.specs.Machine.Histories.{after, after_entry, is_allowed, is_history, is_legal, is_told}
use Rattle.zone_machine.specs.Machine.{decide, one, one_of, opening, session_number, subject, whole}
use Rattle.kernel_objects.specs.Processes.{Process, adopted, below, has_pid, heir}
use Rattle.zone_pools.specs.Owned_lists.{Go, edit_list, mine}
use Rattle.kernel_objects.specs.declared.objects.Id.{Id}
use Rattle.zone_pools.specs.declared.owned.Owned.{Owned}
use Rattle.zoneadmd_steps.specs.Objects.{Ids_change, Ids_go, Process_goes, Processes_change, Processes_go, all_of, keeping_pid, keeping_zid}
use Rattle.zone_machine.specs.Machine.Pools.{allowed, allowed_of, fits, fits_of, pools_of}
use Rattle.zone_pools.specs.Pools.{fits_asked, fits_pool, fits_yes}
use Rattle.zone_cases.specs.State.{State}
use Rattle.zone_cases.specs.State.Worlds.{view}
use Rattle.zone_cases.specs.declared.events.Entry.{Entry}
use Rattle.zone_cases.specs.declared.events.Event.{Event}
use Rattle.zone_cases.specs.declared.events.Event.TheVariants.{Process as Call_of, Restart, Session, System, Turn}
use Rattle.zone_cases.specs.declared.events.Subject.{Subject}
use Rattle.zone_cases.specs.declared.events.Subject.TheVariants.{Zone, Global, Whole}
use Rattle.brand_hooks.specs.Brands.{Tabled}
use Rattle.commit_journal.specs.declared.records.Commit.{Commit}
use Rattle.zone_views.proofs.Differing.{differs-new, differ-change, differ-come, differ-filter, differ-put, new-filter}
use Rattle.zone_machine.proofs.Asking.{asks-decide, asks_rightly}
use Rattle.zone_views.proofs.Granting.{decision-fits}
use Rattle.zone_views.specs.Numbers.{AllDiffer, pids, zids}

pub record AreNumbered (S : State) : Type 0 where
  pub pids : AllDiffer (pids S)
  pub zids : AllDiffer (zids S)
  pub last : 1 ≤ S.last_pid

-- what goes leaves it so, and so does what keeps its number
adopted-pid : (gone to : ℕ) (p : Process) → (adopted gone to p).pid ≡ p.pid
adopted-pid gone to p = at_test (nat_eq p.parent gone)
  where
    at_test : (b : Bool) → (if b then record p { parent = to } else p).pid ≡ p.pid
    at_test true = refl
    at_test false = refl

numbered-edit : (z : Name) (n : Option ℕ) (e : Edit) (S : State) → AreNumbered S → AreNumbered (edit z n e S)
unfolding edit
numbered-edit z n (Of_objects (Processes_go p)) S h = record { pids = differ-filter (λ p. p.pid) (λ o. not (bytes_eq z o.zone && p o.it)) S.processes h.pids; zids = h.zids; last = h.last }
numbered-edit z n (Of_objects (Process_goes pid)) S h =
    let left = edit_list z (Go (has_pid pid)) S.processes in
    let left_differ = differ-filter (λ p. p.pid) (λ o. not (bytes_eq z o.zone && has_pid pid o.it)) S.processes h.pids in
    record { pids = differ-change (λ p. p.pid) z (adopted pid (heir (mine z left))) (adopted-pid pid (heir (mine z left))) left left_differ; zids = h.zids; last = h.last }
numbered-edit z n (Of_objects (Processes_change f)) S h = record { pids = differ-change (λ p. p.pid) z (keeping_pid f) (λ p. refl) S.processes h.pids; zids = h.zids; last = h.last }
numbered-edit z n (Of_objects (Ids_change f)) S h = record { pids = h.pids; zids = differ-change (λ i. i.zid) z (keeping_zid f) (λ i. refl) S.ids h.zids; last = h.last }
numbered-edit z n (Of_objects (Ids_go p)) S h = record { pids = h.pids; zids = differ-filter (λ i. i.zid) (λ o. not (bytes_eq z o.zone && p o.it)) S.ids h.zids; last = h.last }
numbered-edit z n _ S h = record { pids = h.pids; zids = h.zids; last = h.last }

numbered-edits : (z : Name) (n : Option ℕ) (es : List Edit) (S : State) → AreNumbered S → AreNumbered (edits z n es S)
numbered-edits z n [] S h = h
numbered-edits z n (e ∷ es) S h = numbered-edits z n es (edit z n e S) (numbered-edit z n e S h)

-- and so does what becomes of a console
numbered-gone : (z : Name) (keeps : Bool) (S : State) → AreNumbered S → AreNumbered (console_gone z keeps S)
numbered-gone z true S h = h
numbered-gone z false S h = record { pids = h.pids; zids = h.zids; last = h.last }

-- what comes has a number that fits
numbered-comes : (z : Name) (c : Comes) (asked : List Asked) (n : ℕ) (S : State) → is_asked_for c asked ≡ true → list_all (fits_pool (pools_of S) z n) asked ≡ true → AreNumbered S → AreNumbered (comes z (arrived c n) S)
unfolding comes
numbered-comes z (A_process p) (A_pid ∷ []) n S a f h =
    let range = (and_parts (nat_le 2 n && nat_le n 29999) (not ((pools_of S).pid_used n)) (and_parts _ true f).0) in
    let least = leb-true 2 n (and_parts (nat_le 2 n) (nat_le n 29999) range.0).0 in
    record { pids = differ-put (λ p. p.pid) z (below n) (record p { pid = n }) S.processes (not-true ((pools_of S).pid_used n) range.1) h.pids; zids = h.zids; last = omega (arith, least) }
numbered-comes z (An_id i) (A_zid ∷ []) n S a f h =
    let keep = λ (o : Owned Id). not (bytes_eq z o.zone && all_of o.it) in
    let range = (and_parts (nat_le 1 n && nat_le n 9999) (not ((pools_of S).zid_used n)) (and_parts _ true f).0) in
    let new = new-filter (λ i. i.zid) n keep S.ids (not-true ((pools_of S).zid_used n) range.1) in
    record { pids = h.pids; zids = differ-come (λ i. i.zid) z (record i { zid = n }) (edit_list z (Go all_of) S.ids) new (differ-filter (λ i. i.zid) keep S.ids h.zids); last = h.last }
numbered-comes z (A_record row) asked n S a f h = numbered-gone z (keeps_console (row n)) _ (record { pids = h.pids; zids = h.zids; last = h.last })
numbered-comes z (A_claim c) asked n S a f h = record { pids = h.pids; zids = h.zids; last = h.last }
numbered-comes z No_thing asked n S a f h = record { pids = h.pids; zids = h.zids; last = h.last }
numbered-comes z c asked n S a f h = absurd (false≢true a)

-- a yes is said of an item and of a source alone, which have no number
numbered-yes : (z : Name) (c : Comes) (asked : List Asked) (S : State) → is_asked_for c asked ≡ true → list_all (fits_yes (pools_of S) z) asked ≡ true → AreNumbered S → AreNumbered (comes z (arrived c 0) S)
unfolding comes
numbered-yes z (A_claim c) asked S a f h = record { pids = h.pids; zids = h.zids; last = h.last }
numbered-yes z No_thing asked S a f h = record { pids = h.pids; zids = h.zids; last = h.last }
numbered-yes z (A_record row) asked S a f h = numbered-gone z (keeps_console (row 0)) _ (record { pids = h.pids; zids = h.zids; last = h.last })
numbered-yes z (A_process p) (A_pid ∷ []) S a f h = absurd (false≢true f)
numbered-yes z (An_id i) (A_zid ∷ []) S a f h = absurd (false≢true f)
numbered-yes z c asked S a f h = absurd (false≢true a)

numbered-came : (z : Name) (d : Decision) (g : Grant) (S : State) → asks_rightly d ≡ true → fits_asked (pools_of S) z (asked_of d) g ≡ true → AreNumbered S → AreNumbered (after_came z (act_of d g).came S)
numbered-came z (Just e) g S a f h = h
numbered-came z (Ask c (x ∷ asked) denied given) (Number n) S a f h = numbered-comes z c (x ∷ asked) n S a f h
numbered-came z (Ask c asked denied given) Nothing S a f h = h
numbered-came z (Ask c asked denied given) (Denied pool) S a f h = h
numbered-came z (Ask c [] denied given) (Number n) S a f h = absurd (false≢true f)
numbered-came z (Ask c [] denied given) Yes S a f h = absurd (false≢true f)
numbered-came z (Ask c (x ∷ asked) denied given) Yes S a f h = numbered-yes z c (x ∷ asked) S a f h

-- after a restart no number is held
numbered-whole : (S : State) (e : Event) → AreNumbered S → AreNumbered (whole e S)
unfolding IsDistinct
numbered-whole S (Session n text) h = record { pids = h.pids; zids = h.zids; last = h.last }
numbered-whole S (Turn z) h = record { pids = h.pids; zids = h.zids; last = h.last }
numbered-whole S (Call_of z pid c) h = record { pids = h.pids; zids = h.zids; last = h.last }
numbered-whole S (System what) h = record { pids = h.pids; zids = h.zids; last = h.last }
numbered-whole S Restart h = record { pids = tt; zids = tt; last = omega arith }

numbered-of : (s : Subject) (S : State) (e : Event) (g : Grant) → fits_of s S e g ≡ true → AreNumbered S → AreNumbered (one_of s S e g).state
numbered-of (Zone z) S e g f h =
    let d = decide (view z S) e in
    let T = acts z (session_number e) (act_of d g) S in
    let k : AreNumbered T = numbered-edits z (session_number e) (act_of d g).effect.edits (after_came z (act_of d g).came S) (numbered-came z d g S (asks-decide (view z S) e) f h) in
    record { pids = k.pids; zids = k.zids; last = k.last }
numbered-of Global S e g f h = record { pids = h.pids; zids = h.zids; last = h.last }
numbered-of Whole S e g f h = numbered-whole S e h

numbered-one : (S : State) (e : Event) (g : Grant) → fits S e g ≡ true → AreNumbered S → AreNumbered (one S e g).state
unfolding one fits
numbered-one S e g f h = numbered-of (subject S e) S e g f h

numbered-after : (S : State) (h : List Entry) → is_history fits S h ≡ true → AreNumbered S → AreNumbered (after S h)
numbered-after S [] is n = n
numbered-after S (e ∷ h) is n =
    let parts = and_parts (is_told S e && fits S e.event e.grant) (is_history fits (after_entry S e) h) is in
    numbered-after (after_entry S e) h parts.1 (numbered-one S e.event e.grant (and_parts (is_told S e) (fits S e.event e.grant) parts.0).1 n)

numbered-opening : (brands : List Tabled) (commits : List Commit) → AreNumbered (opening brands commits)
unfolding IsDistinct
numbered-opening brands commits = record { pids = tt; zids = tt; last = omega arith }

pub numbered-history : (brands : List Tabled) (commits : List Commit) (h : List Entry) → is_history fits (opening brands commits) h ≡ true → AreNumbered (after (opening brands commits) h)
numbered-history brands commits h is = numbered-after (opening brands commits) h is (numbered-opening brands commits)

-- the pools give a grant that fits
allowed-of : (s : Subject) (S : State) (e : Event) → 1 ≤ S.last_pid → fits_of s S e (allowed_of s S e) ≡ true
allowed-of (Zone z) S e last = decision-fits (pools_of S) z (decide (view z S) e) (asks-decide (view z S) e) last
allowed-of Global S e last = refl
allowed-of Whole S e last = refl

pub allowed-fits : (S : State) (e : Event) → AreNumbered S → fits S e (allowed S e) ≡ true
unfolding fits allowed
allowed-fits S e n = allowed-of (subject S e) S e n.last

-- so the grants of a legal history fit
legal-after : (S : State) (h : List Entry) → is_legal S h ≡ true → AreNumbered S → is_history fits S h ≡ true
legal-after S [] is n = refl
legal-after S (e ∷ h) is n =
    let parts = and_parts (is_told S e && is_allowed S e.event e.grant) (is_history is_allowed (after_entry S e) h) is in
    let head = and_parts (is_told S e) (is_allowed S e.event e.grant) parts.0 in
    let given : e.grant ≡ allowed S e.event = (grant-Decides e.grant (allowed S e.event)).0 head.1 in
    let fit : fits S e.event e.grant ≡ true = subst (λ g. fits S e.event g ≡ true) (sym given) (allowed-fits S e.event n) in
    and_from _ _ (and_from _ _ head.0 fit) (legal-after (after_entry S e) h parts.1 (numbered-one S e.event e.grant fit n))

pub legal-fits : (brands : List Tabled) (commits : List Commit) (h : List Entry) → is_legal (opening brands commits) h ≡ true → is_history fits (opening brands commits) h ≡ true
legal-fits brands commits h is = legal-after (opening brands commits) h is (numbered-opening brands commits)

-- so one zone at most has a number of a process
held-once : (n : ℕ) (os : List (Owned Process)) → AllDiffer (map (λ o. o.it.pid) os) → (y z : Name) → has_it n y os ≡ true → has_it n z os ≡ true → y ≡ z
unfolding IsDistinct
held-once n [] d y z h k = absurd (false≢true h)
held-once n (o ∷ os) d y z h k = at_head (held-once n os d.1 y z) (has_pid n o.it) refl
  where
    of_first : has_pid n o.it ≡ true → (x : Name) → has_it n x (o ∷ os) ≡ true → x ≡ o.zone
    of_first e x has = at_zone (bytes_eq x o.zone) refl
      where
        none : list_any (λ o. has_pid n o.it) os ≡ false
        none = subst (λ m. list_any (λ o. has_pid m o.it) os ≡ false) (eqb-true o.it.pid n e) (differs-new (λ p. p.pid) o.it.pid os d.0)

        at_zone : (b : Bool) → bytes_eq x o.zone ≡ b → x ≡ o.zone
        at_zone true t = same_true x o.zone t
        at_zone false t = absurd (false≢true (sym none ∙ any_mine (has_pid n) x os (simp t at has)))

    of_rest : has_pid n o.it ≡ false → (x : Name) → has_it n x (o ∷ os) ≡ true → has_it n x os ≡ true
    of_rest e x has = at_zone (bytes_eq x o.zone) refl
      where
        at_zone : (b : Bool) → bytes_eq x o.zone ≡ b → has_it n x os ≡ true
        at_zone true t = simp (t, e) at has
        at_zone false t = simp t at has

    at_head : (has_it n y os ≡ true → has_it n z os ≡ true → y ≡ z) → (b : Bool) → has_pid n o.it ≡ b → y ≡ z
    at_head ih true e = of_first e y h ∙ sym (of_first e z k)
    at_head ih false e = ih (of_rest e y h) (of_rest e z k)

pub held-once-history : (brands : List Tabled) (commits : List Commit) (h : List Entry) → is_history fits (opening brands commits) h ≡ true → HoldOnce (common (after (opening brands commits) h)).pids
held-once-history brands commits h is = λ y z n. held-once n (after (opening brands commits) h).processes (numbered-history brands commits h is).pids y z

-- What a zone's events keep: what is stored of it is right, its tables agree with its daemon, each parent is a process of the zone,
-- and the zone number that is told is its own.
use Rattle.std.proofs.Common.{◌≡◌, ◌⊎◌, ◌∷◌, ◌++◌, [], ◌∙◌, ◌||◌, ℕ, List, Bool, Option, Some, None, true, false, inl, inr, ap, filter, map, nat_eq, not, refl, subst, sym}
use Rattle.std.specs.Prelude.{IfSome, is_some, unwrap_or, if◌then◌else◌}
use Rattle.std.proofs.lemmas.Bool.{false≢true, true≢false}
use Rattle.zn_base.specs.Names.{Name}
use Rattle.zn_base.specs.declared.state.ZoneState.{ZoneState}
use Rattle.zn_base.specs.declared.state.ZoneState.TheVariants.{Ready as Is_ready, Running as Is_running}
use Rattle.brand_hooks.specs.Brands.{Tabled}
use Rattle.commit_journal.specs.declared.records.Commit.{Commit}
use Rattle.commit_journal.specs.declared.records.Record.{Record}
use Rattle.kernel_objects.specs.Kernel.{entered, forked}
use Rattle.kernel_objects.specs.Processes.{Process, adopted, at_pid, below, dropping, has_pid, heir, is_first, pid_or_none, renamed, with_pid, without_pid}
use Rattle.loopback_mounts.specs.Mounts.{at_dir, is_at, with_hold}
use Rattle.loopback_mounts.specs.declared.mount.MountEntry.{MountEntry}
use Rattle.zone_config.specs.declared.terms.Contents.{Contents}
use Rattle.zone_pools.specs.Firsts.{first_of}
use Rattle.zone_pools.specs.Owned_lists.{Change as Change_all, List_edit, edited, put}
use Rattle.zone_pools.specs.declared.grant.Grant.{Grant}
use Rattle.zoneadmd_laws.proofs.Agreeing.{turn_agrees}
use Rattle.zoneadmd_laws.proofs.Making.{freed}
use Rattle.zoneadmd_laws.specs.Afters.{after, come, edits as edits_of}
use Rattle.zoneadmd_laws.specs.Agreement.{Agrees, At_job, Has_nothing, Is_kept, Rests, is_installed}
use Rattle.zoneadmd_steps.specs.Arrivals.{Arrival, New_record}
use Rattle.zoneadmd_steps.specs.Desks.{Desk, Job, has_request, state_now, with_request}
use Rattle.zoneadmd_steps.specs.Objects.{Object_edit, Processes_go, keeping_pid, kernel_of, zid_of}
use Rattle.zoneadmd_steps.specs.Turns.{Seen, turn}
use Rattle.zoneadmd_steps.specs.declared.requests.Request.{Request}
use Rattle.zone_machine.proofs.Turned_laws.{decide-turn, turn_act}
use Rattle.zone_machine.specs.Code.Works.{turned_act}
use Rattle.zone_machine.specs.Machine.{decide, opening, restarted_world, session_number}
use Rattle.zone_machine.specs.Machine.Histories.{after as after_history}
use Rattle.zone_cases.specs.Session.Commits.{committed_record, is_configured}
use Rattle.zone_cases.specs.State.{stored}
use Rattle.zone_cases.specs.State.Declarations.{Declared}
use Rattle.zone_cases.specs.State.Decisions.{Act, act_of, acts_world, after_came_world, sweeps}
use Rattle.zone_cases.specs.State.Edits.{Edit, Of_objects, Set_desk, console_gone_world, edit_world, edits_world, keeps_console}
use Rattle.zone_cases.specs.State.Worlds.{World, objects_of, seen_of, view_of, world}
use Rattle.zone_cases.specs.declared.events.Entry.{Entry}
use Rattle.zone_cases.specs.declared.events.Event.{Event}
use Rattle.zone_cases.specs.declared.events.Event.TheVariants.{Turn}
use Rattle.zone_views.proofs.Alike.{job_entered, job_still}
use Rattle.zone_views.proofs.Belonging.{IsIn, in-filter, in-map, of-filter, of-map}
use Rattle.zone_views.proofs.Deciding.{Called, Comes, Does, Drops, Enters, Forks, Goes, Holds, Mounted, Mounts, Renames, Unmounts, of_any, of_does}
use Rattle.zone_views.proofs.Keeping.{kept-of}
use Rattle.zone_views.proofs.Limits.{Limited, desk_stands, limited-does, limited-event, runs_only}
use Rattle.zone_views.proofs.Naming_turns.{HasPid, Job_zid, Parents, parents-put, turn-good}
use Rattle.zone_views.proofs.Rights.{RightWorld, does-right, turned-sound}
use Rattle.zone_views.specs.Storable.{IsRight}

-- a turn leaves a zone's world as the daemon leaves what it finds
seen-edits : (es : List Object_edit) (d : Desk) (ended : Option ℕ) (w : World)
    → seen_of (edits_world None (map Of_objects es ++ Set_desk d ∷ sweeps ended) w) ≡ record (seen_of w) { objects = edits_of es (objects_of w); desk = d }
seen-edits [] d None w = refl
seen-edits [] d (Some t) w = refl
seen-edits (Processes_go p ∷ es) d ended w = seen-edits es d ended (edit_world None (Of_objects (Processes_go p)) w)
seen-edits (e ∷ es) d ended w = seen-edits es d ended (edit_world None (Of_objects e) w)

seen-came : (c : Option Arrival) (w : World) → seen_of (after_came_world c w) ≡ come c (seen_of w)
seen-came None w = refl
seen-came (Some (New_record row)) w = at_keeps (keeps_console row)
  where
    at_keeps : (b : Bool) → seen_of (console_gone_world b (record w { stored = row })) ≡ record (seen_of w) { stored = row }
    at_keeps true = refl
    at_keeps false = refl
seen-came (Some c) w = refl

pub seen-turn : (w : World) (g : Grant) → seen_of (acts_world None (turned_act (turn_act w g)) w) ≡ (after (turn (seen_of w)) g (seen_of w)).seen
seen-turn w g =
    let a = turn_act w g in
    seen-edits a.effect.objects a.effect.desk a.effect.ended (after_came_world a.came w)
    ∙ ap (λ (v : Seen). record v { objects = edits_of a.effect.objects v.objects; desk = a.effect.desk }) (seen-came a.came w)

-- the tables agree with the daemon
abbrev Agreed : World → Type 0
Agreed w = At_job (seen_of w) w.desk.job

committed-installed : (z : Name) (row : Option Record) (stored : Option Record) (config : Contents) (m : ℕ) → row ≡ stored → is_installed row ≡ true → is_installed (Some (committed_record z stored config m)) ≡ true
committed-installed z row None config m e h = absurd (true≢false (sym h ∙ ap is_installed e))
committed-installed z row (Some old) config m e h = sym (ap is_installed e) ∙ h

held-freed : (dir : List ℕ) (held : Bool) (ms : List MountEntry) → freed (map (at_dir dir (with_hold held)) ms) ≡ freed ms
held-freed dir held [] = refl
held-freed dir held (m ∷ ms) = at_test (is_at dir m) (held-freed dir held ms)
  where
    at_test : (b : Bool) → freed (map (at_dir dir (with_hold held)) ms) ≡ freed ms
        → with_hold false (if b then with_hold held m else m) ∷ freed (map (at_dir dir (with_hold held)) ms) ≡ with_hold false m ∷ freed ms
    at_test true h = ap (λ ms. with_hold false m ∷ ms) h
    at_test false h = ap (λ ms. with_hold false m ∷ ms) h

-- a zone that is removed is configured, and rests
rests-removed : (w v : Seen) (row : Record) (a : Option ZoneState) → v.objects ≡ w.objects → is_configured (unwrap_or a row.state) ≡ true → Rests w a → Rests v a
rests-removed w v row None same c h = subst Has_nothing (sym same) h
rests-removed w v row (Some Is_ready) same c h = absurd (false≢true c)
rests-removed w v row (Some Is_running) same c h = absurd (false≢true c)
rests-removed w v row (Some s) same c h = absurd h

none-asked : (job : Option Job) (waits : Bool) → (is_some job || waits) ≡ false → job ≡ None
none-asked None waits h = refl
none-asked (Some j) waits h = absurd (true≢false h)

some-there : (pid : ℕ) (p : Process) (ps : List Process) → with_pid pid ps ≡ Some p → IsIn p ps
some-there pid p ps h = (of-filter (has_pid pid) p ps (first (filter (has_pid pid) ps) h)).0
  where
    first : (xs : List Process) → first_of xs ≡ Some p → IsIn p xs
    first [] h = absurd (cc)
    first (x ∷ xs) h = inl cc

module _ (w : World) (is : Limited w) (h : Agreed w) where
  may-run : w.desk.active ≡ Some Is_running → desk_stands true w.desk.active w.desk.job ≡ true
  may-run running = at_may is.may is.runs is.desk
    where
      at_may : (may : Bool) → runs_only may w.desk.active ≡ true → desk_stands may w.desk.active w.desk.job ≡ true → desk_stands true w.desk.active w.desk.job ≡ true
      at_may true r d = d
      at_may false r d = absurd (false≢true (subst (λ a. runs_only false a ≡ true) running r))

  -- the processes change, and none comes where there is none
  agreed-among : (ps : List Process) → (w.processes ≡ [] → ps ≡ []) → Agreed (record w { processes = ps })
  agreed-among ps none =
      job_still (seen_of w) (seen_of (record w { processes = ps }))
      (record { active = refl; installed = λ e. e; ids = refl; claims = refl; devices = refl; quiet = λ e. (none e, refl) }) w.desk.job h

  agreed-called : (n : Option ℕ) (c : Option Arrival) (es : List Edit) → Called w n c es → Agreed (edits_world n es (after_came_world c w))
  agreed-called _ _ _ (Forks n parent pid p name found) =
      agreed-among (put (below pid) (forked p name pid) w.processes) (λ e. absurd (nobody e))
    where
      nobody : w.processes ≡ [] → ⊥
      nobody e = let none : None ≡ Some p = sym (ap (with_pid parent) e) ∙ found in cc
  agreed-called _ _ _ (Enters k pid name escape running idle) =
      job_entered (seen_of w) (put (below pid) (entered (kernel_of (objects_of w)) name false pid) w.processes) running w.desk.job (may-run running) h
  agreed-called _ _ _ (Comes k pid name running) =
      job_entered (seen_of w) (put (below pid) (entered (kernel_of (objects_of w)) name false pid) w.processes) running w.desk.job (may-run running) h
  agreed-called _ _ _ (Goes n pid) = agreed-among (without_pid pid w.processes) (λ e. ap (without_pid pid) e)
  agreed-called _ _ _ (Renames n pid name) =
      agreed-among (edited (Change_all (keeping_pid (at_pid pid (renamed name)))) w.processes) (λ e. ap (edited (Change_all (keeping_pid (at_pid pid (renamed name))))) e)
  agreed-called _ _ _ (Drops n pid number) =
      agreed-among (edited (Change_all (keeping_pid (at_pid pid (dropping number)))) w.processes) (λ e. ap (edited (Change_all (keeping_pid (at_pid pid (dropping number))))) e)

  agreed-recorded : (z : Name) (stored : Option Record) (config : Contents) (m : ℕ) → w.stored ≡ stored → Agreed (record w { stored = Some (committed_record z stored config m) })
  agreed-recorded z stored config m same =
      job_still (seen_of w) (seen_of (record w { stored = Some (committed_record z stored config m) }))
      (record { active = refl; installed = committed-installed z w.stored stored config m same; ids = refl; claims = refl; devices = refl; quiet = λ e. (e, refl) }) w.desk.job h

  agreed-removed : (row : Record) → is_configured (state_now row w.desk) ≡ true → has_request w.desk ≡ false → Agreed (record w { stored = None })
  agreed-removed row c none =
      let v = seen_of (record w { stored = None }) in
      let job = none-asked w.desk.job _ none in
      subst (At_job v) (sym job) (rests-removed (seen_of w) v row w.desk.active refl c (subst (At_job (seen_of w)) job h))

  agreed-asked : (r : Request) → Agreed (record w { desk = with_request w.desk r })
  agreed-asked r =
      job_still (seen_of w) (seen_of (record w { desk = with_request w.desk r }))
      (record { active = refl; installed = λ e. e; ids = refl; claims = refl; devices = refl; quiet = λ e. (e, refl) }) w.desk.job h

  agreed-remounted : (e : List_edit MountEntry) → Mounted w.processes w.mounts e → Agreed (record w { mounts = edited e w.mounts })
  agreed-remounted e mounted =
      job_still (seen_of w) (seen_of (record w { mounts = edited e w.mounts }))
      (record { active = refl; installed = λ e. e; ids = refl; claims = refl; devices = refl; quiet = λ none. (none, still e mounted none) }) w.desk.job h
    where
      still : (e : List_edit MountEntry) → Mounted w.processes w.mounts e → w.processes ≡ [] → freed (edited e w.mounts) ≡ freed w.mounts
      still _ (Mounts m some ok) none = absurd (some none)
      still _ (Unmounts dir some) none = absurd (some none)
      still _ (Holds dir held) none = held-freed dir held w.mounts

  agreed-does : (z : Name) (n : Option ℕ) (c : Option Arrival) (es : List Edit) → Does z w n c es → Agreed (edits_world n es (after_came_world c w))
  agreed-does z n c es does = of_does Agreed z w (λ sessions console. h) (λ stored config m sessions console same. agreed-recorded z stored config m same)
      (λ row sessions console same c none. agreed-removed row c none) (λ r sessions room. agreed-asked r) (λ n c es called. agreed-called n c es called) (λ e mounted. agreed-remounted e mounted) n c es does

-- parents
parents-change : (f : Process → Process) (ps : List Process) → ((p : Process) → (f p).parent ≡ p.parent) → Parents ps → Parents (map (keeping_pid f) ps)
parents-change f ps same are q h =
    let back = of-map (keeping_pid f) q ps h in
    subst (λ (q : Process). (q.parent ≡ 0) ⊎ HasPid q.parent (map (keeping_pid f) ps)) back.2 (subst (λ n. (n ≡ 0) ⊎ HasPid n (map (keeping_pid f) ps)) (sym (same back.0)) (more back.0.parent (are back.0 back.1)))
  where
    more : (n : ℕ) → (n ≡ 0) ⊎ HasPid n ps → (n ≡ 0) ⊎ HasPid n (map (keeping_pid f) ps)
    more n (inl none) = inl none
    more n (inr h) = inr (record { it = keeping_pid f h.it; there = in-map (keeping_pid f) h.it ps h.there; same = h.same })

renamed-parent : (pid : ℕ) (name : List ℕ) (p : Process) → (at_pid pid (renamed name) p).parent ≡ p.parent
renamed-parent pid name p = at_test (nat_eq p.pid pid)
  where
    at_test : (b : Bool) → (if b then renamed name p else p).parent ≡ p.parent
    at_test true = refl
    at_test false = refl

dropping-parent : (pid number : ℕ) (p : Process) → (at_pid pid (dropping number) p).parent ≡ p.parent
dropping-parent pid number p = at_test (nat_eq p.pid pid)
  where
    at_test : (b : Bool) → (if b then dropping number p else p).parent ≡ p.parent
    at_test true = refl
    at_test false = refl

-- the children of a process that goes get the first process for their parent, or none
module _ (pid : ℕ) (ps : List Process) (are : Parents ps) where
  abbrev left : List Process
  left = filter (λ p. not (has_pid pid p)) ps

  adopted-pid : (n : ℕ) (p : Process) → (adopted pid n p).pid ≡ p.pid
  adopted-pid n p = at_test (nat_eq p.parent pid)
    where
      at_test : (b : Bool) → (if b then record p { parent = n } else p).pid ≡ p.pid
      at_test true = refl
      at_test false = refl

  there-still : (n : ℕ) (q : Process) → IsIn q left → HasPid q.pid (map (adopted pid n) left)
  there-still n q h = record { it = adopted pid n q; there = in-map (adopted pid n) q left h; same = adopted-pid n q }

  heir-there : (xs : List Process) (n : ℕ) → ((q : Process) → IsIn q xs → IsIn q left) → (pid_or_none (first_of xs) ≡ 0) ⊎ HasPid (pid_or_none (first_of xs)) (map (adopted pid n) left)
  heir-there [] n among = inl refl
  heir-there (q ∷ xs) n among = inr (there-still n q (among q (inl refl)))

  parents-left : (q : Process) → IsIn q left → ((adopted pid (heir left) q).parent ≡ 0) ⊎ HasPid (adopted pid (heir left) q).parent (map (adopted pid (heir left)) left)
  parents-left q h = at_test (nat_eq q.parent pid) refl
    where
      other : nat_eq q.parent pid ≡ false → (q.parent ≡ 0) ⊎ HasPid q.parent ps → (q.parent ≡ 0) ⊎ HasPid q.parent (map (adopted pid (heir left)) left)
      other e (inl none) = inl none
      other e (inr x) =
          let stays = in-filter (λ p. not (has_pid pid p)) x.it ps x.there (ap (λ n. not (nat_eq n pid)) x.same ∙ ap not e) in
          inr (subst (λ n. HasPid n (map (adopted pid (heir left)) left)) x.same (there-still (heir left) x.it stays))

      at_test : (b : Bool) → nat_eq q.parent pid ≡ b
          → ((if b then record q { parent = heir left } else q).parent ≡ 0) ⊎ HasPid (if b then record q { parent = heir left } else q).parent (map (adopted pid (heir left)) left)
      at_test true e = heir-there (filter is_first left) (heir left) (λ x k. (of-filter is_first x left k).0)
      at_test false e = other e (are q (of-filter (λ p. not (has_pid pid p)) q ps h).0)

  parents-without : Parents (without_pid pid ps)
  parents-without q h =
      let back = of-map (adopted pid (heir left)) q left h in
      subst (λ (q : Process). (q.parent ≡ 0) ⊎ HasPid q.parent (map (adopted pid (heir left)) left)) back.2 (parents-left back.0 back.1)

parents-called : (w : World) (n : Option ℕ) (c : Option Arrival) (es : List Edit) → Called w n c es → Parents w.processes → Parents (edits_world n es (after_came_world c w)).processes
parents-called w _ _ _ (Forks n parent pid p name found) are = parents-put (forked p name pid) w.processes (inr (record { it = p; there = some-there parent p w.processes found; same = refl })) are
parents-called w _ _ _ (Enters k pid name escape running idle) are = parents-put (entered (kernel_of (objects_of w)) name false pid) w.processes (inl refl) are
parents-called w _ _ _ (Comes k pid name running) are = parents-put (entered (kernel_of (objects_of w)) name false pid) w.processes (inl refl) are
parents-called w _ _ _ (Goes n pid) are = parents-without pid w.processes are
parents-called w _ _ _ (Renames n pid name) are = parents-change (at_pid pid (renamed name)) w.processes (renamed-parent pid name) are
parents-called w _ _ _ (Drops n pid number) are = parents-change (at_pid pid (dropping number)) w.processes (dropping-parent pid number) are

parents-does : (z : Name) (w : World) → Parents w.processes → (n : Option ℕ) (c : Option Arrival) (es : List Edit) → Does z w n c es → Parents (edits_world n es (after_came_world c w)).processes
parents-does z w are n c es does = of_does (λ v. Parents v.processes) z w (λ sessions console. are) (λ stored config m sessions console same. are) (λ row sessions console same c none. are) (λ r sessions room. are)
    (λ n c es called. parents-called w n c es called are) (λ e mounted. are) n c es does

-- the zone number
abbrev Zid_told : World → Type 0
Zid_told w = Job_zid (zid_of w.ids) w.desk.job

zid-called : (w : World) (n : Option ℕ) (c : Option Arrival) (es : List Edit) → Called w n c es → Zid_told w → Zid_told (edits_world n es (after_came_world c w))
zid-called w _ _ _ (Forks n parent pid p name found) h = h
zid-called w _ _ _ (Enters k pid name escape running idle) h = h
zid-called w _ _ _ (Comes k pid name running) h = h
zid-called w _ _ _ (Goes n pid) h = h
zid-called w _ _ _ (Renames n pid name) h = h
zid-called w _ _ _ (Drops n pid number) h = h

zid-does : (z : Name) (w : World) → Zid_told w → (n : Option ℕ) (c : Option Arrival) (es : List Edit) → Does z w n c es → Zid_told (edits_world n es (after_came_world c w))
zid-does z w h n c es does = of_does Zid_told z w (λ sessions console. h) (λ stored config m sessions console same. h) (λ row sessions console same c none. h) (λ r sessions room. h)
    (λ n c es called. zid-called w n c es called h) (λ e mounted. h) n c es does

pub record Settled (w : World) : Type 0 where
  pub right : RightWorld w
  pub limited : Limited w
  pub agreed : At_job (seen_of w) w.desk.job
  pub parents : Parents w.processes
  pub zid : Job_zid (zid_of w.ids) w.desk.job

kept-row : (row : Option Record) → IfSome row IsRight → Is_kept row
kept-row None h = tt
kept-row (Some row) h = (h.state, h.config.resources)

pub agrees : (w : World) → Settled w → Agrees (seen_of w)
agrees w s = (s.agreed, kept-row w.stored s.right.stored)

settled-does : (z : Name) (w : World) → Settled w → (n : Option ℕ) (c : Option Arrival) (es : List Edit) → Does z w n c es → Settled (edits_world n es (after_came_world c w))
settled-does z w s n c es does = record {
  right = does-right z w s.right n c es does;
  limited = limited-does z w s.limited n c es does;
  agreed = agreed-does w s.limited s.agreed z n c es does;
  parents = parents-does z w s.parents n c es does;
  zid = zid-does z w s.zid n c es does;
}

limited-turned : (z : Name) (w : World) (g : Grant) → Limited w → Limited (acts_world None (turned_act (turn_act w g)) w)
limited-turned z w g h = subst (λ (a : Act). Limited (acts_world None a w)) (decide-turn z z w g) (limited-event z w (Turn z) g h)

settled-turned : (z : Name) (w : World) (g : Grant) → Settled w → Settled (acts_world None (turned_act (turn_act w g)) w)
settled-turned z w g s =
    let here = seen-turn w g in
    let good = turn-good z (seen_of w) g (agrees w s) s.right.stored s.zid in
    record {
      right = record { stored = subst (λ (v : Seen). IfSome v.stored IsRight) (sym here) good.stored; sessions = turned-sound w g s.right.sessions };
      limited = limited-turned z w g s.limited;
      agreed = (subst Agrees (sym here) (turn_agrees (seen_of w) g (agrees w s))).0;
      parents = subst (λ (v : Seen). Parents v.objects.processes) (sym here) (good.parents s.parents);
      zid = subst (λ (v : Seen). Job_zid (zid_of v.objects.ids) v.desk.job) (sym here) good.zid;
    }

pub settled-event : (z : Name) (w : World) (e : Event) (g : Grant) → Settled w → Settled (acts_world (session_number e) (act_of (decide (view_of z w) e) g) w)
settled-event z w e g s = of_any z w Settled (λ v s n c es does. settled-does z v s n c es does) s g (settled-turned z w g s) e

pub settled-declared : (w : World) (d : Declared) → Settled w → Settled (record w { declared = d })
settled-declared w d s = record {
  right = record { stored = s.right.stored; sessions = s.right.sessions };
  limited = s.limited;
  agreed = job_still (seen_of w) (seen_of (record w { declared = d })) (record { active = refl; installed = λ e. e; ids = refl; claims = refl; devices = refl; quiet = λ e. (e, refl) }) w.desk.job s.agreed;
  parents = s.parents;
  zid = s.zid;
}

pub settled-restarted : (w : World) → Settled w → Settled (restarted_world w)
settled-restarted w s = record {
  right = record { stored = s.right.stored; sessions = λ n. tt };
  limited = record { may = false; none = λ e. refl; within = refl; runs = refl; desk = refl };
  agreed = record { ids = refl; processes = refl; mounts = refl; claims = refl; devices = refl };
  parents = λ p h. absurd h;
  zid = tt;
}

pub settled-opening : (z : Name) (brands : List Tabled) (commits : List Commit) → IfSome (stored z commits) IsRight → Settled (world z (opening brands commits))
settled-opening z brands commits first = record {
  right = record { stored = first; sessions = λ n. tt };
  limited = record { may = false; none = λ e. refl; within = refl; runs = refl; desk = refl };
  agreed = record { ids = refl; processes = refl; mounts = refl; claims = refl; devices = refl };
  parents = λ p h. absurd h;
  zid = tt;
}

-- after any history, where what is stored of the zone at first is right
pub settled-after : (z : Name) (brands : List Tabled) (commits : List Commit) (h : List Entry) → IfSome (stored z commits) IsRight → Settled (world z (after_history (opening brands commits) h))
settled-after z brands commits h first = kept-of Settled settled-event settled-declared settled-restarted z (opening brands commits) h (settled-opening z brands commits first)

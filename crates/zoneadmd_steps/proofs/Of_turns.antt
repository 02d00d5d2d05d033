-- What each turn of a daemon comes to: it asks the pools of what comes, and where there is work it isn't idle; and what a local
-- turn does.
use Rattle.std.proofs.Common.{◌≡◌, ◌∷◌, [], ◌&&◌, ◌||◌, ℕ, List, Bool, Option, Some, None, true, false, not, ap, refl, subst, sym, ◌∙◌}
use Rattle.std.specs.Prelude.{Result, Ok, Err, bytes_eq, is_ok, is_some, if◌then◌else◌}
use Rattle.std.specs.List.{list_all}
use Rattle.brand_hooks.specs.Brands.{Tabled, answer_of}
use Rattle.brand_hooks.specs.declared.change.Change.{Change}
use Rattle.brand_hooks.specs.declared.table.HookAnswer.{HookAnswer}
use Rattle.brand_hooks.specs.declared.table.HookAnswer.TheVariants.{Proceed, Refuse}
use Rattle.commit_journal.specs.declared.records.Record.{Record}
use Rattle.config_terms.specs.Fields.{path_text}
use Rattle.config_terms.specs.declared.fault.ConfigFault.{ConfigFault}
use Rattle.datalink_table.specs.Claims.{pool_of}
use Rattle.datalink_table.specs.declared.claims.Claim.{Claim}
use Rattle.kernel_objects.specs.Kernel.{new_id, with_bootargs}
use Rattle.loopback_mounts.specs.Mounts.{before, is_held, mount_answer, mount_at}
use Rattle.loopback_mounts.specs.declared.mount.Mount.{Mount}
use Rattle.loopback_mounts.specs.declared.mount.MountEntry.{MountEntry}
use Rattle.std.proofs.lemmas.Bool.{and_from, and_parts, false≢true, true≢false}
use Rattle.std.proofs.lemmas.Slice.Eq.{bytes_eq-Decides}
use Rattle.zn_base.specs.declared.state.ZoneState.{ZoneState}
use Rattle.zone_config.specs.declared.terms.Contents.{Contents}
use Rattle.zone_pools.proofs.Same_laws.{pool-Decides}
use Rattle.zone_pools.specs.Asked.{A_path, A_pid, A_serial, A_source, A_zid, A_zone, An_item, Asked}
use Rattle.zone_pools.specs.Decisions.{Ask, Just}
use Rattle.zone_pools.specs.Firsts.{is_nil}
use Rattle.zone_pools.specs.Owned_lists.{Put}
use Rattle.zone_pools.specs.Same.{same_pool}
use Rattle.zone_pools.specs.declared.grant.Pool.{Pool}
use Rattle.zoneadmd_steps.specs.Arrivals.{A_claim, A_process, A_record, An_id, Comes, No_thing, record_asked}
use Rattle.zoneadmd_steps.specs.Configs.{fs_mount, moved_record, root_dir, root_mount, with_zonepath}
use Rattle.zoneadmd_steps.specs.Desks.{Desk, Fails, Goes, Job, Stage, state_now}
use Rattle.zoneadmd_steps.specs.Local.{is_idle, is_local_reply, is_of_own}
use Rattle.zoneadmd_steps.specs.Objects.{Ids_change, Object_edit, Objects, Of_mounts}
use Rattle.zoneadmd_steps.specs.Plans.{kind_of, refusal}
use Rattle.zoneadmd_steps.specs.Turns.{A_claim_left, A_mount, A_step, Next, Nothing_left, Seen, Turn_decision, Turned, asking, begin, bootargs_of, hooked, init_process, local_job, local_next, local_stage, local_step, local_turn, local_undo, mounting, new_path, next, next_request, nothing_done, or_shared, over, path_asked, record_config, record_moved, record_state, rests, shared_next, shared_stage, shared_step, shared_turn, started, turn, unmount_last}
use Rattle.zoneadmd_steps.specs.declared.requests.Outcome.{Outcome}
use Rattle.zoneadmd_steps.specs.declared.requests.Request.{Request}
use Rattle.zoneadmd_steps.specs.declared.requests.Request.TheVariants as request
use Rattle.zoneadmd_steps.specs.declared.requests.Step.{Step}
use Rattle.zoneadmd_steps.specs.declared.requests.Step.TheVariants.{Hook, Record as Record_step, Moved, Copy, Erase, Source, Zid, Limits, Devices, Root, Mounted, Claimed, Init}

-- what comes takes its number from the pool of its kind, and an item and a source are asked by their names
abbrev pub is_asked_for : Comes → List Asked → Bool
is_asked_for (A_process p) (A_pid ∷ []) = true
is_asked_for (An_id i) (A_zid ∷ []) = true
is_asked_for (A_claim c) (An_item pool item ∷ []) = same_pool pool (pool_of c.kind) && bytes_eq item c.item
is_asked_for (A_record row) (A_serial size ∷ []) = true
is_asked_for (A_record row) (A_path path ∷ A_serial size ∷ []) = true
is_asked_for (A_record row) (A_zone ∷ A_path path ∷ A_serial size ∷ []) = true
is_asked_for No_thing (A_source z ∷ []) = true
is_asked_for _ _ = false

-- the one pool that is asked of a claim, and of a source
pub asked_item : (c : Claim) (asked : List Asked) → is_asked_for (A_claim c) asked ≡ true → asked ≡ An_item (pool_of c.kind) c.item ∷ []
asked_item c (An_item pool item ∷ []) h =
    let parts = and_parts (same_pool pool (pool_of c.kind)) (bytes_eq item c.item) h in
    let same : pool ≡ pool_of c.kind = (pool-Decides pool (pool_of c.kind)).0 parts.0 in
    let name : item ≡ c.item = (bytes_eq-Decides item c.item).0 parts.1 in
    λ i. An_item (same i) (name i) ∷ []
asked_item c _ h = absurd (false≢true h)

pub asked_source : (asked : List Asked) → is_asked_for No_thing asked ≡ true → (z : List ℕ) × (asked ≡ A_source z ∷ [])
asked_source (A_source z ∷ []) h = (z, refl)
asked_source _ h = absurd (false≢true h)

-- what a local turn does: of the zone's objects it changes its own alone, it ends no ticket, it isn't idle, it tells what a
-- local turn tells, and the zone's state on its desk stays
pub record Stays (d : Desk) (t : Turned) : Type 0 where
  pub own : list_all is_of_own t.objects ≡ true
  pub ended : t.ended ≡ None
  pub busy : is_idle t.reply ≡ false
  pub local : is_local_reply t.reply ≡ true
  pub active : t.desk.active ≡ d.active

abbrev If_stays : Desk → Option Turned → Type 0
If_stays d None = Unit {0}
If_stays d (Some t) = Stays d t

stays-hooked : (d : Desk) (j : Job) (rest : List Step) (change : Change) (answer : HookAnswer) → Stays d (hooked d j rest change answer)
stays-hooked d j rest change Proceed = record { own = refl; ended = refl; busy = refl; local = refl; active = refl }
stays-hooked d j rest change (Refuse code) = record { own = refl; ended = refl; busy = refl; local = refl; active = refl }

own-mounting : (m : Mount) (ms : List MountEntry) → list_all is_of_own (mounting m ms) ≡ true
own-mounting m ms = at_test (is_ok (mount_answer m.dir ms))
  where
    at_test : (b : Bool) → list_all is_of_own (if b then Of_mounts (Put (before m.dir) (record { mount = m; held = false })) ∷ [] else []) ≡ true
    at_test true = refl
    at_test false = refl

-- one of two turns
stays-if : (b : Bool) (d : Desk) (t u : Turned) → Stays d t → Stays d u → Stays d (if b then t else u)
stays-if true d t u h k = h
stays-if false d t u h k = k

stays-step : (brands : List Tabled) (o : Objects) (d : Desk) (j : Job) (rest : List Step) (s : Step) → If_stays d (local_step brands o d j rest s)
stays-step brands o d j rest (Hook change) = stays-hooked d j rest change (answer_of brands j.brand change)
stays-step brands o d j rest (Copy k) = record { own = refl; ended = refl; busy = refl; local = refl; active = refl }
stays-step brands o d j rest (Erase k) = record { own = refl; ended = refl; busy = refl; local = refl; active = refl }
stays-step brands o d j rest Limits = record { own = refl; ended = refl; busy = refl; local = refl; active = refl }
stays-step brands o d j rest Root = record { own = own-mounting (root_mount j.config) o.mounts; ended = refl; busy = refl; local = refl; active = refl }
stays-step brands o d j rest (Mounted dir) = record { own = own-mounting (fs_mount j.config dir) o.mounts; ended = refl; busy = refl; local = refl; active = refl }
stays-step brands o d j rest _ = tt

stays-unmount : (d : Desk) (j : Job) (left : List Step) (m : MountEntry) → Stays d (unmount_last d j left m)
stays-unmount d j left m = stays-if m.held d _ _ (record { own = refl; ended = refl; busy = refl; local = refl; active = refl }) (record { own = refl; ended = refl; busy = refl; local = refl; active = refl })

stays-next : (brands : List Tabled) (o : Objects) (d : Desk) (j : Job) (n : Next) → If_stays d (local_next brands o d j n)
stays-next brands o d j Nothing_left = tt
stays-next brands o d j (A_step s rest) = stays-step brands o d j rest s
stays-next brands o d j (A_mount m left) = stays-unmount d j left m
stays-next brands o d j (A_claim_left c left) = tt

stays-undo : (o : Objects) (d : Desk) (j : Job) (outcome : Outcome) (rest : List Step) (s : Step) → If_stays d (local_undo o d j outcome rest s)
stays-undo o d j outcome rest Limits = record { own = refl; ended = refl; busy = refl; local = refl; active = refl }
stays-undo o d j outcome rest (Devices n) = record { own = refl; ended = refl; busy = refl; local = refl; active = refl }
stays-undo o d j outcome rest Root =
    stays-if (is_held (mount_at root_dir o.mounts)) d _ _ (record { own = refl; ended = refl; busy = refl; local = refl; active = refl }) (record { own = refl; ended = refl; busy = refl; local = refl; active = refl })
stays-undo o d j outcome rest (Mounted dir) =
    stays-if (is_held (mount_at dir o.mounts)) d _ _ (record { own = refl; ended = refl; busy = refl; local = refl; active = refl }) (record { own = refl; ended = refl; busy = refl; local = refl; active = refl })
stays-undo o d j outcome rest _ = tt

stays-stage : (brands : List Tabled) (o : Objects) (d : Desk) (j : Job) (stage : Stage) → If_stays d (local_stage brands o d j stage)
stays-stage brands o d j (Goes left) = stays-next brands o d j (next o left)
stays-stage brands o d j (Fails outcome []) = tt
stays-stage brands o d j (Fails outcome (s ∷ rest)) = stays-undo o d j outcome rest s

stays-job : (brands : List Tabled) (o : Objects) (d : Desk) (job : Option Job) → If_stays d (local_job brands o d job)
stays-job brands o d None = tt
stays-job brands o d (Some j) = stays-stage brands o d j j.stage

stays-local : (brands : List Tabled) (o : Objects) (d : Desk) → If_stays d (local_turn brands o d)
unfolding local_turn
stays-local brands o d = stays-job brands o d d.job

pub stays-turn : (brands : List Tabled) (o : Objects) (d : Desk) (t : Turned) → local_turn brands o d ≡ Some t → Stays d t
stays-turn brands o d t is = subst (If_stays d) is (stays-local brands o d)

-- no turn is local where no request is under way
pub none-under-way : (brands : List Tabled) (o : Objects) (d : Desk) → d.job ≡ None → local_turn brands o d ≡ None
unfolding local_turn
none-under-way brands o d none = ap (local_job brands o d) none

-- a local turn is the turn
pub turn-local : (v : Seen) (t : Turned) → local_turn v.brands v.objects v.desk ≡ Some t → turn v ≡ Just t
unfolding turn
turn-local v t is = ap (or_shared (shared_turn v v.desk.job)) is

awake-begin : (brands : List Tabled) (d : Desk) (t : ℕ) (r : Request) (row : Record) → is_idle (begin brands d t r row).reply ≡ false
awake-begin brands d t r row = at_outcome (refusal brands (kind_of r) (state_now row d) row.config)
  where
    at_outcome : (outcome : Option Outcome) → is_idle (started brands d t r (state_now row d) row outcome).reply ≡ false
    at_outcome None = refl
    at_outcome (Some outcome) = refl

-- the zone is stored, and a request waits or is under way
abbrev pub has_work : Seen → Bool
has_work v = is_some v.stored && (is_some v.desk.job || not (is_nil v.desk.waiting))

module _ (P : Turn_decision → Type 0) (done : (t : Turned) → is_idle t.reply ≡ false → P (Just t))
    (asks : (d : Desk) (j : Job) (rest : List Step) (c : Comes) (asked : List Asked) (edits : List Object_edit) (shown : ℕ → Step) → is_asked_for c asked ≡ true → P (asking d j rest c asked edits shown)) where
  of_state : (d : Desk) (j : Job) (rest : List Step) (s : ZoneState) (row : Option Record) → (row ≡ None → P (nothing_done d)) → P (record_state d j rest s row)
  of_state d j rest s None rested = rested refl
  of_state d j rest s (Some row) rested = asks d j rest (A_record (λ n. Some (record row { state = s }))) (record_asked (λ n. Some (record row { state = s })) ∷ []) [] (λ n. Record_step s) refl

  of_config : (d : Desk) (j : Job) (rest : List Step) (path : List ℕ) (row : Record) (r : Result Contents ConfigFault) → P (record_config d j rest path row r)
  of_config d j rest path row (Err fault) = done _ refl
  of_config d j rest path row (Ok config) = asks d j rest (A_record moved) (path_asked path row.config (record_asked moved)) [] (λ n. Moved) (at_path (bytes_eq path (path_text row.config.zonepath)))
    where
      moved : ℕ → Option Record
      moved n = Some (moved_record config row n)

      at_path : (b : Bool) → is_asked_for (A_record moved) (if b then record_asked moved ∷ [] else A_path path ∷ record_asked moved ∷ []) ≡ true
      at_path true = refl
      at_path false = refl

  of_moved : (d : Desk) (j : Job) (rest : List Step) (path : List ℕ) (row : Option Record) → (row ≡ None → P (nothing_done d)) → P (record_moved d j rest path row)
  of_moved d j rest path None rested = rested refl
  of_moved d j rest path (Some row) rested = of_config d j rest path row (with_zonepath path row.config)

  of_step : (v : Seen) (j : Job) (rest : List Step) (s : Step) → (v.stored ≡ None → P (nothing_done v.desk)) → P (shared_step v j rest s)
  of_step v j rest (Record_step s) rested = of_state v.desk j rest s v.stored rested
  of_step v j rest Moved rested = of_moved v.desk j rest (new_path j.request) v.stored rested
  of_step v j rest (Source z) rested = asks v.desk j rest No_thing (A_source z ∷ []) [] (λ n. Source z) refl
  of_step v j rest (Zid o) rested = asks v.desk j rest (An_id (new_id 0)) (A_zid ∷ []) [] (λ n. Zid (Some n)) refl
  of_step v j rest (Claimed c) rested =
      asks v.desk j rest (A_claim c) (An_item (pool_of c.kind) c.item ∷ []) [] (λ n. Claimed c)
      (and_from _ _ ((pool-Decides (pool_of c.kind) (pool_of c.kind)).1 refl) ((bytes_eq-Decides c.item c.item).1 refl))
  of_step v j rest (Init o) rested =
      asks v.desk j rest (A_process (init_process v.objects)) (A_pid ∷ []) (Ids_change (with_bootargs (bootargs_of j.request j.config)) ∷ []) (λ n. Init (Some n)) refl
  of_step v j rest _ rested = done _ refl

  of_over : (brands : List Tabled) (d : Desk) (j : Job) (stored : Option Record) (r : Request) → P (over brands d j stored r)
  of_over brands d j (Some row) (request.Reboot args) = done _ (awake-begin brands d j.ticket (request.Boot args) row)
  of_over brands d j None (request.Reboot args) = done _ refl
  of_over brands d j stored _ = done _ refl

  of_next : (v : Seen) (j : Job) (n : Next) → local_next v.brands v.objects v.desk j n ≡ None → (v.stored ≡ None → P (nothing_done v.desk)) → P (shared_next v j n)
  of_next v j Nothing_left is rested = of_over v.brands v.desk j v.stored j.request
  of_next v j (A_step s rest) is rested = of_step v j rest s rested
  of_next v j (A_mount m left) is rested = absurd (cc)
  of_next v j (A_claim_left c left) is rested = done _ refl

  of_stage : (v : Seen) (j : Job) (stage : Stage) → local_stage v.brands v.objects v.desk j stage ≡ None → (v.stored ≡ None → P (nothing_done v.desk)) → P (shared_stage v j stage)
  of_stage v j (Goes left) is rested = of_next v j (next v.objects left) is rested
  of_stage v j (Fails outcome []) is rested = done _ refl
  of_stage v j (Fails outcome (s ∷ rest)) is rested = done _ refl

  of_request : (brands : List Tabled) (d : Desk) (rs : List (ℕ × Request)) (stored : Option Record) → ((is_some stored && not (is_nil rs)) ≡ false → P (nothing_done d)) → P (next_request brands d rs stored)
  of_request brands d (r ∷ rs) (Some row) rested = done _ (awake-begin brands (record d { waiting = rs }) r.0 r.1 row)
  of_request brands d (r ∷ rs) None rested = rested refl
  of_request brands d [] (Some row) rested = rested refl
  of_request brands d [] None rested = rested refl

  of_job : (v : Seen) (job : Option Job) → v.desk.job ≡ job → local_job v.brands v.objects v.desk job ≡ None → (has_work v ≡ false → P (nothing_done v.desk)) → P (shared_turn v job)
  of_job v None e is rested = of_request v.brands v.desk v.desk.waiting v.stored (λ h. rested (ap (λ job. is_some v.stored && (is_some job || not (is_nil v.desk.waiting))) e ∙ h))
  of_job v (Some j) e is rested = of_stage v j j.stage is (λ none. rested (ap (λ stored. is_some stored && (is_some v.desk.job || not (is_nil v.desk.waiting))) none))

  -- so is a turn, where it holds of one that rests because there is no work
  pub of_turn : (v : Seen) → (has_work v ≡ false → P (Just (rests v.desk))) → P (turn v)
  unfolding turn local_turn
  of_turn v rested = at_local (local_turn v.brands v.objects v.desk) refl
    where
      at_local : (l : Option Turned) → local_turn v.brands v.objects v.desk ≡ l → P (or_shared (shared_turn v v.desk.job) l)
      at_local (Some t) is = done t (stays-turn v.brands v.objects v.desk t is).busy
      at_local None is = of_job v v.desk.job refl is rested

-- where there is work a turn isn't idle, whatever is granted
abbrev pub IsAwake : Turn_decision → Type 0
IsAwake (Just t) = is_idle t.reply ≡ false
IsAwake (Ask c asked denied given) = ((pool : Pool) → is_idle (denied pool).reply ≡ false) × ((n : ℕ) → is_idle (given n).reply ≡ false)

pub awake-turn : (v : Seen) → has_work v ≡ true → IsAwake (turn v)
awake-turn v h = of_turn IsAwake (λ t awake. awake) (λ d j rest c asked edits shown is. (λ pool. refl, λ n. refl)) v (λ e. absurd (true≢false (sym h ∙ e)))

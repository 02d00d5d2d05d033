-- What each zone keeps, so that its states move along the table: its desk fits what is stored, and the state changes
-- of the request under way lead along the table from there.
use Rattle.std.proofs.Common.{◌≡◌, ◌∷◌, ◌++◌, [], ◌&&◌, append-nil, append_assoc, ◌⊎◌, ℕ, List, Bool, true, false, Option, Some, None, Result, Ok as Right, Err, inl, inr, ap, map, refl, subst, sym}
use Rattle.std.specs.Prelude.{bytes_eq, is_none, unwrap_or, if◌then◌else◌}
use Rattle.std.proofs.lemmas.Bool.{and_from, and_parts, false≢true}
use Rattle.brand_hooks.specs.Brands.{Tabled, answer_of}
use Rattle.brand_hooks.specs.declared.table.HookAnswer.{HookAnswer}
use Rattle.brand_hooks.specs.declared.table.HookAnswer.TheVariants.{Proceed, Refuse}
use Rattle.config_terms.specs.declared.fault.ConfigFault.{ConfigFault}
use Rattle.datalink_table.specs.declared.claims.Claim.{Claim}
use Rattle.loopback_mounts.specs.Mounts.{is_at, is_held, mount_at}
use Rattle.zn_base.specs.Moves.{may_move}
use Rattle.zn_base.specs.Names.{Name}
use Rattle.zn_base.specs.Same.{same_state}
use Rattle.zn_base.proofs.Same_laws.{state-Decides}
use Rattle.zone_pools.specs.Decisions.{Just}
use Rattle.zone_pools.specs.Owned_lists.{Go}
use Rattle.zone_pools.specs.declared.grant.Grant.{Grant}
use Rattle.zn_base.specs.States.{is_stored}
use Rattle.zn_base.specs.declared.state.ZoneState.{ZoneState}
use Rattle.zn_base.specs.declared.state.ZoneState.TheVariants.{Configured, Incomplete, Installed, Ready, Running, ShuttingDown, Down}
use Rattle.zone_pools.proofs.Owned_laws.{same_true}
use Rattle.zone_machine.proofs.Own_worlds.{world-one}
use Rattle.zone_machine.proofs.Turned_laws.{In, in-act, stored_after, turn_act}
use Rattle.zone_cases.specs.State.Decisions.{act_of, acts_world, after_came_world}
use Rattle.kernel_objects.specs.Kernel.{entered}
use Rattle.kernel_objects.specs.Processes as processes
use Rattle.zoneadmd_steps.specs.Arrivals.{New_process}
use Rattle.zoneadmd_steps.specs.Objects.{Process_goes, kernel_of}
use Rattle.zone_cases.specs.State.Edits.{Edit, Of_objects, comes_world, edits_world}
use Rattle.zoneadmd_steps.specs.Arrivals.{Arrival}
use Rattle.zoneadmd_steps.specs.Configs.{claims_of, fs_dirs, root_dir, with_zonepath}
use Rattle.zoneadmd_steps.specs.Desks.{Desk, Fails, Goes as Goes_on, Job, Stage, empty_desk, has_request, state_now, state_of, with_request}
use Rattle.zone_machine.specs.Machine.Histories.{after, world_by}
use Rattle.zone_machine.specs.Machine.{decide, one, opening, restarted_world, session_number, subject, whole_world}
use Rattle.zoneadmd_steps.specs.Objects.{Objects, Of_mounts}
use Rattle.zoneadmd_steps.specs.Plans.{boot_part, kind_of, may_begin, plan, ready_part, refusal}
use Rattle.zone_machine.proofs.Acts_laws.{stored-append}
use Rattle.zone_config.specs.declared.terms.Contents.{Contents}
use Rattle.zone_cases.specs.State.{State, stored}
use Rattle.zoneadmd_steps.specs.Turns.{A_claim_left, A_mount, A_step, Next, Nothing_left, Seen, Turn_decision, Turned, active_after, begin, hooked, local_job, local_next, local_stage, local_step, local_turn, local_undo, new_path, next, next_request, or_shared, over, record_config, shared_next, shared_stage, shared_step, shared_turn, started, stuck, turn, undo_edits, undone, with_step}
use Rattle.zone_cases.specs.Session.Commits.{committed_record, is_configured}
use Rattle.zone_cases.specs.State.Worlds.{World, objects_of, seen_of, view_of, world}
use Rattle.zoneadmd_steps.specs.declared.requests.Outcome.{Outcome}
use Rattle.zoneadmd_steps.specs.declared.requests.Request.{Request}
use Rattle.zoneadmd_steps.specs.declared.requests.Request.TheVariants as request
use Rattle.zoneadmd_steps.specs.declared.requests.Step.{Step}
use Rattle.zoneadmd_steps.specs.declared.requests.Step.TheVariants.{Hook, Record as Record_step, Moved, Source, Zid, Root, Mounted, Claimed, State as State_step, Init}
use Rattle.zone_cases.specs.declared.events.Entry.{Entry}
use Rattle.zone_cases.specs.declared.events.Event.{Event}
use Rattle.zone_cases.specs.declared.events.Event.TheVariants.{Process as Call_of, Restart, Session, System, Turn}
use Rattle.zone_cases.specs.declared.events.Subject.{Subject}
use Rattle.zone_cases.specs.declared.events.Subject.TheVariants.{Zone, Global, Whole}
use Rattle.commit_journal.specs.declared.records.Commit.{Commit}
use Rattle.commit_journal.specs.declared.records.Record.{Record}
use Rattle.zone_views.proofs.Deciding.{Acts, Called, Changes, Comes, Drops, Enters, Errand, Forks, Goes as Goes_away, Mounts_on, Once, Renames, Says_only, Tells_console, Unasked, by_acts, of_does, of_turned}
use Rattle.zone_views.proofs.Keeping.{kept-after}
use Rattle.zone_views.proofs.Nexts.{Holds_next, begins, holds-next}
use Rattle.zone_views.specs.Storable.{are_storable, ends_with_a_restart, is_storable}

abbrev is_active_state : ZoneState → Bool
is_active_state Ready = true
is_active_state Running = true
is_active_state ShuttingDown = true
is_active_state Down = true
is_active_state _ = false

-- an active zone is stored as installed
abbrev pub fits_stored : Option ZoneState → ZoneState → Bool
fits_stored None s = is_stored s
fits_stored (Some a) s = is_active_state a && same_state s Installed

-- the changes of state among some steps lead along the table
abbrev pub leads : Option ZoneState → ZoneState → List Step → Bool
leads active s [] = true
leads active s (Record_step t ∷ rest) = is_none active && is_stored t && may_move (Some s) (Some t) && leads active t rest
leads active s (State_step t ∷ rest) = same_state s Installed && fits_stored (active_after t) s && may_move (Some (unwrap_or active s)) (Some t) && leads (active_after t) s rest
leads active s (_ ∷ rest) = leads active s rest

abbrev pub stage_leads : Option ZoneState → ZoneState → Stage → Bool
stage_leads active s (Goes_on left) = leads active s left
stage_leads active s (Fails outcome made) = true

abbrev pub desk_leads : Option Job → Option ZoneState → ZoneState → Bool
desk_leads None active s = true
desk_leads (Some j) active s = stage_leads active s j.stage

abbrev pub steady : Option Record → Desk → Bool
steady None d = is_none d.active && is_none d.job
steady (Some row) d = fits_stored d.active row.state && desk_leads d.job d.active row.state

-- where the record and the desk were row and d, they are steady now, and the state stays or moves along the table
record Keeps (row : Option Record) (d : Desk) (new : Option Record) (e : Desk) : Type 0 where
  steady : steady new e ≡ true
  moves : (state_of new e ≡ state_of row d) ⊎ (may_move (state_of row d) (state_of new e) ≡ true)

-- the ready part, before what comes after it
module _ (active : Option ZoneState) (s : ZoneState) where
  leads-dirs : (dirs : List (List ℕ)) (rest more : List Step) → leads active s (rest ++ more) ≡ true → leads active s ((map Mounted dirs ++ rest) ++ more) ≡ true
  leads-dirs [] rest more h = h
  leads-dirs (dir ∷ dirs) rest more h = leads-dirs dirs rest more h

  leads-claims : (cs : List Claim) (rest more : List Step) → leads active s (rest ++ more) ≡ true → leads active s ((map Claimed cs ++ rest) ++ more) ≡ true
  leads-claims [] rest more h = h
  leads-claims (c ∷ cs) rest more h = leads-claims cs rest more h

ready_leads : (c : Contents) (more : List Step) → leads (Some Ready) Installed more ≡ true → leads None Installed (ready_part c ++ more) ≡ true
ready_leads c more h = leads-dirs None Installed (fs_dirs c) _ more (leads-claims None Installed (claims_of c) _ more h)

-- a request that may begin leads along the table
active_leads : (r : Request) (a : ZoneState) (c : Contents) → is_active_state a ≡ true → may_begin (kind_of r) a ≡ true → leads (Some a) Installed (plan r a c) ≡ true
active_leads (request.Boot args) Ready c f m = refl
active_leads request.Halt Ready c f m = refl
active_leads request.Halt Running c f m = refl
active_leads (request.Reboot args) Ready c f m = refl
active_leads (request.Reboot args) Running c f m = refl
active_leads request.Install Configured c f m = absurd (false≢true f)
active_leads (request.Clone source) Configured c f m = absurd (false≢true f)
active_leads request.Attach Configured c f m = absurd (false≢true f)
active_leads request.Detach Installed c f m = absurd (false≢true f)
active_leads request.Uninstall Installed c f m = absurd (false≢true f)
active_leads request.Uninstall Incomplete c f m = absurd (false≢true f)
active_leads request.Mark Installed c f m = absurd (false≢true f)
active_leads (request.Move path) Installed c f m = absurd (false≢true f)
active_leads request.Ready Installed c f m = absurd (false≢true f)
active_leads (request.Boot args) Installed c f m = absurd (false≢true f)
active_leads r a c f m = absurd (false≢true m)

stored_leads : (r : Request) (s : ZoneState) (c : Contents) → is_stored s ≡ true → may_begin (kind_of r) s ≡ true → leads None s (plan r s c) ≡ true
stored_leads request.Install Configured c f m = refl
stored_leads (request.Clone source) Configured c f m = refl
stored_leads request.Attach Configured c f m = refl
stored_leads request.Detach Installed c f m = refl
stored_leads request.Uninstall Installed c f m = refl
stored_leads request.Uninstall Incomplete c f m = refl
stored_leads request.Mark Installed c f m = refl
stored_leads (request.Move path) Installed c f m = refl
stored_leads request.Ready Installed c f m = subst (λ p. leads None Installed p ≡ true) (append-nil (ready_part c)) (ready_leads c [] refl)
stored_leads (request.Boot args) Installed c f m = ready_leads c boot_part refl
stored_leads (request.Boot args) Ready c f m = absurd (false≢true f)
stored_leads request.Halt Ready c f m = absurd (false≢true f)
stored_leads request.Halt Running c f m = absurd (false≢true f)
stored_leads (request.Reboot args) Ready c f m = absurd (false≢true f)
stored_leads (request.Reboot args) Running c f m = absurd (false≢true f)
stored_leads r s c f m = absurd (false≢true m)

begin_leads : (r : Request) (active : Option ZoneState) (s : ZoneState) (c : Contents) → fits_stored active s ≡ true → may_begin (kind_of r) (unwrap_or active s) ≡ true
    → leads active s (plan r (unwrap_or active s) c) ≡ true
begin_leads r None s c f m = stored_leads r s c f m
begin_leads r (Some a) s c f m =
    let parts = and_parts (is_active_state a) (same_state s Installed) f in
    subst (λ t. leads (Some a) t (plan r a c) ≡ true) (sym ((state-Decides s Installed).0 parts.1)) (active_leads r a c parts.0 m)

-- what a turn decides keeps them so
abbrev KeepsIn : Option Record → Desk → Turn_decision → Type 0
KeepsIn row d decision = In (λ c (t : Turned). Keeps row d (stored_after c row) t.desk) decision

-- a turn of a stored zone
module _ (o : Objects) (declared : List (List ℕ)) (brands : List Tabled) (row : Record) (d : Desk) (f : fits_stored d.active row.state ≡ true) (still : steady (Some row) d ≡ true) where
  abbrev v : Seen
  v = record { desk = d; objects = o; stored = Some row; declared = declared; brands = brands }

  abbrev Kept : Turned → Type 0
  Kept t = Keeps (Some row) d (Some row) t.desk

  keeps_if : (b : Bool) (t u : Turned) → Kept t → Kept u → Kept (if b then t else u)
  keeps_if true t u h k = h
  keeps_if false t u h k = k

  abbrev KeepsBoth : Turn_decision → Option Turned → Type 0
  KeepsBoth shared local = KeepsIn (Some row) d (or_shared shared local)

  -- a step
  keeps_moved : (j : Job) (rest : List Step) (path : List ℕ) (r : Result Contents ConfigFault) → leads d.active row.state rest ≡ true → KeepsIn (Some row) d (record_config d j rest path row r)
  keeps_moved j rest path (Err fault) l = record { steady = and_from _ _ f refl; moves = inl refl }
  keeps_moved j rest path (Right config) l = (λ pool. record { steady = and_from _ _ f refl; moves = inl refl }, λ n. record { steady = and_from _ _ f l; moves = inl refl })

  keeps_step : (j : Job) (rest : List Step) (s : Step) → leads d.active row.state (s ∷ rest) ≡ true → KeepsBoth (shared_step v j rest s) (local_step brands o d j rest s)
  keeps_step j rest (Hook change) l = at_answer (answer_of brands j.brand change)
    where
      at_answer : (answer : HookAnswer) → Kept (hooked d j rest change answer)
      at_answer Proceed = record { steady = and_from _ _ f l; moves = inl refl }
      at_answer (Refuse code) = record { steady = and_from _ _ f refl; moves = inl refl }
  keeps_step j rest (Record_step s) l =
      let last_part = and_parts (is_none d.active && is_stored s && may_move (Some row.state) (Some s)) (leads d.active s rest) l in
      let mid_part = and_parts (is_none d.active && is_stored s) (may_move (Some row.state) (Some s)) last_part.0 in
      let first_part = and_parts (is_none d.active) (is_stored s) mid_part.0 in
      (λ pool. record { steady = and_from _ _ f refl; moves = inl refl }, λ n. at_active d.active first_part.0 first_part.1 mid_part.1 last_part.1)
    where
      left_at : Option ZoneState → Desk
      left_at active = record d { active = active; job = Some (record j { done = with_step (Record_step s) j.done; stage = Goes_on rest }) }

      at_active : (active : Option ZoneState) → is_none active ≡ true → is_stored s ≡ true → may_move (Some row.state) (Some s) ≡ true → leads active s rest ≡ true
          → Keeps (Some row) (record d { active = active }) (Some (record row { state = s })) (left_at active)
      at_active None i st m r = record { steady = and_from _ _ st r; moves = inr m }
      at_active (Some a) i st m r = absurd (false≢true i)
  keeps_step j rest Moved l = keeps_moved j rest (new_path j.request) (with_zonepath (new_path j.request) row.config) l
  keeps_step j rest (Source z) l = (λ pool. record { steady = and_from _ _ f refl; moves = inl refl }, λ n. record { steady = and_from _ _ f l; moves = inl refl })
  keeps_step j rest (Zid _) l = (λ pool. record { steady = and_from _ _ f refl; moves = inl refl }, λ n. record { steady = and_from _ _ f l; moves = inl refl })
  keeps_step j rest (Claimed c) l = (λ pool. record { steady = and_from _ _ f refl; moves = inl refl }, λ n. record { steady = and_from _ _ f l; moves = inl refl })
  keeps_step j rest (Init _) l = (λ pool. record { steady = and_from _ _ f refl; moves = inl refl }, λ n. record { steady = and_from _ _ f l; moves = inl refl })
  keeps_step j rest (State_step s) l =
      let last_part = and_parts (same_state row.state Installed && fits_stored (active_after s) row.state && may_move (Some (unwrap_or d.active row.state)) (Some s)) (leads (active_after s) row.state rest) l in
      let mid_part = and_parts (same_state row.state Installed && fits_stored (active_after s) row.state) (may_move (Some (unwrap_or d.active row.state)) (Some s)) last_part.0 in
      let first_part = and_parts (same_state row.state Installed) (fits_stored (active_after s) row.state) mid_part.0 in
      let now : unwrap_or (active_after s) row.state ≡ s = now_at s row.state ((state-Decides row.state Installed).0 first_part.0) in
      record { steady = and_from _ _ first_part.1 last_part.1; moves = inr (rw now mid_part.1) }
    where
      now_at : (s t : ZoneState) → t ≡ Installed → unwrap_or (active_after s) t ≡ s
      now_at Installed t e = e
      now_at _ t e = refl
  keeps_step j rest _ l = record { steady = and_from _ _ f l; moves = inl refl }

  -- a request begins, or ends at once
  keeps_begin : (waiting : List (ℕ × Request)) (t : ℕ) (r : Request) → Kept (begin brands (record d { waiting = waiting }) t r row)
  keeps_begin waiting t r = at_outcome (refusal brands (kind_of r) (unwrap_or d.active row.state) row.config) refl
    where
      at_outcome : (outcome : Option Outcome) → refusal brands (kind_of r) (unwrap_or d.active row.state) row.config ≡ outcome → Kept (started brands (record d { waiting = waiting }) t r (unwrap_or d.active row.state) row outcome)
      at_outcome None e = record { steady = and_from _ _ f (begin_leads r d.active row.state row.config f (begins brands (kind_of r) (unwrap_or d.active row.state) row.config e)); moves = inl refl }
      at_outcome (Some outcome) e = record { steady = and_from _ _ f refl; moves = inl refl }

  keeps_over : (j : Job) (r : Request) → KeepsIn (Some row) d (over brands d j (Some row) r)
  keeps_over j (request.Reboot args) = keeps_begin d.waiting j.ticket (request.Boot args)
  keeps_over j _ = record { steady = and_from _ _ f refl; moves = inl refl }

  abbrev Leads : List Step → Type 0
  Leads left = leads d.active row.state left ≡ true

  keeps_next : (j : Job) (n : Next) → Holds_next Leads (λ dir rest l. l) (λ c rest l. l) o n → KeepsBoth (shared_next v j n) (local_next brands o d j n)
  keeps_next j Nothing_left l = keeps_over j j.request
  keeps_next j (A_step s rest) l = keeps_step j rest s l
  keeps_next j (A_mount m left) l = keeps_if m.held (stuck d) _ (record { steady = still; moves = inl refl }) (record { steady = and_from _ _ f l; moves = inl refl })
  keeps_next j (A_claim_left c left) l = record { steady = and_from _ _ f l; moves = inl refl }

  -- a step back
  keeps_undo : (j : Job) (outcome : Outcome) (rest : List Step) (s : Step) → KeepsBoth (Just (undone d j outcome rest (undo_edits s) s)) (local_undo o d j outcome rest s)
  keeps_undo j outcome rest Root = keeps_if (is_held (mount_at root_dir o.mounts)) (stuck d) (undone d j outcome rest (Of_mounts (Go (is_at root_dir)) ∷ []) Root) (record { steady = still; moves = inl refl }) (record { steady = and_from _ _ f refl; moves = inl refl })
  keeps_undo j outcome rest (Mounted dir) = keeps_if (is_held (mount_at dir o.mounts)) (stuck d) (undone d j outcome rest (Of_mounts (Go (is_at dir)) ∷ []) (Mounted dir)) (record { steady = still; moves = inl refl }) (record { steady = and_from _ _ f refl; moves = inl refl })
  keeps_undo j outcome rest _ = record { steady = and_from _ _ f refl; moves = inl refl }

  keeps_stage : (j : Job) (stage : Stage) → stage_leads d.active row.state stage ≡ true → KeepsBoth (shared_stage v j stage) (local_stage brands o d j stage)
  keeps_stage j (Goes_on left) l = keeps_next j (next o left) (holds-next Leads (λ dir rest l. l) (λ c rest l. l) o left l)
  keeps_stage j (Fails outcome []) l = record { steady = and_from _ _ f refl; moves = inl refl }
  keeps_stage j (Fails outcome (s ∷ rest)) l = keeps_undo j outcome rest s

  keeps_request : (waiting : List (ℕ × Request)) → KeepsIn (Some row) d (next_request brands d waiting (Some row))
  keeps_request [] = record { steady = still; moves = inl refl }
  keeps_request (r ∷ rs) = keeps_begin rs r.0 r.1

  keeps_job : (job : Option Job) → desk_leads job d.active row.state ≡ true → KeepsBoth (shared_turn v job) (local_job brands o d job)
  keeps_job None l = keeps_request d.waiting
  keeps_job (Some j) l = keeps_stage j j.stage l

-- a zone that isn't stored has none
keeps_nothing : (o : Objects) (declared : List (List ℕ)) (brands : List Tabled) (d : Desk) → steady None d ≡ true
    → KeepsIn None d (turn (record { desk = d; objects = o; stored = None; declared = declared; brands = brands }))
unfolding turn local_turn
keeps_nothing o declared brands d h = at_job d.job (and_parts (is_none d.active) (is_none d.job) h).1
  where
    at_waiting : (waiting : List (ℕ × Request)) → KeepsIn None d (next_request brands d waiting None)
    at_waiting [] = record { steady = h; moves = inl refl }
    at_waiting (r ∷ rs) = record { steady = h; moves = inl refl }

    at_job : (job : Option Job) → is_none job ≡ true → KeepsIn None d (or_shared (shared_turn (record { desk = d; objects = o; stored = None; declared = declared; brands = brands }) job) (local_job brands o d job))
    at_job None e = at_waiting d.waiting
    at_job (Some j) e = absurd (false≢true e)

keeps_stored : (o : Objects) (declared : List (List ℕ)) (brands : List Tabled) (row : Record) (d : Desk) → steady (Some row) d ≡ true
    → KeepsIn (Some row) d (turn (record { desk = d; objects = o; stored = Some row; declared = declared; brands = brands }))
unfolding turn local_turn
keeps_stored o declared brands row d h =
    let parts = and_parts (fits_stored d.active row.state) (desk_leads d.job d.active row.state) h in
    keeps_job o declared brands row d parts.0 h d.job parts.1

-- a turn
keeps_turn : (o : Objects) (declared : List (List ℕ)) (brands : List Tabled) (row : Option Record) (d : Desk) → steady row d ≡ true
    → KeepsIn row d (turn (record { desk = d; objects = o; stored = row; declared = declared; brands = brands }))
keeps_turn o declared brands None d h = keeps_nothing o declared brands d h
keeps_turn o declared brands (Some row) d h = keeps_stored o declared brands row d h

-- a zone that is made has an idle desk, and one that has another configuration keeps its state
keeps-recorded : (row : Option Record) (d : Desk) (z : Name) (config : Contents) (k : ℕ) → steady row d ≡ true → Keeps row d (Some (committed_record z row config k)) d
keeps-recorded None d z config k h = at_desk d.active d.job h
  where
    at_desk : (active : Option ZoneState) (job : Option Job) → let e = record d { active = active; job = job } in steady None e ≡ true → Keeps None e (Some (committed_record z None config k)) e
    at_desk None None h = record { steady = refl; moves = inr refl }
    at_desk None (Some j) h = absurd (false≢true h)
    at_desk (Some a) job h = absurd (false≢true h)
keeps-recorded (Some row) d z config k h = record { steady = h; moves = inl refl }

-- a zone that is removed was configured, and its desk idle
keeps-removed : (row : Record) (d : Desk) → steady (Some row) d ≡ true → is_configured (state_now row d) ≡ true → has_request d ≡ false → Keeps (Some row) d None d
keeps-removed row d h c r = at_desk d.active d.job row.state h c r
  where
    at_desk : (active : Option ZoneState) (job : Option Job) (s : ZoneState) → let e = record d { active = active; job = job } in let old = record row { state = s } in
        steady (Some old) e ≡ true → is_configured (state_now old e) ≡ true → has_request e ≡ false → Keeps (Some old) e None e
    at_desk None None Configured h c r = record { steady = refl; moves = inr refl }
    at_desk None None s h c r = absurd (false≢true c)
    at_desk None (Some j) s h c r = absurd (false≢true (sym r))
    at_desk (Some Configured) job s h c r = absurd (false≢true h)
    at_desk (Some a) job s h c r = absurd (false≢true c)

-- a request that waits changes nothing of that
keeps-asked : (row : Option Record) (d : Desk) (r : Request) → steady row d ≡ true → Keeps row d row (with_request d r)
keeps-asked None d r h = record { steady = h; moves = inl refl }
keeps-asked (Some row) d r h = record { steady = h; moves = inl refl }

abbrev KeepsFrom : World → World → Type 0
KeepsFrom w v = Keeps w.stored w.desk v.stored v.desk

-- an event of a zone
keeps-event : (z : Name) (w : World) (e : Event) (g : Grant) → steady w.stored w.desk ≡ true
    → let v = acts_world (session_number e) (act_of (decide (view_of z w) e) g) w in Keeps w.stored w.desk v.stored v.desk
keeps-event z w e g h =
    by_acts z w (KeepsFrom w) acts g (of_turned (λ row ms d. Keeps w.stored w.desk row d) w g turned) e
  where
    stays : Keeps w.stored w.desk w.stored w.desk
    stays = record { steady = h; moves = inl refl }

    others : (n : Option ℕ) (c : Option Arrival) (es : List Edit) → Called w n c es → let v = edits_world n es (after_came_world c w) in Keeps w.stored w.desk v.stored v.desk
    others _ _ _ (Forks n parent pid p name is) = stays
    others _ _ _ (Enters k pid name escape running idle) = stays
    others _ _ _ (Comes k pid name running) = stays
    others _ _ _ (Goes_away n pid) = stays
    others _ _ _ (Renames n pid name) = stays
    others _ _ _ (Drops n pid number) = stays

    -- a call that asks for no number leaves what is stored and the desk, and so does a process that comes and goes
    called_alone : (p : processes.Process) (pid : ℕ) (n : Option ℕ) (es : List Edit) → Called (comes_world (New_process p) w) n None es → KeepsFrom w (edits_world n (es ++ Of_objects (Process_goes pid) ∷ []) (comes_world (New_process p) w))
    called_alone p pid _ _ (Goes_away n other) = stays
    called_alone p pid _ _ (Renames n other name) = stays
    called_alone p pid _ _ (Drops n other number) = stays

    unasked : (p : processes.Process) (pid : ℕ) (n : Option ℕ) (es : List Edit) → Unasked (comes_world (New_process p) w) n es → KeepsFrom w (edits_world n (es ++ Of_objects (Process_goes pid) ∷ []) (comes_world (New_process p) w))
    unasked p pid _ _ (Says_only n) = stays
    unasked p pid _ _ (Changes n es called) = called_alone p pid n es called
    unasked p pid _ _ (Mounts_on n e mounted) = stays
    unasked p pid _ _ (Tells_console n text) = stays

    acts : (n : Option ℕ) (c : Option Arrival) (es : List Edit) → Acts z w n c es → KeepsFrom w (edits_world n es (after_came_world c w))
    acts _ _ _ (Once n c es does) =
        of_does (KeepsFrom w) z w (λ sessions console. stays) (λ stored config k sessions console is. subst (λ o. Keeps w.stored w.desk (Some (committed_record z o config k)) w.desk) is (keeps-recorded w.stored w.desk z config k h)) (λ row sessions console is c r. subst (λ o. Keeps o w.desk None w.desk) (sym is) (keeps-removed row w.desk (subst (λ o. steady o w.desk ≡ true) is h) c r)) (λ r sessions room. keeps-asked w.stored w.desk r h) others (λ e mounted. stays) n c es does
    acts _ _ _ (Errand k pid name es running does) = unasked (entered (kernel_of (objects_of w)) name false pid) pid (Some k) es does

    turned : let a = turn_act w g in Keeps w.stored w.desk (stored_after a.came w.stored) a.effect.desk
    turned = in-act (λ c (t : Turned). Keeps w.stored w.desk (stored_after c w.stored) t.desk) (turn (seen_of w)) g (keeps_turn (objects_of w) w.declared.devices w.brands w.stored w.desk h)

-- every zone's world is steady
abbrev pub IsSteady : State → Type 0
IsSteady S = (z : Name) → steady (stored z S.commits) (S.desks z) ≡ true

-- what an event does to a world: it stays steady, and its state stays, or moves along the table as the event's subject, or ends
-- with a restart
pub record Goes (z : Name) (s : Subject) (e : Event) (w v : World) : Type 0 where
  pub steady : steady v.stored v.desk ≡ true
  pub moves : (state_of v.stored v.desk ≡ state_of w.stored w.desk) ⊎ (((s ≡ Zone z) × (may_move (state_of w.stored w.desk) (state_of v.stored v.desk) ≡ true))
      ⊎ ((e ≡ Restart) × (ends_with_a_restart (state_of w.stored w.desk) ≡ true) × (state_of v.stored v.desk ≡ Some Installed)))

-- a restart empties the desk: the zone is in its stored state, which of one that was active is installed
abbrev EndsHere : Option Record → Desk → Type 0
EndsHere row d = (ends_with_a_restart (state_of row d) ≡ true) × (state_of row empty_desk ≡ Some Installed)

active_ends : (a : ZoneState) → is_active_state a ≡ true → ends_with_a_restart (Some a) ≡ true
active_ends Ready f = refl
active_ends Running f = refl
active_ends ShuttingDown f = refl
active_ends Down f = refl
active_ends Configured f = absurd (false≢true f)
active_ends Incomplete f = absurd (false≢true f)
active_ends Installed f = absurd (false≢true f)

ends_here : (row : Option Record) (d : Desk) → steady row d ≡ true → (steady row empty_desk ≡ true) × ((state_of row empty_desk ≡ state_of row d) ⊎ EndsHere row d)
ends_here None d h = (refl, inl refl)
ends_here (Some row) d h = at_active d.active (and_parts (fits_stored d.active row.state) (desk_leads d.job d.active row.state) h).0
  where
    at_active : (active : Option ZoneState) → fits_stored active row.state ≡ true
        → let e = record d { active = active } in (steady (Some row) empty_desk ≡ true) × ((state_of (Some row) empty_desk ≡ state_of (Some row) e) ⊎ EndsHere (Some row) e)
    at_active None f = (and_from _ _ f refl, inl refl)
    at_active (Some a) f =
        let parts = and_parts (is_active_state a) (same_state row.state Installed) f in
        let is : row.state ≡ Installed = (state-Decides row.state Installed).0 parts.1 in
        (and_from _ _ (subst (λ s. is_stored s ≡ true) (sym is) refl) refl, inr (active_ends a parts.0, ap Some is))

goes_restarted : (z : Name) (s : Subject) (w : World) → steady w.stored w.desk ≡ true → Goes z s Restart w (restarted_world w)
goes_restarted z s w h = let ends = ends_here w.stored w.desk h in record { steady = ends.0; moves = at_end ends.1 }
  where
    at_end : (state_of w.stored empty_desk ≡ state_of w.stored w.desk) ⊎ EndsHere w.stored w.desk
        → (state_of w.stored empty_desk ≡ state_of w.stored w.desk) ⊎ (((s ≡ Zone z) × (may_move (state_of w.stored w.desk) (state_of w.stored empty_desk) ≡ true)) ⊎ ((Restart ≡ Restart) × (ends_with_a_restart (state_of w.stored w.desk) ≡ true) × (state_of w.stored empty_desk ≡ Some Installed)))
    at_end (inl stays) = inl stays
    at_end (inr ends) = inr (inr (refl, ends.0, ends.1))

goes_whole : (z : Name) (s : Subject) (w : World) (e : Event) → steady w.stored w.desk ≡ true → Goes z s e w (whole_world e w)
goes_whole z s w (Session n text) h = record { steady = h; moves = inl refl }
goes_whole z s w (Turn y) h = record { steady = h; moves = inl refl }
goes_whole z s w (Call_of y pid c) h = record { steady = h; moves = inl refl }
goes_whole z s w (System what) h = record { steady = h; moves = inl refl }
goes_whole z s w Restart h = goes_restarted z s w h

goes_by : (z : Name) (s : Subject) (w : World) (e : Event) (g : Grant) → steady w.stored w.desk ≡ true → Goes z s e w (world_by s z w e g)
goes_by z Global w e g h = record { steady = h; moves = inl refl }
goes_by z Whole w e g h = goes_whole z Whole w e h
goes_by z (Zone y) w e g h = at_test (bytes_eq z y) refl
  where
    with_subject : Zone y ≡ Zone z → (v : World) → Keeps w.stored w.desk v.stored v.desk → Goes z (Zone y) e w v
    with_subject same v k = record { steady = k.steady; moves = at_move k.moves }
      where
        at_move : (state_of v.stored v.desk ≡ state_of w.stored w.desk) ⊎ (may_move (state_of w.stored w.desk) (state_of v.stored v.desk) ≡ true)
            → (state_of v.stored v.desk ≡ state_of w.stored w.desk) ⊎ (((Zone y ≡ Zone z) × (may_move (state_of w.stored w.desk) (state_of v.stored v.desk) ≡ true))
            ⊎ ((e ≡ Restart) × (ends_with_a_restart (state_of w.stored w.desk) ≡ true) × (state_of v.stored v.desk ≡ Some Installed)))
        at_move (inl stays) = inl stays
        at_move (inr m) = inr (inl (same, m))

    at_test : (b : Bool) → bytes_eq z y ≡ b → Goes z (Zone y) e w (if b then acts_world (session_number e) (act_of (decide (view_of z w) e) g) w else w)
    at_test true t = with_subject (ap Zone (sym (same_true z y t))) _ (keeps-event z w e g h)
    at_test false t = record { steady = h; moves = inl refl }

pub goes-one : (z : Name) (S : State) (e : Event) (g : Grant) → IsSteady S → Goes z (subject S e) e (world z S) (world z (one S e g).state)
goes-one z S e g h = subst (λ v. Goes z (subject S e) e (world z S) v) (sym (world-one z S e g)) (goes_by z (subject S e) (world z S) e g (h z))

-- what some commits leave of a zone is storable, where what each of them stores is
storable-more : (z : Name) (before commits : List Commit) → is_storable (stored z before) ≡ true → are_storable commits ≡ true → is_storable (stored z (before ++ commits)) ≡ true
storable-more z before [] is all = rw (append-nil before) is
storable-more z before (c ∷ commits) is all =
    let parts = and_parts (is_storable c.stored) (are_storable commits) all in
    subst (λ cs. is_storable (stored z cs) ≡ true) (append_assoc before (c ∷ []) commits) (storable-more z (before ++ c ∷ []) commits (rw (stored-append z before c) (at_test (bytes_eq z c.zone) parts.0)) parts.1)
  where
    at_test : (b : Bool) → is_storable c.stored ≡ true → is_storable (if b then c.stored else stored z before) ≡ true
    at_test true h = h
    at_test false h = is

steady-opening : (brands : List Tabled) (commits : List Commit) → are_storable commits ≡ true → IsSteady (opening brands commits)
steady-opening brands commits all z = at_row (stored z commits) (storable-more z [] commits refl all)
  where
    at_row : (row : Option Record) → is_storable row ≡ true → steady row empty_desk ≡ true
    at_row None h = refl
    at_row (Some row) h = and_from _ _ h refl

pub steady-history : (brands : List Tabled) (commits : List Commit) (h : List Entry) → are_storable commits ≡ true → IsSteady (after (opening brands commits) h)
steady-history brands commits h all = kept-after (λ w. steady w.stored w.desk ≡ true) (λ z w e g h. (keeps-event z w e g h).steady) (λ w d h. h) (λ w h. (ends_here w.stored w.desk h).0) (opening brands commits) h (steady-opening brands commits all)

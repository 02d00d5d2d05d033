-- Each turn keeps the agreement of a zone's tables with its daemon.
use Rattle.brand_hooks.specs.Brands.{Tabled, answer_of, tabled_names}
use Rattle.brand_hooks.specs.declared.change.Change.{Change}
use Rattle.brand_hooks.specs.declared.change.ChangeKind.TheVariants as change
use Rattle.brand_hooks.specs.declared.table.HookAnswer.TheVariants.{Proceed, Refuse}
use Rattle.brand_hooks.specs.declared.table.HookAnswer.{HookAnswer}
use Rattle.commit_journal.specs.declared.records.Record.{Record}
use Rattle.config_terms.specs.Edits.{kept_path}
use Rattle.config_terms.specs.declared.fault.ConfigFault.{ConfigFault}
use Rattle.config_verify.specs.Flaws.{first, flaws}
use Rattle.config_verify.specs.declared.flaw.Flaw.{Flaw}
use Rattle.datalink_table.specs.Claims.{claiming, same_claim}
use Rattle.datalink_table.specs.declared.claims.Claim.{Claim}
use Rattle.kernel_objects.specs.Kernel.{cleared, new_id, with_bootargs}
use Rattle.loopback_mounts.proofs.Orders.{bytes_itself}
use Rattle.loopback_mounts.specs.Mounts.{before, is_at, is_held, last_of, mount_answer, mount_at}
use Rattle.loopback_mounts.specs.declared.mount.Mount.{Mount}
use Rattle.loopback_mounts.specs.declared.mount.MountEntry.{MountEntry}
use Rattle.std.proofs.Common.{Result, Ok, Err}
use Rattle.std.proofs.Common.{◌≡◌, ℕ, List, [], ◌∷◌, ◌++◌, filter, not, map, Bool, true, false, Option, Some, None, bytes_eq, if◌then◌else◌, ap, sym, refl, subst, ◌∙◌, true≢false, append-nil, unwrap_or}
use Rattle.std.proofs.Common.{◌≤◌, is_ok, arith, length}
use Rattle.std.specs.List.{list_any}
use Rattle.std.specs.List.{list_any}
use Rattle.zn_base.specs.States.{is_stored}
use Rattle.zn_base.specs.declared.state.ZoneState.TheVariants.{Configured, Incomplete, Installed, Ready as Is_ready, Running as Is_running, ShuttingDown, Down}
use Rattle.zn_base.specs.declared.state.ZoneState.{ZoneState}
use Rattle.zone_config.specs.Sound.{HasSoundResources}
use Rattle.zone_config.specs.declared.terms.Contents.{Contents}
use Rattle.zone_pools.specs.Decisions.{Just}
use Rattle.zone_pools.specs.Owned_lists.{Go, Put, but_last, put}
use Rattle.zone_pools.specs.Pools.{or_else}
use Rattle.zone_pools.specs.declared.grant.Grant.{Grant}
use Rattle.zoneadmd_laws.proofs.Answering.{In, J, Kept, at_job, in_after, is_at_job, on_next, on_undo}
use Rattle.zoneadmd_laws.proofs.Locally.{at_rest, is_plain}
use Rattle.zoneadmd_laws.proofs.Making.{claim_fresh, entry, fit_claimed, fit_devices, fit_end, fit_mounted, fit_root, freed, freed_put, freed_without, fs_dir, fs_free, isn't, kept_resources, last_gone, no_devices, no_mounts, no_way, none_at, one_still, root_free, without, without_put}
use Rattle.zoneadmd_laws.proofs.Moving.{moved_so}
use Rattle.zoneadmd_laws.proofs.Telling.{all_gone, and_left, and_right, last_some}
use Rattle.zoneadmd_laws.proofs.Verified.{claims_differ, dirs_differ, dirs_few}
use Rattle.zoneadmd_laws.specs.Afters.{After, after, done}
use Rattle.zoneadmd_laws.specs.Agreement.{Agrees, Ahead, Cleared, Fit, Has_made, Idless, Is_kept, Killed, Making, Off, Phase, Ready, Released, Rests, Running, Stands, Started, Stopping, Undoes, Unmounted, claims_by, dirs_by, is_installed, is_making, is_state_installed, made_claims, made_mounts, may_rest, settings_by, walks}
use Rattle.zoneadmd_laws.specs.Lists.{all_differ}
use Rattle.zoneadmd_steps.specs.Configs.{claims_of, fs_dirs, fs_mount, limits_by, root_dir, root_mount, with_zonepath}
use Rattle.zoneadmd_steps.specs.Desks.{Fails, Goes, Job, Progress, Stage, state_now}
use Rattle.zoneadmd_steps.specs.Objects.{Of_mounts, all_of}
use Rattle.zoneadmd_steps.specs.Plans.{boot_part, hook_after, is_verified, kept_of, kind_of, may_begin, plan, ready_part, refusal, unverified}
use Rattle.zoneadmd_steps.specs.Turns.{A_step, Seen, advance, bootargs_of, claim_or, failed, hooked, local_turn, mount_or, mounting, new_path, next, next_request, over, record_config, record_moved, record_state, size_in, started, stuck, turn, undone, unmount_last, with_step}
use Rattle.zoneadmd_steps.specs.declared.requests.Outcome.TheVariants.{TooLarge, WrongState}
use Rattle.zoneadmd_steps.specs.declared.requests.Outcome.{Outcome}
use Rattle.zoneadmd_steps.specs.declared.requests.Request.TheVariants as request
use Rattle.zoneadmd_steps.specs.declared.requests.Request.{Request}
use Rattle.zoneadmd_steps.specs.declared.requests.RequestKind.TheVariants as kind
use Rattle.zoneadmd_steps.specs.declared.requests.RequestKind.{RequestKind}
use Rattle.zoneadmd_steps.specs.declared.requests.Step.TheVariants as step
use Rattle.zoneadmd_steps.specs.declared.requests.Step.{Step}

-- a phase in which a request may end
rest_at : (p : Phase) (dn left : List Step) (c : Contents) (w : Seen) → may_rest p ≡ true → Stands p dn left c w → Rests w w.desk.active
rest_at Off dn left c w m s = subst (Rests w) (sym s.1) s.0
rest_at Ready dn left c w m s = subst (Rests w) (sym s.1) (s.0, s.2)
rest_at Running dn left c w m s = subst (Rests w) (sym s.1) s.0
rest_at _ dn left c w m s = no_way m

rest_ahead : (dn left : List Step) (c : Contents) (w : Seen) → Stands Ahead dn left c w → Rests w w.desk.active
rest_ahead dn left c w s = subst (Rests w) (sym s.1) s.0

refit : (left made more : List Step) (c : Contents) (w : Seen) → Has_made made left c w → Fit more made → Has_made made more c w
refit left made more c w h f = record { steps = h.steps; inactive = h.inactive; installed = h.installed; id = h.id; processes = h.processes; mounts = h.mounts; claims = h.claims; declared = h.declared; devices = h.devices; fit = f }

made_undoes : (made left : List Step) (c : Contents) (w : Seen) → Has_made made left c w → Undoes made c w
made_undoes [] left c w h = no_way h.steps
made_undoes (s ∷ made) left c w h = refit left (s ∷ made) [] c w h (fit_end left (s ∷ made) h.fit)

-- where a request begins
dirs_more : (ds : List (List ℕ)) (cs : List Claim) (xs rest : List Step) → dirs_by (xs ++ rest) ≡ [] → dirs_by ((map step.Mounted ds ++ (map step.Claimed cs ++ xs)) ++ rest) ≡ ds
dirs_more [] [] xs rest h = h
dirs_more [] (c ∷ cs) xs rest h = dirs_more [] cs xs rest h
dirs_more (d ∷ ds) cs xs rest h = ap (λ ds. d ∷ ds) (dirs_more ds cs xs rest h)

claims_more : (ds : List (List ℕ)) (cs : List Claim) (xs rest : List Step) → claims_by (xs ++ rest) ≡ [] → claims_by ((map step.Mounted ds ++ (map step.Claimed cs ++ xs)) ++ rest) ≡ cs
claims_more [] [] xs rest h = h
claims_more [] (c ∷ cs) xs rest h = ap (λ cs. c ∷ cs) (claims_more [] cs xs rest h)
claims_more (d ∷ ds) cs xs rest h = claims_more ds cs xs rest h

settings_more : (ds : List (List ℕ)) (cs : List Claim) (xs rest : List Step) → settings_by (xs ++ rest) ≡ 0 → settings_by ((map step.Mounted ds ++ (map step.Claimed cs ++ xs)) ++ rest) ≡ 0
settings_more [] [] xs rest h = h
settings_more [] (c ∷ cs) xs rest h = settings_more [] cs xs rest h
settings_more (d ∷ ds) cs xs rest h = settings_more ds cs xs rest h

abbrev ready_end : List Step
ready_end = step.State Is_ready ∷ hook_after change.Ready ∷ []

ready_fit : (c : Contents) (rest : List Step) → dirs_by rest ≡ [] → claims_by rest ≡ [] → settings_by rest ≡ 0
    → all_differ bytes_eq (root_dir ∷ fs_dirs c) ≡ true → length (fs_dirs c) ≤ 100 → all_differ same_claim (claims_of c) ≡ true → Fit (ready_part c ++ rest) []
ready_fit c rest d k n differ few apart =
    let ds = append-nil (dirs_by (ready_part c ++ rest)) ∙ ap (λ ds. root_dir ∷ ds) (dirs_more (fs_dirs c) (claims_of c) ready_end rest d) in
    let ks = append-nil (claims_by (ready_part c ++ rest)) ∙ claims_more (fs_dirs c) (claims_of c) ready_end rest k in
    let ns = settings_more (fs_dirs c) (claims_of c) ready_end rest n in
    record { dirs = ap (all_differ bytes_eq) ds ∙ differ; few = omega (arith, ap length ds, few); claims = ap (all_differ same_claim) ks ∙ apart; devices = omega (arith, ns) }

walks_more : (ds : List (List ℕ)) (cs : List Claim) (xs rest : List Step) → walks (Some Making) (xs ++ rest) ≡ true → walks (Some Making) ((map step.Mounted ds ++ (map step.Claimed cs ++ xs)) ++ rest) ≡ true
walks_more [] [] xs rest h = h
walks_more [] (c ∷ cs) xs rest h = walks_more [] cs xs rest h
walks_more (d ∷ ds) cs xs rest h = walks_more ds cs xs rest h

walks_ready : (c : Contents) (rest : List Step) → walks (Some Ready) rest ≡ true → walks (Some Ahead) (ready_part c ++ rest) ≡ true
walks_ready c rest h = walks_more (fs_dirs c) (claims_of c) _ rest h

begins : (brands : List Tabled) (k : RequestKind) (s : ZoneState) (c : Contents) → refusal brands k s c ≡ None → may_begin k s ≡ true
begins brands k s c h = go (may_begin k s) _ h
  where
    go : (b : Bool) (o : Option Outcome) → (if b then o else Some (WrongState s)) ≡ None → b ≡ true
    go true o h = refl
    go false o h = cc

unflawed : (brands : List Tabled) (k : RequestKind) (s : ZoneState) (c : Contents) → refusal brands k s c ≡ None → is_verified k s ≡ true → first (flaws (tabled_names brands) c) ≡ Ok tt
unflawed brands k s c h i = go (may_begin k s) (is_verified k s) (first (flaws (tabled_names brands) c)) _ h i
  where
    go : (a b : Bool) (f : Result (Unit {0}) Flaw) (o : Option Outcome) → (if a then or_else (if b then unverified f else None) o else Some (WrongState s)) ≡ None → b ≡ true → f ≡ Ok tt
    go true true (Ok u) o h i = refl
    go true true (Err f) o h i = cc
    go true false f o h i = no_way i
    go false b f o h i = cc

verified_fit : (brands : List Tabled) (k : RequestKind) (s : ZoneState) (c : Contents) (rest : List Step) → refusal brands k s c ≡ None → is_verified k s ≡ true → HasSoundResources c
    → dirs_by rest ≡ [] → claims_by rest ≡ [] → settings_by rest ≡ 0 → Fit (ready_part c ++ rest) []
verified_fit brands k s c rest f i sound d cl n =
    let u = unflawed brands k s c f i in
    ready_fit c rest d cl n (dirs_differ (tabled_names brands) c tt u) (dirs_few c sound) (claims_differ (tabled_names brands) c tt sound u)

-- a zone with another state on its desk
abbrev with_active : Seen → Option ZoneState → Seen
with_active v a = record v { desk = record v.desk { active = a } }

record Starts (r : Request) (s : ZoneState) (c : Contents) (w : Seen) : Type 0 where
  phase : Phase
  goes : walks (Some phase) (plan r s c) ≡ true
  stands : Stands phase [] (plan r s c) c w

starts : (brands : List Tabled) (v : Seen) (c : Contents) (a : Option ZoneState) (s : ZoneState) (r : Request) → Rests (with_active v a) a → HasSoundResources c → is_stored s ≡ true → (s ≡ Installed → is_installed v.stored ≡ true) → refusal brands (kind_of r) (unwrap_or a s) c ≡ None → may_begin (kind_of r) (unwrap_or a s) ≡ true
    → Starts r (unwrap_or a s) c (with_active v a)
starts brands v c None s request.Install rest sound k i f m = record { phase = Off; goes = refl; stands = (rest, refl) }
starts brands v c None Incomplete request.Uninstall rest sound k i f m = record { phase = Off; goes = refl; stands = (rest, refl) }
starts brands v c None s request.Uninstall rest sound k i f m = record { phase = Off; goes = refl; stands = (rest, refl) }
starts brands v c None s (request.Clone z) rest sound k i f m = record { phase = Off; goes = refl; stands = (rest, refl) }
starts brands v c None s request.Attach rest sound k i f m = record { phase = Off; goes = refl; stands = (rest, refl) }
starts brands v c None s request.Detach rest sound k i f m = record { phase = Off; goes = refl; stands = (rest, refl) }
starts brands v c None s request.Mark rest sound k i f m = record { phase = Off; goes = refl; stands = (rest, refl) }
starts brands v c None s (request.Move path) rest sound k i f m = record { phase = Off; goes = refl; stands = (rest, refl) }
starts brands v c None Installed request.Ready rest sound k i f m =
    let e = append-nil (ready_part c) in record {
      phase = Ahead;
      goes = ap (walks (Some Ahead)) (sym e) ∙ walks_ready c [] refl;
      stands = (rest, refl, i refl, subst (λ steps. Fit steps []) e (verified_fit brands kind.Ready Installed c [] f refl sound refl refl refl));
    }
starts brands v c None Installed (request.Boot args) rest sound k i f m = record {
  phase = Ahead;
  goes = walks_ready c boot_part refl;
  stands = (rest, refl, i refl, verified_fit brands kind.Boot Installed c boot_part f refl sound refl refl refl);
}
starts brands v c None Configured request.Ready rest sound k i f m = no_way m
starts brands v c None Incomplete request.Ready rest sound k i f m = no_way m
starts brands v c None Configured (request.Boot args) rest sound k i f m = no_way m
starts brands v c None Incomplete (request.Boot args) rest sound k i f m = no_way m
starts brands v c None Configured request.Halt rest sound k i f m = no_way m
starts brands v c None Incomplete request.Halt rest sound k i f m = no_way m
starts brands v c None Installed request.Halt rest sound k i f m = no_way m
starts brands v c None Configured (request.Reboot args) rest sound k i f m = no_way m
starts brands v c None Incomplete (request.Reboot args) rest sound k i f m = no_way m
starts brands v c None Installed (request.Reboot args) rest sound k i f m = no_way m
starts brands v c None _ _ rest sound k i f m = no_way k
starts brands v c (Some Is_ready) s (request.Boot args) rest sound k i f m = record { phase = Ready; goes = refl; stands = (rest.0, refl, rest.1) }
starts brands v c (Some Is_ready) s request.Halt rest sound k i f m = record { phase = Ready; goes = refl; stands = (rest.0, refl, rest.1) }
starts brands v c (Some Is_ready) s (request.Reboot args) rest sound k i f m = record { phase = Ready; goes = refl; stands = (rest.0, refl, rest.1) }
starts brands v c (Some Is_running) s request.Halt rest sound k i f m = record { phase = Running; goes = refl; stands = (rest, refl) }
starts brands v c (Some Is_running) s (request.Reboot args) rest sound k i f m = record { phase = Running; goes = refl; stands = (rest, refl) }
starts brands v c (Some Is_ready) s _ rest sound k i f m = no_way m
starts brands v c (Some Is_running) s _ rest sound k i f m = no_way m
starts brands v c (Some _) s r rest sound k i f m = absurd rest

-- what stands doesn't depend on the requests
stands_on : (p : Phase) (dn left : List Step) (c : Contents) (v : Seen) (rs : List (ℕ × Request)) (o : Option Job) → Stands p dn left c (with_active v v.desk.active)
    → Stands p dn left c (record v { desk = record v.desk { waiting = rs; job = o } })
stands_on Off dn left c v rs o h = h
stands_on _ dn left c v rs o h = h

-- before a step is done, what stands doesn't depend on the configuration
stands_any : (p : Phase) (left : List Step) (c d : Contents) (v : Seen) → Stands p [] left c v → Stands p [] left d v
stands_any Making left c d v h = absurd (true≢false (sym h.steps))
stands_any Off left c d v h = h
stands_any Ahead left c d v h = h
stands_any _ left c d v h = h

begin_agrees : (v : Seen) (now : Agrees v) (rs : List (ℕ × Request)) (t : ℕ) (r : Request) (row : Record) → v.stored ≡ Some row → Rests v v.desk.active
    → (o : Option Outcome) → refusal v.brands (kind_of r) (state_now row v.desk) row.config ≡ o → In (λ a. Agrees a.seen) v (Just (started v.brands (record v.desk { waiting = rs }) t r (state_now row v.desk) row o))
begin_agrees v now rs t r row e rest (Some o) eo = (rest, now.1)
begin_agrees v now rs t r row e rest None eo =
    let x = starts v.brands v row.config v.desk.active row.state r rest (subst Is_kept e now.1).1 (subst Is_kept e now.1).0 (λ i. ap is_installed e ∙ ap is_state_installed i) eo (begins v.brands (kind_of r) (state_now row v.desk) row.config eo) in
    ((x.phase, x.goes, stands_on x.phase [] _ (kept_of r row.config) v rs _ (stands_any x.phase _ row.config (kept_of r row.config) _ x.stands), λ e. refl), now.1)

module _ (v : Seen) (j : Job) (now : Agrees v) where
  kept : Is_kept v.stored
  kept = now.1

  abbrev Agreed : After → Type 0
  Agreed a = Agrees a.seen

  -- a step failed where nothing is to be undone
  fails_at_rest : (o : Outcome) → j.done.made ≡ [] → Rests v v.desk.active → Agreed (done (failed v.desk j o) v)
  fails_at_rest o e r = (subst (λ us. Undoes us j.config (done (failed v.desk j o) v).seen) (sym e) r, kept)

  fails_late : (p : Phase) (left : List Step) (o : Outcome) → may_rest p ≡ true → j.done.made ≡ [] → Stands p j.done.made left j.config v → Agreed (done (failed v.desk j o) v)
  fails_late p left o m e s = fails_at_rest o e (rest_at p j.done.made left j.config v m s)

  fails_ahead : (left : List Step) (o : Outcome) → j.done.made ≡ [] → Stands Ahead j.done.made left j.config v → Agreed (done (failed v.desk j o) v)
  fails_ahead left o e s = fails_at_rest o e (rest_ahead j.done.made left j.config v s)

  fails_making : (left : List Step) (o : Outcome) → Stands Making j.done.made left j.config v → Agreed (done (failed v.desk j o) v)
  fails_making left o s = (made_undoes j.done.made left j.config (done (failed v.desk j o) v).seen s, kept)

  -- steps of a zone that is off
  state_agrees : (rest : List Step) (s : ZoneState) (row : Option Record) → v.stored ≡ row → is_stored s ≡ true → j.done.made ≡ [] → walks (Some Off) rest ≡ true → Stands Off j.done.made (step.Record s ∷ rest) j.config v
      → In Agreed v (record_state v.desk j rest s row)
  state_agrees rest s None e k n h st = now
  state_agrees rest s (Some row) e k n h st = (λ p. fails_late Off (step.Record s ∷ rest) _ refl n st, λ i. ((Off, h, st, λ e. n), (k, (subst Is_kept e kept).1)))

  moved_agrees : (rest : List Step) (path : List ℕ) (row : Option Record) → v.stored ≡ row → j.done.made ≡ [] → walks (Some Off) rest ≡ true → Stands Off j.done.made (step.Moved ∷ rest) j.config v
      → In Agreed v (record_moved v.desk j rest path row)
  moved_agrees rest path None e n h st = now
  moved_agrees rest path (Some row) e n h st = at_config (with_zonepath path row.config) refl
    where
      at_config : (c : Result Contents ConfigFault) → with_zonepath path row.config ≡ c → In Agreed v (record_config v.desk j rest path row c)
      at_config (Err f) is = fails_late Off (step.Moved ∷ rest) (TooLarge (size_in f)) refl n st
      at_config (Ok config) is =
          let k = subst Is_kept e kept in (
            λ p. fails_late Off (step.Moved ∷ rest) _ refl n st,
            λ i. ((Off, h, st, λ e. n), (k.0, subst HasSoundResources (moved_so path row.config config is) (kept_resources row.config (kept_path path) k.1))),
          )

  hook_agrees : (p : Phase) (rest : List Step) (change : Change) (answer : HookAnswer) → j.done.made ≡ [] → walks (Some p) rest ≡ true
      → ((o : Outcome) → Agreed (done (failed v.desk j o) v))
      → Stands p j.done.made rest j.config (done (advance v.desk j rest [] (step.Hook change)) v).seen
      → In Agreed v (Just (hooked v.desk j rest change answer))
  hook_agrees p rest change Proceed n h f st = ((p, h, st, λ e. n), kept)
  hook_agrees p rest change (Refuse code) n h f st = f _

  mount_comes : (m : Mount) (s : Step) (rest : List Step) → is_ok (mount_answer m.dir v.objects.mounts) ≡ true
      → Agreed (done (advance v.desk j rest (Of_mounts (Put (before m.dir) (entry m)) ∷ []) s) v) → Agreed (done (advance v.desk j rest (mounting m v.objects.mounts) s) v)
  mount_comes m s rest free h = subst (λ b. Agreed (done (advance v.desk j rest (if b then Of_mounts (Put (before m.dir) (entry m)) ∷ [] else []) s) v)) (sym free) h

  step_agrees : (p : Phase) (s : Step) (rest : List Step) → walks (Some p) (s ∷ rest) ≡ true → Stands p j.done.made (s ∷ rest) j.config v → (is_making p ≡ false → j.done.made ≡ []) → is_plain (A_step s rest) ≡ true
      → In Agreed v (on_next v j (A_step s rest))
  step_agrees Off (step.Hook c) rest h st n i = hook_agrees Off rest c (answer_of v.brands j.brand c) (n refl) h (λ o. fails_late Off (step.Hook c ∷ rest) o refl (n refl) st) st
  step_agrees Off (step.Record Configured) rest h st n i = state_agrees rest Configured v.stored refl refl (n refl) h st
  step_agrees Off (step.Record Incomplete) rest h st n i = state_agrees rest Incomplete v.stored refl refl (n refl) h st
  step_agrees Off (step.Record Installed) rest h st n i = state_agrees rest Installed v.stored refl refl (n refl) h st
  step_agrees Off step.Moved rest h st n i = moved_agrees rest (new_path j.request) v.stored refl (n refl) h st
  step_agrees Off (step.Copy k) rest h st n i = ((Off, h, st, n), kept)
  step_agrees Off (step.Erase k) rest h st n i = ((Off, h, st, n), kept)
  step_agrees Off (step.Source z) rest h st n i = (λ p. fails_late Off (step.Source z ∷ rest) _ refl (n refl) st, λ k. ((Off, h, st, n), kept))
  step_agrees Ahead (step.Hook c) rest h st n i = hook_agrees Ahead rest c (answer_of v.brands j.brand c) (n refl) h (λ o. fails_ahead (step.Hook c ∷ rest) o (n refl) st) st
  step_agrees Ahead (step.Zid z) rest h st n i = (
    λ p. fails_ahead (step.Zid z ∷ rest) _ (n refl) st,
    λ k. (
      (
        Making,
        h,
        subst (λ made. Has_made (step.Zid (Some k) ∷ made) rest j.config (record v { desk = record v.desk { job = Some (record j { done = with_step (step.Zid (Some k)) j.done; stage = Goes rest }) }; objects = record v.objects { ids = new_id k ∷ [] } })) (sym (n refl))
            (record {
              steps = refl;
              inactive = st.1;
              installed = st.2;
              id = refl;
              processes = st.0.processes;
              mounts = ap freed st.0.mounts;
              claims = st.0.claims;
              declared = [];
              devices = st.0.devices;
              fit = record { dirs = st.3.dirs; few = st.3.few; claims = st.3.claims; devices = st.3.devices };
            }),
        λ e. absurd (true≢false e),
      ),
      kept,
    ),
  )
  step_agrees Making step.Limits rest h st n i = (
    (
      Making,
      h,
      record {
        steps = st.steps;
        inactive = st.inactive;
        installed = st.installed;
        id = one_still (limits_by j.config) v.objects.ids st.id;
        processes = st.processes;
        mounts = st.mounts;
        claims = st.claims;
        declared = st.declared;
        devices = st.devices;
        fit = record { dirs = st.fit.dirs; few = st.fit.few; claims = st.fit.claims; devices = st.fit.devices };
      },
      λ e. absurd (true≢false e),
    ),
    kept,
  )
  step_agrees Making (step.Devices k) rest h st n i = (
    (
      Making,
      h,
      record {
        steps = st.steps;
        inactive = st.inactive;
        installed = st.installed;
        id = st.id;
        processes = st.processes;
        mounts = st.mounts;
        claims = st.claims;
        declared = v.declared;
        devices = refl;
        fit = fit_devices k None rest j.done.made st.fit;
      },
      λ e. absurd (true≢false e),
    ),
    kept,
  )
  step_agrees Making step.Root rest h st n i =
      mount_comes (root_mount j.config) step.Root rest (root_free j.config rest j.done.made v.objects.mounts st.fit st.mounts) (
        (
          Making,
          h,
          record {
            steps = st.steps;
            inactive = st.inactive;
            installed = st.installed;
            id = st.id;
            processes = st.processes;
            mounts = freed_put (root_mount j.config) v.objects.mounts ∙ ap (put (before (root_mount j.config).dir) (entry (root_mount j.config))) st.mounts;
            claims = st.claims;
            declared = st.declared;
            devices = st.devices;
            fit = fit_root rest j.done.made st.fit;
          },
          λ e. absurd (true≢false e),
        ),
        kept,
      )
  step_agrees Making (step.Mounted d) rest h st n i =
      mount_comes (fs_mount j.config d) (step.Mounted d) rest (ap (λ d. is_ok (mount_answer d v.objects.mounts)) (fs_dir j.config d) ∙ fs_free j.config d rest j.done.made v.objects.mounts st.fit st.mounts) (
        (
          Making,
          h,
          record {
            steps = st.steps;
            inactive = st.inactive;
            installed = st.installed;
            id = st.id;
            processes = st.processes;
            mounts = freed_put (fs_mount j.config d) v.objects.mounts ∙ ap (put (before (fs_mount j.config d).dir) (entry (fs_mount j.config d))) st.mounts;
            claims = st.claims;
            declared = st.declared;
            devices = st.devices;
            fit = fit_mounted d rest j.done.made st.fit;
          },
          λ e. absurd (true≢false e),
        ),
        kept,
      )
  step_agrees Making (step.Claimed c) rest h st n i = (
    λ p. fails_making (step.Claimed c ∷ rest) _ st,
    λ k. (
      (
        Making,
        h,
        record {
          steps = st.steps;
          inactive = st.inactive;
          installed = st.installed;
          id = st.id;
          processes = st.processes;
          mounts = st.mounts;
          claims = ap (λ b. claiming b c v.objects.claims) (claim_fresh c rest j.done.made v.objects.claims st.fit st.claims) ∙ ap (λ cs. cs ++ c ∷ []) st.claims;
          declared = st.declared;
          devices = st.devices;
          fit = fit_claimed c rest j.done.made st.fit;
        },
        λ e. absurd (true≢false e),
      ),
      kept,
    ),
  )
  step_agrees Making (step.State Is_ready) rest h st n i = ((Ready, h, ((st.installed, st.id, refl), refl, st.processes), λ e. refl), kept)
  step_agrees Ready (step.Hook c) rest h st n i = hook_agrees Ready rest c (answer_of v.brands j.brand c) (n refl) h (λ o. fails_late Ready (step.Hook c ∷ rest) o refl (n refl) st) st
  step_agrees Ready (step.Init o) rest h st n i = (
    λ p. fails_late Ready (step.Init o ∷ rest) _ refl (n refl) st,
    λ k. ((Started, h, (st.0.0, one_still (with_bootargs (bootargs_of j.request j.config)) v.objects.ids st.0.1, st.0.2), n), kept),
  )
  step_agrees Ready (step.State ShuttingDown) rest h st n i = ((Stopping, h, (st.0.0, st.0.1, refl), n), kept)
  step_agrees Started (step.State Is_running) rest h st n i = ((Running, h, ((st.0, st.1, refl), refl), n), kept)
  step_agrees Running (step.Hook c) rest h st n i = hook_agrees Running rest c (answer_of v.brands j.brand c) (n refl) h (λ o. fails_late Running (step.Hook c ∷ rest) o refl (n refl) st) st
  step_agrees Running (step.State ShuttingDown) rest h st n i = ((Stopping, h, (st.0.0, st.0.1, refl), n), kept)
  step_agrees Stopping (step.Kill o) rest h st n i = ((Killed, h, (st, all_gone v.objects.processes), n), kept)
  step_agrees Released step.Clear rest h st n i = ((Cleared, h, ((st.0.0, one_still cleared v.objects.ids st.0.1, st.0.2), st.1, st.2, st.3, refl), n), kept)
  step_agrees Cleared (step.State Down) rest h st n i = ((Cleared, h, ((st.0.0, st.0.1, refl), st.1, st.2, st.3, st.4), n), kept)
  step_agrees Cleared (step.ZidBack o) rest h st n i = ((Idless, h, (record { ids = all_gone v.objects.ids; processes = st.1; mounts = st.2; claims = st.3; devices = st.4 }, st.0.2, st.0.0), n), kept)
  step_agrees Idless (step.State Installed) rest h st n i = ((Off, h, (st.0, refl), n), kept)
  step_agrees Killed (step.Unmount d) rest h st n i = no_way i
  step_agrees Unmounted (step.Release c) rest h st n i = no_way i
  step_agrees _ _ rest h st n i = no_way h

  -- a plan goes on, or it is over
  over_agrees : (row : Option Record) (r : Request) → v.stored ≡ row → Rests v v.desk.active → In Agreed v (over v.brands v.desk j row r)
  over_agrees (Some row) (request.Reboot args) e rest = begin_agrees v now v.desk.waiting j.ticket (request.Boot args) row e rest _ refl
  over_agrees None r e rest = (rest, kept)
  over_agrees (Some row) r e rest = (rest, kept)

  unmount_agrees : (d : Option (List ℕ)) (rest : List Step) (l : MountEntry) → walks (Some Killed) (step.Unmount d ∷ rest) ≡ true → Stands Killed j.done.made (step.Unmount d ∷ rest) j.config v → j.done.made ≡ []
      → In Agreed v (Just (unmount_last v.desk j (step.Unmount d ∷ rest) l))
  unmount_agrees d rest l h st n = go l.held
    where
      go : (b : Bool) → In Agreed v (Just (if b then stuck v.desk else advance v.desk j (step.Unmount d ∷ rest) (Of_mounts (Go (is_at l.mount.dir)) ∷ []) (step.Unmount (Some l.mount.dir))))
      go true = now
      go false = ((Killed, h, st, λ e. n), kept)

  left_agrees : (p : Phase) (left : List Step) → walks (Some p) left ≡ true → Stands p j.done.made left j.config v → (is_making p ≡ false → j.done.made ≡ []) → In Agreed v (on_next v j (next v.objects left))
  left_agrees p [] h st n = over_agrees v.stored j.request refl (rest_at p j.done.made [] j.config v h st)
  left_agrees Killed (step.Unmount d ∷ rest) h st n = go v.objects.mounts refl (λ e. left_agrees Unmounted rest h (st.0, st.1, e) n)
    where
      go : (xs : List MountEntry) → v.objects.mounts ≡ xs → (v.objects.mounts ≡ [] → In Agreed v (on_next v j (next v.objects rest))) → In Agreed v (on_next v j (next v.objects (step.Unmount d ∷ rest)))
      go [] e f = subst (λ o. In Agreed v (on_next v j (mount_or (step.Unmount d ∷ rest) (next v.objects rest) o))) (sym (ap last_of e)) (f e)
      go (x ∷ xs) e f = let l = last_some x xs in subst (λ o. In Agreed v (on_next v j (mount_or (step.Unmount d ∷ rest) (next v.objects rest) o))) (sym (ap last_of e ∙ l.1)) (unmount_agrees d rest l.0 h st (n refl))
  left_agrees Unmounted (step.Release c ∷ rest) h st n = go v.objects.claims refl (λ e. left_agrees Released rest h (st.0, st.1, st.2, e) n)
    where
      go : (xs : List Claim) → v.objects.claims ≡ xs → (v.objects.claims ≡ [] → In Agreed v (on_next v j (next v.objects rest))) → In Agreed v (on_next v j (next v.objects (step.Release c ∷ rest)))
      go [] e f = subst (λ o. In Agreed v (on_next v j (claim_or (step.Release c ∷ rest) (next v.objects rest) o))) (sym (ap last_of e)) (f e)
      go (x ∷ xs) e f = let l = last_some x xs in subst (λ o. In Agreed v (on_next v j (claim_or (step.Release c ∷ rest) (next v.objects rest) o))) (sym (ap last_of e ∙ l.1)) ((Unmounted, h, st, n), kept)
  left_agrees _ (step.Unmount d ∷ rest) h st n = no_way h
  left_agrees _ (step.Release c ∷ rest) h st n = no_way h
  left_agrees p (s ∷ rest) h st n = step_agrees p s rest h st n refl

  -- one step back
  mount_undone : (o : Outcome) (s : Step) (rest : List Step) (d : List ℕ) (b : Bool) → Undoes rest j.config (record v { desk = record v.desk { job = Some (record j { stage = Fails o rest }) }; objects = record v.objects { mounts = without d v.objects.mounts } })
      → In Agreed v (Just (if b then stuck v.desk else undone v.desk j o rest (Of_mounts (Go (is_at d)) ∷ []) s))
  mount_undone o s rest d true h = now
  mount_undone o s rest d false h = (h, kept)

  none_after : (d : List ℕ) (rest : List Step) → all_differ bytes_eq (d ∷ dirs_by rest) ≡ true → list_any (bytes_eq d) (dirs_by rest) ≡ false
  none_after d rest h = isn't _ (and_left _ _ h)

  undo_agrees : (o : Outcome) (s : Step) (rest : List Step) → Has_made (s ∷ rest) [] j.config v → In Agreed v (on_undo v j o rest s)
  undo_agrees o (step.Zid n) [] h = (
    subst (Rests (record v { desk = record v.desk { job = Some (record j { stage = Fails o [] }) }; objects = record v.objects { ids = filter (λ i. not (all_of i)) v.objects.ids } })) (sym h.inactive)
        (record { ids = all_gone v.objects.ids; processes = h.processes; mounts = no_mounts v.objects.mounts h.mounts; claims = h.claims; devices = h.devices }),
    kept,
  )
  undo_agrees o step.Limits rest h = (
    made_undoes rest [] j.config _ (record {
      steps = h.steps;
      inactive = h.inactive;
      installed = h.installed;
      id = one_still cleared v.objects.ids h.id;
      processes = h.processes;
      mounts = h.mounts;
      claims = h.claims;
      declared = h.declared;
      devices = h.devices;
      fit = record { dirs = h.fit.dirs; few = h.fit.few; claims = h.fit.claims; devices = h.fit.devices };
    }),
    kept,
  )
  undo_agrees o (step.Devices n) rest h = (
    made_undoes rest [] j.config _ (record {
      steps = h.steps;
      inactive = h.inactive;
      installed = h.installed;
      id = h.id;
      processes = h.processes;
      mounts = h.mounts;
      claims = h.claims;
      declared = [];
      devices = sym (no_devices j.config [] rest (omega (arith, h.fit.devices)));
      fit = record { dirs = h.fit.dirs; few = h.fit.few; claims = h.fit.claims; devices = omega (arith, h.fit.devices) };
    }),
    kept,
  )
  undo_agrees o (step.Claimed c) rest h = (
    made_undoes rest [] j.config _ (record {
      steps = h.steps;
      inactive = h.inactive;
      installed = h.installed;
      id = h.id;
      processes = h.processes;
      mounts = h.mounts;
      claims = ap but_last h.claims ∙ last_gone (made_claims rest) c;
      declared = h.declared;
      devices = h.devices;
      fit = record { dirs = h.fit.dirs; few = h.fit.few; claims = and_right _ _ h.fit.claims; devices = h.fit.devices };
    }),
    kept,
  )
  undo_agrees o step.Root rest h =
      mount_undone o step.Root rest root_dir (is_held (mount_at root_dir v.objects.mounts)) (made_undoes rest [] j.config _ (record {
        steps = h.steps;
        inactive = h.inactive;
        installed = h.installed;
        id = h.id;
        processes = h.processes;
        mounts =
            freed_without root_dir v.objects.mounts
            ∙ (ap (without root_dir) h.mounts ∙ without_put root_dir (before (root_mount j.config).dir) (entry (root_mount j.config)) (made_mounts j.config rest) refl (none_at j.config root_dir rest (none_after root_dir rest h.fit.dirs)));
        claims = h.claims;
        declared = h.declared;
        devices = h.devices;
        fit = record { dirs = and_right _ _ h.fit.dirs; few = omega (arith, h.fit.few); claims = h.fit.claims; devices = h.fit.devices };
      }))
  undo_agrees o (step.Mounted d) rest h =
      mount_undone o (step.Mounted d) rest d (is_held (mount_at d v.objects.mounts)) (made_undoes rest [] j.config _ (record {
        steps = h.steps;
        inactive = h.inactive;
        installed = h.installed;
        id = h.id;
        processes = h.processes;
        mounts =
            freed_without d v.objects.mounts
            ∙ (ap (without d) h.mounts
            ∙ without_put d (before (fs_mount j.config d).dir) (entry (fs_mount j.config d)) (made_mounts j.config rest) (ap (λ k. bytes_eq k d) (fs_dir j.config d) ∙ bytes_itself d) (none_at j.config d rest (none_after d rest h.fit.dirs)));
        claims = h.claims;
        declared = h.declared;
        devices = h.devices;
        fit = record { dirs = and_right _ _ h.fit.dirs; few = omega (arith, h.fit.few); claims = h.fit.claims; devices = h.fit.devices };
      }))
  undo_agrees o _ rest h = no_way h.steps

stage_agrees : (w : Seen) (t : ℕ) (r : Request) (c : Kept) (dn : Progress) (stage : Stage)
    → let v = at_job w (J t r c dn stage) in Agrees v → In (λ a. Agrees a.seen) v (turn v)
unfolding turn local_turn
stage_agrees w t r c dn (Goes left) h = let j = J t r c dn (Goes left) in left_agrees (at_job w j) j h h.0.0 left h.0.1 h.0.2 h.0.3
stage_agrees w t r c dn (Fails o []) h = h
stage_agrees w t r c dn (Fails o (s ∷ rest)) h = let j = J t r c dn (Fails o (s ∷ rest)) in undo_agrees (at_job w j) j h o s rest h.0

next_agrees : (w : Seen) (rs : List (ℕ × Request)) (row : Option Record) → w.stored ≡ row → Agrees w → Rests w w.desk.active → In (λ a. Agrees a.seen) w (next_request w.brands w.desk rs row)
next_agrees w [] row e h rest = h
next_agrees w (r ∷ rs) None e h rest = h
next_agrees w (r ∷ rs) (Some row) e h rest = begin_agrees w h rs r.0 r.1 row e rest _ refl

rest_agrees : (w : Seen) → let v = at_rest w in Agrees v → In (λ a. Agrees a.seen) v (turn v)
unfolding turn local_turn
rest_agrees w h = next_agrees (at_rest w) w.desk.waiting w.stored refl h h.0

-- each turn keeps the agreement
pub turn_agrees : (w : Seen) (g : Grant) → Agrees w → Agrees (after (turn w) g w).seen
turn_agrees w g h = go w.desk.job refl
  where
    go : (o : Option Job) → w.desk.job ≡ o → Agrees (after (turn w) g w).seen
    go None e =
        let same : w ≡ at_rest w = λ i. record w { desk = record w.desk { job = e i } } in
        subst (λ v. Agrees (after (turn v) g v).seen) (sym same) (in_after (λ a. Agrees a.seen) (at_rest w) (turn (at_rest w)) g (rest_agrees w (subst Agrees same h)))
    go (Some j) e =
        let same = is_at_job w j e in
        subst (λ v. Agrees (after (turn v) g v).seen) (sym same)
        (in_after (λ a. Agrees a.seen) (at_job w j) (turn (at_job w j)) g (stage_agrees w j.ticket j.request (j.brand, j.config) j.done j.stage (subst Agrees same h)))

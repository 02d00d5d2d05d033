-- What a turn of a zone's daemon names is in the zone's tables before or after it, where these agree with the daemon. And it keeps
-- what is told of ids and of parents, and that what is stored is right.
use Rattle.std.proofs.Common.{◌≡◌, ◌⊎◌, ◌∷◌, [], ◌∙◌, ℕ, List, Bool, Option, Some, None, Result, Ok, Err, true, false, inl, inr, ap, filter, not, refl, subst, sym}
use Rattle.std.specs.Prelude.{IfSome, codes, is_ok, is_some, if◌then◌else◌}
use Rattle.std.specs.List.{AllByRecursion}
use Rattle.brand_hooks.specs.Brands.{answer_of}
use Rattle.brand_hooks.specs.declared.change.Change.{Change}
use Rattle.brand_hooks.specs.declared.table.HookAnswer.{HookAnswer}
use Rattle.brand_hooks.specs.declared.table.HookAnswer.TheVariants.{Proceed, Refuse}
use Rattle.commit_journal.specs.declared.records.Record.{Record}
use Rattle.config_terms.specs.declared.fault.ConfigFault.{ConfigFault}
use Rattle.datalink_table.specs.Claims.{claiming, holds}
use Rattle.datalink_table.specs.declared.claims.Claim.{Claim}
use Rattle.kernel_objects.specs.Kernel.{cleared, new_id, with_bootargs}
use Rattle.kernel_objects.specs.Processes.{Process, below}
use Rattle.kernel_objects.specs.declared.objects.Id.{Id}
use Rattle.loopback_mounts.specs.Mounts.{before, is_at, is_held, last_of, mount_answer, mount_at}
use Rattle.loopback_mounts.specs.declared.mount.Mount.{Mount}
use Rattle.loopback_mounts.specs.declared.mount.MountEntry.{MountEntry}
use Rattle.zn_base.specs.Names.{Name}
use Rattle.zn_base.specs.States.{is_stored}
use Rattle.zn_base.specs.declared.state.ZoneState.{ZoneState}
use Rattle.zn_base.specs.declared.state.ZoneState.TheVariants.{Configured, Down, Incomplete, Installed, Ready as Is_ready, Running as Is_running, ShuttingDown}
use Rattle.zn_base.specs.declared.values.Value.TheVariants.{Simple}
use Rattle.zone_config.specs.declared.terms.Contents.{Contents}
use Rattle.zone_pools.specs.Decisions.{Just}
use Rattle.zone_pools.specs.Owned_lists.{Change as Change_all, Go, Put, edited, put}
use Rattle.zone_pools.specs.declared.grant.Grant.{Grant}
use Rattle.zoneadmd_laws.proofs.Answering.{In, J, Kept, at_job, in_after, is_at_job, on_next, on_undo}
use Rattle.zoneadmd_laws.proofs.Locally.{at_rest, is_plain}
use Rattle.zoneadmd_laws.proofs.Making.{claim_fresh, entry, freed, fs_dir, fs_free, no_way, root_free}
use Rattle.zoneadmd_laws.proofs.Telling.{all_gone, last_some}
use Rattle.zoneadmd_laws.specs.Afters.{After, after, done}
use Rattle.zoneadmd_laws.specs.Agreement.{Agrees, Ahead, Cleared, Has_made, Idless, Killed, Making, Off, Phase, Ready, Released, Running, Stands, Started, Stopping, Unmounted, is_making, made_claims, made_mounts, walks}
use Rattle.zoneadmd_steps.specs.Configs.{fs_mount, limits_by, root_dir, root_mount, with_zonepath}
use Rattle.zoneadmd_steps.specs.Desks.{Desk, Fails, Goes, Job, Progress, Stage, state_now}
use Rattle.zoneadmd_steps.specs.Objects.{Ids_go, Of_mounts, all_of, keeping_zid, zid_of}
use Rattle.zoneadmd_steps.specs.Plans.{kind_of, refusal}
use Rattle.zoneadmd_steps.specs.Turns.{A_step, Seen, advance, bootargs_of, claim_or, failed, hooked, init_process, local_turn, mount_or, mounting, new_path, next, next_request, over, record_config, record_moved, record_state, started, stuck, turn, undone, unmount_last}
use Rattle.zoneadmd_steps.specs.declared.requests.Outcome.{Outcome}
use Rattle.zoneadmd_steps.specs.declared.requests.Request.{Request}
use Rattle.zoneadmd_steps.specs.declared.requests.Request.TheVariants as request
use Rattle.zoneadmd_steps.specs.declared.requests.Step.{Step}
use Rattle.zoneadmd_steps.specs.declared.requests.TurnReply.TheVariants.{Idle}
use Rattle.zoneadmd_steps.specs.declared.requests.Step.TheVariants as step
use Rattle.zone_views.proofs.Belonging.{IsIn, has-claim, has-id, has-mount, has-process, in-put, in-put-other, in-right, of-map, of-put}
use Rattle.zone_views.proofs.Sound_configs.{with-property-sound}
use Rattle.zone_views.specs.Naming.{Object, mount, named_by_step, named_by_turn, tables}
use Rattle.zone_views.specs.Storable.{IsRight}

-- each parent is none, or a process of the zone
pub record HasPid (n : ℕ) (ps : List Process) : Type 0 where
  pub it : Process
  pub there : IsIn it ps
  pub same : it.pid ≡ n

abbrev pub Parents : List Process → Type 0
Parents ps = (p : Process) → IsIn p ps → (p.parent ≡ 0) ⊎ HasPid p.parent ps

pub parents-put : (p : Process) (ps : List Process) → (p.parent ≡ 0) ⊎ HasPid p.parent ps → Parents ps → Parents (put (below p.pid) p ps)
parents-put p ps new are q h = elim (of-put (below p.pid) p q ps h) [
  | inl same ↦ subst (λ (q : Process). (q.parent ≡ 0) ⊎ HasPid q.parent (put (below p.pid) p ps)) same (more p.parent new)
  | inr old ↦ more q.parent (are q old)
]
  where
    more : (n : ℕ) → (n ≡ 0) ⊎ HasPid n ps → (n ≡ 0) ⊎ HasPid n (put (below p.pid) p ps)
    more n (inl none) = inl none
    more n (inr h) = inr (record { it = h.it; there = in-put-other (below p.pid) p h.it ps h.there; same = h.same })

no-parents : Parents []
no-parents p h = absurd h

-- a zone number that a step tells is the zone's
abbrev pub Tells_zid : Option ℕ → List Step → Type 0
Tells_zid o [] = Unit {0}
Tells_zid o (step.Zid n ∷ made) = (n ≡ o) × Tells_zid o made
Tells_zid o (s ∷ made) = Tells_zid o made

abbrev pub Stage_zid : Option ℕ → List Step → Stage → Type 0
Stage_zid o made (Goes left) = Tells_zid o made
Stage_zid o made (Fails outcome undo) = Tells_zid o undo

abbrev pub Job_zid : Option ℕ → Option Job → Type 0
Job_zid o None = Unit {0}
Job_zid o (Some j) = Stage_zid o j.done.made j.stage

zid-kept : (f : Id → Id) (is : List Id) → zid_of is ≡ zid_of (edited (Change_all (keeping_zid f)) is)
zid-kept f [] = refl
zid-kept f (i ∷ is) = refl

-- where something of z is: in its tables before or after
abbrev pub IsThere : Name → (w v : Seen) → Object → Type 0
IsThere z w v o = IsIn o (tables z w.objects) ⊎ IsIn o (tables z v.objects)

pub record Good (z : Name) (w : Seen) (a : After) : Type 0 where
  pub named : AllByRecursion (IsThere z w a.seen) (named_by_turn z a.reply)
  pub parents : Parents w.objects.processes → Parents a.seen.objects.processes
  pub zid : Job_zid (zid_of a.seen.objects.ids) a.seen.desk.job
  pub stored : IfSome a.seen.stored IsRight

-- the last of a list is in it
last-there : {A : Type 0} (xs : List A) (x : A) → last_of xs ≡ Some x → IsIn x xs
last-there [] x h = absurd (cc)
last-there {A = A} (y ∷ ys) x h = at_last (last-there ys) (last_of ys) refl h
  where
    at_last : ((x : A) → last_of ys ≡ Some x → IsIn x ys) → (o : Option A) → last_of ys ≡ o → (if is_some o then o else Some y) ≡ Some x → IsIn x (y ∷ ys)
    at_last ih (Some l) e h = inr (ih x (e ∙ h))
    at_last ih None e h = inl cc

module _ (z : Name) (v : Seen) (right : IfSome v.stored IsRight) where
  -- a zone number that is told of a zone is its id
  zid-there : (a : Seen) (is : List Id) → v.objects.ids ≡ is → AllByRecursion (IsThere z v a) (named_by_step z (step.Zid (zid_of is)))
  zid-there a [] e = tt
  zid-there a (i ∷ is) e = (inl (has-id z v.objects i (subst (IsIn i) (sym e) (inl refl))), tt)

  -- a request begins
  begin-good : (d : Desk) (t : ℕ) (r : Request) (row : Record) (o : Option Outcome) → In (Good z v) v (Just (started v.brands d t r (state_now row d) row o))
  begin-good d t r row (Some o) = record { named = tt; parents = λ h. h; zid = tt; stored = right }
  begin-good d t r row None = record { named = tt; parents = λ h. h; zid = tt; stored = right }

  request-good : (rs : List (ℕ × Request)) (row : Option Record) → Job_zid (zid_of v.objects.ids) v.desk.job → In (Good z v) v (next_request v.brands v.desk rs row)
  request-good [] row same = record { named = tt; parents = λ h. h; zid = same; stored = right }
  request-good (r ∷ rs) None same = record { named = tt; parents = λ h. h; zid = same; stored = right }
  request-good (r ∷ rs) (Some row) same = begin-good (record v.desk { waiting = rs }) r.0 r.1 row (refusal v.brands (kind_of r.1) (state_now row (record v.desk { waiting = rs })) row.config)

  module _ (j : Job) (same : Job_zid (zid_of v.objects.ids) v.desk.job) where
    rests-good : Good z v (done (record { objects = []; desk = v.desk; ended = None; reply = Idle }) v)
    rests-good = record { named = tt; parents = λ h. h; zid = same; stored = right }

    stuck-good : Good z v (done (stuck v.desk) v)
    stuck-good = record { named = tt; parents = λ h. h; zid = same; stored = right }

    module _ (told : Tells_zid (zid_of v.objects.ids) j.done.made) where
      fails-good : (o : Outcome) → Good z v (done (failed v.desk j o) v)
      fails-good o = record { named = tt; parents = λ h. h; zid = told; stored = right }

      state-good : (rest : List Step) (s : ZoneState) (row : Option Record) → v.stored ≡ row → is_stored s ≡ true → In (Good z v) v (record_state v.desk j rest s row)
      state-good rest s None e k = rests-good
      state-good rest s (Some row) e k =
          (λ p. fails-good _, λ n. record { named = tt; parents = λ h. h; zid = told; stored = record { state = k; config = (subst (λ o. IfSome o IsRight) e right).config } })

      moved-good : (rest : List Step) (path : List ℕ) (row : Option Record) → v.stored ≡ row → In (Good z v) v (record_moved v.desk j rest path row)
      moved-good rest path None e = rests-good
      moved-good rest path (Some row) e = at_config (with_zonepath path row.config) refl
        where
          at_config : (c : Result Contents ConfigFault) → with_zonepath path row.config ≡ c → In (Good z v) v (record_config v.desk j rest path row c)
          at_config (Err f) is = fails-good _
          at_config (Ok config) is =
              let k = subst (λ o. IfSome o IsRight) e right in (
                λ p. fails-good _,
                λ n. record { named = tt; parents = λ h. h; zid = told; stored = record { state = k.state; config = with-property-sound (codes "zonepath") (Simple path) row.config config k.config is } },
              )

      hook-good : (rest : List Step) (change : Change) (answer : HookAnswer) → In (Good z v) v (Just (hooked v.desk j rest change answer))
      hook-good rest change Proceed = record { named = tt; parents = λ h. h; zid = told; stored = right }
      hook-good rest change (Refuse code) = fails-good _

      mount-good : (m : Mount) (s : Step) (rest : List Step) → is_ok (mount_answer m.dir v.objects.mounts) ≡ true
          → Good z v (done (advance v.desk j rest (Of_mounts (Put (before m.dir) (entry m)) ∷ []) s) v) → Good z v (done (advance v.desk j rest (mounting m v.objects.mounts) s) v)
      mount-good m s rest free h = subst (λ b. Good z v (done (advance v.desk j rest (if b then Of_mounts (Put (before m.dir) (entry m)) ∷ [] else []) s) v)) (sym free) h

      none-made : (o : Option ℕ) → j.done.made ≡ [] → Tells_zid o j.done.made
      none-made o e = subst (Tells_zid o) (sym e) tt

      step-good : (p : Phase) (s : Step) (rest : List Step) → walks (Some p) (s ∷ rest) ≡ true → Stands p j.done.made (s ∷ rest) j.config v → (is_making p ≡ false → j.done.made ≡ []) → is_plain (A_step s rest) ≡ true
          → In (Good z v) v (on_next v j (A_step s rest))
      step-good Off (step.Hook c) rest h st n i = hook-good rest c (answer_of v.brands j.brand c)
      step-good Off (step.Record Configured) rest h st n i = state-good rest Configured v.stored refl refl
      step-good Off (step.Record Incomplete) rest h st n i = state-good rest Incomplete v.stored refl refl
      step-good Off (step.Record Installed) rest h st n i = state-good rest Installed v.stored refl refl
      step-good Off step.Moved rest h st n i = moved-good rest (new_path j.request) v.stored refl
      step-good Off (step.Copy k) rest h st n i = record { named = tt; parents = λ h. h; zid = told; stored = right }
      step-good Off (step.Erase k) rest h st n i = record { named = tt; parents = λ h. h; zid = told; stored = right }
      step-good Off (step.Source y) rest h st n i = (λ p. fails-good _, λ k. record { named = tt; parents = λ h. h; zid = told; stored = right })
      step-good Ahead (step.Hook c) rest h st n i = hook-good rest c (answer_of v.brands j.brand c)
      step-good Ahead (step.Zid o) rest h st n i = (
        λ p. fails-good _,
        λ k. record {
          named = (inr (has-id z (record v.objects { ids = new_id k ∷ [] }) (new_id k) (inl refl)), tt);
          parents = λ h. h;
          zid = (refl, none-made _ (n refl));
          stored = right;
        },
      )
      step-good Making step.Limits rest h st n i =
          record { named = tt; parents = λ h. h; zid = subst (λ o. Tells_zid o j.done.made) (zid-kept (limits_by j.config) v.objects.ids) told; stored = right }
      step-good Making (step.Devices k) rest h st n i = record { named = tt; parents = λ h. h; zid = told; stored = right }
      step-good Making step.Root rest h st n i =
          let m = root_mount j.config in
          mount-good m step.Root rest (root_free j.config rest j.done.made v.objects.mounts st.fit st.mounts)
          (record {
            named = (inr (has-mount z (record v.objects { mounts = put (before m.dir) (entry m) v.objects.mounts }) (entry m) (in-put (before m.dir) (entry m) v.objects.mounts)), tt);
            parents = λ h. h;
            zid = told;
            stored = right;
          })
      step-good Making (step.Mounted d) rest h st n i =
          let m = fs_mount j.config d in
          let o = record v.objects { mounts = put (before m.dir) (entry m) v.objects.mounts } in
          mount-good m (step.Mounted d) rest (ap (λ d. is_ok (mount_answer d v.objects.mounts)) (fs_dir j.config d) ∙ fs_free j.config d rest j.done.made v.objects.mounts st.fit st.mounts)
          (record {
            named = (inr (subst (λ d. IsIn (mount z d) (tables z o)) (fs_dir j.config d) (has-mount z o (entry m) (in-put (before m.dir) (entry m) v.objects.mounts))), tt);
            parents = λ h. h;
            zid = told;
            stored = right;
          })
      step-good Making (step.Claimed c) rest h st n i = (
        λ p. fails-good _,
        λ k.
            let cs = v.objects.claims in
            let fresh = claim_fresh c rest j.done.made cs st.fit st.claims in
            record {
              named = (inr (has-claim z (record v.objects { claims = claiming (holds c cs) c cs }) c (subst (λ b. IsIn c (claiming b c cs)) (sym fresh) (in-right c cs (c ∷ []) (inl refl)))), tt);
              parents = λ h. h;
              zid = told;
              stored = right;
            },
      )
      step-good Making (step.State Is_ready) rest h st n i = record { named = tt; parents = λ h. h; zid = tt; stored = right }
      step-good Ready (step.Hook c) rest h st n i = hook-good rest c (answer_of v.brands j.brand c)
      step-good Ready (step.Init o) rest h st n i = (
        λ p. fails-good _,
        λ k.
            let init = record (init_process v.objects) { pid = k } in
            let f = with_bootargs (bootargs_of j.request j.config) in
            let ps = put (below k) init v.objects.processes in
            record {
              named = (inr (has-process z (record v.objects { processes = ps; ids = edited (Change_all (keeping_zid f)) v.objects.ids }) init (in-put (below k) init v.objects.processes)), tt);
              parents = parents-put init v.objects.processes (inl refl);
              zid = subst (λ o. Tells_zid o j.done.made) (zid-kept f v.objects.ids) told;
              stored = right;
            },
      )
      step-good Ready (step.State ShuttingDown) rest h st n i = record { named = tt; parents = λ h. h; zid = told; stored = right }
      step-good Started (step.State Is_running) rest h st n i = record { named = tt; parents = λ h. h; zid = told; stored = right }
      step-good Running (step.Hook c) rest h st n i = hook-good rest c (answer_of v.brands j.brand c)
      step-good Running (step.State ShuttingDown) rest h st n i = record { named = tt; parents = λ h. h; zid = told; stored = right }
      step-good Stopping (step.Kill o) rest h st n i = record { named = tt; parents = λ h. subst Parents (sym (all_gone v.objects.processes)) no-parents; zid = told; stored = right }
      step-good Released step.Clear rest h st n i =
          record { named = tt; parents = λ h. h; zid = subst (λ o. Tells_zid o j.done.made) (zid-kept cleared v.objects.ids) told; stored = right }
      step-good Cleared (step.State Down) rest h st n i = record { named = tt; parents = λ h. h; zid = told; stored = right }
      step-good Cleared (step.ZidBack o) rest h st n i = record { named = back v.objects.ids refl; parents = λ h. h; zid = none-made _ (n refl); stored = right }
        where
          back : (is : List Id) → v.objects.ids ≡ is → AllByRecursion (IsThere z v (record v { objects = record v.objects { ids = filter (λ i. not (all_of i)) v.objects.ids } })) (named_by_step z (step.ZidBack (zid_of is)))
          back [] e = tt
          back (i ∷ is) e = (inl (has-id z v.objects i (subst (IsIn i) (sym e) (inl refl))), tt)
      step-good Idless (step.State Installed) rest h st n i = record { named = tt; parents = λ h. h; zid = told; stored = right }
      step-good Killed (step.Unmount d) rest h st n i = no_way i
      step-good Unmounted (step.Release c) rest h st n i = no_way i
      step-good _ _ rest h st n i = no_way h

      over-good : (row : Option Record) (r : Request) → In (Good z v) v (over v.brands v.desk j row r)
      over-good (Some row) (request.Reboot args) = begin-good v.desk j.ticket (request.Boot args) row (refusal v.brands (kind_of (request.Boot args)) (state_now row v.desk) row.config)
      over-good None r = record { named = tt; parents = λ h. h; zid = tt; stored = right }
      over-good (Some row) r = record { named = tt; parents = λ h. h; zid = tt; stored = right }

      unmount-good : (left : List Step) (l : MountEntry) → IsIn l v.objects.mounts → In (Good z v) v (Just (unmount_last v.desk j left l))
      unmount-good left l there = go l.held
        where
          go : (b : Bool) → Good z v (done (if b then stuck v.desk else advance v.desk j left (Of_mounts (Go (is_at l.mount.dir)) ∷ []) (step.Unmount (Some l.mount.dir))) v)
          go true = stuck-good
          go false = record { named = (inl (has-mount z v.objects l there), tt); parents = λ h. h; zid = told; stored = right }

      left-good : (p : Phase) (left : List Step) → walks (Some p) left ≡ true → Stands p j.done.made left j.config v → (is_making p ≡ false → j.done.made ≡ []) → In (Good z v) v (on_next v j (next v.objects left))
      left-good p [] h st n = over-good v.stored j.request
      left-good Killed (step.Unmount d ∷ rest) h st n = go v.objects.mounts refl (λ e. left-good Unmounted rest h (st.0, st.1, e) n)
        where
          go : (xs : List MountEntry) → v.objects.mounts ≡ xs → (v.objects.mounts ≡ [] → In (Good z v) v (on_next v j (next v.objects rest))) → In (Good z v) v (on_next v j (next v.objects (step.Unmount d ∷ rest)))
          go [] e f = subst (λ o. In (Good z v) v (on_next v j (mount_or (step.Unmount d ∷ rest) (next v.objects rest) o))) (sym (ap last_of e)) (f e)
          go (x ∷ xs) e f =
              let l = last_some x xs in
              subst (λ o. In (Good z v) v (on_next v j (mount_or (step.Unmount d ∷ rest) (next v.objects rest) o))) (sym (ap last_of e ∙ l.1))
              (unmount-good (step.Unmount d ∷ rest) l.0 (subst (IsIn l.0) (sym e) (last-there (x ∷ xs) l.0 l.1)))
      left-good Unmounted (step.Release c ∷ rest) h st n = go v.objects.claims refl (λ e. left-good Released rest h (st.0, st.1, st.2, e) n)
        where
          go : (xs : List Claim) → v.objects.claims ≡ xs → (v.objects.claims ≡ [] → In (Good z v) v (on_next v j (next v.objects rest))) → In (Good z v) v (on_next v j (next v.objects (step.Release c ∷ rest)))
          go [] e f = subst (λ o. In (Good z v) v (on_next v j (claim_or (step.Release c ∷ rest) (next v.objects rest) o))) (sym (ap last_of e)) (f e)
          go (x ∷ xs) e f =
              let l = last_some x xs in
              subst (λ o. In (Good z v) v (on_next v j (claim_or (step.Release c ∷ rest) (next v.objects rest) o))) (sym (ap last_of e ∙ l.1))
              (record { named = (inl (has-claim z v.objects l.0 (subst (IsIn l.0) (sym e) (last-there (x ∷ xs) l.0 l.1))), tt); parents = λ h. h; zid = told; stored = right })
      left-good _ (step.Unmount d ∷ rest) h st n = no_way h
      left-good _ (step.Release c ∷ rest) h st n = no_way h
      left-good p (s ∷ rest) h st n = step-good p s rest h st n refl

    -- one step back
    made-there : (d : List ℕ) (m : Mount) (rest : List Step) → m.dir ≡ d → freed v.objects.mounts ≡ put (before m.dir) (entry m) (made_mounts j.config rest) → IsIn (mount z d) (tables z v.objects)
    made-there d m rest e made =
        let back = of-map (λ (x : MountEntry). record x { held = false }) (entry m) v.objects.mounts (subst (IsIn (entry m)) (sym made) (in-put (before m.dir) (entry m) (made_mounts j.config rest))) in
        subst (λ d. IsIn (mount z d) (tables z v.objects)) (ap (λ (x : MountEntry). x.mount.dir) back.2 ∙ e) (has-mount z v.objects back.0 back.1)

    back-good : (o : Outcome) (s : Step) (rest : List Step) (d : List ℕ) (b : Bool) → Tells_zid (zid_of v.objects.ids) rest
        → ((a : Seen) → AllByRecursion (IsThere z v a) (named_by_step z s)) → In (Good z v) v (Just (if b then stuck v.desk else undone v.desk j o rest (Of_mounts (Go (is_at d)) ∷ []) s))
    back-good o s rest d true told named = stuck-good
    back-good o s rest d false told named = record { named = named ((done (undone v.desk j o rest (Of_mounts (Go (is_at d)) ∷ []) s) v).seen); parents = λ h. h; zid = told; stored = right }

    undo-good : (o : Outcome) (s : Step) (rest : List Step) → Has_made (s ∷ rest) [] j.config v → Tells_zid (zid_of v.objects.ids) (s ∷ rest) → In (Good z v) v (on_undo v j o rest s)
    undo-good o (step.Zid n) [] h told =
        let a = (done (undone v.desk j o [] (Ids_go all_of ∷ []) (step.Zid n)) v).seen in
        record { named = subst (λ n. AllByRecursion (IsThere z v a) (named_by_step z (step.Zid n))) (sym told.0) (zid-there a v.objects.ids refl); parents = λ h. h; zid = tt; stored = right }
    undo-good o step.Limits rest h told = record { named = tt; parents = λ h. h; zid = subst (λ o. Tells_zid o rest) (zid-kept cleared v.objects.ids) told; stored = right }
    undo-good o (step.Devices n) rest h told = record { named = tt; parents = λ h. h; zid = told; stored = right }
    undo-good o (step.Claimed c) rest h told =
        record { named = (inl (has-claim z v.objects c (subst (IsIn c) (sym h.claims) (in-right c (made_claims rest) (c ∷ []) (inl refl)))), tt); parents = λ h. h; zid = told; stored = right }
    undo-good o step.Root rest h told =
        back-good o step.Root rest root_dir (is_held (mount_at root_dir v.objects.mounts)) told (λ a. (inl (made-there root_dir (root_mount j.config) rest refl h.mounts), tt))
    undo-good o (step.Mounted d) rest h told =
        back-good o (step.Mounted d) rest d (is_held (mount_at d v.objects.mounts)) told (λ a. (inl (made-there d (fs_mount j.config d) rest (fs_dir j.config d) h.mounts), tt))
    undo-good o _ rest h told = no_way h.steps

abbrev Fit_for : Name → Seen → Type 0
Fit_for z w = Agrees w × IfSome w.stored IsRight × Job_zid (zid_of w.objects.ids) w.desk.job

stage-good : (z : Name) (w : Seen) (t : ℕ) (r : Request) (c : Kept) (dn : Progress) (stage : Stage) → let v = at_job w (J t r c dn stage) in Fit_for z v → In (Good z v) v (turn v)
unfolding turn local_turn
stage-good z w t r c dn (Goes left) h = let j = J t r c dn (Goes left) in left-good z (at_job w j) h.1 j h.2 h.2 h.0.0.0 left h.0.0.1 h.0.0.2 h.0.0.3
stage-good z w t r c dn (Fails o []) h = record { named = tt; parents = λ h. h; zid = tt; stored = h.1 }
stage-good z w t r c dn (Fails o (s ∷ rest)) h = let j = J t r c dn (Fails o (s ∷ rest)) in undo-good z (at_job w j) h.1 j h.2 o s rest h.0.0 h.2

rest-good : (z : Name) (w : Seen) → let v = at_rest w in Fit_for z v → In (Good z v) v (turn v)
unfolding turn local_turn
rest-good z w h = request-good z (at_rest w) h.1 w.desk.waiting w.stored tt

-- a turn
pub turn-good : (z : Name) (w : Seen) (g : Grant) → Agrees w → IfSome w.stored IsRight → Job_zid (zid_of w.objects.ids) w.desk.job → Good z w (after (turn w) g w)
turn-good z w g agrees right zid = go w.desk.job refl
  where
    go : (o : Option Job) → w.desk.job ≡ o → Good z w (after (turn w) g w)
    go None e =
        let same : w ≡ at_rest w = λ i. record w { desk = record w.desk { job = e i } } in
        subst (λ v. Good z v (after (turn v) g v)) (sym same) (in_after (Good z (at_rest w)) (at_rest w) (turn (at_rest w)) g (rest-good z w (subst (Fit_for z) same (agrees, right, zid))))
    go (Some j) e =
        let same = is_at_job w j e in
        subst (λ v. Good z v (after (turn v) g v)) (sym same)
        (in_after (Good z (at_job w j)) (at_job w j) (turn (at_job w j)) g (stage-good z w j.ticket j.request (j.brand, j.config) j.done j.stage (subst (Fit_for z) same (agrees, right, zid))))

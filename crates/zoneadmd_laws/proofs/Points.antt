-- What the agreement says of a zone.
use Rattle.datalink_table.specs.Claims.{holds}
use Rattle.datalink_table.specs.declared.claims.Claim.{Claim}
use Rattle.loopback_mounts.specs.Mounts.{mount_answer}
use Rattle.std.proofs.Common.{◌≡◌, ◌⊎◌, ℕ, List, [], ◌∷◌, Bool, true, false, not, ◌||◌, ◌&&◌, is_some, is_ok, Option, Some, None, ap, sym, refl, subst, ◌∙◌, inl, inr, true≢false}
use Rattle.zn_base.specs.declared.state.ZoneState.TheVariants.{Installed, Ready as Is_ready, Running as Is_running, Down}
use Rattle.zn_base.specs.declared.state.ZoneState.{ZoneState}
use Rattle.zone_config.specs.declared.terms.Contents.{Contents}
use Rattle.zone_pools.specs.Firsts.{is_nil}
use Rattle.zoneadmd_laws.proofs.Making.{claim_fresh, fs_free, no_way, root_free}
use Rattle.zoneadmd_laws.specs.Agreement.{Agrees, Ahead, At_job, At_stage, Cleared, Has_made, Has_nothing, Idless, Killed, Making, Off, Phase, Ready, Released, Rests, Running, Stands, Started, Stopping, Undoes, Unmounted, is_installed, is_made, is_making, is_one, walks}
use Rattle.zoneadmd_laws.specs.Points.{between, has_id, is_back, is_running, job_between, job_has_id, may_run, stage_has_id}
use Rattle.zoneadmd_steps.specs.Configs.{root_dir}
use Rattle.zoneadmd_steps.specs.Desks.{Fails, Goes, Job, Stage}
use Rattle.zoneadmd_steps.specs.Turns.{Seen}
use Rattle.zoneadmd_steps.specs.declared.requests.Outcome.{Outcome}
use Rattle.zoneadmd_steps.specs.declared.requests.Step.TheVariants as step
use Rattle.zoneadmd_steps.specs.declared.requests.Step.{Step}

-- a zone without an id has nothing and isn't up, or it is up and stored as installed
pub record Says (w : Seen) (id run : Bool) : Type 0 where
  pub one : is_one w.objects.ids ≡ id
  pub nothing : w.objects.ids ≡ [] → Has_nothing w.objects
  pub either : (w.objects.ids ≡ []) ⊎ (is_one w.objects.ids ≡ true)
  pub active : is_some w.desk.active ≡ true → is_installed w.stored ≡ true
  pub installed : is_one w.objects.ids ≡ true → is_installed w.stored ≡ true
  pub runs : (w.objects.processes ≡ []) ⊎ (run ≡ true)

up : (w : Seen) (id run : Bool) → is_one w.objects.ids ≡ true → id ≡ true → is_installed w.stored ≡ true → (w.objects.processes ≡ []) ⊎ (run ≡ true) → Says w id run
up w id run one is installed runs = record {
  one = one ∙ sym is;
  nothing = λ e. absurd (true≢false (sym one ∙ ap is_one e));
  either = inr one;
  active = λ e. installed;
  installed = λ e. installed;
  runs = runs;
}

off : (w : Seen) (id run : Bool) → Has_nothing w.objects → id ≡ false → (is_some w.desk.active ≡ true → is_installed w.stored ≡ true) → Says w id run
off w id run nothing is active = record {
  one = ap is_one nothing.ids ∙ sym is;
  nothing = λ e. nothing;
  either = inl nothing.ids;
  active = active;
  installed = λ e. absurd (true≢false (sym e ∙ ap is_one nothing.ids));
  runs = inl nothing.processes;
}

none_active : (w : Seen) → w.desk.active ≡ None → is_some w.desk.active ≡ true → is_installed w.stored ≡ true
none_active w e i = absurd (true≢false (sym i ∙ ap is_some e))

-- a request under way
id_off : (a : Option ZoneState) (made left : List Step) → made ≡ [] → a ≡ None → stage_has_id a made (Goes left) ≡ false
id_off a made left m e = λ i. not (is_nil (m i)) || (is_some (e i) && not (is_back left))

id_up : (a : Option ZoneState) (made left : List Step) → made ≡ [] → is_some a ≡ true → is_back left ≡ false → stage_has_id a made (Goes left) ≡ true
id_up a made left m e b = λ i. not (is_nil (m i)) || (e i && not (b i))

id_made : (a : Option ZoneState) (made left : List Step) → is_made made ≡ true → stage_has_id a made (Goes left) ≡ true
id_made a [] left h = absurd (true≢false (sym h))
id_made a (s ∷ made) left h = refl

abbrev is_idless : Phase → Bool
is_idless Idless = true
is_idless _ = false

not_back : (p : Phase) (left : List Step) → is_idless p ≡ false → walks (Some p) left ≡ true → is_back left ≡ false
not_back p [] i h = refl
not_back Idless (s ∷ rest) i h = absurd (true≢false i)
not_back _ (step.State Installed ∷ rest) i h = absurd (true≢false (sym h))
not_back p (_ ∷ rest) i h = refl

run_by : (a b : Bool) → a ≡ true → (a || b) ≡ true
run_by a b h = ap (λ a. a || b) h

or_right : (a b : Bool) → b ≡ true → (a || b) ≡ true
or_right true b h = refl
or_right false b h = h

started_next : (left : List Step) → walks (Some Started) left ≡ true → between (Goes left) ≡ true
started_next [] h = absurd (true≢false (sym h))
started_next (step.State Is_running ∷ rest) h = refl
started_next (_ ∷ rest) h = absurd (true≢false (sym h))

stopping_next : (left : List Step) → walks (Some Stopping) left ≡ true → between (Goes left) ≡ true
stopping_next [] h = absurd (true≢false (sym h))
stopping_next (step.Kill n ∷ rest) h = refl
stopping_next (_ ∷ rest) h = absurd (true≢false (sym h))

idless_next : (left : List Step) → walks (Some Idless) left ≡ true → is_back left ≡ true
idless_next [] h = absurd (true≢false (sym h))
idless_next (step.State Installed ∷ rest) h = refl
idless_next (_ ∷ rest) h = absurd (true≢false (sym h))

and_none : (a : Bool) → (a && false) ≡ false
and_none true = refl
and_none false = refl

says_at : (p : Phase) (made left : List Step) (c : Contents) (w : Seen) → walks (Some p) left ≡ true → Stands p made left c w → (is_making p ≡ false → made ≡ [])
    → Says w (stage_has_id w.desk.active made (Goes left)) (is_running w.desk.active || between (Goes left))
says_at Off made left c w h s n = off w _ _ s.0 (id_off w.desk.active made left (n refl) s.1) (none_active w s.1)
says_at Ahead made left c w h s n = off w _ _ s.0 (id_off w.desk.active made left (n refl) s.1) (none_active w s.1)
says_at Making made left c w h s n = up w _ _ s.id (id_made w.desk.active made left s.steps) s.installed (inl s.processes)
says_at Ready made left c w h s n = up w _ _ s.0.1 (id_up w.desk.active made left (n refl) s.0.2 (not_back Ready left refl h)) s.0.0 (inl s.2)
says_at Started made left c w h s n = up w _ _ s.1 (id_up w.desk.active made left (n refl) s.2 (not_back Started left refl h)) s.0 (inr (or_right _ _ (started_next left h)))
says_at Running made left c w h s n = up w _ _ s.0.1 (id_up w.desk.active made left (n refl) s.0.2 (not_back Running left refl h)) s.0.0 (inr (run_by _ _ (ap is_running s.1)))
says_at Stopping made left c w h s n = up w _ _ s.1 (id_up w.desk.active made left (n refl) s.2 (not_back Stopping left refl h)) s.0 (inr (or_right _ _ (stopping_next left h)))
says_at Killed made left c w h s n = up w _ _ s.0.1 (id_up w.desk.active made left (n refl) s.0.2 (not_back Killed left refl h)) s.0.0 (inl s.1)
says_at Unmounted made left c w h s n = up w _ _ s.0.1 (id_up w.desk.active made left (n refl) s.0.2 (not_back Unmounted left refl h)) s.0.0 (inl s.1)
says_at Released made left c w h s n = up w _ _ s.0.1 (id_up w.desk.active made left (n refl) s.0.2 (not_back Released left refl h)) s.0.0 (inl s.1)
says_at Cleared made left c w h s n = up w _ _ s.0.1 (id_up w.desk.active made left (n refl) s.0.2 (not_back Cleared left refl h)) s.0.0 (inl s.1)
says_at Idless made left c w h s n =
    off w _ _ s.0 ((λ i. not (is_nil (n refl i)) || (is_some w.desk.active && not (idless_next left h i))) ∙ and_none (is_some w.desk.active)) (λ i. s.2)

says_rest : (w : Seen) (a : Option ZoneState) (b : Bool) → w.desk.active ≡ a → Rests w a → Says w (is_some w.desk.active) (is_running w.desk.active || b)
says_rest w None b e r = off w _ _ r (ap is_some e) (none_active w e)
says_rest w (Some Is_ready) b e r = up w _ _ r.0.1 (ap is_some e) r.0.0 (inl r.1)
says_rest w (Some Is_running) b e r = up w _ _ r.1 (ap is_some e) r.0 (inr (run_by _ b (ap is_running e)))
says_rest w (Some _) b e r = absurd r

says_undo : (w : Seen) (c : Contents) (o : Outcome) (made undo : List Step) → Undoes undo c w → Says w (stage_has_id w.desk.active made (Fails o undo)) (is_running w.desk.active || false)
says_undo w c o made [] u = says_rest w w.desk.active false refl u
says_undo w c o made (s ∷ undo) u = up w _ _ u.id refl u.installed (inl u.processes)

says_stage : (w : Seen) (j : Job) (stage : Stage) → At_stage w j stage → Says w (stage_has_id w.desk.active j.done.made stage) (is_running w.desk.active || between stage)
says_stage w j (Goes left) s = says_at s.0 j.done.made left j.config w s.1 s.2 s.3
says_stage w j (Fails o undo) s = says_undo w j.config o j.done.made undo s

says_job : (w : Seen) (o : Option Job) → At_job w o → Says w (job_has_id w.desk.active o) (is_running w.desk.active || job_between o)
says_job w None h = says_rest w w.desk.active false refl h
says_job w (Some j) h = says_stage w j j.stage h

pub says : (w : Seen) → Agrees w → Says w (has_id w.desk) (may_run w.desk)
says w h = says_job w w.desk.job h.0

-- where a step is next
at_goes : (w : Seen) (j : Job) (left : List Step) → Agrees w → w.desk.job ≡ Some j → j.stage ≡ Goes left → At_stage w j (Goes left)
at_goes w j left h e s = subst (At_stage w j) s (subst (At_job w) e h.0)

abbrev makes_more : Step → Bool
makes_more step.Root = true
makes_more (step.Mounted d) = true
makes_more (step.Claimed c) = true
makes_more _ = false

making_next : (w : Seen) (j : Job) (s : Step) (rest : List Step) → Agrees w → w.desk.job ≡ Some j → j.stage ≡ Goes (s ∷ rest) → makes_more s ≡ true → Has_made j.done.made (s ∷ rest) j.config w
making_next w j s rest h e st m = let x = at_goes w j (s ∷ rest) h e st in go x.0 s m x.1 x.2
  where
    go : (p : Phase) (s : Step) → makes_more s ≡ true → walks (Some p) (s ∷ rest) ≡ true → Stands p j.done.made (s ∷ rest) j.config w → Has_made j.done.made (s ∷ rest) j.config w
    go Making s m h st = st
    go _ step.Root m h st = no_way h
    go _ (step.Mounted d) m h st = no_way h
    go _ (step.Claimed c) m h st = no_way h
    go _ _ m h st = no_way m

pub root_next : (w : Seen) (j : Job) (rest : List Step) → Agrees w → w.desk.job ≡ Some j → j.stage ≡ Goes (step.Root ∷ rest) → is_ok (mount_answer root_dir w.objects.mounts) ≡ true
root_next w j rest h e s = let x = making_next w j step.Root rest h e s refl in root_free j.config rest j.done.made w.objects.mounts x.fit x.mounts

pub mounted_next : (w : Seen) (j : Job) (d : List ℕ) (rest : List Step) → Agrees w → w.desk.job ≡ Some j → j.stage ≡ Goes (step.Mounted d ∷ rest) → is_ok (mount_answer d w.objects.mounts) ≡ true
mounted_next w j d rest h e s = let x = making_next w j (step.Mounted d) rest h e s refl in fs_free j.config d rest j.done.made w.objects.mounts x.fit x.mounts

pub claimed_next : (w : Seen) (j : Job) (c : Claim) (rest : List Step) → Agrees w → w.desk.job ≡ Some j → j.stage ≡ Goes (step.Claimed c ∷ rest) → holds c w.objects.claims ≡ false
claimed_next w j c rest h e s = let x = making_next w j (step.Claimed c) rest h e s refl in claim_fresh c rest j.done.made w.objects.claims x.fit x.claims

pub made_now : (w : Seen) (j : Job) (left : List Step) → Agrees w → w.desk.job ≡ Some j → j.stage ≡ Goes left → is_nil j.done.made ≡ false → Has_made j.done.made left j.config w
made_now w j left h e s n = let x = at_goes w j left h e s in go x.0 x.2 x.3
  where
    go : (p : Phase) → Stands p j.done.made left j.config w → (is_making p ≡ false → j.done.made ≡ []) → Has_made j.done.made left j.config w
    go Making st m = st
    go _ st m = absurd (true≢false (sym (ap is_nil (m refl)) ∙ n))

pub undo_now : (w : Seen) (j : Job) (o : Outcome) (s : Step) (undo : List Step) → Agrees w → w.desk.job ≡ Some j → j.stage ≡ Fails o (s ∷ undo) → Has_made (s ∷ undo) [] j.config w
undo_now w j o s undo h e st = subst (At_stage w j) st (subst (At_job w) e h.0)

pub release_next : (w : Seen) (j : Job) (c : Option Claim) (rest : List Step) → Agrees w → w.desk.job ≡ Some j → j.stage ≡ Goes (step.Release c ∷ rest) → w.objects.mounts ≡ []
release_next w j c rest h e s = let x = at_goes w j (step.Release c ∷ rest) h e s in go x.0 x.1 x.2
  where
    go : (p : Phase) → walks (Some p) (step.Release c ∷ rest) ≡ true → Stands p j.done.made (step.Release c ∷ rest) j.config w → w.objects.mounts ≡ []
    go Unmounted h st = st.2
    go _ h st = no_way h

pub down_next : (w : Seen) (j : Job) (rest : List Step) → Agrees w → w.desk.job ≡ Some j → j.stage ≡ Goes (step.State Down ∷ rest) → (w.objects.mounts ≡ []) × (w.objects.claims ≡ []) × (w.objects.devices ≡ [])
down_next w j rest h e s = let x = at_goes w j (step.State Down ∷ rest) h e s in go x.0 x.1 x.2
  where
    go : (p : Phase) → walks (Some p) (step.State Down ∷ rest) ≡ true → Stands p j.done.made (step.State Down ∷ rest) j.config w → (w.objects.mounts ≡ []) × (w.objects.claims ≡ []) × (w.objects.devices ≡ [])
    go Cleared h st = (st.2, st.3, st.4)
    go _ h st = no_way h

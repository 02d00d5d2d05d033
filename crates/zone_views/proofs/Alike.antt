-- The agreement of a zone's tables with its daemon stays where its id, its claims, its devices and its state stay, and where a
-- zone without processes gets none and keeps its mounts, held or not; and where a process comes to a zone that runs.
use Rattle.std.proofs.Common.{◌≡◌, ◌∷◌, [], ◌∙◌, List, Bool, Option, Some, None, true, ap, refl, subst, sym}
use Rattle.std.specs.Prelude.{is_some}
use Rattle.std.proofs.lemmas.Bool.{false≢true}
use Rattle.kernel_objects.specs.Processes.{Process}
use Rattle.zn_base.specs.declared.state.ZoneState.{ZoneState}
use Rattle.zn_base.specs.declared.state.ZoneState.TheVariants.{Down, Installed, Ready as Is_ready, Running as Is_running}
use Rattle.zone_config.specs.declared.terms.Contents.{Contents}
use Rattle.zone_pools.specs.Firsts.{is_nil}
use Rattle.zoneadmd_laws.proofs.Making.{freed, no_mounts}
use Rattle.zoneadmd_laws.specs.Agreement.{Ahead, At_job, At_stage, Cleared, Has_made, Has_nothing, Idless, Is_up, Killed, Making, Off, Phase, Ready, Released, Rests, Running, Stands, Started, Stopping, Undoes, Unmounted, is_installed, is_one, walks}
use Rattle.zoneadmd_steps.specs.Desks.{Fails, Goes, Job, Stage}
use Rattle.zoneadmd_steps.specs.Turns.{Seen}
use Rattle.zoneadmd_steps.specs.declared.requests.Step.{Step}
use Rattle.zoneadmd_steps.specs.declared.requests.Step.TheVariants as step
use Rattle.zone_views.proofs.Limits.{desk_stands, plan_stands}

pub record Alike (w v : Seen) : Type 0 where
  pub active : v.desk.active ≡ w.desk.active
  pub installed : is_installed w.stored ≡ true → is_installed v.stored ≡ true
  pub ids : v.objects.ids ≡ w.objects.ids
  pub claims : v.objects.claims ≡ w.objects.claims
  pub devices : v.objects.devices ≡ w.objects.devices
  pub quiet : w.objects.processes ≡ [] → (v.objects.processes ≡ []) × (freed v.objects.mounts ≡ freed w.objects.mounts)

module _ (w v : Seen) (a : Alike w v) where
  none_mounted : w.objects.processes ≡ [] → w.objects.mounts ≡ [] → v.objects.mounts ≡ []
  none_mounted p m = no_mounts v.objects.mounts ((a.quiet p).1 ∙ ap freed m)

  nothing_still : Has_nothing w.objects → Has_nothing v.objects
  nothing_still h = record {
    ids = a.ids ∙ h.ids;
    processes = (a.quiet h.processes).0;
    mounts = none_mounted h.processes h.mounts;
    claims = a.claims ∙ h.claims;
    devices = a.devices ∙ h.devices;
  }

  up_still : Is_up w → Is_up v
  up_still h = (a.installed h.0, ap is_one a.ids ∙ h.1, ap is_some a.active ∙ h.2)

  made_still : (made left : List Step) (c : Contents) → Has_made made left c w → Has_made made left c v
  made_still made left c h = record {
    steps = h.steps;
    inactive = a.active ∙ h.inactive;
    installed = a.installed h.installed;
    id = ap is_one a.ids ∙ h.id;
    processes = (a.quiet h.processes).0;
    mounts = (a.quiet h.processes).1 ∙ h.mounts;
    claims = a.claims ∙ h.claims;
    declared = h.declared;
    devices = a.devices ∙ h.devices;
    fit = h.fit;
  }

  stands_still : (p : Phase) (made left : List Step) (c : Contents) → Stands p made left c w → Stands p made left c v
  stands_still Off made left c h = (nothing_still h.0, a.active ∙ h.1)
  stands_still Ahead made left c h = (nothing_still h.0, a.active ∙ h.1, a.installed h.2, h.3)
  stands_still Making made left c h = made_still made left c h
  stands_still Ready made left c h = (up_still h.0, a.active ∙ h.1, (a.quiet h.2).0)
  stands_still Started made left c h = up_still h
  stands_still Running made left c h = (up_still h.0, a.active ∙ h.1)
  stands_still Stopping made left c h = up_still h
  stands_still Killed made left c h = (up_still h.0, (a.quiet h.1).0)
  stands_still Unmounted made left c h = (up_still h.0, (a.quiet h.1).0, none_mounted h.1 h.2)
  stands_still Released made left c h = (up_still h.0, (a.quiet h.1).0, none_mounted h.1 h.2, a.claims ∙ h.3)
  stands_still Cleared made left c h = (up_still h.0, (a.quiet h.1).0, none_mounted h.1 h.2, a.claims ∙ h.3, a.devices ∙ h.4)
  stands_still Idless made left c h = (nothing_still h.0, ap is_some a.active ∙ h.1, a.installed h.2)

  rests_so : (s : Option ZoneState) → Rests w s → Rests v s
  rests_so None h = nothing_still h
  rests_so (Some Is_ready) h = (up_still h.0, (a.quiet h.1).0)
  rests_so (Some Is_running) h = up_still h
  rests_so (Some s) h = absurd h

  rests_still : Rests w w.desk.active → Rests v v.desk.active
  rests_still h = subst (Rests v) (sym a.active) (rests_so w.desk.active h)

  undoes_still : (undo : List Step) (c : Contents) → Undoes undo c w → Undoes undo c v
  undoes_still [] c h = rests_still h
  undoes_still (s ∷ undo) c h = made_still (s ∷ undo) [] c h

  stage_still : (j : Job) (s : Stage) → At_stage w j s → At_stage v j s
  stage_still j (Goes left) h = (h.0, h.1, stands_still h.0 j.done.made left j.config h.2, h.3)
  stage_still j (Fails o undo) h = undoes_still undo j.config h

  pub job_still : (o : Option Job) → At_job w o → At_job v o
  job_still None h = rests_still h
  job_still (Some j) h = stage_still j j.stage h

-- a process comes
module _ (w : Seen) (ps : List Process) (runs : w.desk.active ≡ Some Is_running) where
  abbrev v : Seen
  v = record w { objects = record w.objects { processes = ps } }

  idle : {A : Type 0} → w.desk.active ≡ None → A
  idle h = let wrong : None ≡ Some Is_running = sym h ∙ runs in absurd (cc)

  unready : {A : Type 0} → w.desk.active ≡ Some Is_ready → A
  unready h = let wrong : Some Is_ready ≡ Some Is_running = sym h ∙ runs in absurd (cc)

  -- in a plan that goes from there nothing keeps that the zone may have processes
  off : (a : Option ZoneState) (clean : Bool) (left : List Step) → a ≡ None → walks (Some Off) left ≡ true → plan_stands true a clean left ≡ true → ⊥
  off None clean [] e h p = false≢true p
  off None clean (step.Hook c ∷ rest) e h p = false≢true p
  off None clean (step.Record s ∷ rest) e h p = false≢true p
  off None clean (step.Moved ∷ rest) e h p = false≢true p
  off None clean (step.Source z ∷ rest) e h p = false≢true p
  off None clean (step.Copy k ∷ rest) e h p = off None clean rest e h p
  off None clean (step.Erase k ∷ rest) e h p = off None clean rest e h p
  off None clean (s ∷ rest) e h p = false≢true h
  off (Some s) clean left e h p = absurd (cc)

  idless : (a : Option ZoneState) (clean : Bool) (left : List Step) → walks (Some Idless) left ≡ true → plan_stands true a clean left ≡ true → ⊥
  idless a clean (step.State Installed ∷ rest) h p = off None clean rest refl h p
  idless a clean [] h p = false≢true h
  idless a clean (s ∷ rest) h p = false≢true h

  cleared : (a : Option ZoneState) (clean : Bool) (left : List Step) → walks (Some Cleared) left ≡ true → plan_stands true a clean left ≡ true → ⊥
  cleared a clean (step.State Down ∷ rest) h p = cleared (Some Down) clean rest h p
  cleared a clean (step.ZidBack n ∷ rest) h p = false≢true p
  cleared a clean [] h p = false≢true h
  cleared a clean (s ∷ rest) h p = false≢true h

  released : (a : Option ZoneState) (clean : Bool) (left : List Step) → walks (Some Released) left ≡ true → plan_stands true a clean left ≡ true → ⊥
  released a clean (step.Clear ∷ rest) h p = false≢true p
  released a clean [] h p = false≢true h
  released a clean (s ∷ rest) h p = false≢true h

  unmounted : (a : Option ZoneState) (clean : Bool) (left : List Step) → walks (Some Unmounted) left ≡ true → plan_stands true a clean left ≡ true → ⊥
  unmounted a clean (step.Release c ∷ rest) h p = released a clean rest h p
  unmounted a clean [] h p = false≢true h
  unmounted a clean (s ∷ rest) h p = false≢true h

  killed : (a : Option ZoneState) (clean : Bool) (left : List Step) → walks (Some Killed) left ≡ true → plan_stands true a clean left ≡ true → ⊥
  killed a clean (step.Unmount d ∷ rest) h p = unmounted a clean rest h p
  killed a clean [] h p = false≢true h
  killed a clean (s ∷ rest) h p = false≢true h

  stands_entered : (p : Phase) (made left : List Step) (c : Contents) (a : Option ZoneState) (clean : Bool) → walks (Some p) left ≡ true → plan_stands true a clean left ≡ true
      → Stands p made left c w → Stands p made left c v
  stands_entered Off made left c a clean h k s = idle s.1
  stands_entered Ahead made left c a clean h k s = idle s.1
  stands_entered Making made left c a clean h k s = idle s.inactive
  stands_entered Ready made left c a clean h k s = unready s.1
  stands_entered Started made left c a clean h k s = s
  stands_entered Running made left c a clean h k s = s
  stands_entered Stopping made left c a clean h k s = s
  stands_entered Killed made left c a clean h k s = absurd (killed a clean left h k)
  stands_entered Unmounted made left c a clean h k s = absurd (unmounted a clean left h k)
  stands_entered Released made left c a clean h k s = absurd (released a clean left h k)
  stands_entered Cleared made left c a clean h k s = absurd (cleared a clean left h k)
  stands_entered Idless made left c a clean h k s = absurd (idless a clean left h k)

  rests_entered : Rests w w.desk.active → Rests v w.desk.active
  rests_entered h = subst (Rests v) (sym runs) (subst (Rests w) runs h)

  stage_entered : (j : Job) (s : Stage) → desk_stands true w.desk.active (Some (record j { stage = s })) ≡ true → At_stage w j s → At_stage v j s
  stage_entered j (Goes left) k h = (h.0, h.1, stands_entered h.0 j.done.made left j.config w.desk.active (is_nil j.done.made) h.1 k h.2, h.3)
  stage_entered j (Fails o []) k h = rests_entered h
  stage_entered j (Fails o (s ∷ undo)) k h = idle h.inactive

  pub job_entered : (o : Option Job) → desk_stands true w.desk.active o ≡ true → At_job w o → At_job v o
  job_entered None k h = rests_entered h
  job_entered (Some j) k h = stage_entered j j.stage k h

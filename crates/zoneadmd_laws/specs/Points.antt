-- When a zone has an id, and when it may have processes, by its desk.
use Rattle.std.specs.Prelude.{List, ◌∷◌, Bool, true, false, not, is_some, ◌&&◌, ◌||◌, Option, Some, None}
use Rattle.zn_base.specs.declared.state.ZoneState.{ZoneState}
use Rattle.zn_base.specs.declared.state.ZoneState.TheVariants.{Installed, Running}
use Rattle.zone_pools.specs.Firsts.{is_nil}
use Rattle.zoneadmd_steps.specs.Desks.{Desk, Fails, Goes, Job, Stage}
use Rattle.zoneadmd_steps.specs.declared.requests.Step.{Step}
use Rattle.zoneadmd_steps.specs.declared.requests.Step.TheVariants.{State, Kill}

-- the id was given back, and the zone is to be installed
abbrev pub is_back : List Step → Bool
is_back (State Installed ∷ rest) = true
is_back _ = false

-- an id is there from `zid` until it is undone or given back
abbrev pub stage_has_id : Option ZoneState → (made : List Step) → Stage → Bool
stage_has_id active made (Goes left) = not (is_nil made) || (is_some active && not (is_back left))
stage_has_id active made (Fails o undo) = not (is_nil undo) || is_some active

abbrev pub job_has_id : Option ZoneState → Option Job → Bool
job_has_id active None = is_some active
job_has_id active (Some j) = stage_has_id active j.done.made j.stage

abbrev pub has_id : Desk → Bool
has_id d = job_has_id d.active d.job

-- processes are there from `init` until they are killed: the zone is running, or is to be so next, or they are to be killed next
abbrev pub is_running : Option ZoneState → Bool
is_running (Some Running) = true
is_running _ = false

abbrev pub between : Stage → Bool
between (Goes (State Running ∷ rest)) = true
between (Goes (Kill n ∷ rest)) = true
between _ = false

abbrev pub job_between : Option Job → Bool
job_between None = false
job_between (Some j) = between j.stage

abbrev pub may_run : Desk → Bool
may_run d = is_running d.active || job_between d.job

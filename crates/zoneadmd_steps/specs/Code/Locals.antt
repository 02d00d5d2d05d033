-- What the code's cases of a local turn decide, as the definitions have it.
use Rattle.std.specs.Prelude.{◌≡◌, Option, IsSomeAnd}
use Rattle.zone_pools.specs.Decisions.{Just}
use Rattle.zoneadmd_steps.specs.Code.Cases.{job_turn}
use Rattle.zoneadmd_steps.specs.Desks as desks
use Rattle.zoneadmd_steps.specs.Turns.{Turned}
use Rattle.zoneadmd_steps.specs.declared.cases.JobCase.{JobCase}
use Rattle.zoneadmd_steps.specs.declared.desks.Job.{Job}

-- there is such a turn, and the case decides it
abbrev pub IsLocal : desks.Desk → Job → JobCase → Option Turned → Type 0
IsLocal d j c t = IsSomeAnd t (λ t. Just t ≡ job_turn d j c)

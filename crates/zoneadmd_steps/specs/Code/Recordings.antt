-- Which turns store a record.
use Rattle.std.specs.Prelude.{◌≡◌, Bool, false, Option, Some, None}
use Rattle.zone_pools.specs.Decisions.{act_of}
use Rattle.zone_pools.specs.declared.grant.Grant.{Grant}
use Rattle.zoneadmd_steps.specs.Arrivals.{arrived, in_store}
use Rattle.zoneadmd_steps.specs.Code.Shareds.{is_of_store}
use Rattle.zoneadmd_steps.specs.Desks.{Fails, Goes, Job, Stage}
use Rattle.zoneadmd_steps.specs.Objects.{Objects}
use Rattle.zoneadmd_steps.specs.Turns.{A_step, Next, Turn_decision, next}

-- whether the next step of the request under way changes what is stored. In a zone that is stored such a step stores a record,
-- unless a pool denies it or the export text would be too long with another zonepath
abbrev pub is_record : Next → Bool
is_record (A_step s rest) = is_of_store s
is_record _ = false

abbrev pub stage_records : Objects → Stage → Bool
stage_records o (Goes left) = is_record (next o left)
stage_records o (Fails outcome undo) = false

abbrev pub records_next : Objects → Option Job → Bool
records_next o None = false
records_next o (Some j) = stage_records o j.stage

-- whatever is granted, a turn stores no record
abbrev pub StoresNothing : Turn_decision → Type 0
StoresNothing t = (g : Grant) → in_store (act_of arrived t g).came ≡ None

-- What the code's cases of a turn that isn't local decide, as the definitions have it.
use Rattle.std.specs.Prelude.{Bool, true, false, Option, Some, None, Result, Ok, Err, ℕ, Box}
use Rattle.std.specs.Global.{Global}
use Rattle.commit_journal.specs.declared.records.Record.{Record}
use Rattle.zone_pools.specs.Decisions as decisions
use Rattle.zoneadmd_steps.specs.Code.Cases.{as_objects, begun, job_turn}
use Rattle.zoneadmd_steps.specs.Code.Desks.{as_desk, as_job}
use Rattle.zoneadmd_steps.specs.Desks as desks
use Rattle.zoneadmd_steps.specs.Turns.{A_claim_left, A_mount, A_step, Next, Nothing_left, Seen, Turn_decision, Turned, finish, rests}
use Rattle.zoneadmd_steps.specs.declared.cases.JobCase.{JobCase}
use Rattle.zoneadmd_steps.specs.declared.desks.Desk.{Desk}
use Rattle.zoneadmd_steps.specs.declared.desks.Job.{Job}
use Rattle.zoneadmd_steps.specs.declared.objects.Objects.{Objects}
use Rattle.zoneadmd_steps.specs.declared.objects.System.{System}
use Rattle.zoneadmd_steps.specs.declared.requests.Outcome.{Outcome}
use Rattle.zoneadmd_steps.specs.declared.requests.Step.{Step}
use Rattle.zoneadmd_steps.specs.declared.requests.Step.TheVariants.{Hook, Record as Record_step, Moved, Copy, Erase, Source, Zid, Limits, Devices, Root, Mounted, Claimed, State, Init, Kill, Clear, ZidBack}

-- a step that no local turn does
abbrev pub is_left : Step → Bool
is_left (Hook change) = false
is_left (Copy part) = false
is_left (Erase part) = false
is_left Limits = false
is_left Root = false
is_left (Mounted dir) = false
is_left _ = true

-- what is next is no local turn
abbrev pub is_apart : Next → Bool
is_apart Nothing_left = true
is_apart (A_step s rest) = is_left s
is_apart (A_mount m left) = false
is_apart (A_claim_left c left) = true

-- a step that changes what is stored, and one that changes the objects or asks a pool for what comes
abbrev pub is_of_store : Step → Bool
is_of_store (Record_step to) = true
is_of_store Moved = true
is_of_store _ = false

abbrev pub is_of_objects : Step → Bool
is_of_objects (Source source) = true
is_of_objects (Zid n) = true
is_of_objects (Devices n) = true
is_of_objects (Claimed c) = true
is_of_objects (State to) = true
is_of_objects (Init n) = true
is_of_objects (Kill n) = true
is_of_objects Clear = true
is_of_objects (ZidBack n) = true
is_of_objects _ = false

-- without a case there is no work
abbrev pub case_turn : desks.Desk → Job → Option JobCase → Turn_decision
case_turn d j None = decisions.Just (rests d)
case_turn d j (Some c) = job_turn d j c

-- a request begins, or ends at once
abbrev pub begun_or : desks.Desk → ℕ → Result (Box Job Global) Outcome → Turned
begun_or d t (Ok job) = begun d (as_job job.value)
begun_or d t (Err outcome) = finish d t outcome

-- a zone as its daemon finds it
abbrev pub seen_by : Desk → Option Record → Objects → System → Seen
seen_by d row o s = record { desk = as_desk d; objects = as_objects o; stored = row; declared = s.kernel.now.devices; brands = s.brands.now }

-- How many turns a zone's daemon can still have.
use Rattle.commit_journal.specs.declared.records.Record.{Record}
use Rattle.std.specs.Prelude.{◌≡◌, ℕ, suc, ◌+◌, ◌*◌, ◌<◌, max, List, [], ◌∷◌, length, Bool, true, false, Option, Some, None, if◌then◌else◌}
use Rattle.zn_base.specs.declared.state.ZoneState.TheVariants.{Installed, Ready}
use Rattle.zone_config.specs.declared.terms.Contents.{Contents}
use Rattle.zoneadmd_steps.specs.Configs.{claims_of, fs_dirs}
use Rattle.zoneadmd_steps.specs.Desks.{Fails, Goes, Job, Stage, state_now}
use Rattle.zoneadmd_steps.specs.Plans.{plan}
use Rattle.zoneadmd_steps.specs.Turns.{Seen}
use Rattle.zoneadmd_steps.specs.declared.requests.Request.TheVariants as request
use Rattle.zoneadmd_steps.specs.declared.requests.Request.{Request}
use Rattle.zoneadmd_steps.specs.declared.requests.Step.TheVariants.{Hook, Record as Record_step, Moved, Source, Zid, Limits, Devices, State as State_step, Root, Mounted, Claimed, Init, Unmount, Release}
use Rattle.zoneadmd_steps.specs.declared.requests.Step.{Step}
use Rattle.zoneadmd_steps.specs.declared.requests.TurnReply.TheVariants.{Idle, Stuck}
use Rattle.zoneadmd_steps.specs.declared.requests.TurnReply.{TurnReply}

-- whether a step may fail
abbrev pub may_fail : Step → Bool
may_fail (Hook change) = true
may_fail (Record_step s) = true
may_fail Moved = true
may_fail (Source z) = true
may_fail (Zid n) = true
may_fail (Claimed c) = true
may_fail (Init n) = true
may_fail s = false

-- how many mounts, claims and steps to be undone there are once a step is done
abbrev pub mounts_with : Step → ℕ → ℕ
mounts_with Root m = suc m
mounts_with (Mounted dir) m = suc m
mounts_with s m = m

abbrev pub claims_with : Step → ℕ → ℕ
claims_with (Claimed c) k = suc k
claims_with s k = k

abbrev pub undo_with : Step → ℕ → ℕ
undo_with (Zid n) u = suc u
undo_with Limits u = suc u
undo_with (Devices n) u = suc u
undo_with Root u = suc u
undo_with (Mounted dir) u = suc u
undo_with (Claimed c) u = suc u
undo_with (State_step Ready) u = 0
undo_with s u = u

-- the greatest number of turns that a plan can still have, with these mounts and claims, and so many steps to be undone:
-- each step that may fail may do so
abbrev pub most : (more : ℕ → ℕ → ℕ) → (mounts claims undo : ℕ) → List Step → ℕ
most more m k u [] = more m k
most more m k u (Unmount d ∷ rest) = m + most more 0 k u rest
most more m k u (Release c ∷ rest) = k + most more m 0 u rest
most more m k u (s ∷ rest) = max (if may_fail s then u + 2 else 0) (most more (mounts_with s m) (claims_with s k) (undo_with s u) rest + 1)

-- the end alone
abbrev pub the_end : ℕ → ℕ → ℕ
the_end m k = 1

-- a boot whose configuration is this: it begins, and goes as it does from whatever state
abbrev pub boot_turns : List ℕ → Contents → ℕ → ℕ → ℕ
boot_turns args c m k = max (most the_end m k 0 (plan (request.Boot args) Installed c)) (most the_end m k 0 (plan (request.Boot args) Ready c)) + 1

-- what comes once a plan is done: of a reboot the boot, by the configuration that is stored
abbrev pub turns_after : Option Record → Request → ℕ → ℕ → ℕ
turns_after (Some row) (request.Reboot args) = boot_turns args row.config
turns_after stored r = the_end

abbrev pub stage_turns : Seen → Job → Stage → ℕ
stage_turns w j (Goes left) = most (turns_after w.stored j.request) (length w.objects.mounts) (length w.objects.claims) (length j.done.made) left
stage_turns w j (Fails o undo) = length undo + 1

abbrev pub job_turns : Seen → Option Job → ℕ
job_turns w None = 0
job_turns w (Some j) = stage_turns w j j.stage

-- 1,000,000 for each request that waits, and those of the request under way
abbrev pub turns_left : Seen → ℕ
turns_left w = 1000000 * length w.desk.waiting + job_turns w w.desk.job

-- the plan of a request that begins now has fewer turns than that
abbrev pub IsShort : Seen → Type 0
IsShort w = (row : Record) (r : Request) → w.stored ≡ Some row → most (turns_after w.stored r) (length w.objects.mounts) (length w.objects.claims) 0 (plan r (state_now row w.desk) row.config) < 1000000

-- what moves a zone's daemon on: all but idle and stuck turns
abbrev pub moves_on : TurnReply → Bool
moves_on Idle = false
moves_on Stuck = false
moves_on r = true

-- how much a zone has and its configuration asks for
abbrev pub size_now : Seen → Contents → ℕ
size_now w c = length w.objects.mounts + length w.objects.claims + length (fs_dirs c) + length (claims_of c)

abbrev pub IsSmall : Seen → Type 0
IsSmall w = (row : Record) → w.stored ≡ Some row → size_now w row.config < 10000

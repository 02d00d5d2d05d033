-- What the code finds next in a plan, as the definitions have it.
use Rattle.std.specs.Prelude.{◌≡◌, ◌<◌, ◌-◌, List, Bool, true, false, drop, slice_get, Some}
use Rattle.zoneadmd_steps.specs.Turns.{A_claim_left, A_mount, A_step, Next, Nothing_left}
use Rattle.zoneadmd_steps.specs.declared.ahead.Ahead.{Ahead}
use Rattle.zoneadmd_steps.specs.declared.ahead.Ahead.TheVariants.{Claim, Mount, Nothing, Step as Ahead_step}
use Rattle.zoneadmd_steps.specs.declared.requests.Step.{Step}
use Rattle.zoneadmd_steps.specs.declared.requests.Step.TheVariants.{Release, Unmount}

abbrev pub as_next : List Step → Ahead → Next
as_next steps Nothing = Nothing_left
as_next steps (Ahead_step s next) = A_step s.now (drop next steps)
as_next steps (Mount m at) = A_mount m.now (drop at steps)
as_next steps (Claim c at) = A_claim_left c.now (drop at steps)

-- a step that stands for all mounts or all claims
abbrev pub is_for_all : Step → Bool
is_for_all (Unmount dir) = true
is_for_all (Release c) = true
is_for_all _ = false

-- a step that is next stands just before the place of the one after it, and stands for itself alone
abbrev pub IsAhead : List Step → Ahead → Type 0
IsAhead steps (Ahead_step s next) = (0 < next) × (slice_get steps (next - 1) ≡ Some s.now) × (is_for_all s.now ≡ false)
IsAhead steps _ = Unit {0}

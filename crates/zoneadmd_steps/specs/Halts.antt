-- The turns of a halt, which take no memory: a zone whose halt was accepted is not kept from going down by its daemon.
use Rattle.std.specs.Prelude.{ℕ, List, [], ◌∷◌, ◌&&◌, Bool, true, false, Option, Some, None}
use Rattle.std.specs.List.{list_all}
use Rattle.zone_pools.specs.Firsts.{is_nil}
use Rattle.zoneadmd_steps.specs.Desks.{Desk, Fails, Goes, Job, Stage}
use Rattle.zoneadmd_steps.specs.declared.requests.Request.{Request}
use Rattle.zoneadmd_steps.specs.declared.requests.Request.TheVariants as request
use Rattle.zoneadmd_steps.specs.declared.requests.Step.{Step}
use Rattle.zoneadmd_steps.specs.declared.requests.Step.TheVariants.{Hook, State, Kill, Unmount, Release, Clear, ZidBack}

abbrev pub is_halt : Request → Bool
is_halt request.Halt = true
is_halt _ = false

-- a step of a halt's plan
abbrev pub is_of_halt : Step → Bool
is_of_halt (Hook change) = true
is_of_halt (State s) = true
is_of_halt (Kill n) = true
is_of_halt (Unmount dir) = true
is_of_halt (Release claim) = true
is_of_halt Clear = true
is_of_halt (ZidBack n) = true
is_of_halt _ = false

-- only such steps are left, or nothing is to be undone
abbrev pub halts_by : Stage → Bool
halts_by (Goes left) = list_all is_of_halt left
halts_by (Fails outcome undo) = is_nil undo

-- a halt is under way. None of its steps is undone
abbrev pub is_halt_job : Job → Bool
is_halt_job j = is_halt j.request && (is_nil j.done.made && halts_by j.stage)

abbrev pub is_halt_first : List (ℕ × Request) → Bool
is_halt_first [] = false
is_halt_first (first ∷ rest) = is_halt first.1

abbrev pub halts : Option Job → List (ℕ × Request) → Bool
halts None waiting = is_halt_first waiting
halts (Some j) waiting = is_halt_job j

-- the next turn is one of a halt: it is under way, or is the next to begin
abbrev pub is_halting : Desk → Bool
is_halting d = halts d.job d.waiting

-- A zone's desk: the requests that wait for its daemon, and the one under way.
use Rattle.std.specs.Prelude.{ℕ, ◌+◌, ◌^◌, ◌-◌, ◌++◌, ◌∷◌, ◌==◌, ◌||◌, Bool, not, is_some, length, min, nat_le, List, [], Option, Some, None, unwrap_or}
use Rattle.zn_base.specs.declared.state.ZoneState.{ZoneState}
use Rattle.zoneadmd_steps.specs.declared.desks.TheConstants.{REQUESTS_MAX, TICKET_MAX}
use Rattle.zoneadmd_steps.specs.declared.requests.Outcome.{Outcome}
use Rattle.zoneadmd_steps.specs.declared.requests.Request.{Request}
use Rattle.zoneadmd_steps.specs.declared.requests.Step.{Step}
use Rattle.zone_pools.specs.Firsts.{is_nil}
use Rattle.zone_config.specs.declared.terms.Contents.{Contents}
use Rattle.commit_journal.specs.declared.records.Record.{Record}

-- where a request under way stands: the steps of its plan that are left; or, once a step failed, how the request will end,
-- and the steps that are still to be undone, the next one first
pub data Stage : Type 0 where
  Goes : List Step → Stage
  Fails : Outcome → List Step → Stage

-- what was done since a request last began: the number of the next step, and what a failure undoes, the latest first
pub record Progress : Type 0 where
  pub place : ℕ
  pub made : List Step

-- a request under way: the place of its brand among the brands and the configuration, both as it last began, and what was done
-- since then
pub record Job : Type 0 where
  pub ticket : ℕ
  pub request : Request
  pub brand : Option ℕ
  pub config : Contents
  pub done : Progress
  pub stage : Stage

-- the last ticket given, the requests that wait, the one under way, and the zone's state where it is none of the stored ones
pub record Desk : Type 0 where
  pub last : ℕ
  pub waiting : List (ℕ × Request)
  pub job : Option Job
  pub active : Option ZoneState

-- the number of the step after a step, which stands still at the end of its type
abbrev pub next_place : ℕ → ℕ
next_place n = min (n + 1) (2 ^ 32 - 1)

abbrev pub empty_desk : Desk
empty_desk = record { last = 0; waiting = []; job = None; active = None }

-- a stored zone's state: what its desk says, else what is stored
abbrev pub state_now : Record → Desk → ZoneState
state_now row d = unwrap_or d.active row.state

-- a zone's state, None where it isn't stored
abbrev pub state_of : Option Record → Desk → Option ZoneState
state_of None d = None
state_of (Some row) d = Some (state_now row d)

-- a request waits, or is under way
abbrev pub has_request : Desk → Bool
has_request d = is_some d.job || not (is_nil d.waiting)

-- eight requests wait, or the tickets are used up
abbrev pub is_full : Desk → Bool
is_full d = nat_le REQUESTS_MAX (length d.waiting) || d.last == TICKET_MAX

-- one more request waits, under the next ticket
abbrev pub with_request : Desk → Request → Desk
with_request d request = record d { last = d.last + 1; waiting = d.waiting ++ (d.last + 1, request) ∷ [] }

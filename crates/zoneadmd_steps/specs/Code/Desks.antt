-- A desk of the code, as the definitions have it.
use Rattle.std.specs.Prelude.{List, [], Option, Some, None, drop, reverse}
use Rattle.std.specs.Option.{option_map}
use Rattle.zoneadmd_steps.specs.Desks as desks
use Rattle.zoneadmd_steps.specs.Desks.{Fails, Goes, Stage}
use Rattle.zoneadmd_steps.specs.declared.desks.Desk.{Desk}
use Rattle.zoneadmd_steps.specs.declared.desks.Job.{Job}
use Rattle.zoneadmd_steps.specs.declared.requests.Failure.{Failure}
use Rattle.zoneadmd_steps.specs.declared.requests.Failure.TheVariants as failure
use Rattle.zoneadmd_steps.specs.declared.requests.Outcome.{Outcome}
use Rattle.zoneadmd_steps.specs.declared.requests.Outcome.TheVariants as outcome
use Rattle.zoneadmd_steps.specs.declared.requests.Step.{Step}

abbrev pub as_outcome : Failure → Outcome
as_outcome (failure.Denied pool) = outcome.Denied pool
as_outcome (failure.HookRefused code) = outcome.HookRefused code
as_outcome (failure.TooLarge size) = outcome.TooLarge size

-- a request goes on by the steps that are left, or fails with those that are to be undone
abbrev pub stage_of : Option Failure → (left made : List Step) → Stage
stage_of None left made = Goes left
stage_of (Some f) left made = Fails (as_outcome f) made

abbrev pub made_of : Option Failure → List Step → List Step
made_of None made = made
made_of (Some f) made = []

abbrev pub as_job : Job → desks.Job
as_job j = record {
  ticket = j.ticket;
  request = j.request;
  brand = j.brand;
  config = j.config;
  done = record { place = j.place; made = made_of j.failure (reverse j.made.items) };
  stage = stage_of j.failure (drop j.at j.steps) (reverse j.made.items);
}

abbrev pub as_desk : Desk → desks.Desk
as_desk d = record { last = d.last; waiting = d.waiting.items; job = option_map as_job d.job; active = d.active }

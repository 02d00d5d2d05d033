-- The request under way goes on.
use Rattle.std.proofs.Common.{◌≡◌, List, Option, Some, ap}
use Rattle.std.specs.Prelude.{IsSomeAnd}
use Rattle.std.specs.Option.{option_map}
use Rattle.brand_hooks.specs.Brands.{Tabled}
use Rattle.zone_pools.specs.Decisions.{Just}
use Rattle.zoneadmd_steps.specs.Code.Cases.{job_turn, on_job}
use Rattle.zoneadmd_steps.specs.Code.Desks.{as_desk, as_job}
use Rattle.zoneadmd_steps.specs.Code.Locals.{IsLocal}
use Rattle.zoneadmd_steps.specs.Objects.{Objects}
use Rattle.zoneadmd_steps.specs.Turns.{local_job, local_stage, local_turn}
use Rattle.zoneadmd_steps.specs.declared.cases.JobCase.{JobCase}
use Rattle.zoneadmd_steps.specs.declared.desks.Desk.{Desk}
use Rattle.zoneadmd_steps.specs.declared.desks.Job.{Job}

at_job : (d : Desk) (o : Option Job) (j : Job) (c : JobCase) (brands : List Tabled) (x : Objects) → o ≡ Some j → IsLocal (as_desk d) j c (local_stage brands x (as_desk d) (as_job j) (as_job j).stage)
    → IsSomeAnd (local_job brands x (as_desk d) (option_map as_job o)) (λ t. Just t ≡ on_job d o c)
at_job d o j c brands x is h = rw is h

pub going : (d : Desk) (j : Job) (c : JobCase) (brands : List Tabled) (x : Objects) → d.job ≡ Some j → IsLocal (as_desk d) j c (local_stage brands x (as_desk d) (as_job j) (as_job j).stage)
    → IsSomeAnd (local_turn brands x (as_desk d)) (λ t. Just t ≡ on_job d d.job c)
unfolding local_turn
going d j c brands x is h = at_job d d.job j c brands x is h

pub on_it : (d : Desk) (j : Job) (c : JobCase) → d.job ≡ Some j → on_job d d.job c ≡ job_turn (as_desk d) j c
on_it d j c is = ap (λ o. on_job d o c) is

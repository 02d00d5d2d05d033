-- A case whose record takes its number decides what it decided.
use Rattle.std.proofs.Common.{◌≡◌, ℕ, drop, Option, Some, None, refl}
use Rattle.zoneadmd_steps.specs.Code.Cases.{asked_for, comes_of, edits_under, on_job, shown_under}
use Rattle.zoneadmd_steps.specs.Code.Desks.{as_desk, as_job}
use Rattle.zoneadmd_steps.specs.Turns.{asking}
use Rattle.zoneadmd_steps.specs.declared.cases.JobCase.TheVariants.{Ask}
use Rattle.zoneadmd_steps.specs.declared.desks.Desk.{Desk}
use Rattle.zoneadmd_steps.specs.declared.desks.Job.{Job}
use Rattle.zoneadmd_steps.specs.declared.objects.changes.Came.{Came}

pub asks-alike : (d : Desk) (o : Option Job) (a b : Came) (next : ℕ) → comes_of a ≡ comes_of b → asked_for a ≡ asked_for b → edits_under a ≡ edits_under b → shown_under a ≡ shown_under b
    → on_job d o (Ask a next) ≡ on_job d o (Ask b next)
asks-alike d None a b next comes asked edits shown = refl
asks-alike d (Some j) a b next comes asked edits shown = λ i. asking (as_desk d) (as_job j) (drop next j.steps) (comes i) (asked i) (edits i) (shown i)

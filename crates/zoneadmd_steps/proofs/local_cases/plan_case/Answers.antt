use Rattle.std.proofs.Common.{[], drop, refl}
use Rattle.zoneadmd_steps.proofs.Halting.{last_mount, next_of_halt}
use Rattle.zoneadmd_steps.specs.Objects.{Objects}
use Rattle.zoneadmd_steps.proofs.local_cases.plan_case.Goals as goal

pub returns-in-Mount-clause-of : goal.returns-in-Mount-clause-of
returns-in-Mount-clause-of c = c.unmount_case.ensures.of c.args.job.now c.requires.goes

pub returns-in-Mount-clause-free : goal.returns-in-Mount-clause-free
returns-in-Mount-clause-free c =
    let o : Objects = record { processes = []; mounts = c.args.mounts.now.list; claims = c.args.claims.now.claims; devices = []; ids = [] } in
    let is = rw c.as_slice.ensures.steps at c.in-Mount.ensures.next in
    c.unmount_case.ensures.free o.mounts o.claims (last_mount o (drop c.args.job.now.at c.args.job.now.steps) c.in-Mount.entry.now (drop c.in-Mount.at c.args.job.now.steps) (is o refl refl))

pub returns-in-Step-clause-room : goal.returns-in-Step-clause-room
returns-in-Step-clause-room c = λ h.
    let o : Objects = record { processes = []; mounts = c.args.mounts.now.list; claims = c.args.claims.now.claims; devices = []; ids = [] } in
    let is = rw c.as_slice.ensures.steps at c.in-Step.ensures.next in
    c.step_case.ensures.room (next_of_halt o (drop c.args.job.now.at c.args.job.now.steps) c.in-Step.planned.now (drop c.in-Step.next c.args.job.now.steps) h (is o refl refl))

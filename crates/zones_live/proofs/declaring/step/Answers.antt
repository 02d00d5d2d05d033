use Rattle.std.proofs.Common.{refl}
use Rattle.zone_cases.specs.declared.events.Event.TheVariants.{System}
use Rattle.session_runs.proofs.Machine_steps.{step-takes}
use Rattle.zones_live.proofs.Declares.{keeps-declared}
use Rattle.zones_live.proofs.declaring.step.Goals as goal

pub returns-in-Ok-clause-takes : goal.returns-in-Ok-clause-takes
returns-in-Ok-clause-takes g c = λ S stands.
    let e = c.in-Ok.ensures in step-takes g.D.Disk.view S (System c.args.what) c.in-Ok.entry c.args.machine.now c.step.new.self refl stands e.ok e.goes e.bodies e.ready e.passes

pub returns-in-Ok-clause-kept : goal.returns-in-Ok-clause-kept
returns-in-Ok-clause-kept g c = λ S stands keeps. keeps-declared S c.args.machine.now c.args.what _ _ c.in-Ok.ensures.goes stands keeps

pub returns-in-Err-DiskFault-clause-kept : goal.returns-in-Err-DiskFault-clause-kept
returns-in-Err-DiskFault-clause-kept g c = λ S stands keeps. keeps-declared S c.args.machine.now c.args.what _ _ c.in-Err-DiskFault.ensures.goes stands keeps

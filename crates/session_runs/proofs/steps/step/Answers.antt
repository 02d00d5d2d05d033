use Rattle.session_runs.proofs.Machine_steps.{disk-left, err-all, halts-none, memory-left, step-halted, step-only, step-took}
use Rattle.session_runs.proofs.steps.step.Goals as goal

pub returns-in_err-reserve-clause-halts : goal.returns-in_err-reserve-clause-halts
returns-in_err-reserve-clause-halts g c = err-all c.from_residual.result _ (λ fault S stands. halts-none g.D.Disk.view S c.args.machine.now fault stands (g.met.D.Disk.sound c.args.machine.now.bank.disk) c.requires.ready)

pub returns-clause-takes : goal.returns-clause-takes
returns-clause-takes g c =
    let e = c.step.ensures in step-took g.D.Disk.view c.args.event c.step.result c.args.machine.now c.step.new.self c.requires.stays e.goes e.passes e.ok e.bodies e.ready

pub returns-clause-halts : goal.returns-clause-halts
returns-clause-halts g c =
    let e = c.step.ensures in
    step-halted g.D.Disk.view c.args.event c.step.result c.args.machine.now c.step.new.self c.requires.stays e.goes e.passes (g.met.D.Disk.sound c.step.new.self.bank.disk) e.memory e.err e.left

pub returns-clause-only : goal.returns-clause-only
returns-clause-only g c = step-only c.args.event c.step.result (g.D.Disk.view c.args.machine.now.bank.disk) c.requires.stays c.step.ensures.err

pub returns-clause-memory : goal.returns-clause-memory
returns-clause-memory g c = memory-left c.args.event c.step.result c.args.machine.now.bank c.step.new.self.bank _ _ c.step.new.self.parts.shared c.requires.stays c.step.ensures.left

pub returns-clause-disk : goal.returns-clause-disk
returns-clause-disk g c = disk-left c.args.event c.step.result c.args.machine.now.bank c.step.new.self.bank _ _ c.step.new.self.parts.shared c.requires.stays c.step.ensures.left

use Rattle.std.proofs.Common.{sym, ◌∙◌}
use Rattle.zone_machine.proofs.Restarting.{restart-unfit}
use Rattle.zone_machine.proofs.Stepping.{refused-unfit}
use Rattle.zone_machine.proofs.machine.Machine.step_given.Goals as goal

pub returns-clause-unfit : goal.returns-clause-unfit
returns-clause-unfit g c = refused-unfit c.args.self.now.parts c.step.new.self c.args.event c.args.grant c.step.result _ _ _ _ _ c.step.ensures.ok c.step.ensures.fault c.step.ensures.left

pub returns-then-is_restart-clause-unfit : goal.returns-then-is_restart-clause-unfit
returns-then-is_restart-clause-unfit g c =
    restart-unfit c.step_restart.result c.args.self.now.parts c.step_restart.new.self.parts c.args.event c.args.grant c.args.self.now.bank c.step_restart.new.self.bank
    (g.D.Disk.view c.args.self.now.bank.disk) (g.D.Disk.view c.step_restart.new.self.bank.disk) c.step_restart.new.self.parts.shared (sym c.is_restart.ensures ∙ c.if-is_restart.true) c.step_restart.ensures.fits c.step_restart.ensures.fault c.step_restart.ensures.left

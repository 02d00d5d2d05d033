use Rattle.std.proofs.Common.{rules}
use Rattle.zone_machine.proofs.Restarting.{fits-restart, goes-restart, keeps-restart, lost-restart, misfit-restart, restarts}
use Rattle.zone_machine.proofs.machine.Machine.restart_under.Goals as goal

pub returns-in_err-grant-clause-fault : goal.returns-in_err-grant-clause-fault
returns-in_err-grant-clause-fault g c = misfit-restart c.args.stated c.args.self.now.parts c.from_residual.result (search rules) c.in_err-grant.ensures.misfit.1

pub returns-in-Ok-clause-ok : goal.returns-in-Ok-clause-ok
returns-in-Ok-clause-ok g c = restarts g.D.Disk.view c.args.stated c.args.self.now c.restart.new.self c.in-Ok.ensures.stands c.in_ok-grant.grant c.in_ok-grant.ensures.takes

pub returns-in-Ok-clause-bodies : goal.returns-in-Ok-clause-bodies
returns-in-Ok-clause-bodies g c = keeps-restart g.D.Disk.view c.args.stated c.args.self.now c.restart.new.self c.in-Ok.ensures.stands

pub returns-in-Ok-clause-goes : goal.returns-in-Ok-clause-goes
returns-in-Ok-clause-goes g c = goes-restart g.D.Disk.view c.args.stated c.args.self.now c.restart.new.self (g.met.D.Disk.sound c.restart.new.self.bank.disk) c.requires.ready c.restart.ensures.any_moment

pub returns-in-Err-Memory-clause-goes : goal.returns-in-Err-Memory-clause-goes
returns-in-Err-Memory-clause-goes g c = goes-restart g.D.Disk.view c.args.stated c.args.self.now c.restart.new.self (g.met.D.Disk.sound c.restart.new.self.bank.disk) c.requires.ready c.restart.ensures.any_moment

pub returns-in-Err-Memory-clause-fault : goal.returns-in-Err-Memory-clause-fault
returns-in-Err-Memory-clause-fault g c = (c.in-Err-Memory.ensures.same, fits-restart g.D.Disk.view c.args.stated c.args.self.now c.restart.new.self c.in_ok-grant.grant c.in_ok-grant.ensures.takes)

pub returns-in-Err-DiskFault-clause-goes : goal.returns-in-Err-DiskFault-clause-goes
returns-in-Err-DiskFault-clause-goes g c = goes-restart g.D.Disk.view c.args.stated c.args.self.now c.restart.new.self (g.met.D.Disk.sound c.restart.new.self.bank.disk) c.requires.ready c.restart.ensures.any_moment

pub returns-in-Err-DiskFault-clause-fault : goal.returns-in-Err-DiskFault-clause-fault
returns-in-Err-DiskFault-clause-fault g c = (c.in-Err-DiskFault.ensures.same, fits-restart g.D.Disk.view c.args.stated c.args.self.now c.restart.new.self c.in_ok-grant.grant c.in_ok-grant.ensures.takes)

pub returns-in-Err-clause-goes : goal.returns-in-Err-clause-goes
returns-in-Err-clause-goes g c = goes-restart g.D.Disk.view c.args.stated c.args.self.now c.restart.new.self (g.met.D.Disk.sound c.restart.new.self.bank.disk) c.requires.ready c.restart.ensures.any_moment

pub returns-in-Err-clause-fault : goal.returns-in-Err-clause-fault
returns-in-Err-clause-fault g c = (c.in-Err.ensures.same, fits-restart g.D.Disk.view c.args.stated c.args.self.now c.restart.new.self c.in_ok-grant.grant c.in_ok-grant.ensures.takes)

pub returns-in-Err-clause-left : goal.returns-in-Err-clause-left
returns-in-Err-clause-left g c = (lost-restart c.in-Err.fault (g.D.Disk.view c.args.self.now.bank.disk) c.in-Err.ensures.refuses (search rules) (search rules), search rules)

pub returns-in-Ok-clause-fits : goal.returns-in-Ok-clause-fits
returns-in-Ok-clause-fits g c = fits-restart g.D.Disk.view c.args.stated c.args.self.now c.restart.new.self c.in_ok-grant.grant c.in_ok-grant.ensures.takes

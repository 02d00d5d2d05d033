use Rattle.daemon_threads.proofs.sessions.unbegun.Goals as goal

pub returns-clause-sound : goal.returns-clause-sound
returns-clause-sound g c = g.met.D.Disk.sound c.args.machine.bank.disk

use Rattle.daemon_threads.proofs.sessions.disk_is_sound.Goals as goal

pub returns : goal.returns
returns g c = g.met.D.Disk.sound c.args._bank.now.disk

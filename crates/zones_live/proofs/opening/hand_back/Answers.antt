use Rattle.zones_live.proofs.Declares.{keeps-ready}
use Rattle.zones_live.proofs.opening.hand_back.Goals as goal

pub returns-clause-kept : goal.returns-clause-kept
returns-clause-kept g c = λ S stands keeps. let m = c.args.machine in keeps-ready S m (g.D.Disk.view m.bank.disk) (g.met.D.Disk.sound m.bank.disk) stands c.requires keeps

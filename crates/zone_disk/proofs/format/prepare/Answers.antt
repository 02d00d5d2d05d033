use Rattle.zone_disk.proofs.Formatting.{all_same, leaves_no_more}
use Rattle.zone_disk.proofs.format.prepare.Goals as goal

pub returns-clause-any_moment : goal.returns-clause-any_moment
returns-clause-any_moment g c keeps =
    let old = g.D.Disk.view c.args.disk.now in
    let mid = g.D.Disk.view c.sync.new.self in
    let sound = g.met.D.Disk.sound c.args.disk.now in
    let first = leaves_no_more old mid _ sound c.sync.ensures.crash c.sync.ensures.goes_on in
    all_same old mid _ keeps (sound.reads_now keeps) (c.sync.ensures.same keeps) first (c.format.ensures.any_moment (c.sync.ensures.goes_on.model.0 keeps) c.in_ok-sync.ensures.durable)

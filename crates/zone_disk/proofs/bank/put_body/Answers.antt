use Rattle.zone_disk.proofs.Append.{first, both, settled_if}
use Rattle.zone_disk.proofs.bank.put_body.Goals as goal

pub returns-in_err-put_durably-clause-any_moment : goal.returns-in_err-put_durably-clause-any_moment
returns-in_err-put_durably-clause-any_moment g c keeps bodies is counted = first (g.D.Disk.view c.args.disk.now) bodies c.args.used is counted c.args.body.now _ _ _ c.put_durably.ensures

pub returns-clause-any_moment : goal.returns-clause-any_moment
returns-clause-any_moment g c keeps bodies is counted =
    both (g.D.Disk.view c.args.disk.now) bodies c.args.used is counted c.args.body.now c.requires keeps (g.D.Disk.view c.put_durably.new.disk) c.framed.result.now c.framed.ensures _ (rw c.in_ok-put_durably.was at c.put_durably.ensures) _ _ c.put_durably-2.ensures

pub returns-clause-settled : goal.returns-clause-settled
returns-clause-settled g c keeps bodies is counted =
    settled_if (g.D.Disk.view c.args.disk.now) bodies c.args.used is counted c.args.body.now c.requires keeps (g.D.Disk.view c.put_durably.new.disk) c.framed.result.now c.framed.ensures _ (rw c.in_ok-put_durably.was at c.put_durably.ensures) _ _ c.put_durably-2.ensures

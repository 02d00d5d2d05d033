use Rattle.zone_disk.proofs.Formatting.{after_tail, after_head, header_done}
use Rattle.zone_disk.proofs.format.put_header.Goals as goal

pub returns-in_err-put_durably-clause-any_moment : goal.returns-in_err-put_durably-clause-any_moment
returns-in_err-put_durably-clause-any_moment g c keeps durable h = after_tail _ _ h (c.put_durably.ensures.any_moment durable)

pub returns-clause-any_moment : goal.returns-clause-any_moment
returns-clause-any_moment g c keeps durable h =
    after_head _ _ h (c.put_durably.ensures.any_moment durable) _ (c.in_ok-put_durably.ensures.reads keeps) (c.put_durably-2.ensures.any_moment c.in_ok-put_durably.ensures.durable)

pub returns-clause-done : goal.returns-clause-done
returns-clause-done g c keeps h =
    header_done c.put_durably-2.result (g.D.Disk.view c.args.disk.now).reads (g.D.Disk.view c.put_durably.new.disk).reads (g.D.Disk.view c.put_durably-2.new.disk).reads h (c.in_ok-put_durably.ensures.reads keeps) (c.put_durably-2.ensures.reads (c.put_durably.ensures.model.0 keeps))

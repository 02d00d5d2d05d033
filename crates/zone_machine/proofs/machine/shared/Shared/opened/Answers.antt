use Rattle.zone_machine.proofs.machine.shared.Shared.opened.Goals as goal

pub returns-clause-stands : goal.returns-clause-stands
returns-clause-stands c = λ R rows serial used i.
    record (c.new.ensures.stands i) { rows = rows i; serial = serial i; used = used i }

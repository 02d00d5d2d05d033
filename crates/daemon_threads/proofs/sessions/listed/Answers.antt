use Rattle.std.proofs.Common.{ap, map}
use Rattle.daemon_threads.proofs.Gathered.{stand-apart}
use Rattle.daemon_threads.specs.Gathering.{back_cell, put_all}
use Rattle.daemon_threads.proofs.sessions.listed.Goals as goal

pub returns-clause-stands : goal.returns-clause-stands
returns-clause-stands g c = λ S together.
    let l = c.args.lived in
    (c.whole-machine.ensures.stands S).0
    (stand-apart S _ (put_all (map back_cell l.cells.items)) l.shared.shared l.shared.bank.records c.gathered_back.ensures c.into_parts-shared.ensures.shared (ap (λ b. b.records) c.into_parts-shared.ensures.bank) together)

use Rattle.std.proofs.Common.{[], ap, refl}
use Rattle.daemon_threads.proofs.Gathered.{stand-apart}
use Rattle.daemon_threads.proofs.Beginning.{stands-none}
use Rattle.daemon_threads.specs.Gathering.{put_all}
use Rattle.daemon_threads.proofs.sessions.unlisted.Goals as goal

pub returns-clause-stands : goal.returns-clause-stands
returns-clause-stands g c = λ S together.
    let k = c.args.kept in
    let apart = stand-apart S (record { cells = c.gathered.result; shared = c.into_parts-shared.result.0; bank = c.into_parts-shared.result.1; brands = c.args.brands }) (put_all k.1.items) k.0.shared k.0.bank.records c.gathered.ensures c.into_parts-shared.ensures.shared (ap (λ b. b.records) c.into_parts-shared.ensures.bank) together in
    stands-none S c.whole-machine.result c.unbegun.result.machine [] refl c.unbegun.ensures.machine ((c.whole-machine.ensures.stands S).0 apart)

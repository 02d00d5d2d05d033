use Rattle.std.proofs.Common.{◌≡◌, length, ap, arith}
use Rattle.commit_journal.proofs.Lengths.{padded-length}
use Rattle.commit_journal.proofs.reading.revision_of.Goals as goal

pub returns-else-digits-eq10 : goal.returns-else-digits-eq10
returns-else-digits-eq10 c = λ n small has is.
    let ten : length c.args.digits.now ≡ 10 = omega (arith, ap length is, padded-length 10 n) in
    absurd (omega (arith, ten))

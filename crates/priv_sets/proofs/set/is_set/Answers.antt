use Rattle.std.proofs.Common.{◌≤◌, ◌∙◌, arith, sym}
use Rattle.std.proofs.lemmas.Bool.{le-ltb}
use Rattle.priv_sets.proofs.Bits.{has-bits, has-past}
use Rattle.priv_sets.proofs.set.is_set.Goals as goal

pub returns-then-number-lt-COUNT : goal.returns-then-number-lt-COUNT
returns-then-number-lt-COUNT c = has-bits c.args.bits c.args.number (omega arith)

pub returns-else-number-lt-COUNT : goal.returns-else-number-lt-COUNT
returns-else-number-lt-COUNT c =
    let past : 40 ≤ c.args.number = omega arith in
    le-ltb c.args.number 40 past ∙ sym (has-past c.args.bits c.args.number past)

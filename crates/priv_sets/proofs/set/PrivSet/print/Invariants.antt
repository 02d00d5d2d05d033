use Rattle.std.proofs.Common.{◌≡◌}
use Rattle.priv_sets.specs.Sets.{set_of_bits}
use Rattle.priv_sets.proofs.Printed.{printed}
use Rattle.priv_sets.proofs.set.PrivSet.print.Given as goal

-- the text has the names of those below the number
abbrev pub invariant-loop-number : goal.invariant-loop-number
invariant-loop-number l = l.text.items ≡ printed (set_of_bits l.bits) l.number

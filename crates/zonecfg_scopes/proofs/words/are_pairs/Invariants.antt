use Rattle.std.proofs.Common.{◌≡◌, length}
use Rattle.zonecfg_scopes.specs.Words.{are_pairs}
use Rattle.zonecfg_scopes.proofs.words.are_pairs.Given as goal

abbrev pub invariant-loop-rest : goal.invariant-loop-rest
invariant-loop-rest l = are_pairs l.rest ≡ are_pairs l.tokens

abbrev pub decreases-loop-rest : goal.decreases-loop-rest
decreases-loop-rest l = length l.rest

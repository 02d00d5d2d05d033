use Rattle.std.proofs.Common.{◌≡◌, drop}
use Rattle.zonecfg_scopes.specs.Words.{first_value_missed}
use Rattle.zonecfg_scopes.proofs.words.first_value_missed.Given as goal

abbrev pub invariant-loop-at : goal.invariant-loop-at
invariant-loop-at l = first_value_missed l.end (drop l.at l.tokens) ≡ first_value_missed l.end l.tokens

use Rattle.std.proofs.Common.{take}
use Rattle.zn_base.specs.Runs.{IsBehindCloses}
use Rattle.zn_base.proofs.pattern.behind_closes.Given as goal

abbrev pub invariant-loop-place : goal.invariant-loop-place
invariant-loop-place l = IsBehindCloses l.behind (take l.place l.pattern)

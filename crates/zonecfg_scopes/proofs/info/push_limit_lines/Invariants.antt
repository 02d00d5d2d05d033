use Rattle.std.proofs.Common.{◌≡◌, ◌++◌, map, take}
use Rattle.zonecfg_scopes.specs.Info.{limit_line}
use Rattle.zonecfg_scopes.proofs.info.push_limit_lines.Given as goal

abbrev pub invariant-loop-value : goal.invariant-loop-value
invariant-loop-value l = l.out ≡ l.fn.out ++ map limit_line (take l.value-index l.values)

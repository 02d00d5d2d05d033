use Rattle.std.proofs.Common.{◌≡◌, ◌++◌, take}
use Rattle.std.specs.List.{flat_map}
use Rattle.zonecfg_scopes.specs.Info.{kind_lines}
use Rattle.zonecfg_scopes.proofs.info.push_kind_lines.Given as goal

abbrev pub invariant-loop-kind : goal.invariant-loop-kind
invariant-loop-kind l = l.out ≡ l.fn.out ++ flat_map (kind_lines l.contents) (take l.kind-index l.kinds)

use Rattle.std.proofs.Common.{◌≡◌, ◌++◌, take}
use Rattle.std.specs.List.{flat_map}
use Rattle.zone_config.specs.Export.{kind_text}
use Rattle.zone_config.proofs.printing.push_kinds.Given as goal

abbrev pub invariant-loop-kind : goal.invariant-loop-kind
invariant-loop-kind l = l.out.items ≡ l.fn.out.items ++ flat_map (kind_text l.contents) (take l.kind-index l.kinds)

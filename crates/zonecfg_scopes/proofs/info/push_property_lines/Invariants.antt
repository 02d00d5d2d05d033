use Rattle.std.proofs.Common.{◌≡◌, ◌++◌, map, take}
use Rattle.zonecfg_scopes.specs.Info.{property_line}
use Rattle.zonecfg_scopes.proofs.info.push_property_lines.Given as goal

abbrev pub invariant-loop-property : goal.invariant-loop-property
invariant-loop-property l = l.out ≡ l.fn.out ++ map (property_line l.contents) (take l.property-index l.properties)

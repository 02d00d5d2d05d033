use Rattle.std.proofs.Common.{◌≡◌, ◌++◌, take}
use Rattle.std.specs.List.{flat_map}
use Rattle.zone_config.specs.Export.{property_line}
use Rattle.zone_config.proofs.printing.push_lines.Given as goal

abbrev pub invariant-loop-property : goal.invariant-loop-property
invariant-loop-property l = l.out.items ≡ l.fn.out.items ++ flat_map (property_line l.contents) (take l.property-index l.properties)

use Rattle.std.proofs.Common.{◌≡◌, take}
use Rattle.std.specs.List.{filter_map}
use Rattle.zoneadmd_steps.specs.Configs.{in_order}
use Rattle.zoneadmd_steps.proofs.plans.in_order.Given as goal

abbrev pub invariant-loop-file_system : goal.invariant-loop-file_system
invariant-loop-file_system l = l.dirs.items ≡ in_order (filter_map (λ f. f.dir) (take l.file_system-index l.fs))

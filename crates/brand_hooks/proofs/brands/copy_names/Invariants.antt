use Rattle.std.proofs.Common.{◌≡◌, take}
use Rattle.brand_hooks.specs.Brands.{names_of}
use Rattle.brand_hooks.proofs.brands.copy_names.Given as goal

abbrev pub invariant-loop-brand : goal.invariant-loop-brand
invariant-loop-brand g l = l.names.items ≡ names_of (take l.brand-index l.list)

use Rattle.std.proofs.Common.{◌≡◌, take}
use Rattle.brand_hooks.specs.Brands.{tables_of}
use Rattle.brand_hooks.proofs.brands.copy_tables.Given as goal

abbrev pub invariant-loop-brand : goal.invariant-loop-brand
invariant-loop-brand g l = l.tables.items ≡ tables_of (take l.brand-index l.list)

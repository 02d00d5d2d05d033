use Rattle.std.proofs.Common.{◌≡◌, drop}
use Rattle.std.specs.List.{flat_map}
use Rattle.config_verify.specs.Flaws.{first, flaws_of_attr}
use Rattle.config_verify.proofs.resources.flaw_of_attrs.Given as goal

-- those before the place have no flaw
abbrev pub invariant-loop-attr : goal.invariant-loop-attr
invariant-loop-attr l = first (flat_map flaws_of_attr l.all) ≡ first (flat_map flaws_of_attr (drop l.attr-index l.all))

use Rattle.std.proofs.Common.{◌≡◌, drop}
use Rattle.std.specs.List.{flat_map}
use Rattle.config_verify.specs.Flaws.{first, flaws_of_rctl}
use Rattle.config_verify.proofs.resources.flaw_of_rctls.Given as goal

-- those before the place have no flaw
abbrev pub invariant-loop-rctl : goal.invariant-loop-rctl
invariant-loop-rctl l = first (flat_map flaws_of_rctl l.all) ≡ first (flat_map flaws_of_rctl (drop l.rctl-index l.all))

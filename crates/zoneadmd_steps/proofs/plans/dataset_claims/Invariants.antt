use Rattle.std.proofs.Common.{◌≡◌, map, take}
use Rattle.zoneadmd_steps.specs.Configs.{dataset_claim}
use Rattle.zoneadmd_steps.specs.declared.requests.Step.TheVariants.{Claimed}
use Rattle.zoneadmd_steps.proofs.plans.dataset_claims.Given as goal

abbrev pub invariant-loop-name : goal.invariant-loop-name
invariant-loop-name l = l.steps.items ≡ map Claimed (map dataset_claim (take l.name-index l.names))

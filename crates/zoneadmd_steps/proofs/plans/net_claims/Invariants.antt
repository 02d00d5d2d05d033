use Rattle.std.proofs.Common.{◌≡◌, map, take}
use Rattle.zoneadmd_steps.specs.Configs.{net_claim}
use Rattle.zoneadmd_steps.specs.declared.requests.Step.TheVariants.{Claimed}
use Rattle.zoneadmd_steps.proofs.plans.net_claims.Given as goal

abbrev pub invariant-loop-net : goal.invariant-loop-net
invariant-loop-net l = l.steps.items ≡ map Claimed (map (net_claim l.ip) (take l.net-index l.nets))

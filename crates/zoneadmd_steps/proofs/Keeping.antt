-- What a request keeps for its steps.
use Rattle.std.proofs.Common.{◌≡◌, false, refl}
use Rattle.std.proofs.lemmas.Bool.{true≢false}
use Rattle.zone_config.specs.declared.terms.Contents.{Contents}
use Rattle.zoneadmd_steps.specs.Halts.{is_halt}
use Rattle.zoneadmd_steps.specs.Plans.{kept_of}
use Rattle.zoneadmd_steps.specs.declared.requests.Request.{Request}
use Rattle.zoneadmd_steps.specs.declared.requests.Request.TheVariants as request

-- the configuration, where it is no halt
pub others_keep : (r : Request) (c : Contents) → is_halt r ≡ false → kept_of r c ≡ c
others_keep request.Halt c h = absurd (true≢false h)
others_keep _ c h = refl

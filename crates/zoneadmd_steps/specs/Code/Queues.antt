-- What a request that waits has ready.
use Rattle.std.specs.Prelude.{List, []}
use Rattle.zoneadmd_steps.specs.Plans.{halt_part}
use Rattle.zoneadmd_steps.specs.declared.requests.Request.{Request}
use Rattle.zoneadmd_steps.specs.declared.requests.Request.TheVariants as request
use Rattle.zoneadmd_steps.specs.declared.requests.Step.{Step}

-- the plan of a halt, and of no other request
abbrev pub room_of : Request → List Step
room_of request.Halt = halt_part
room_of _ = []

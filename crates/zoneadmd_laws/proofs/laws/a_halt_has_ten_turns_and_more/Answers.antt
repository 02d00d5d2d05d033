use Rattle.zoneadmd_laws.proofs.Trailing.{halt_counted, trail}
use Rattle.zoneadmd_steps.specs.declared.requests.Request.TheVariants as request
use Rattle.zoneadmd_laws.proofs.laws.a_halt_has_ten_turns_and_more.Goals as goal

pub returns : goal.returns
returns c = λ t row m ms run free well.
    let x = trail t request.Halt row m ms run in (x.dirs, x.claims, x.killed, halt_counted t row m ms run free well)

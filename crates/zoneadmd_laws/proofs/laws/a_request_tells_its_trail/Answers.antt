use Rattle.zoneadmd_laws.proofs.Trailing.{trail}
use Rattle.zoneadmd_laws.proofs.laws.a_request_tells_its_trail.Goals as goal

pub returns : goal.returns
returns c = λ t r row m ms run. trail t r row m ms run

use Rattle.process_calls.proofs.Again.{call_again}
use Rattle.process_calls.proofs.laws.calls_are_read_back.Goals as goal

pub returns : goal.returns
returns c = call_again

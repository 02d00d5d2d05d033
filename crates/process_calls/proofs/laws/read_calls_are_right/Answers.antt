use Rattle.process_calls.proofs.Spelled.{call_is_written}
use Rattle.process_calls.proofs.laws.read_calls_are_right.Goals as goal

pub returns-clause-right : goal.returns-clause-right
returns-clause-right c = λ text call read. (call_is_written text call read).right

pub returns-clause-text : goal.returns-clause-text
returns-clause-text c = λ text call read. (call_is_written text call read).text_is

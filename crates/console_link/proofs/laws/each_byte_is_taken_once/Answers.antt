use Rattle.console_link.proofs.Kept.{taken_once}
use Rattle.console_link.proofs.laws.each_byte_is_taken_once.Goals as goal

pub returns : goal.returns
returns c = taken_once

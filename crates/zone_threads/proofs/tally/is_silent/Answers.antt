use Rattle.std.proofs.lemmas.Bool.{not-true}
use Rattle.zone_threads.proofs.Silence.{unanswered}
use Rattle.zone_threads.proofs.tally.is_silent.Goals as goal

pub returns-then-told-eq0 : goal.returns-then-told-eq0
returns-then-told-eq0 c = λ is. unanswered c.args.told c.if-told-eq0.true (c.may_answer.ensures (not-true c.may_answer.result is))

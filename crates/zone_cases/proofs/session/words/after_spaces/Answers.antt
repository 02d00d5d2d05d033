use Rattle.std.proofs.Common.{refl, sym}
use Rattle.std.proofs.lemmas.List.{take_rest}
use Rattle.zone_cases.proofs.Words.{begins_at}
use Rattle.zone_cases.proofs.session.words.after_spaces.Goals as goal

pub returns-clause-begins : goal.returns-clause-begins
returns-clause-begins c = rw take_rest (begins_at c.args.text.now c.in_ok-start.start (sym c.in_ok-start.ensures))

pub returns-clause-text : goal.returns-clause-text
returns-clause-text c = rw take_rest (rw (sym c.in_ok-start.ensures) refl)

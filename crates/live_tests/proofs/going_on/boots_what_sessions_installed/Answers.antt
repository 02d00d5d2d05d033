use Rattle.std.proofs.Common.{◌≡◌, ◌∙◌, rules, sym, true}
use Rattle.live_tests.proofs.going_on.boots_what_sessions_installed.Goals as goal

-- the machine may go on, since it is sound
pub step-requires-clause-ready : goal.step-requires-clause-ready
step-requires-clause-ready g c =
    let sound : c.sound.result ≡ true = search rules in
    c.run_sessions-entries.ensures.ready (sym c.sound.ensures ∙ sound)

use Rattle.std.proofs.Common.{◌∙◌, ap, sym}
use Rattle.zone_machine.specs.Machine.Histories.{after}
use Rattle.zone_machine.specs.Machine.{opening}
use Rattle.zone_views.proofs.Purge.{IsPurged-after, IsPurged-opening, away_is_idle, own_session, subjects}
use Rattle.zone_views.proofs.laws.subjects_agree.Goals as goal

pub returns-clause-agree : goal.returns-clause-agree
returns-clause-agree c = λ z S brands commits h e is all w concerned.
    subjects z S (after (opening brands commits) h) e (record { world = w; purged = IsPurged-after z (opening brands commits) h is all (IsPurged-opening z brands commits) }) concerned

pub returns-clause-away : goal.returns-clause-away
returns-clause-away c = λ z S brands commits h n is all w away.
    let own = own_session z (after (opening brands commits) h) n (IsPurged-after z (opening brands commits) h is all (IsPurged-opening z brands commits)) in
    away_is_idle z ((after (opening brands commits) h).sessions n) own (sym (ap (λ w. w.sessions n) w) ∙ away)

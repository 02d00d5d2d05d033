use Rattle.std.proofs.Common.{◌∙◌, ap}
use Rattle.zone_machine.specs.Machine.Histories.{asked, replies, run}
use Rattle.zone_machine.specs.Machine.{opening}
use Rattle.zone_views.proofs.Running_laws.{purged-alike}
use Rattle.zone_views.proofs.purging.run_purged.Goals as goal

pub returns-clause-alike : goal.returns-clause-alike
returns-clause-alike g c = λ keeps permits brands commits others stands is same.
    let z = c.args.zone.now in
    let S = opening brands others in
    let ran = c.in_ok-answered.ensures.ok keeps S stands in
    c.in_ok-replies_of.ensures ∙ (ap (replies z) (c.deref.ensures.value ∙ (ran.entries ∙ ap (λ l. run S (asked l)) c.in_ok-kept.ensures))
    ∙ purged-alike z permits brands commits others c.args.entries.now is same)

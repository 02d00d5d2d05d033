use Rattle.std.proofs.Common.{inr, refl}
use Rattle.zone_machine.specs.Code.Openings.{StandsFor}
use Rattle.zones_run.proofs.Answered.{finds_restart, fits_in, fits_left, is_answered, restart_goes, steps_by}
use Rattle.zones_run.proofs.Fronts.{after_known-nil}
use Rattle.zones_run.proofs.trace.restart.Goals as goal

pub returns-in-Ok-put_told-clause-answered : goal.returns-in-Ok-put_told-clause-answered
returns-in-Ok-put_told-clause-answered g c = λ S stands well.
    let old = c.args.machine.now in
    let new = c.answer.new.self in
    let d = c.args.due.now in
    let v = g.D.Disk.view old.bank.disk in
    let keeps = well c.requires.is (fits_in d.stated old.parts d.event S c.in-Ok.ensures.fits stands.parts) in
    let finds = finds_restart d.event v old.bank.records S c.requires.is keeps stands.bodies in
    let steps = steps_by S d c.in-Ok.answer old new v (g.D.Disk.view new.bank.disk) stands c.in-Ok.ensures.fits (c.in-Ok.ensures.ok S stands.parts finds) c.in-Ok.ensures.goes (c.in-Ok.ensures.bodies S stands.parts stands.bodies finds) c.in-Ok.ensures.ready c.in-Ok.ensures.passes in
    is_answered c.args.mode.now S d c.in-Ok.answer (λ T. StandsFor T new) _ _ c.write_waiting.new.waiting.items c.put_told.new.waiting.items _ (g.K.Sink.holds c.write_waiting.new.out) _ steps
    (rw (c.write_waiting.ensures.none, after_known-nil (g.K.Sink.holds c.write_waiting.new.out)) c.in_default.ensures.all) c.in-Ok-put_told.ensures.text refl

pub returns-in-Err-put_told-clause-stopped : goal.returns-in-Err-put_told-clause-stopped
returns-in-Err-put_told-clause-stopped g c = λ S stands. inr (fits_in _ _ _ S c.in-Ok.ensures.fits stands.parts, restart_goes S c.args.due.now c.requires.is c.args.machine.now _ _ stands c.answer.ensures.goes c.answer.ensures.passes)

pub returns-in-Err-Memory-clause-stopped : goal.returns-in-Err-Memory-clause-stopped
returns-in-Err-Memory-clause-stopped g c = λ S stands. inr (fits_in _ _ _ S (fits_left c.in-Err-Memory.field-0 c.args.due.now.stated c.args.machine.now.parts c.answer.new.self.parts c.args.due.now.event c.requires.is c.in-Err-Memory.field-0-is c.in-Err-Memory.ensures.fault) stands.parts, restart_goes S c.args.due.now c.requires.is c.args.machine.now _ _ stands c.answer.ensures.goes c.answer.ensures.passes)

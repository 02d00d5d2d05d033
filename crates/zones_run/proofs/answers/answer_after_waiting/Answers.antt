use Rattle.std.proofs.Common.{◌≡◌, Ok, Some}
use Rattle.zone_cases.specs.State.{State}
use Rattle.zone_cases.specs.declared.events.Answer.{Answer}
use Rattle.zone_machine.specs.Code.Openings.{StandsFor}
use Rattle.zones_run.specs.declared.fault.Stop.{Stop}
use Rattle.zones_run.proofs.Answered.{finds_other, if_err_fails, if_ok_steps, leaves_other, left_other, stands_on, steps_by, steps_later, stops_later, would_as, would_same}
use Rattle.zones_run.proofs.answers.answer_after_waiting.Goals as goal

pub returns-in-Ok-write_waiting-clause-steps : goal.returns-in-Ok-write_waiting-clause-steps
returns-in-Ok-write_waiting-clause-steps g c =
    let old = c.args.machine.now in
    let mid = c.answer_foreseen.new.self in
    let last = c.answer_recording.new.machine in
    let fault = c.in-Err-WouldRecord in
    let d = c.args.due.now in
    let same : mid.bank ≡ old.bank = (would_same _ fault.field-0 old.bank mid.bank _ _ mid.parts.shared fault.field-0-is (left_other _ d.event fault.field-0 old.bank mid.bank _ _ mid.parts.shared c.requires.stays fault.ensures.left)).0 in
    if_ok_steps c.answer_recording.result _ _
    (λ (answer : Answer) steps (S : State) stands. steps_later g.D.Disk.view S d answer (λ T. StandsFor T last) old.bank mid.bank (g.D.Disk.view last.bank.disk) same
    (steps S (stands_on S old mid (would_as fault.field-0 d.stated old.parts mid.parts d.event fault.field-0-is (leaves_other fault.field-0 d.stated old.parts mid.parts d.event c.requires.stays fault.ensures.fault)) same stands))) c.answer_recording.ensures.steps

pub returns-in-Ok-write_waiting-clause-kept : goal.returns-in-Ok-write_waiting-clause-kept
returns-in-Ok-write_waiting-clause-kept g c =
    let old = c.args.machine.now in
    let mid = c.answer_foreseen.new.self in
    let last = c.answer_recording.new.machine in
    let fault = c.in-Err-WouldRecord in
    let d = c.args.due.now in
    let same : mid.bank ≡ old.bank = (would_same _ fault.field-0 old.bank mid.bank _ _ mid.parts.shared fault.field-0-is (left_other _ d.event fault.field-0 old.bank mid.bank _ _ mid.parts.shared c.requires.stays fault.ensures.left)).0 in
    if_err_fails c.answer_recording.result _ _
    (λ (stop : Stop) stops (S : State) stands. stops_later g.D.Disk.view S (Ok (Some d)) stop old.bank mid.bank last.bank same
    (stops S (stands_on S old mid (would_as fault.field-0 d.stated old.parts mid.parts d.event fault.field-0-is (leaves_other fault.field-0 d.stated old.parts mid.parts d.event c.requires.stays fault.ensures.fault)) same stands))) c.answer_recording.ensures.kept

pub returns-in-Ok-clause-steps : goal.returns-in-Ok-clause-steps
returns-in-Ok-clause-steps g c = λ S stands.
    let old = c.args.machine.now in
    let new = c.answer_foreseen.new.self in
    let d = c.args.due.now in
    let v = g.D.Disk.view old.bank.disk in
    let finds = finds_other d.event v old.bank.records S c.requires.stays in
    steps_by S d c.in-Ok.answer old new v (g.D.Disk.view new.bank.disk) stands c.in-Ok.ensures.fits (c.in-Ok.ensures.ok S stands.parts finds) c.in-Ok.ensures.goes (c.in-Ok.ensures.bodies S stands.parts stands.bodies finds) c.in-Ok.ensures.ready c.in-Ok.ensures.passes

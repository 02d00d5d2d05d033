use Rattle.std.proofs.Common.{ap}
use Rattle.zone_machine.proofs.Acting.{on_ok_always}
use Rattle.zone_machine.proofs.Banking.{keeps-whole}
use Rattle.zone_machine.proofs.Results.{if_err}
use Rattle.zone_machine.proofs.Writing.{left-apart, ready-alike}
use Rattle.zone_machine.specs.Code.Reads.{subject_in}
use Rattle.zone_machine.proofs.machine.parts.Parts.answer.Goals as goal

pub returns-in-System-clause-ready : goal.returns-in-System-clause-ready
returns-in-System-clause-ready g c =
    on_ok_always c.answer_system.result _ (ready-alike (g.D.Disk.view c.args.bank.now.disk) c.args.bank.now c.args.self.now.shared c.answer_system.new.self.shared (ap (λ r. r.entries) c.answer_system.ensures.rows) c.answer_system.ensures.used c.requires.ready)

pub returns-in-System-clause-bodies : goal.returns-in-System-clause-bodies
returns-in-System-clause-bodies g c =
    on_ok_always c.answer_system.result _ (keeps-whole c.args.stated c.args.self.now c.args.event.now c.args.bank.now.records (ap (subject_in c.args.self.now.shared) c.in-System.is))

pub returns-in-System-clause-left : goal.returns-in-System-clause-left
returns-in-System-clause-left g c =
    if_err c.answer_system.result _ _
    (λ fault apart. left-apart c.args.may_record fault (g.D.Disk.view c.args.bank.now.disk) c.args.bank.now c.answer_system.new.self.shared apart
    (ready-alike (g.D.Disk.view c.args.bank.now.disk) c.args.bank.now c.args.self.now.shared c.answer_system.new.self.shared (ap (λ r. r.entries) c.answer_system.ensures.rows) c.answer_system.ensures.used c.requires.ready))
    c.answer_system.ensures.apart

use Rattle.std.proofs.Common.{ap, ◌∙◌}
use Rattle.zone_machine.proofs.Acting.{on_ok_always}
use Rattle.zone_machine.proofs.Banking.{goes-unwritten, keeps-global, keeps-whole}
use Rattle.zone_machine.proofs.Results.{if_err}
use Rattle.zone_machine.proofs.Writing.{left-apart, ready-alike}
use Rattle.zone_machine.proofs.machine.parts.Parts.answer_of.Goals as goal

pub returns-in-Global-clause-ready : goal.returns-in-Global-clause-ready
returns-in-Global-clause-ready g c =
    on_ok_always c.answer_global.result _ (ready-alike (g.D.Disk.view c.args.bank.now.disk) c.args.bank.now c.args.self.now.shared c.answer_global.new.self.shared (ap (λ r. r.entries) c.answer_global.ensures.rows) c.answer_global.ensures.used c.requires.ready)

pub returns-in-Global-clause-goes : goal.returns-in-Global-clause-goes
returns-in-Global-clause-goes g c = goes-unwritten c.args.stated c.args.self.now c.args.event.now c.args.bank.now (g.D.Disk.view c.args.bank.now.disk) (g.met.D.Disk.sound c.args.bank.now.disk) c.requires.ready

pub returns-in-Global-clause-bodies : goal.returns-in-Global-clause-bodies
returns-in-Global-clause-bodies g c = on_ok_always c.answer_global.result _ (keeps-global c.args.stated c.args.self.now c.args.event.now c.args.bank.now.records (c.requires.of ∙ c.in-Global.is))

pub returns-in-Global-clause-left : goal.returns-in-Global-clause-left
returns-in-Global-clause-left g c =
    if_err c.answer_global.result _ _
    (λ fault apart. left-apart c.args.may_record fault (g.D.Disk.view c.args.bank.now.disk) c.args.bank.now c.answer_global.new.self.shared apart
    (ready-alike (g.D.Disk.view c.args.bank.now.disk) c.args.bank.now c.args.self.now.shared c.answer_global.new.self.shared (ap (λ r. r.entries) c.answer_global.ensures.rows) c.answer_global.ensures.used c.requires.ready))
    c.answer_global.ensures.apart

pub returns-in-Whole-clause-ready : goal.returns-in-Whole-clause-ready
returns-in-Whole-clause-ready g c =
    on_ok_always c.answer_whole.result _ (ready-alike (g.D.Disk.view c.args.bank.now.disk) c.args.bank.now c.args.self.now.shared c.answer_whole.new.self.shared (ap (λ r. r.entries) c.answer_whole.ensures.rows) c.answer_whole.ensures.used c.requires.ready)

pub returns-in-Whole-clause-goes : goal.returns-in-Whole-clause-goes
returns-in-Whole-clause-goes g c = goes-unwritten c.args.stated c.args.self.now c.args.event.now c.args.bank.now (g.D.Disk.view c.args.bank.now.disk) (g.met.D.Disk.sound c.args.bank.now.disk) c.requires.ready

pub returns-in-Whole-clause-bodies : goal.returns-in-Whole-clause-bodies
returns-in-Whole-clause-bodies g c = on_ok_always c.answer_whole.result _ (keeps-whole c.args.stated c.args.self.now c.args.event.now c.args.bank.now.records (c.requires.of ∙ c.in-Whole.is))

pub returns-in-Whole-clause-left : goal.returns-in-Whole-clause-left
returns-in-Whole-clause-left g c =
    if_err c.answer_whole.result _ _
    (λ fault apart. left-apart c.args.may_record fault (g.D.Disk.view c.args.bank.now.disk) c.args.bank.now c.answer_whole.new.self.shared apart
    (ready-alike (g.D.Disk.view c.args.bank.now.disk) c.args.bank.now c.args.self.now.shared c.answer_whole.new.self.shared (ap (λ r. r.entries) c.answer_whole.ensures.rows) c.answer_whole.ensures.used c.requires.ready))
    c.answer_whole.ensures.apart

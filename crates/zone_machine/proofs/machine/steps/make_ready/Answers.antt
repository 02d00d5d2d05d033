use Rattle.std.proofs.Common.{◌≡◌, ◌&&◌, ◌∙◌, false, ap, sym}
use Rattle.std.specs.Prelude.{is_some, not}
use Rattle.commit_journal.specs.Zones.{rows_of}
use Rattle.zone_machine.proofs.Storing.{case-stored, store-alone}
use Rattle.zone_machine.proofs.Writing.{and_false, left-written, ready-alike, write-fault, writes-nothing}
use Rattle.zone_cases.specs.Code.Cases.{decision_of}
use Rattle.zone_machine.specs.Code.Records.{stored_by}
use Rattle.zone_cases.specs.State.Decisions.{act_of}
use Rattle.zone_machine.proofs.machine.steps.make_ready.Goals as goal
use Rattle.zone_machine.proofs.machine.steps.make_ready.Goals.{else-not-may_record-via-then-not-may_record+else-stores, else-not-may_record-via-else-not-may_record}

pub returns-in_err-prepare-clause-writes : goal.returns-in_err-prepare-clause-writes
returns-in_err-prepare-clause-writes g c =
    writes-nothing c.args.zone.now (stored_by c.args.case.now c.args.grant) c.args.bank.now.records (rows_of c.args.shared.now.rows.entries) (g.D.Disk.view c.args.bank.now.disk) (g.met.D.Disk.sound c.args.bank.now.disk)
    c.requires.ready.zones c.requires.ready.settled

pub returns-clause-left : goal.returns-clause-left
returns-clause-left g c =
    let stored = stored_by c.args.case.now c.args.grant in
    let test : (not c.args.may_record && is_some stored) ≡ false = elim c.else-not-may_record.branch [
      | else-not-may_record-via-then-not-may_record+else-stores w ↦ and_false (not c.args.may_record) (is_some stored) (sym w.stores.ensures ∙ w.if-stores.false)
      | else-not-may_record-via-else-not-may_record w ↦ ap (λ b. not b && is_some stored) w.if-not-may_record.false
    ] in
    left-written g.D.Disk.view c.args.bank.now c.write.new.bank c.prepare.new.shared c.args.may_record stored c.write.result test c.write.ensures.none c.write.ensures.memory
    (ready-alike (g.D.Disk.view c.args.bank.now.disk) c.args.bank.now c.args.shared.now c.prepare.new.shared c.in_ok-prepare.ensures.rows c.in_ok-prepare.ensures.used c.requires.ready) c.write.ensures.fault c.write.ensures.unsound c.write.ensures.only

pub returns-clause-fault : goal.returns-clause-fault
returns-clause-fault g c =
    let d = c.args.cell.now.desk in let case = c.args.case.now in let stored = stored_by case c.args.grant in
    write-fault c.args.zone.now stored c.args.cell.now c.prepare.new.cell c.args.shared.now c.prepare.new.shared c.write.result c.write.ensures.only c.write.ensures.none
    (λ some. c.in_ok-prepare.ensures.alike (store-alone (act_of (decision_of d case) c.args.grant).came stored (case-stored d case c.args.grant c.requires.of c.requires.numbered) some))

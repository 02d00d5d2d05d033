use Rattle.std.proofs.Common.{refl}
use Rattle.session_runs.specs.Far.{scripts_of}
use Rattle.zone_machine.specs.Code.Openings.{StandsFor}
use Rattle.zone_machine.specs.Machine.{opening}
use Rattle.zone_machine.specs.Machine.Histories.{after}
use Rattle.zones_live.proofs.Lives.{runs-of}
use Rattle.zones_live.proofs.run.run_declared.Goals as goal

pub returns-clause-runs : goal.returns-clause-runs
returns-clause-runs g c = λ brands R what d.
    let view = g.D.Disk.view in
    let ran = c.run_sessions-entries in
    let told = c.tell_live-status in
    let e = told.ensures in
    let S = after (opening brands R) d.first in
    rw c.into_disk.ensures (runs-of brands R what (scripts_of c.args.scripts.items) told.result (g.K.Sink.holds c.args.out.now) (g.K.Sink.holds told.new.out) (g.E.Sink.holds c.args.err.now) (g.E.Sink.holds told.new.err) (g.E.Sink.faults c.args.err.now) (g.E.Sink.faults told.new.err) c.args.declared.items ran.result.entries ran.result.ended (λ T. StandsFor T c.args.machine) (view c.args.machine.bank.disk) (view ran.result.machine.bank.disk) d
    (ran.ensures.lives S (record { brands = brands; commits = R; past = d.first; there = refl }) d.stood) ran.ensures.only e.statuses e.whole e.text e.line e.front e.disk e.settled)

pub returns-clause-faults : goal.returns-clause-faults
returns-clause-faults g c =
    let e = c.tell_live-status.ensures in rw c.into_disk.ensures (record { write = e.write_fault; disk = λ is. c.run_sessions-entries.ensures.disk (e.disk is); disk_line = e.disk_line; memory_line = e.memory })

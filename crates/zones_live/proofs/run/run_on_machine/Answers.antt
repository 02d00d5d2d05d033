use Rattle.std.proofs.Common.{Err, List, ap, refl, subst}
use Rattle.session_runs.specs.Far.{scripts_of}
use Rattle.zone_cases.specs.declared.events.Entry.{Entry}
use Rattle.zone_machine.specs.Code.Openings.{StandsFor}
use Rattle.zone_machine.specs.Machine.{opening}
use Rattle.zones_live.specs.Declaring.{Declared}
use Rattle.zones_live.proofs.Lives.{faults-failed, faults-later, runs-later, runs-nothing, status-either}
use Rattle.zones_live.proofs.run.run_on_machine.Goals as goal

pub returns-in-Ok-clause-runs : goal.returns-in-Ok-clause-runs
returns-in-Ok-clause-runs g c = λ brands R stands.
    let view = g.D.Disk.view in
    let e = c.in-Ok.ensures in
    let S = opening brands R in
    let what = c.args.sorted.declared.items in
    let m = c.declare.new.machine in
    let declared = subst (λ (old : List Entry). Declared S what old c.declare.new.entries.items (λ T. StandsFor T m)) c.new-entries.ensures.items (e.declared S stands) in
    runs-later brands R (view c.args.machine.bank.disk) (view m.bank.disk) (view c.run_declared.result.1) e.passes.model.0 (λ is. e.kept S stands is.keeps) c.run_declared.result.0 (g.K.Sink.holds c.args.out.now) (g.K.Sink.holds c.run_declared.new.out) (g.E.Sink.holds c.args.err.now) (g.E.Sink.holds c.run_declared.new.err) (g.E.Sink.faults c.args.err.now) (g.E.Sink.faults c.run_declared.new.err) what (scripts_of c.args.sorted.scripts.items)
    (c.run_declared.ensures.runs brands R what declared)

pub returns-in-Err-clause-runs : goal.returns-in-Err-clause-runs
returns-in-Err-clause-runs g c = λ brands R stands.
    let view = g.D.Disk.view in
    let e = c.in-Err.ensures in
    let S = opening brands R in
    rw c.into_disk.ensures (runs-nothing brands R c.args.sorted.declared.items (scripts_of c.args.sorted.scripts.items) c.fail.result (g.K.Sink.holds c.args.out.now) (g.K.Sink.holds c.args.out.now) (g.E.Sink.holds c.args.err.now) (g.E.Sink.holds c.fail.new.err) (g.E.Sink.faults c.args.err.now) (g.E.Sink.faults c.fail.new.err) (view c.args.machine.bank.disk) (view c.declare.new.machine.bank.disk) refl
    (status-either c.in-Err.fault c.fail.result e.only c.fail.ensures.status) e.passes.model.0 (λ is. e.kept S stands is.keeps))

pub returns-in-Ok-clause-faults : goal.returns-in-Ok-clause-faults
returns-in-Ok-clause-faults g c =
    let view = g.D.Disk.view in
    faults-later c.run_declared.result.0 (g.K.Sink.faults c.args.out.now) (g.K.Sink.faults c.run_declared.new.out) (g.E.Sink.holds c.args.err.now) (g.E.Sink.holds c.run_declared.new.err) (g.E.Sink.faults c.args.err.now) (g.E.Sink.faults c.run_declared.new.err) (view c.args.machine.bank.disk) (view c.declare.new.machine.bank.disk) (view c.run_declared.result.1) c.in-Ok.ensures.passes.faults c.run_declared.ensures.faults

pub returns-in-Err-clause-faults : goal.returns-in-Err-clause-faults
returns-in-Err-clause-faults g c =
    let view = g.D.Disk.view in
    let e = c.in-Err.ensures in
    let f = c.fail.ensures in
    rw c.into_disk.ensures (faults-failed c.fail.result (g.K.Sink.faults c.args.out.now) (g.K.Sink.faults c.args.out.now) (g.E.Sink.holds c.args.err.now) (g.E.Sink.holds c.fail.new.err) (g.E.Sink.faults c.args.err.now) (g.E.Sink.faults c.fail.new.err) c.in-Err.fault (view c.args.machine.bank.disk) (view c.declare.new.machine.bank.disk) (status-either c.in-Err.fault c.fail.result e.only f.status) (λ is. e.disk (ap Err is)) f.disk f.memory)

use Rattle.std.proofs.Common.{inl, refl}
use Rattle.session_runs.specs.Far.{scripts_of}
use Rattle.zone_machine.specs.Machine.{opening}
use Rattle.zones_live.specs.Sorting.{declared_in, typed_in}
use Rattle.zones_live.proofs.Lives.{runs-as, runs-nothing}
use Rattle.zones_live.proofs.run.run_events.Goals as goal

pub returns-in-Ok-clause-runs : goal.returns-in-Ok-clause-runs
returns-in-Ok-clause-runs g c = λ brands R stands.
    let sorts = c.in-Ok.ensures in
    let sorted = c.in-Ok.sorted in
    let events = c.args.events.items in
    runs-as brands R sorted.declared.items (declared_in events) (scripts_of sorted.scripts.items) (typed_in events) c.run_on_machine.result.0 (g.K.Sink.holds c.args.out.now) (g.K.Sink.holds c.run_on_machine.new.out) (g.E.Sink.holds c.args.err.now) (g.E.Sink.holds c.run_on_machine.new.err) (g.E.Sink.faults c.args.err.now) (g.E.Sink.faults c.run_on_machine.new.err) (g.D.Disk.view c.args.machine.bank.disk) (g.D.Disk.view c.run_on_machine.result.1) sorts.declared sorts.typed
    (c.run_on_machine.ensures.runs brands R stands)

pub returns-in-Err-clause-runs : goal.returns-in-Err-clause-runs
returns-in-Err-clause-runs g c = λ brands R stands.
    let v = g.D.Disk.view c.args.machine.bank.disk in
    rw c.hand_back.ensures.same (runs-nothing brands R (declared_in c.args.events.items) (typed_in c.args.events.items) c.fail.result (g.K.Sink.holds c.args.out.now) (g.K.Sink.holds c.args.out.now) (g.E.Sink.holds c.args.err.now) (g.E.Sink.holds c.fail.new.err) (g.E.Sink.faults c.args.err.now) (g.E.Sink.faults c.fail.new.err) v v refl (inl c.fail.ensures.status) (λ k. k) (λ is. c.hand_back.ensures.kept (opening brands R) stands is.keeps))

use Rattle.std.proofs.Common.{ap, inl, inr, refl, sym, ◌∙◌}
use Rattle.live_input.specs.Input.{Input}
use Rattle.zone_machine.specs.Machine.{opening}
use Rattle.zones_live.specs.Living.{ending_output}
use Rattle.zones_run.specs.Run.{fault_status}
use Rattle.zones_run.specs.declared.outcome.Complaint.TheVariants.{Grammar, Limit}
use Rattle.zones_live.proofs.Lives.{faults-read, lives-failed, lives-run, lives-told, some-input, some-said, status-read, status-reading}
use Rattle.zones_live.proofs.run.run_input.Goals as goal

pub returns-in-Ok-End-clause-lives : goal.returns-in-Ok-End-clause-lives
returns-in-Ok-End-clause-lives g c = λ brands R stands.
    let input : Input = record { events = c.read_lines.new.events.items; ending = c.in-Ok-End.field-0 } in
    record {
      input = input;
      said = c.in-Ok-End.ensures.whole;
      runs = lives-run brands R input c.run_events.result.0 (g.K.Sink.holds c.args.out.now) (g.K.Sink.holds c.run_events.new.out) (g.E.Sink.holds c.args.err.now) (g.E.Sink.holds c.run_events.new.err) (g.E.Sink.faults c.args.err.now) (g.E.Sink.faults c.run_events.new.err) (g.D.Disk.view c.args.machine.bank.disk) (g.D.Disk.view c.run_events.result.1)
          c.in-Ok-End.field-0-is (c.run_events.ensures.runs brands R stands);
    }

pub returns-in-Ok-Grammar-clause-lives : goal.returns-in-Ok-Grammar-clause-lives
returns-in-Ok-Grammar-clause-lives g c = λ brands R stands.
    let v = g.D.Disk.view c.args.machine.bank.disk in
    let input : Input = record { events = c.read_lines.new.events.items; ending = c.in-Ok-Grammar.field-0 } in
    rw c.hand_back.ensures.same (record {
      input = input;
      said = c.in-Ok-Grammar.ensures.whole;
      runs = lives-told brands R input c.tell_ending.result (g.K.Sink.holds c.args.out.now) (g.E.Sink.holds c.args.err.now) (g.E.Sink.holds c.tell_ending.new.err) (g.E.Sink.faults c.args.err.now) (g.E.Sink.faults c.tell_ending.new.err) v v (λ k. k) (λ is. c.hand_back.ensures.kept (opening brands R) stands is.keeps)
          (Grammar c.in-Ok-Grammar.number c.in-Ok-Grammar.fault) (sym (ap ending_output c.in-Ok-Grammar.field-0-is)) (inl refl) c.tell_ending.ensures.statuses c.tell_ending.ensures.line;
    })

pub returns-in-Ok-Limit-clause-lives : goal.returns-in-Ok-Limit-clause-lives
returns-in-Ok-Limit-clause-lives g c = λ brands R stands.
    let v = g.D.Disk.view c.args.machine.bank.disk in
    let told = c.tell_ending-in-Ok-Limit in
    let input : Input = record { events = c.read_lines.new.events.items; ending = c.in-Ok-Limit.field-0 } in
    rw c.hand_back-in-Ok-Limit.ensures.same (record {
      input = input;
      said = c.in-Ok-Limit.ensures.whole;
      runs = lives-told brands R input told.result (g.K.Sink.holds c.args.out.now) (g.E.Sink.holds c.args.err.now) (g.E.Sink.holds told.new.err) (g.E.Sink.faults c.args.err.now) (g.E.Sink.faults told.new.err) v v (λ k. k) (λ is. c.hand_back-in-Ok-Limit.ensures.kept (opening brands R) stands is.keeps)
          (Limit c.in-Ok-Limit.number) (sym (ap ending_output c.in-Ok-Limit.field-0-is)) (inr refl) told.ensures.statuses told.ensures.line;
    })

pub returns-in-Err-clause-lives : goal.returns-in-Err-clause-lives
returns-in-Err-clause-lives g c = λ brands R stands.
    let v = g.D.Disk.view c.args.machine.bank.disk in
    let bytes = g.S.Source.left c.args.src.now in
    rw c.hand_back-in-Err.ensures.same (record {
      input = some-input bytes;
      said = some-said bytes;
      runs = lives-failed brands R (some-input bytes) c.fail.result (g.K.Sink.holds c.args.out.now) (g.E.Sink.holds c.args.err.now) (g.E.Sink.holds c.fail.new.err) (g.E.Sink.faults c.args.err.now) (g.E.Sink.faults c.fail.new.err) v v (λ k. k) (λ is. c.hand_back-in-Err.ensures.kept (opening brands R) stands is.keeps)
          (status-read c.in-Err.fault c.fail.result (c.fail.ensures.status ∙ ap fault_status c.from.ensures));
    })

pub returns-in-Err-clause-faults : goal.returns-in-Err-clause-faults
returns-in-Err-clause-faults g c =
    let v = g.D.Disk.view c.args.machine.bank.disk in
    rw c.hand_back-in-Err.ensures.same (faults-read c.fail.result (g.K.Sink.faults c.args.out.now) (g.K.Sink.faults c.args.out.now) (g.E.Sink.holds c.args.err.now) (g.E.Sink.holds c.fail.new.err) (g.E.Sink.faults c.args.err.now) (g.E.Sink.faults c.fail.new.err) v v (status-reading c.in-Err.fault c.fail.result (c.fail.ensures.status ∙ ap fault_status c.from.ensures)) (λ is. (c.fail.ensures.memory is).1))

use Rattle.std.proofs.Common.{◌≡◌, ◌+◌, ap, inl, refl, rules, arith, sym, subst}
use Rattle.std.specs.Prelude.{Err, Some}
use Rattle.zone_disk.specs.Bank.{Account}
use Rattle.zone_machine.specs.Code.Openings.{StandsFor}
use Rattle.zones_run.specs.Midway.{HasKept, Left, none_put}
use Rattle.zones_run.specs.Scripts.{At_end, Past_limit}
use Rattle.zones_run.proofs.Answered.{passes_on}
use Rattle.input_lines.proofs.Begins.{takes_just, takes_none}
use Rattle.zones_run.proofs.Keeping.{keeps_start, keeps_step}
use Rattle.zones_run.specs.declared.fault.RunFault.TheVariants.{Disk, Read, Write}
use Rattle.zones_run.specs.declared.outcome.Complaint.TheVariants.{Limit}
use Rattle.zones_run.proofs.Standing.{stands_past, stands_stopped}
use Rattle.zones_run.proofs.Stopping.{ends_stopped, kind_stopped, never_reads, none_stopped, only_reading, ran_stopped, stopped_by}
use Rattle.zones_run.proofs.TraceEnds.{answers_lines, answers_read, at_end, at_long, ends_reading, ends_writing, flushed_front, has_replies, last_end, last_long, nothing_waits, nothing_written, runs_lines, tells_end, tells_last, tells_last_end, tells_long, written_front, written_on}
use Rattle.zones_run.proofs.TraceRecords.{err_not_ok, ran_cut, ran_part, ran_whole}
use Rattle.zones_run.proofs.TraceRuns.{follows_from_start, follows_line, follows_told, restarts_well, runs_told}
use Rattle.zones_run.proofs.trace.take_lines.Goals as goal

pub loop-before-init : goal.loop-before-init
loop-before-init g c =
    let v = g.D.Disk.view c.args.machine.now.bank.disk in
    record {
      run = λ brands R s a. follows_told c.args.mode.now none_put brands R (λ S. StandsFor S c.args.machine.now) (Left brands R v v) _ _ _ _ _ _ _ (nothing_waits (g.K.Sink.holds c.args.out.now) c.args.waiting.now.items c.requires.none)
          (rw c.new-ahead.ensures (follows_from_start c.args.mode.now brands R (λ S. StandsFor S c.args.machine.now) (Left brands R v v) (g.K.Sink.holds c.args.out.now) _ s (λ is. keeps_start brands R v (g.met.D.Disk.sound c.args.machine.now.bank.disk) is)));
      asks = c.requires.asks;
      ready = c.requires.ready;
      few = rw c.new-ahead.ensures (omega arith);
      written = nothing_written (g.K.Sink.holds c.args.out.now);
      read = omega arith;
      write = omega arith;
      passes = record { model = (λ k. k, λ k. k); faults = omega arith };
    }

pub returns-in_err-write_some-clause-ran : goal.returns-in_err-write_some-clause-ran
returns-in_err-write_some-clause-ran g c = λ brands R s a.
    ends_writing c.args.mode.now brands R _ _ _ _ _ _ (search rules) (flushed_front c.args.mode.now brands R _ _ _ _ _ c.loop-before.invariant.written (has_replies c.args.mode.now none_put brands R _ _ _ _ _ _ _ (c.loop-before.invariant.run brands R s a).run) c.in_err-write_some.ensures.front)
    (runs_lines c.args.mode.now none_put brands R _ _ _ _ _ _ _ _ (c.loop-before.invariant.run brands R s a).run (takes_just _ _ _ refl c.loop-before.invariant.few))

pub returns-in_err-write_some-clause-recorded : goal.returns-in_err-write_some-clause-recorded
returns-in_err-write_some-clause-recorded g c = λ brands R s is.
    let v0 = g.D.Disk.view c.args.machine.now.bank.disk in
    let v = g.D.Disk.view c.loop-before.machine.bank.disk in
    ran_cut c.args.mode.now none_put brands R _ v0 v _ _ _ _ _ _ (c.loop-before.invariant.run brands R s (inl is.keeps)) is _ _ (search rules)

pub returns-in_err-write_some-clause-written : goal.returns-in_err-write_some-clause-written
returns-in_err-write_some-clause-written g c = written_on _ _ _ c.loop-before.invariant.written (written_front _ _ _ c.in_err-write_some.ensures.front)

pub returns-in_err-write_some-2-clause-ran : goal.returns-in_err-write_some-2-clause-ran
returns-in_err-write_some-2-clause-ran g c = λ brands R s a.
    ends_writing c.args.mode.now brands R _ _ _ _ _ _ (search rules) (flushed_front c.args.mode.now brands R _ _ _ _ _ c.loop-before.invariant.written (has_replies c.args.mode.now none_put brands R _ _ _ _ _ _ _ (c.loop-before.invariant.run brands R s a).run) c.in_err-write_some-2.ensures.front)
    (runs_lines c.args.mode.now none_put brands R _ _ _ _ _ _ _ _ (c.loop-before.invariant.run brands R s a).run (takes_just _ _ _ refl c.loop-before.invariant.few))

pub returns-in_err-write_some-2-clause-recorded : goal.returns-in_err-write_some-2-clause-recorded
returns-in_err-write_some-2-clause-recorded g c = λ brands R s is.
    let v0 = g.D.Disk.view c.args.machine.now.bank.disk in
    let v = g.D.Disk.view c.loop-before.machine.bank.disk in
    ran_cut c.args.mode.now none_put brands R _ v0 v _ _ _ _ _ _ (c.loop-before.invariant.run brands R s (inl is.keeps)) is _ _ (search rules)

pub returns-in_err-write_some-2-clause-written : goal.returns-in_err-write_some-2-clause-written
returns-in_err-write_some-2-clause-written g c = written_on _ _ _ c.loop-before.invariant.written (written_front _ _ _ c.in_err-write_some-2.ensures.front)

pub returns-in_err-next_line-clause-ran : goal.returns-in_err-next_line-clause-ran
returns-in_err-next_line-clause-ran g c = λ brands R s a.
    let run = (runs_told c.args.mode.now none_put brands R _ _ _ _ _ _ _ _ c.in_ok-write_some.ensures.same (c.loop-before.invariant.run brands R s a).run) in
    ends_reading c.args.mode.now brands R _ c.in_err-next_line.field-0.0 _ _ _ _ _ c.from_residual-in_err-next_line.ensures.1 (has_replies c.args.mode.now none_put brands R _ _ _ _ _ _ _ run) (answers_lines c.args.mode.now brands R _ _ _ _ _ _ _ _ run c.in_err-next_line.ensures.taken)
    (λ failed. answers_read c.args.mode.now brands R _ _ _ _ _ _ _ _ run (c.in_err-next_line.ensures.begun (ap Err failed)))

pub returns-in_err-next_line-clause-recorded : goal.returns-in_err-next_line-clause-recorded
returns-in_err-next_line-clause-recorded g c = λ brands R s is.
    let v0 = g.D.Disk.view c.args.machine.now.bank.disk in
    let v = g.D.Disk.view c.loop-before.machine.bank.disk in
    ran_part c.args.mode.now none_put brands R _ v0 v _ _ _ _ _ _ (follows_told c.args.mode.now none_put brands R _ (Left brands R v0 v) _ _ _ _ _ _ _ c.in_ok-write_some.ensures.same (c.loop-before.invariant.run brands R s (inl is.keeps))) is _ _ _ _ (err_not_ok c.from_residual-in_err-next_line.result c.from_residual-in_err-next_line.ensures.0)

pub returns-in_err-next_line-clause-written : goal.returns-in_err-next_line-clause-written
returns-in_err-next_line-clause-written g c = written_on _ _ _ c.loop-before.invariant.written c.in_ok-write_some.ensures.written

pub returns-in_err-next_line-clause-none : goal.returns-in_err-next_line-clause-none
returns-in_err-next_line-clause-none g c = λ failed. absurd (only_reading _ c.in_err-next_line.field-0.0 c.from_residual-in_err-next_line.ensures.1 failed)

pub returns-in-End-clause-ran : goal.returns-in-End-clause-ran
returns-in-End-clause-ran g c = λ brands R s a.
    let run = (runs_told c.args.mode.now none_put brands R _ _ _ _ _ _ _ _ c.in_ok-write_some.ensures.same (c.loop-before.invariant.run brands R s a).run) in
    (tells_end c.args.mode.now brands R _ _ _ _ _ _ _ _ run (rw c.in-End.is at c.in_ok-next_line.ensures.got) c.ended.ensures.told, answers_lines c.args.mode.now brands R _ _ _ _ _ _ _ _ run c.in_ok-next_line.ensures.taken)

pub returns-in-End-clause-recorded : goal.returns-in-End-clause-recorded
returns-in-End-clause-recorded g c = λ brands R s is.
    let v0 = g.D.Disk.view c.args.machine.now.bank.disk in
    let v = g.D.Disk.view c.loop-before.machine.bank.disk in
    ran_whole c.args.mode.now brands R _ v0 v _ _ _ _ _ _ (follows_told c.args.mode.now none_put brands R _ (Left brands R v0 v) _ _ _ _ _ _ _ c.in_ok-write_some.ensures.same (c.loop-before.invariant.run brands R s (inl is.keeps))) is _ _ _ _ At_end (at_end _ _ _ _ (rw c.in-End.is at c.in_ok-next_line.ensures.got))

pub returns-in-End-clause-written : goal.returns-in-End-clause-written
returns-in-End-clause-written g c = written_on _ _ _ c.loop-before.invariant.written c.in_ok-write_some.ensures.written

pub returns-in-TooLong-clause-ran : goal.returns-in-TooLong-clause-ran
returns-in-TooLong-clause-ran g c = λ brands R s a.
    let run = (runs_told c.args.mode.now none_put brands R _ _ _ _ _ _ _ _ c.in_ok-write_some.ensures.same (c.loop-before.invariant.run brands R s a).run) in
    (tells_long c.args.mode.now brands R _ _ _ _ _ _ _ run (rw c.in-TooLong.is at c.in_ok-next_line.ensures.got), answers_lines c.args.mode.now brands R _ _ _ _ _ _ _ _ run c.in_ok-next_line.ensures.taken)

pub returns-in-TooLong-clause-recorded : goal.returns-in-TooLong-clause-recorded
returns-in-TooLong-clause-recorded g c = λ brands R s is.
    let v0 = g.D.Disk.view c.args.machine.now.bank.disk in
    let v = g.D.Disk.view c.loop-before.machine.bank.disk in
    ran_whole c.args.mode.now brands R _ v0 v _ _ _ _ _ _ (follows_told c.args.mode.now none_put brands R _ (Left brands R v0 v) _ _ _ _ _ _ _ c.in_ok-write_some.ensures.same (c.loop-before.invariant.run brands R s (inl is.keeps))) is _ _ _ _ (Past_limit _) (at_long _ _ _ _ (rw c.in-TooLong.is at c.in_ok-next_line.ensures.got))

pub returns-in-TooLong-clause-written : goal.returns-in-TooLong-clause-written
returns-in-TooLong-clause-written g c = written_on _ _ _ c.loop-before.invariant.written c.in_ok-write_some.ensures.written

pub returns-in-Err-clause-ran : goal.returns-in-Err-clause-ran
returns-in-Err-clause-ran g c = λ brands R s a.
    let v0 = g.D.Disk.view c.args.machine.now.bank.disk in
    let took = rw c.in-Line.is at c.in_ok-next_line.ensures.took in
    let v = g.D.Disk.view c.loop-before.machine.bank.disk in
    let w = g.D.Disk.view c.take_line.new.machine.bank.disk in
    let line = rw c.in-Line.is at c.in_ok-next_line.ensures.got in
    let stopped = rw c.deref.ensures.value at c.in-Err.ensures.stopped in
    rw c.ended_by.ensures.ended (ends_stopped c.args.mode.now brands R _ c.in-Err.stop _ _ _ _ _ _ _ _ _ _ c.next_line.new.line.items _ (c.take_line.new.machine.bank ≡ c.loop-before.machine.bank) v w
    (runs_told c.args.mode.now none_put brands R _ _ _ _ _ _ _ _ c.in_ok-write_some.ensures.same (c.loop-before.invariant.run brands R s a).run) (written_on _ _ _ c.loop-before.invariant.written c.in_ok-write_some.ensures.written) c.in-Err.ensures.text c.in_ok-next_line.ensures.taken line.0 (omega arith) line.1 stopped c.in-Err.ensures.may
    (λ run. restarts_well c.args.mode.now brands R (λ S. StandsFor S c.loop-before.machine) _ _ _ _ c.next_line.new.line.items _ _ _ v0 v a c.loop-before.invariant.passes.model.0 run took (omega arith) line.1))

pub returns-in-Err-clause-recorded : goal.returns-in-Err-clause-recorded
returns-in-Err-clause-recorded g c = λ brands R s is.
    let v0 = g.D.Disk.view c.args.machine.now.bank.disk in
    let v = g.D.Disk.view c.loop-before.machine.bank.disk in
    let w = g.D.Disk.view c.take_line.new.machine.bank.disk in
    let line = rw c.in-Line.is at c.in_ok-next_line.ensures.got in
    let took = rw c.in-Line.is at c.in_ok-next_line.ensures.took in
    let stopped = rw c.deref.ensures.value at c.in-Err.ensures.stopped in
    rw c.ended_by.ensures.ended (ran_stopped c.args.mode.now brands R (λ S. StandsFor S c.loop-before.machine) v0 v w c.in-Err.stop _ _ _ _ _ _ _ _ _ _ c.next_line.new.line.items _ (c.take_line.new.machine.bank ≡ c.loop-before.machine.bank)
    (follows_told c.args.mode.now none_put brands R _ (Left brands R v0 v) _ _ _ _ _ _ _ c.in_ok-write_some.ensures.same (c.loop-before.invariant.run brands R s (inl is.keeps))) is c.in-Err.ensures.text took line.0 (omega arith) line.1 stopped c.in-Err.ensures.may
    (λ e P x. subst (λ (b : Account g.row.D.Denot). P (g.D.Disk.view b.disk)) (sym e) x))

pub returns-in-Err-clause-written : goal.returns-in-Err-clause-written
returns-in-Err-clause-written g c = written_on _ _ _ (written_on _ _ _ c.loop-before.invariant.written c.in_ok-write_some.ensures.written) c.take_line.ensures.written

pub returns-in-Err-clause-none : goal.returns-in-Err-clause-none
returns-in-Err-clause-none g c = λ failed. none_stopped c.in-Err.stop (c.loop-before.before + 1) _ _ _ _ c.in-Err.ensures.text (rw c.ended_by.ensures.ended at failed)

pub returns-in-Err-clause-read : goal.returns-in-Err-clause-read
returns-in-Err-clause-read g c = λ failed. absurd (never_reads c.in-Err.stop (c.loop-before.before + 1) _ _ _ _ c.in-Err.ensures.text (rw c.ended_by.ensures.ended at failed))

pub returns-in-Err-clause-write : goal.returns-in-Err-clause-write
returns-in-Err-clause-write g c = λ failed.
    let rose = c.in-Err.ensures.write (ap Err (stopped_by c.in-Err.stop (c.loop-before.before + 1) Write (rw c.ended_by.ensures.ended at failed))) in
    omega (arith, rose, c.loop-before.invariant.write, c.write_some.ensures.later)

pub returns-in-Err-clause-disk : goal.returns-in-Err-clause-disk
returns-in-Err-clause-disk g c = λ failed.
    let rose = c.in-Err.ensures.disk (ap Err (stopped_by c.in-Err.stop (c.loop-before.before + 1) Disk (rw c.ended_by.ensures.ended at failed))) in
    omega (arith, rose, c.loop-before.invariant.passes.faults)

pub loop-before-preserved : goal.loop-before-preserved
loop-before-preserved g c =
    let v0 = g.D.Disk.view c.args.machine.now.bank.disk in
    let v = g.D.Disk.view c.loop-before.machine.bank.disk in
    let u = g.D.Disk.view c.take_line.new.machine.bank.disk in
    let w = g.D.Disk.view c.give_turns.new.machine.bank.disk in
    let line = rw c.in-Line.is at c.in_ok-next_line.ensures.got in
    let took = rw c.in-Line.is at c.in_ok-next_line.ensures.took in
    let taken = rw c.deref.ensures.value at c.in-Ok.ensures.taken in
    record {
      run = λ brands R s a. c.in-Ok-give_turns.ensures.went brands R c.args.machine.now.bank.disk _ _ _
          (follows_line c.args.mode.now brands R (c.take_line.new.machine.bank ≡ c.loop-before.machine.bank) (λ S. StandsFor S c.loop-before.machine) (λ S. StandsFor S c.take_line.new.machine) (Left brands R v0 v) (Left brands R v0 u) v u _ c.in-Ok.taken _ _ _ _ c.next_line.new.line.items _ _ _ v0 a c.loop-before.invariant.passes.model.0
          (follows_told c.args.mode.now none_put brands R _ (Left brands R v0 v) _ _ _ _ _ _ _ c.in_ok-write_some.ensures.same (c.loop-before.invariant.run brands R s a)) taken took (omega arith) line.1
          (λ e h k is. subst (λ (b : Account g.row.D.Denot). HasKept brands R h v0 (g.D.Disk.view b.disk)) (sym e) (k is))
          (λ S entry h reached goes k is. keeps_step brands R h S entry reached v0 v u goes (k is)));
      asks = c.give_turns.ensures.asks;
      ready = c.in-Ok-give_turns.ensures.ready;
      few = c.in_ok-next_line.ensures.few c.in-Line.is;
      written = written_on _ _ _ (written_on _ _ _ (written_on _ _ _ c.loop-before.invariant.written c.in_ok-write_some.ensures.written) c.take_line.ensures.written) c.give_turns.ensures.written;
      read = omega (arith, c.loop-before.invariant.read, c.next_line.ensures.later);
      write = omega (arith, c.loop-before.invariant.write, c.write_some.ensures.later, c.take_line.ensures.later, c.give_turns.ensures.later);
      passes = passes_on v0 u w (passes_on v0 v u c.loop-before.invariant.passes c.take_line.ensures.passes) c.give_turns.ensures.passes;
    }

pub returns-in-Err-give_turns-clause-ran : goal.returns-in-Err-give_turns-clause-ran
returns-in-Err-give_turns-clause-ran g c = λ brands R s a.
    let v0 = g.D.Disk.view c.args.machine.now.bank.disk in
    let v = g.D.Disk.view c.loop-before.machine.bank.disk in
    let u = g.D.Disk.view c.take_line.new.machine.bank.disk in
    let line = rw c.in-Line.is at c.in_ok-next_line.ensures.got in
    let took = rw c.in-Line.is at c.in_ok-next_line.ensures.took in
    let taken = rw c.deref.ensures.value at c.in-Ok.ensures.taken in
    c.in-Err-give_turns.ensures.ended brands R c.args.machine.now.bank.disk _ _ _
    (follows_line c.args.mode.now brands R (c.take_line.new.machine.bank ≡ c.loop-before.machine.bank) (λ S. StandsFor S c.loop-before.machine) (λ S. StandsFor S c.take_line.new.machine) (Left brands R v0 v) (Left brands R v0 u) v u _ c.in-Ok.taken _ _ _ _ c.next_line.new.line.items _ _ _ v0 a c.loop-before.invariant.passes.model.0
    (follows_told c.args.mode.now none_put brands R _ (Left brands R v0 v) _ _ _ _ _ _ _ c.in_ok-write_some.ensures.same (c.loop-before.invariant.run brands R s a)) taken took (omega arith) line.1
    (λ e h k is. subst (λ (b : Account g.row.D.Denot). HasKept brands R h v0 (g.D.Disk.view b.disk)) (sym e) (k is))
    (λ S entry h reached goes k is. keeps_step brands R h S entry reached v0 v u goes (k is)))
    _ (written_on _ _ _ (written_on _ _ _ c.loop-before.invariant.written c.in_ok-write_some.ensures.written) c.take_line.ensures.written) (takes_just _ _ _ refl (c.in_ok-next_line.ensures.few c.in-Line.is))

pub returns-in-Err-give_turns-clause-recorded : goal.returns-in-Err-give_turns-clause-recorded
returns-in-Err-give_turns-clause-recorded g c = λ brands R s is.
    let v0 = g.D.Disk.view c.args.machine.now.bank.disk in
    let v = g.D.Disk.view c.loop-before.machine.bank.disk in
    let u = g.D.Disk.view c.take_line.new.machine.bank.disk in
    let line = rw c.in-Line.is at c.in_ok-next_line.ensures.got in
    let took = rw c.in-Line.is at c.in_ok-next_line.ensures.took in
    let taken = rw c.deref.ensures.value at c.in-Ok.ensures.taken in
    c.in-Err-give_turns.ensures.recorded brands R c.args.machine.now.bank.disk _ _ _
    (follows_line c.args.mode.now brands R (c.take_line.new.machine.bank ≡ c.loop-before.machine.bank) (λ S. StandsFor S c.loop-before.machine) (λ S. StandsFor S c.take_line.new.machine) (Left brands R v0 v) (Left brands R v0 u) v u _ c.in-Ok.taken _ _ _ _ c.next_line.new.line.items _ _ _ v0 (inl is.keeps) c.loop-before.invariant.passes.model.0
    (follows_told c.args.mode.now none_put brands R _ (Left brands R v0 v) _ _ _ _ _ _ _ c.in_ok-write_some.ensures.same (c.loop-before.invariant.run brands R s (inl is.keeps))) taken took (omega arith) line.1
    (λ e h k is. subst (λ (b : Account g.row.D.Denot). HasKept brands R h v0 (g.D.Disk.view b.disk)) (sym e) (k is))
    (λ S entry h reached goes k is. keeps_step brands R h S entry reached v0 v u goes (k is)))
    is

pub returns-in-Err-give_turns-clause-written : goal.returns-in-Err-give_turns-clause-written
returns-in-Err-give_turns-clause-written g c = written_on _ _ _ (written_on _ _ _ (written_on _ _ _ c.loop-before.invariant.written c.in_ok-write_some.ensures.written) c.take_line.ensures.written) c.give_turns.ensures.written

pub returns-in-Err-give_turns-clause-read : goal.returns-in-Err-give_turns-clause-read
returns-in-Err-give_turns-clause-read g c = λ failed.
    let is : c.in-Err-give_turns.fault ≡ Read = cc in
    absurd (c.in-Err-give_turns.ensures.only (ap Err is))

pub returns-in_err-refill-clause-ran : goal.returns-in_err-refill-clause-ran
returns-in_err-refill-clause-ran g c = λ brands R s a.
    let run = (runs_told c.args.mode.now none_put brands R _ _ _ _ _ _ _ _ c.in_ok-write_some-2.ensures.same (c.loop-before.invariant.run brands R s a).run) in
    let begins = takes_none _ _ c.in_err-refill.ensures.kept in
    ends_reading c.args.mode.now brands R _ c.in_err-refill.field-0.0 _ _ _ _ _ c.from_residual-in_err-refill.ensures.1 (has_replies c.args.mode.now none_put brands R _ _ _ _ _ _ _ run) (answers_lines c.args.mode.now brands R _ _ _ _ _ _ _ _ run begins.0) (λ _. answers_read c.args.mode.now brands R _ _ _ _ _ _ _ _ run begins)

pub returns-in_err-refill-clause-recorded : goal.returns-in_err-refill-clause-recorded
returns-in_err-refill-clause-recorded g c = λ brands R s is.
    let v0 = g.D.Disk.view c.args.machine.now.bank.disk in
    let v = g.D.Disk.view c.loop-before.machine.bank.disk in
    ran_part c.args.mode.now none_put brands R _ v0 v _ _ _ _ _ _ (follows_told c.args.mode.now none_put brands R _ (Left brands R v0 v) _ _ _ _ _ _ _ c.in_ok-write_some-2.ensures.same (c.loop-before.invariant.run brands R s (inl is.keeps))) is _ _ _ _ (err_not_ok c.from_residual-in_err-refill.result c.from_residual-in_err-refill.ensures.0)

pub returns-in_err-refill-clause-written : goal.returns-in_err-refill-clause-written
returns-in_err-refill-clause-written g c = written_on _ _ _ c.loop-before.invariant.written c.in_ok-write_some-2.ensures.written

pub returns-in_err-refill-clause-none : goal.returns-in_err-refill-clause-none
returns-in_err-refill-clause-none g c = λ failed. absurd (only_reading _ c.in_err-refill.field-0.0 c.from_residual-in_err-refill.ensures.1 failed)

pub returns-then-branch-clause-ran : goal.returns-then-branch-clause-ran
returns-then-branch-clause-ran g c = λ brands R s a.
    let run = (runs_told c.args.mode.now none_put brands R _ _ _ _ _ _ _ _ c.in_ok-write_some-2.ensures.same (c.loop-before.invariant.run brands R s a).run) in (
      tells_last c.args.mode.now brands R _ _ _ _ _ _ _ _ _ run (omega (arith, c.loop-before-test.false, c.loop-before.auto.before-end)) c.in_ok-refill.ensures.bytes (c.in_ok-refill.ensures.more c.if-branch.true),
      answers_lines c.args.mode.now brands R _ _ _ _ _ _ _ _ run (takes_just _ _ _ c.in_ok-refill.ensures.bytes c.in_ok-refill.ensures.few),
    )

pub returns-then-branch-clause-recorded : goal.returns-then-branch-clause-recorded
returns-then-branch-clause-recorded g c = λ brands R s is.
    let v0 = g.D.Disk.view c.args.machine.now.bank.disk in
    let v = g.D.Disk.view c.loop-before.machine.bank.disk in
    ran_whole c.args.mode.now brands R _ v0 v _ _ _ _ _ _ (follows_told c.args.mode.now none_put brands R _ (Left brands R v0 v) _ _ _ _ _ _ _ c.in_ok-write_some-2.ensures.same (c.loop-before.invariant.run brands R s (inl is.keeps))) is _ _ _ _ (Past_limit 200001)
    (last_long _ _ _ _ _ _ (omega (arith, c.loop-before-test.false, c.loop-before.auto.before-end)) c.in_ok-refill.ensures.bytes (c.in_ok-refill.ensures.more c.if-branch.true))

pub returns-then-branch-clause-written : goal.returns-then-branch-clause-written
returns-then-branch-clause-written g c = written_on _ _ _ c.loop-before.invariant.written c.in_ok-write_some-2.ensures.written

pub returns-clause-ran : goal.returns-clause-ran
returns-clause-ran g c = λ brands R s a.
    let run = (runs_told c.args.mode.now none_put brands R _ _ _ _ _ _ _ _ c.in_ok-write_some-2.ensures.same (c.loop-before.invariant.run brands R s a).run) in
    let end = c.in_ok-refill.ensures.end c.if-branch.false in
    (tells_last_end c.args.mode.now brands R _ _ _ _ _ _ _ _ _ _ run c.in_ok-refill.ensures.bytes end.0 end.1 c.ended-2.ensures.told, answers_lines c.args.mode.now brands R _ _ _ _ _ _ _ _ run (takes_just _ _ _ c.in_ok-refill.ensures.bytes c.in_ok-refill.ensures.few))

pub returns-clause-recorded : goal.returns-clause-recorded
returns-clause-recorded g c = λ brands R s is.
    let v0 = g.D.Disk.view c.args.machine.now.bank.disk in
    let v = g.D.Disk.view c.loop-before.machine.bank.disk in
    let end = c.in_ok-refill.ensures.end c.if-branch.false in
    ran_whole c.args.mode.now brands R _ v0 v _ _ _ _ _ _ (follows_told c.args.mode.now none_put brands R _ (Left brands R v0 v) _ _ _ _ _ _ _ c.in_ok-write_some-2.ensures.same (c.loop-before.invariant.run brands R s (inl is.keeps))) is _ _ _ _ At_end (last_end _ _ _ _ _ _ c.in_ok-refill.ensures.bytes end.0 end.1)

pub returns-clause-written : goal.returns-clause-written
returns-clause-written g c = written_on _ _ _ c.loop-before.invariant.written c.in_ok-write_some-2.ensures.written

pub returns-in-Err-clause-kind : goal.returns-in-Err-clause-kind
returns-in-Err-clause-kind g c = λ keeps. rw c.ended_by.ensures.ended (kind_stopped c.in-Err.stop (c.loop-before.before + 1) (g.D.Disk.view c.loop-before.machine.bank.disk) c.in-Err.ensures.may (c.loop-before.invariant.passes.model.0 keeps))

pub returns-in-End-clause-stands : goal.returns-in-End-clause-stands
returns-in-End-clause-stands g c = λ brands R s a.
    stands_past c.args.mode.now brands R _ _ _ _ _ _ _ _ At_end _ (c.loop-before.invariant.run brands R s a) (at_end _ _ _ _ (rw c.in-End.is at c.in_ok-next_line.ensures.got))

pub returns-in-TooLong-clause-stands : goal.returns-in-TooLong-clause-stands
returns-in-TooLong-clause-stands g c = λ brands R s a.
    stands_past c.args.mode.now brands R _ _ _ _ _ _ _ _ (Past_limit _) (Some (Limit (c.loop-before.before + 1))) (c.loop-before.invariant.run brands R s a) (at_long _ _ _ _ (rw c.in-TooLong.is at c.in_ok-next_line.ensures.got))

pub returns-in-Err-clause-stands : goal.returns-in-Err-clause-stands
returns-in-Err-clause-stands g c = λ brands R s a. rw c.ended_by.ensures.ended (stands_stopped c.args.mode.now brands R (λ S. StandsFor S c.take_line.new.machine) c.in-Err.stop (c.loop-before.before + 1) (g.S.Source.left c.args.source.now))

pub returns-then-branch-clause-stands : goal.returns-then-branch-clause-stands
returns-then-branch-clause-stands g c = λ brands R s a.
    stands_past c.args.mode.now brands R _ _ _ _ _ _ _ _ (Past_limit 200001) (Some (Limit 200001)) (c.loop-before.invariant.run brands R s a)
    (last_long _ _ _ _ _ _ (omega (arith, c.loop-before-test.false, c.loop-before.auto.before-end)) c.in_ok-refill.ensures.bytes (c.in_ok-refill.ensures.more c.if-branch.true))

pub returns-clause-stands : goal.returns-clause-stands
returns-clause-stands g c = λ brands R s a.
    let end = c.in_ok-refill.ensures.end c.if-branch.false in
    stands_past c.args.mode.now brands R _ _ _ _ _ _ _ _ At_end _ (c.loop-before.invariant.run brands R s a) (last_end _ _ _ _ _ _ c.in_ok-refill.ensures.bytes end.0 end.1)

use Rattle.std.proofs.Common.{◌+◌, ◌≤◌, List, length}
use Rattle.zn_io.specs.Streams.{after_known, before_known}
use Rattle.brand_hooks.specs.Brands.{Tabled}
use Rattle.commit_journal.specs.declared.records.Commit.{Commit}
use Rattle.zone_machine.specs.Code.Decided.{AsksBrands, MayGoOn}
use Rattle.zone_machine.specs.Code.Records.{Passes}
use Rattle.zone_machine.specs.Machine.{opening}
use Rattle.zone_machine.specs.Code.Openings.{StandsFor}
use Rattle.zones_run.specs.Answering.{FindsAlways}
use Rattle.zones_run.specs.Midway.{Follows, Left, none_put}
use Rattle.zones_run.specs.Tracing.{HasWritten}
use Rattle.zones_run.proofs.trace.take_lines.Given as goal

-- the machine, what standard output has taken and what waits, and the bytes to come make the run of the whole input, and the
-- disk keeps what its entries have recorded
abbrev pub invariant-loop-before : goal.invariant-loop-before
invariant-loop-before g l =
    let left = g.S.Source.left in
    let holds = g.K.Sink.holds in
    let view = g.D.Disk.view in
    record {
      run : (brands : List Tabled) (R : List Commit) → StandsFor (opening brands R) l.fn.machine → FindsAlways l.fn.mode (view l.fn.machine.bank.disk) (left l.fn.source)
          → Follows l.fn.mode none_put brands R (λ S. StandsFor S l.machine) (Left brands R (view l.fn.machine.bank.disk) (view l.machine.bank.disk)) l.refused (l.before + 1) (holds l.fn.out) (after_known (holds l.out) l.waiting.items) (before_known l.ahead (left l.source)) (left l.fn.source);
      asks : AsksBrands g.F.Fn l.machine;
      ready : MayGoOn view l.machine;
      few : length l.ahead ≤ 4096;
      written : HasWritten (holds l.fn.out) (holds l.out);
      read : g.S.Source.faults l.fn.source ≤ g.S.Source.faults l.source;
      write : g.K.Sink.faults l.fn.out ≤ g.K.Sink.faults l.out;
      passes : Passes (view l.fn.machine.bank.disk) (view l.machine.bank.disk);
    }

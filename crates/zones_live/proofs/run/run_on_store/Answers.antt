use Rattle.std.proofs.Common.{arith, inl, inr, refl, rules}
use Rattle.brand_hooks.specs.Brands.{tables_of}
use Rattle.live_input.specs.Input.{input_of}
use Rattle.zones_live.proofs.Lives.{faults-later, if-always, lives-failed, lives-known, some-later}
use Rattle.zones_live.proofs.Opened.{neither}
use Rattle.zones_run.proofs.Opened.{opens_refused}
use Rattle.zones_live.proofs.run.run_on_store.Goals as goal

pub returns-in-Ok-clause-lives : goal.returns-in-Ok-clause-lives
returns-in-Ok-clause-lives g c = λ R is.
    let view = g.D.Disk.view in
    let e = c.in-Ok.ensures in
    let brands = tables_of c.args.brands.now in
    let ran = c.run_input in
    lives-known brands R (g.S.Source.left c.args.src.now) ran.result.0 (g.K.Sink.holds c.args.out.now) (g.K.Sink.holds ran.new.out) (g.E.Sink.holds c.args.err.now) (g.E.Sink.holds ran.new.err) (g.E.Sink.faults c.args.err.now) (g.E.Sink.faults ran.new.err) (view c.args.disk) (view ran.result.1)
    (some-later brands R (view c.args.disk) (view c.in-Ok.machine.bank.disk) (view ran.result.1) e.passes.model.0 (λ store. (e.opened R store).1) ran.result.0 (g.K.Sink.holds c.args.out.now) (g.K.Sink.holds ran.new.out) (g.E.Sink.holds c.args.err.now) (g.E.Sink.holds ran.new.err) (g.E.Sink.faults c.args.err.now) (g.E.Sink.faults ran.new.err) (g.S.Source.left c.args.src.now)
    (ran.ensures.lives brands R (e.opened R is).0))

pub returns-in-Ok-clause-any_disk : goal.returns-in-Ok-clause-any_disk
returns-in-Ok-clause-any_disk g c =
    let view = g.D.Disk.view in
    let e = c.in-Ok.ensures in
    let brands = tables_of c.args.brands.now in
    let ran = c.run_input in
    let R = e.found.0 in
    inl (
      R,
      e.found.2,
      some-later brands R (view c.args.disk) (view c.in-Ok.machine.bank.disk) (view ran.result.1) e.passes.model.0 (λ store. (e.opened R store).1) ran.result.0 (g.K.Sink.holds c.args.out.now) (g.K.Sink.holds ran.new.out) (g.E.Sink.holds c.args.err.now) (g.E.Sink.holds ran.new.err) (g.E.Sink.faults c.args.err.now) (g.E.Sink.faults ran.new.err)
          (g.S.Source.left c.args.src.now) (ran.ensures.lives brands R e.found.1),
    )

pub returns-in-Err-Memory-default-clause-any_disk : goal.returns-in-Err-Memory-default-clause-any_disk
returns-in-Err-Memory-default-clause-any_disk g c = inr (record { nothing = refl; only = inr (inr c.fail.ensures.status) })

pub returns-in-Err-DiskFault-default-clause-any_disk : goal.returns-in-Err-DiskFault-default-clause-any_disk
returns-in-Err-DiskFault-default-clause-any_disk g c = inr (record { nothing = refl; only = inl c.fail-in-Err-DiskFault-default.ensures.status })

pub returns-in-Err-clause-any_disk : goal.returns-in-Err-clause-any_disk
returns-in-Err-clause-any_disk g c = inr (record { nothing = refl; only = inr c.tell_ending.ensures.statuses })

pub returns-in-Err-Memory-default-clause-lives : goal.returns-in-Err-Memory-default-clause-lives
returns-in-Err-Memory-default-clause-lives g c = λ R is.
    let view = g.D.Disk.view in
    let e = c.in-Err-Memory-default.ensures in
    if-always _ (g.S.Source.left c.args.src.now) (λ bytes. lives-failed (tables_of c.args.brands.now) R (input_of bytes) c.fail.result (g.K.Sink.holds c.args.out.now) (g.E.Sink.holds c.args.err.now) (g.E.Sink.holds c.fail.new.err) (g.E.Sink.faults c.args.err.now) (g.E.Sink.faults c.fail.new.err) (view c.args.disk) (view c.in-Err-Memory-default.disk) e.passes_err.model.0 (λ store. (e.refused R store).1) (inr (inl c.fail.ensures.status)))

pub returns-in-Err-DiskFault-default-clause-lives : goal.returns-in-Err-DiskFault-default-clause-lives
returns-in-Err-DiskFault-default-clause-lives g c = λ R is.
    let view = g.D.Disk.view in
    let e = c.in-Err-DiskFault-default.ensures in
    if-always _ (g.S.Source.left c.args.src.now) (λ bytes. lives-failed (tables_of c.args.brands.now) R (input_of bytes) c.fail-in-Err-DiskFault-default.result (g.K.Sink.holds c.args.out.now) (g.E.Sink.holds c.args.err.now) (g.E.Sink.holds c.fail-in-Err-DiskFault-default.new.err) (g.E.Sink.faults c.args.err.now) (g.E.Sink.faults c.fail-in-Err-DiskFault-default.new.err) (view c.args.disk) (view c.in-Err-DiskFault-default.disk) e.passes_err.model.0 (λ store. (e.refused R store).1)
    (inr (inr c.fail-in-Err-DiskFault-default.ensures.status)))

pub returns-in-Err-clause-lives : goal.returns-in-Err-clause-lives
returns-in-Err-clause-lives g c = λ R is. absurd (neither c.in-Err.fault (search rules) (search rules) (c.in-Err.ensures.refused R is).0)

pub returns-in-Err-clause-store : goal.returns-in-Err-clause-store
returns-in-Err-clause-store g c = λ is keeps. record {
  fault = c.in-Err.fault;
  found = opens_refused c.in-Err.fault (g.D.Disk.view c.args.disk) c.in-Err.ensures.refuses (search rules) (search rules) keeps;
  line = c.tell_ending.ensures.line (λ m. grind (arith, is, m));
}

pub returns-in-Ok-clause-faults : goal.returns-in-Ok-clause-faults
returns-in-Ok-clause-faults g c =
    let view = g.D.Disk.view in
    faults-later c.run_input.result.0 (g.K.Sink.faults c.args.out.now) (g.K.Sink.faults c.run_input.new.out) (g.E.Sink.holds c.args.err.now) (g.E.Sink.holds c.run_input.new.err) (g.E.Sink.faults c.args.err.now) (g.E.Sink.faults c.run_input.new.err) (view c.args.disk) (view c.in-Ok.machine.bank.disk) (view c.run_input.result.1) c.in-Ok.ensures.passes.faults c.run_input.ensures.faults

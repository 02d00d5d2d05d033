use Rattle.std.proofs.Common.{◌≡◌, ◌++◌, ◌∷◌, ◌∙◌, [], List, ap, append-nil, arith, length, refl, rules, subst, sym}
use Rattle.std.specs.Vec.Iter.{into_iter_items}
use Rattle.commit_journal.specs.declared.records.Commit.{Commit}
use Rattle.session_runs.proofs.Machine_steps.{passes-none, passes-on}
use Rattle.zone_cases.specs.declared.events.Declaration.{Declaration}
use Rattle.zone_machine.specs.Code.Openings.{StandsFor}
use Rattle.zone_machine.specs.Machine.Histories.{after}
use Rattle.zones_live.specs.Declaring.{Declared}
use Rattle.zones_live.proofs.Declares.{all-next, declared-more, declared-none, keeps-more, keeps-ready, nothing-left}
use Rattle.zones_run.specs.Recording.{KeepsStore}
use Rattle.zones_live.proofs.declaring.declare.Goals as goal

pub loop-what-init : goal.loop-what-init
loop-what-init g c =
    let v = g.D.Disk.view c.args.machine.now.bank.disk in
    record {
      all = refl;
      long = search rules;
      declared = λ S s. declared-none S c.args.entries.now.items (λ T. StandsFor T c.args.machine.now) s;
      kept = λ S s k. keeps-ready S c.args.machine.now v (g.met.D.Disk.sound c.args.machine.now.bank.disk) s c.requires.ready k;
      asks = c.requires.asks;
      ready = c.requires.ready;
      passes = passes-none v;
    }

pub loop-what-preserved : goal.loop-what-preserved
loop-what-preserved g c =
    let view = g.D.Disk.view in
    let l = c.loop-what in
    let what = c.in-Some.what in
    let steps = c.in-Some.ensures.steps in
    let new = c.declare_one.new in
    let long = l.invariant.long in
    let gone = steps.1 in
    let short = ap length steps.0 in
    record {
      all = all-next l.yielded _ _ _ what l.invariant.all steps.0;
      long = omega (arith, long, gone, short);
      declared = λ S s.
          let a = l.invariant.declared S s in
          declared-more S l.yielded (what ∷ []) c.args.entries.now.items l.entries.items new.entries.items (λ T. StandsFor T l.machine) (λ T. StandsFor T new.machine) a (c.in_ok-declare_one.ensures.declared (after S a.first) a.stood);
      kept = λ S s k.
          let a = l.invariant.declared S s in
          keeps-more S.commits (view c.args.machine.now.bank.disk) (view l.machine.bank.disk) (view new.machine.bank.disk) (l.invariant.kept S s k)
          (subst (λ (R : List Commit). KeepsStore R (view l.machine.bank.disk) (view new.machine.bank.disk)) a.same (c.declare_one.ensures.kept (after S a.first) a.stood (l.invariant.passes.model.0 k)));
      asks = c.declare_one.ensures.asks;
      ready = c.in_ok-declare_one.ensures.ready;
      passes = passes-on _ _ _ l.invariant.passes c.declare_one.ensures.passes;
    }

pub returns-in_err-declare_one-clause-kept : goal.returns-in_err-declare_one-clause-kept
returns-in_err-declare_one-clause-kept g c = λ S s k.
    let view = g.D.Disk.view in
    let l = c.loop-what in
    let new = c.declare_one.new in
    let a = l.invariant.declared S s in
    keeps-more S.commits (view c.args.machine.now.bank.disk) (view l.machine.bank.disk) (view new.machine.bank.disk) (l.invariant.kept S s k)
    (subst (λ (R : List Commit). KeepsStore R (view l.machine.bank.disk) (view new.machine.bank.disk)) a.same (c.declare_one.ensures.kept (after S a.first) a.stood (l.invariant.passes.model.0 k)))

pub returns-clause-declared : goal.returns-clause-declared
returns-clause-declared g c = λ S s.
    let l = c.loop-what in
    let empty : into_iter_items l.what-iterator ≡ [] = nothing-left _ _ l.invariant.long c.in-None.ensures.steps.0 in
    let all : l.yielded ≡ c.args.declared.items = sym (append-nil l.yielded) ∙ (ap (λ r. l.yielded ++ r) (sym empty) ∙ (l.invariant.all ∙ c.into_iter-what-iterator.ensures.into_iter_gives.0)) in
    subst (λ (ds : List Declaration). Declared S ds c.args.entries.now.items l.entries.items (λ T. StandsFor T l.machine)) all (l.invariant.declared S s)

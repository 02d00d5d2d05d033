use Rattle.std.proofs.Common.{sym}
use Rattle.std.specs.Prelude.{is_some, nat_eq}
use Rattle.zone_pools.proofs.Free_numbers.{first_free-at, first_free-end, first_free-on}
use Rattle.zone_pools.specs.Owners.{owner}
use Rattle.zone_pools.proofs.numbers.first_free.Goals as goal

pub returns-then-not-is_held : goal.returns-then-not-is_held
returns-then-not-is_held c = first_free-at (λ n. is_some (owner nat_eq c.args.used.now n)) c.args.from c.args.count c.loop-step.step _ c.loop-step.invariant c.loop-step-test.true (sym c.if-not-is_held.ensures)

pub loop-step-preserved : goal.loop-step-preserved
loop-step-preserved c = first_free-on (λ n. is_some (owner nat_eq c.args.used.now n)) c.args.from c.args.count c.loop-step.step _ c.loop-step.invariant c.loop-step-test.true (sym c.if-not-is_held.ensures)

pub returns : goal.returns
returns c = first_free-end (λ n. is_some (owner nat_eq c.args.used.now n)) c.args.from c.args.count c.loop-step.step _ c.loop-step.invariant c.loop-step-test.false

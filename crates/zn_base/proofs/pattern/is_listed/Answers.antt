use Rattle.std.proofs.Common.{◌≡◌, ◌∙◌, true, false, sym, get_or, arith, eq-eqb}
use Rattle.std.specs.Prelude.{◌==◌}
use Rattle.std.proofs.lemmas.Bool.{ne_eqb}
use Rattle.zn_base.proofs.Patterns.{is_listed-item}
use Rattle.zn_base.proofs.pattern.is_listed.Goals as goal

pub returns-then-byte-items : goal.returns-then-byte-items
returns-then-byte-items c =
    let item = is_listed-item c.args.items.now c.loop-at.at c.args.byte c.loop-at-test.true (cc) in
    let here : (c.args.byte == get_or c.args.items.now c.loop-at.at 0) ≡ true = eq-eqb _ _ c.if-byte-items.true in
    sym (rw here at item) ∙ c.loop-at.invariant.same

pub loop-at-preserved : goal.loop-at-preserved
loop-at-preserved c =
    let item = is_listed-item c.args.items.now c.loop-at.at c.args.byte c.loop-at-test.true (cc) in
    let other : (c.args.byte == get_or c.args.items.now c.loop-at.at 0) ≡ false = ne_eqb _ _ c.if-byte-items.false in
    record { same = sym (rw other at item) ∙ c.loop-at.invariant.same; within = omega arith }

use Rattle.std.proofs.Common.{◌≡◌, ◌<◌, ◌^◌, ℕ, Option, None, rules, subst, sym}
use Rattle.std.specs.Prelude.{SomeIff}
use Rattle.zn_base.specs.Decimals.{digits_value}
use Rattle.zn_base.proofs.Digits.{too_great}
use Rattle.zn_base.proofs.decimals.digits_value.Goals as goal

pub returns-in_err-number : goal.returns-in_err-number
returns-in_err-number c =
    let value = digits_value 0 c.args.text.now in
    let none : c.from_residual.result ≡ None = search rules in
    subst (λ (r : Option ℕ). SomeIff r (value < 2 ^ 64) value) (sym none)
    (too_great (2 ^ 64) c.loop-byte.number c.loop-byte.byte-index c.args.text.now c.loop-byte-test.true c.loop-byte.invariant.value (rw c.saturating_sub.ensures at c.in_err-number.ensures))

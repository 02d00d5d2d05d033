use Rattle.std.proofs.Common.{◌≤◌, ◌∙◌, ap, arith, Some, sym}
use Rattle.grant_text.specs.Text.{greatest_number}
use Rattle.grant_text.proofs.Numbers.{fits, read_again, same_number, written, zero_written}
use Rattle.grant_text.proofs.Same_bytes.{is_another, is_fixed}
use Rattle.grant_text.proofs.reading.number_in.Goals as goal

pub returns-in_err-read_decimal-clause-every : goal.returns-in_err-read_decimal-clause-every
returns-in_err-read_decimal-clause-every c = λ n few is.
    c.from_residual.ensures ∙ c.in_err-read_decimal.ensures ∙ read_again n c.args.word.now few (is_another _ _ _ c.if-eq.ensures c.as_slice.ensures) is

pub overflow_cast-result : goal.overflow_cast-result
overflow_cast-result c =
    let few : c.in_ok-read_decimal.field-0 ≤ greatest_number = fits c.in_ok-read_decimal.field-0 c.args.word.now (sym c.in_ok-read_decimal.ensures) in
    omega arith

pub returns-then-eq-clause-some : goal.returns-then-eq-clause-some
returns-then-eq-clause-some c = (omega arith, is_fixed _ _ _ c.if-eq.ensures c.as_slice.ensures ∙ zero_written)

pub returns-then-eq-clause-every : goal.returns-then-eq-clause-every
returns-then-eq-clause-every c = λ n few is.
    ap Some (same_number 0 n (omega arith) few (sym zero_written ∙ sym (is_fixed _ _ _ c.if-eq.ensures c.as_slice.ensures) ∙ is))

pub returns-in_ok-read_decimal-clause-some : goal.returns-in_ok-read_decimal-clause-some
returns-in_ok-read_decimal-clause-some c = (
  fits c.in_ok-read_decimal.field-0 c.args.word.now (sym c.in_ok-read_decimal.ensures),
  written c.in_ok-read_decimal.field-0 c.args.word.now (sym c.in_ok-read_decimal.ensures),
)

pub returns-in_ok-read_decimal-clause-every : goal.returns-in_ok-read_decimal-clause-every
returns-in_ok-read_decimal-clause-every c = λ n few is.
    c.in_ok-read_decimal.ensures ∙ read_again n c.args.word.now few (is_another _ _ _ c.if-eq.ensures c.as_slice.ensures) is

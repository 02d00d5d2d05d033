use Rattle.std.proofs.Common.{◌≡◌, ◌+◌, ◌∙◌, [], Some, arith, length, ap, sym, rules}
use Rattle.std.specs.Prelude.{unwrap_or}
use Rattle.zn_base.specs.Decimals.{decimal_of}
use Rattle.trace_text.specs.Lines.{after_word, first_word}
use Rattle.zone_cases.specs.declared.events.TheConstants.{SESSION_MAX}
use Rattle.trace_text.proofs.lines.read_session.Goals as goal

pub returns-in-Some : goal.returns-in-Some
returns-in-Some c =
    let words = c.args.words.now in
    let word : c.split_at_byte.result.0.now ≡ first_word words = c.split_at_byte.ensures.before in
    let number : decimal_of SESSION_MAX (first_word words) ≡ Some c.in-Some.number = ap (decimal_of SESSION_MAX) (sym word) ∙ (sym c.session_number.ensures ∙ c.in-Some.is) in
    let place : 2 + length c.split_at_byte.result.0.now + 1 ≡ length (first_word words) + 3 = rw word (omega arith) in
    let text : c.unwrap_or.result.now ≡ unwrap_or (after_word words) [] = search rules in
    rw number (rw (← place, ← text) c.read_typed.ensures)

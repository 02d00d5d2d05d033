use Rattle.std.proofs.Common.{inl, inr}
use Rattle.std.proofs.lemmas.Result.{err_from_is_err_and}
use Rattle.zonecfg_lex.proofs.FilledSpans.{parts_of-Err, parts_of-Ok}
use Rattle.zonecfg_lex.proofs.spans.parts.Goals as goal

pub returns-in_err-tokens-clause-parts : goal.returns-in_err-tokens-clause-parts
returns-in_err-tokens-clause-parts c =
    let p = err_from_is_err_and c.from_residual.result c.from_residual.ensures.1 in
    rw (p.1, p.2) (elim c.in_err-tokens.ensures.tokens [ inl memory ↦ inl memory | inr said ↦ inr (parts_of-Err c.args.line.now _ said) ])

pub returns-clause-parts : goal.returns-clause-parts
returns-clause-parts c =
    parts_of-Ok c.args.line.now c.in_ok-tokens.tokens.items c.deref.result.now c.in_ok-filled_spans.field-0.items c.in_ok-tokens.ensures.tokens c.deref.ensures.value c.in_ok-filled_spans.ensures.spans

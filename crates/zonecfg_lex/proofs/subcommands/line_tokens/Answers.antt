use Rattle.std.proofs.Common.{inl, inr, subst, sym, ◌∙◌}
use Rattle.std.proofs.lemmas.Result.{err_from_is_err_and}
use Rattle.zonecfg_lex.specs.Tokens.{AreRising}
use Rattle.zonecfg_lex.proofs.PartTokens.{comment_texts, line_fault, line_reads, line_texts, no_comment, written_back}
use Rattle.zonecfg_lex.proofs.Printable.{sound_tokens}
use Rattle.zonecfg_lex.proofs.subcommands.line_tokens.Goals as goal

pub returns-then-is_comment-clause-texts : goal.returns-then-is_comment-clause-texts
returns-then-is_comment-clause-texts c = rw c.clear.ensures.items (comment_texts c.args.line.now (sym c.is_comment.ensures ∙ c.if-is_comment.true))

pub returns-in_err-tokens-clause-texts : goal.returns-in_err-tokens-clause-texts
returns-in_err-tokens-clause-texts c =
    let p = err_from_is_err_and c.from_residual.result c.from_residual.ensures.1 in
    rw (p.1, p.2) (elim c.in_err-tokens.ensures [
      | inl memory ↦ inl memory
      | inr said ↦ inr (line_fault c.args.line.now _ (no_comment c.args.line.now _ (sym c.is_comment.ensures ∙ c.if-is_comment.false) said))
    ])

pub count_in_parts-requires : goal.count_in_parts-requires
count_in_parts-requires c = subst AreRising (sym c.deref_mut.ensures.value) (sound_tokens c.args.line.now c.requires c.in_ok-tokens.tokens.items c.in_ok-tokens.ensures).rising

pub returns-clause-texts : goal.returns-clause-texts
returns-clause-texts c =
    let sound = sound_tokens c.args.line.now c.requires c.in_ok-tokens.tokens.items c.in_ok-tokens.ensures in
    line_texts c.args.line.now c.in_ok-tokens.tokens.items _ (no_comment c.args.line.now _ (sym c.is_comment.ensures ∙ c.if-is_comment.false) c.in_ok-tokens.ensures) sound.rising sound.within
    (written_back c.in_ok-tokens.tokens.items c.deref_mut.result.now c.count_in_parts.new.tokens c.in_ok-tokens.tokens.len c.in_ok-tokens.tokens.ok.0 c.deref_mut.ensures.value c.count_in_parts.ensures)

pub returns-clause-read : goal.returns-clause-read
returns-clause-read c =
    line_reads c.args.line.now c.in_ok-tokens.tokens.items _ (no_comment c.args.line.now _ (sym c.is_comment.ensures ∙ c.if-is_comment.false) c.in_ok-tokens.ensures)
    (written_back c.in_ok-tokens.tokens.items c.deref_mut.result.now c.count_in_parts.new.tokens c.in_ok-tokens.tokens.len c.in_ok-tokens.tokens.ok.0 c.deref_mut.ensures.value c.count_in_parts.ensures)

use Rattle.std.proofs.Common.{◌≡◌, ap, arith, cond, get_or, refl, sym, ◌∙◌}
use Rattle.zonecfg_lex.specs.declared.token.TokenKind.TheVariants.{Word}
use Rattle.zonecfg_lex.specs.Subcommands.{part_start}
use Rattle.zonecfg_lex.specs.Tokens.{token}
use Rattle.zonecfg_lex.proofs.PartTokens.{counted_more}
use Rattle.zonecfg_lex.proofs.subcommands.count_in_parts.Goals as goal
use Rattle.zonecfg_lex.proofs.subcommands.count_in_parts.Goals.{then-is_semicolon, else-is_semicolon}

pub loop-token-preserved : goal.loop-token-preserved
loop-token-preserved c =
    let it = counted_more c.loop-token.tokens c.loop-token.token-index c.loop-token.start (token Word 0 0) _ _ (omega arith) c.loop-token.invariant.rising c.loop-token.invariant.all refl in
    let start : part_start c.loop-token.start (get_or c.loop-token.tokens c.loop-token.token-index (token Word 0 0)) ≡ c.if-is_semicolon.start =
    elim c.if-is_semicolon.branch [
      | then-is_semicolon w ↦ ap (λ v. cond v (get_or c.loop-token.tokens c.loop-token.token-index (token Word 0 0)).end c.loop-token.start) (sym c.is_semicolon.ensures ∙ w.if-is_semicolon.true) ∙ sym w.start-is
      | else-is_semicolon w ↦ ap (λ v. cond v (get_or c.loop-token.tokens c.loop-token.token-index (token Word 0 0)).end c.loop-token.start) (sym c.is_semicolon.ensures ∙ w.if-is_semicolon.false) ∙ sym w.start-is
    ] in
    record { all = rw start at it.0; rising = rw start at it.1 }

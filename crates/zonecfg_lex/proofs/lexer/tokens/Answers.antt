use Rattle.std.proofs.Common.{rules}
use Rattle.zonecfg_lex.specs.Tokens.{tokens_of}
use Rattle.zonecfg_lex.proofs.lexer.tokens.Goals as goal

pub returns-then-is_comment-clause-tokens : goal.returns-then-is_comment-clause-tokens
unfolding tokens_of
returns-then-is_comment-clause-tokens c = rw (← c.is_comment.ensures, c.if-is_comment.true) (search rules)

pub returns-clause-tokens : goal.returns-clause-tokens
unfolding tokens_of
returns-clause-tokens c = rw (← c.is_comment.ensures, c.if-is_comment.false) c.part_tokens.ensures.tokens

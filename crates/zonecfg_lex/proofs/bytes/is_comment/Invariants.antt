use Rattle.std.proofs.Common.{◌≡◌, drop}
use Rattle.zonecfg_lex.specs.Tokens.{is_comment}
use Rattle.zonecfg_lex.proofs.bytes.is_comment.Given as goal

abbrev pub invariant-loop-byte : goal.invariant-loop-byte
invariant-loop-byte l = is_comment (drop l.byte-index l.line) ≡ is_comment l.line

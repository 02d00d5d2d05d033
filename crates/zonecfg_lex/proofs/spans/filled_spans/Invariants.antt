use Rattle.std.proofs.Common.{◌≡◌, ◌++◌, false, drop}
use Rattle.zonecfg_lex.proofs.FilledSpans.{filled}
use Rattle.zonecfg_lex.proofs.spans.filled_spans.Given as goal

-- the spans so far, and then those of what is left
abbrev pub invariant-loop-token : goal.invariant-loop-token
invariant-loop-token l = l.spans.items ++ filled l.start l.filled l.end (drop l.token-index l.tokens) ≡ filled 0 false l.end l.tokens

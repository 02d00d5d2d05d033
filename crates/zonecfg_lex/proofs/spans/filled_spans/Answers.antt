use Rattle.std.proofs.Common.{All, List, arith, subst, sym}
use Rattle.zonecfg_lex.specs.declared.token.Span.{Span}
use Rattle.zonecfg_lex.specs.Parts.{IsSpanWithin, SpansRise}
use Rattle.zonecfg_lex.proofs.FilledSpans.{all_found, filled-filter, filled_rise, filled_within}
use Rattle.zonecfg_lex.proofs.spans.filled_spans.Goals as goal

pub returns-clause-spans : goal.returns-clause-spans
returns-clause-spans c =
    let all = all_found c.loop-token.spans.items _ c.loop-token.start c.args.end c.loop-token.token-index c.loop-token.filled c.args.tokens.now (omega arith) c.loop-token.invariant c.in_ok-push_if-2.ensures in
    rw all (filled-filter c.args.tokens.now c.args.end c.requires.rising c.requires.within)

pub returns-clause-within : goal.returns-clause-within
returns-clause-within c =
    let all = all_found c.loop-token.spans.items _ c.loop-token.start c.args.end c.loop-token.token-index c.loop-token.filled c.args.tokens.now (omega arith) c.loop-token.invariant c.in_ok-push_if-2.ensures in
    let P : List Span → Type 0 = λ ss. All (IsSpanWithin c.args.end) ss in
    subst P (sym all) (filled_within c.args.tokens.now c.args.end c.requires.rising c.requires.within)

pub returns-clause-rising : goal.returns-clause-rising
returns-clause-rising c =
    let all = all_found c.loop-token.spans.items _ c.loop-token.start c.args.end c.loop-token.token-index c.loop-token.filled c.args.tokens.now (omega arith) c.loop-token.invariant c.in_ok-push_if-2.ensures in
    subst SpansRise (sym all) (filled_rise c.args.tokens.now c.args.end c.requires.rising c.requires.within)

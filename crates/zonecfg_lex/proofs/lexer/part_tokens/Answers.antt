use Rattle.std.proofs.Common.{Vec, Global}
use Rattle.std.proofs.lemmas.Result.{IfOk-weaker}
use Rattle.zonecfg_lex.specs.declared.token.Token.{Token}
use Rattle.zonecfg_lex.specs.Tokens.{part_tokens_of}
use Rattle.zonecfg_lex.proofs.Printable.{KeepTo, keep}
use Rattle.zonecfg_lex.proofs.lexer.part_tokens.Goals as goal

pub returns-clause-tokens : goal.returns-clause-tokens
unfolding part_tokens_of
returns-clause-tokens c = c.cut.ensures

pub returns-clause-within : goal.returns-clause-within
returns-clause-within c =
    IfOk-weaker c.cut.result (λ (v : Vec Token Global). KeepTo c.args.part.now v.items) _ (λ v k. k.within) (keep c.args.part.now c.requires c.cut.result c.cut.ensures)

pub returns-clause-rising : goal.returns-clause-rising
returns-clause-rising c =
    IfOk-weaker c.cut.result (λ (v : Vec Token Global). KeepTo c.args.part.now v.items) _ (λ v k. k.rising) (keep c.args.part.now c.requires c.cut.result c.cut.ensures)

pub returns-clause-printable : goal.returns-clause-printable
returns-clause-printable c =
    IfOk-weaker c.cut.result (λ (v : Vec Token Global). KeepTo c.args.part.now v.items) _ (λ v k. k.printable) (keep c.args.part.now c.requires c.cut.result c.cut.ensures)

pub returns-clause-readable : goal.returns-clause-readable
returns-clause-readable c =
    IfOk-weaker c.cut.result (λ (v : Vec Token Global). KeepTo c.args.part.now v.items) _ (λ v k. k.readable) (keep c.args.part.now c.requires c.cut.result c.cut.ensures)

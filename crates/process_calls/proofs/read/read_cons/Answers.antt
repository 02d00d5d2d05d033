use Rattle.std.proofs.Common.{inr, subst, sym}
use Rattle.zn_base.specs.Answers.{AnswersUnless}
use Rattle.process_calls.specs.declared.call.CallFault.TheVariants.{Memory}
use Rattle.process_calls.proofs.Rests.{cons_behind, cons_missing}
use Rattle.process_calls.proofs.read.read_cons.Goals as goal

pub returns-then-behind-text : goal.returns-then-behind-text
returns-then-behind-text c = inr (cons_missing c.args.text.now c.args.behind c.if-behind-text.true)

pub returns : goal.returns
returns c =
    subst (λ said. AnswersUnless Memory said c.read_line.result) (sym (cons_behind c.args.text.now c.args.behind c.requires c.if-behind-text.false)) c.read_line.ensures

use Rattle.zn_base.specs.Answers.{AnswersUnless}
use Rattle.process_calls.specs.declared.call.CallFault.TheVariants.{Memory}
use Rattle.process_calls.specs.Calls.{call_of}
use Rattle.process_calls.proofs.Told.{place_told, right_told, told_by}
use Rattle.process_calls.proofs.read.read_call.Goals as goal

pub returns : goal.returns
returns c =
    let call : AnswersUnless Memory (call_of c.args.text.now) c.read_by.result = told_by c.args.text.now _ _ c.read_by.result c.word_at.ensures.1 c.read_by.ensures in
    record {
      call = call;
      right = right_told c.args.text.now c.read_by.result call;
      place = place_told c.args.text.now c.read_by.result call;
    }

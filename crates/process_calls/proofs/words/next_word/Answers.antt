use Rattle.std.proofs.Common.{◌<◌, length, ap, arith, ◌∙◌}
use Rattle.process_calls.specs.declared.call.CallFault.TheVariants.{BadWord}
use Rattle.process_calls.proofs.Splitting.{more_behind, nothing_behind}
use Rattle.process_calls.proofs.words.next_word.Goals as goal

pub returns-then-behind-text : goal.returns-then-behind-text
returns-then-behind-text c =
    (nothing_behind c.args.text.now c.args.behind c.if-behind-text.true, ap BadWord c.if-behind-text.true)

pub returns : goal.returns
returns c =
    let inside : c.args.behind < length c.args.text.now = omega arith in
    (c.word_at.ensures.0, more_behind c.args.text.now c.args.behind inside ∙ c.word_at.ensures.1)

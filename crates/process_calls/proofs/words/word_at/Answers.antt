use Rattle.process_calls.proofs.Splitting.{word_there}
use Rattle.process_calls.proofs.words.word_at.Goals as goal

pub returns : goal.returns
returns c =
    let there = word_there c.args.text.now c.args.place c.split_at_byte.result.0.now c.requires c.split_at_byte.ensures.before in
    (there.inside, there.rest)

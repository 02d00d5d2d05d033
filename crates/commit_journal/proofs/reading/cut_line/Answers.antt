use Rattle.std.proofs.Common.{◌≡◌, ◌++◌, ◌∷◌, Some, arith, ◌∙◌}
use Rattle.std.specs.Prelude.{option_copied}
use Rattle.commit_journal.proofs.Lines.{line_cut, value_cut}
use Rattle.commit_journal.proofs.reading.cut_line.Goals as goal

pub returns-in_err-rest : goal.returns-in_err-rest
returns-in_err-rest c = λ value rest lacked is.
    let cut = line_cut c.args.bytes.now c.args.word.now value rest c.requires.word lacked is in
    let behind : option_copied c.split_at_byte.result.1 ≡ Some rest = c.split_at_byte.ensures.after ∙ cut.1 in
    absurd (cc (rw c.in_err-rest.was at behind))

pub returns-then-line-start : goal.returns-then-line-start
returns-then-line-start c = λ value rest lacked is.
    let cut = line_cut c.args.bytes.now c.args.word.now value rest c.requires.word lacked is in
    let line : c.split_at_byte.result.0.now ≡ c.args.word.now ++ 32 ∷ value = c.split_at_byte.ensures.before ∙ cut.0 in
    let long = (value_cut c.split_at_byte.result.0.now c.args.word.now value line).0 in
    omega (arith, long)

pub returns : goal.returns
returns c = λ value rest lacked is.
    let cut = line_cut c.args.bytes.now c.args.word.now value rest c.requires.word lacked is in
    let behind : Some c.in_ok-rest.rest.now ≡ Some rest = rw c.in_ok-rest.was at (c.split_at_byte.ensures.after ∙ cut.1) in
    let line : c.split_at_byte.result.0.now ≡ c.args.word.now ++ 32 ∷ value = c.split_at_byte.ensures.before ∙ cut.0 in
    ((value_cut c.split_at_byte.result.0.now c.args.word.now value line).1, cc)

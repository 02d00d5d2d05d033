use Rattle.std.proofs.Common.{◌≡◌, ◌∙◌, ap}
use Rattle.zone_cases.specs.Session.Lines.{from_word, past_spaces, past_word, tool_command, words}
use Rattle.zone_cases.proofs.session.lines.zone_command.Goals as goal

pub returns : goal.returns
returns c =
    let at : past_spaces c.in_ok-text-2.text.now ≡ from_word 3 c.args.text.now =
    ap past_spaces (c.in_ok-text-2.ensures.past ∙ ap past_word (c.in_ok-text.ensures.past ∙ ap past_word c.in_ok-tool.ensures.past)) in
    rw (c.in_ok-tool.ensures.word, c.in_ok-text.ensures.words, c.in_ok-text-2.ensures.word)
    (c.tool_command.ensures ∙ ap (λ t. tool_command t c.in_ok-tool.tool.now (words c.in_ok-text-2.text.now)) at)

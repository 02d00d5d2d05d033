use Rattle.std.proofs.Common.{◌≡◌, ◌∙◌, Some, ap, false, rules}
use Rattle.std.specs.Prelude.{bytes_eq, codes}
use Rattle.zone_cases.specs.Session.Lines.{entered_command, from_word, is_escape_option, past_spaces, past_word, words}
use Rattle.zone_cases.proofs.session.zlogin_lines.zlogin_command.Goals as goal

pub returns-else-is_escape_option : goal.returns-else-is_escape_option
returns-else-is_escape_option c = λ line behind.
    let at : past_spaces c.in_ok-word.rest.now ≡ from_word 2 line = ap past_spaces (c.in_ok-word.ensures.past ∙ ap past_word behind) in
    let other : bytes_eq c.in_ok-word.word.now (codes "-C") ≡ false = search rules in
    let plain : is_escape_option c.in_ok-word.word.now ≡ false = search rules in
    rw (c.in_ok-word.ensures.word, other, plain) (ap Some (c.entered_command.ensures ∙ ap (λ t. entered_command t (words c.in_ok-word.rest.now)) at))

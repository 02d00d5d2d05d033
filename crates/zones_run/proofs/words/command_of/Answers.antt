use Rattle.std.proofs.Common.{Option, string_bytes, subst, sym}
use Rattle.std.specs.Prelude.{OnErr}
use Rattle.zones_run.specs.Words.{Purges}
use Rattle.zones_run.specs.declared.words.Command.{Command}
use Rattle.zones_run.proofs.Purging.{no_form, two_words}
use Rattle.zones_run.proofs.words.command_of.Goals as goal

pub returns-in_default-clause-some : goal.returns-in_default-clause-some
returns-in_default-clause-some c = no_form (λ word. string_bytes word) c.args.words.now c.in_default.len_at_least

pub returns-in-len2-clause-memory : goal.returns-in-len2-clause-memory
returns-in-len2-clause-memory c =
    subst (λ (command : Option Command). OnErr c.command_for.result (Purges command)) (sym (two_words (λ word. string_bytes word) c.args.words.now c.word-item-then-words-lt3.result c.name-item.result c.in-len2.len_at_least c.in-len2.len_below c.word-item-then-words-lt3.is c.name-item.is))
    (rw (c.as_str-in-len2.ensures.value, c.as_str-in-len2-2.ensures.value) at c.command_for.ensures.memory)

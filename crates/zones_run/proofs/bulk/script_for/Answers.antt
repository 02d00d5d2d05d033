use Rattle.std.proofs.Common.{◌+◌, ◌++◌, ◌∙◌, ap, sym, List, ℕ}
use Rattle.zones_run.specs.Bulk.{lines_for}
use Rattle.zones_run.specs.Fixed.{text_of_lines}
use Rattle.zones_run.proofs.Bulk_texts.{bulk_more, bulk_none}
use Rattle.zones_run.proofs.bulk.script_for.Goals as goal

pub loop-before-init : goal.loop-before-init
loop-before-init c = c.new-text.ensures.items ∙ sym bulk_none

pub loop-before-preserved : goal.loop-before-preserved
loop-before-preserved c =
    c.in_ok-push_lines_for.ensures ∙ ap (λ (text : List ℕ). text ++ text_of_lines (lines_for (c.loop-before.before + 1))) c.loop-before.invariant ∙ bulk_more c.loop-before.before

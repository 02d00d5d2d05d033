use Rattle.std.proofs.Common.{◌++◌, ◌∙◌, ap, List, ℕ}
use Rattle.zones_run.proofs.Bulk_texts.{halt_put}
use Rattle.zones_run.proofs.bulk.push_halt.Goals as goal

pub returns : goal.returns
returns c = c.in_ok-push_line.ensures ∙ ap (λ (text : List ℕ). c.args.text.now.items ++ text) (halt_put c.args.number c.if-number-ne0.false)

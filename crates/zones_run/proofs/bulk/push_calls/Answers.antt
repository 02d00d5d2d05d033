use Rattle.std.proofs.Common.{◌++◌, ◌∙◌, ap, List, ℕ, ◌∷◌, []}
use Rattle.zones_run.specs.Bulk.{call_line}
use Rattle.zones_run.proofs.Bulk_texts.{calls_more}
use Rattle.zones_run.proofs.bulk.push_calls.Goals as goal

pub loop-call-preserved : goal.loop-call-preserved
loop-call-preserved c =
    c.in_ok-push_line.ensures ∙ ap (λ (text : List ℕ). text ++ (call_line c.args.number ++ 10 ∷ [])) c.loop-call.invariant ∙ calls_more c.args.number c.loop-call.call c.args.text.now.items

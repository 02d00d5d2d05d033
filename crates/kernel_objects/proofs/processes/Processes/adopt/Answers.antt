use Rattle.std.proofs.Common.{◌∙◌, ap, map, rules}
use Rattle.std.proofs.lemmas.Map.Made.{map_same_pairs}
use Rattle.kernel_objects.specs.Processes.{adopted, process_of}
use Rattle.kernel_objects.proofs.Entries.{adopted_all, adopted_in}
use Rattle.kernel_objects.proofs.processes.Processes.adopt.Goals as goal

pub returns : goal.returns
returns c =
    ap (map process_of) (map_same_pairs _ (adopted_in c.args.gone c.args.heir) _ (λ k v b w f' t. search rules) _ _ c.retain.ensures.filtered)
    ∙ adopted_all c.args.gone c.args.heir c.self.inside.by_pid.entries ∙ ap (map (adopted c.args.gone c.args.heir)) c.self.view_is

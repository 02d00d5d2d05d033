use Rattle.std.proofs.Common.{◌∙◌, None, ap, nat_eq}
use Rattle.std.specs.Prelude.{if◌then◌else◌}
use Rattle.std.specs.List.{list_any}
use Rattle.zone_pools.specs.Owners.{owner}
use Rattle.kernel_objects.specs.Processes.{has_pid}
use Rattle.kernel_objects.proofs.Entries.{any_key}
use Rattle.kernel_objects.proofs.processes.Processes.give_back.Goals as goal

pub loop-pid-init : goal.loop-pid-init
loop-pid-init c = λ n.
    let keys = c.into_iter-pid-iterator.ensures.into_iter_gives ∙ c.keys-pid-items.ensures.rest in
    ap (λ b. if b then None else owner nat_eq c.args.pids.now n)
    (ap (list_any (λ k. nat_eq k n)) keys ∙ any_key n c.self.inside.by_pid.entries ∙ ap (list_any (has_pid n)) c.self.view_is)

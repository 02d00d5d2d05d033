use Rattle.std.proofs.Common.{◌∙◌, ap, map}
use Rattle.zone_pools.specs.Owned_lists.{put}
use Rattle.kernel_objects.specs.Processes.{below, process_of, with_pid}
use Rattle.kernel_objects.proofs.Entries.{missing, placed}
use Rattle.kernel_objects.proofs.processes.Processes.insert.Goals as goal

pub returns-clause-placed : goal.returns-clause-placed
returns-clause-placed c = λ none.
    let new = process_of (c.args.pid, c.args.running) in
    let absent = missing c.args.pid c.self.inside.by_pid.entries (ap (with_pid c.args.pid) c.self.view_is ∙ none) in
    ap (map process_of) c.in_ok-insert.ensures.entries ∙ placed c.args.pid c.args.running c.self.inside.by_pid.entries absent ∙ ap (put (below c.args.pid) new) c.self.view_is

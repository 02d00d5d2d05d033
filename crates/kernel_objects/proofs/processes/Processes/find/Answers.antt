use Rattle.std.proofs.Common.{◌∙◌, ap}
use Rattle.std.specs.Option.{option_map}
use Rattle.kernel_objects.specs.Processes.{process_of, with_pid}
use Rattle.kernel_objects.proofs.Entries.{found, lent}
use Rattle.kernel_objects.proofs.processes.Processes.find.Goals as goal

pub returns : goal.returns
returns c =
    lent c.args.pid c.get.result ∙ ap (option_map (λ r. process_of (c.args.pid, r))) c.get.ensures.value ∙ found c.args.pid c.self.inside.by_pid.entries
    ∙ ap (with_pid c.args.pid) c.self.view_is

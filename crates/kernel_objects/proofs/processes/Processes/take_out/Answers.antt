use Rattle.std.proofs.Common.{◌≡◌, ◌∙◌, None, ap, map, filter, not, sym}
use Rattle.std.specs.BTreeMap.{is_at}
use Rattle.std.specs.Map.{lookup, remove_entry}
use Rattle.std.specs.Ordering.{nat_cmp}
use Rattle.kernel_objects.specs.Processes.{Process, has_pid, process_of}
use Rattle.kernel_objects.proofs.Entries.{removed}
use Rattle.kernel_objects.proofs.processes.Processes.take_out.Goals as goal

pub returns : goal.returns
returns c =
    let at = is_at (nat_cmp c.args.pid) in
    let es = c.self.inside.by_pid.entries in
    let none : lookup at (remove_entry at es) ≡ None = ap (lookup at) (sym c.remove.ensures.entries) ∙ c.remove.ensures.updates.1 in
    ap (map process_of) c.remove.ensures.entries ∙ removed c.args.pid es none ∙ ap (filter (λ (p : Process). not (has_pid c.args.pid p))) c.self.view_is

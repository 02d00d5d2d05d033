use Rattle.std.proofs.Common.{◌≡◌, ◌++◌, ◌∙◌, ap, map, subst, sym, []}
use Rattle.std.specs.List.Sorted.{IsStrictlySortedBy}
use Rattle.std.specs.Map.Iter.{deref_pair}
use Rattle.std.specs.Ordering.{nat_cmp}
use Rattle.std.proofs.lemmas.List.{append-nil}
use Rattle.std.proofs.lemmas.Map.Iter.{rest_all}
use Rattle.kernel_objects.specs.Processes.{process_of, row_of}
use Rattle.kernel_objects.specs.declared.objects.ProcRow.{ProcRow}
use Rattle.kernel_objects.proofs.Entries.{listed}
use Rattle.kernel_objects.proofs.processes.Processes.rows.Goals as goal

pub returns-clause-ordered : goal.returns-clause-ordered
returns-clause-ordered c =
    let end : c.loop-pid.pid-iterator ≡ [] = rest_all deref_pair _ _ _ c.in-None.is c.next.ensures.steps in
    let all : c.loop-pid.rows ≡ map row_of c.args.self.now = sym (append-nil _) ∙ (ap (λ es. c.loop-pid.rows ++ map row_of (map process_of es)) (sym end) ∙ c.loop-pid.invariant) in
    let pids = ap (map (λ (r : ProcRow). r.pid)) (all ∙ ap (map row_of) (sym c.self.view_is)) ∙ listed c.self.inside.by_pid.entries in
    subst (IsStrictlySortedBy nat_cmp) (sym pids) c.iter-pid-items.ensures.ordered

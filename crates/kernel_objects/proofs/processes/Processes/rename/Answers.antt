use Rattle.std.proofs.Common.{◌∙◌, ap, map, refl, sym}
use Rattle.std.specs.Option.{option_copied_mut}
use Rattle.kernel_objects.specs.Processes.{at_pid, renamed, process_of}
use Rattle.kernel_objects.proofs.Entries.{changed, unchanged}
use Rattle.kernel_objects.proofs.processes.Processes.rename.Goals as goal
use Rattle.kernel_objects.proofs.processes.Processes.rename.Goals.{in-Some, in_default}

pub returns : goal.returns
returns c =
    let change = renamed c.args.name in
    let es = c.self.inside.by_pid.entries in
    elim c.match-get_mut.branch [
      | in-Some w ↦
          let new = record w.in-Some.running.now { name = c.args.name } in
          let old = sym c.get_mut.ensures.value ∙ ap option_copied_mut w.in-Some.is in
          rw w.self-inside-is (ap (map process_of) (c.get_mut.follows.holds new).0 ∙ changed c.args.pid change w.in-Some.running.now new (λ n. refl) es c.get_mut.ensures.ordered old
          ∙ ap (map (at_pid c.args.pid change)) c.self.view_is)
      | in_default w ↦
          let none = sym c.get_mut.ensures.value ∙ ap option_copied_mut w.in_default.is in
          rw w.self-inside-is (ap (λ m. map process_of m.entries) c.get_mut.follows.holds-at-none ∙ unchanged c.args.pid change es none ∙ ap (map (at_pid c.args.pid change)) c.self.view_is)
    ]

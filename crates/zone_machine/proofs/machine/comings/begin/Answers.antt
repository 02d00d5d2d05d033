use Rattle.kernel_objects.specs.Processes.{process_of}
use Rattle.zone_machine.proofs.Kernel_doing.{does_begin, none_owner}
use Rattle.zoneadmd_steps.proofs.Results.{on_err_both, on_ok_both}
use Rattle.zone_machine.proofs.Rooms_laws.{alike_kernels}
use Rattle.zone_machine.proofs.machine.comings.begin.Goals as goal

pub returns-clause-does : goal.returns-clause-does
returns-clause-does c =
    on_ok_both c.begin.result _ _ _
    (λ begun takes. does_begin c.args.zone.now c.args.cell.now c.args.shared.now c.begin.new.self c.begin.new.shared (process_of (c.args.pid, c.args.running.now)) (none_owner _ c.requires) takes begun)
    c.begin.ensures.begun c.begin.ensures.taken

pub returns-clause-alike : goal.returns-clause-alike
returns-clause-alike c = on_err_both c.begin.result _ _ _ (λ same alike. alike_kernels c.args.cell.now c.args.shared.now c.begin.new.self c.begin.new.shared same alike) c.begin.ensures.same c.begin.ensures.alike

use Rattle.std.proofs.Common.{◌≡◌, sym, ◌∙◌}
use Rattle.kernel_objects.specs.Kernel.{fs_allowed_of}
use Rattle.kernel_objects.specs.Processes.{may_mount}
use Rattle.zone_cases.proofs.Mount_cases.{refused_mount}
use Rattle.zone_cases.proofs.calls.mounts.mount_case.Goals as goal

pub returns-in-Err-clause-decides : goal.returns-in-Err-clause-decides
returns-in-Err-clause-decides c =
    refused_mount c.refused.result (λ p. c.args.mounter ≡ may_mount p) (fs_allowed_of c.args.kernel.now.id) c.args.call.now c.args.mounts.now.list c.in-Err.fault
    (λ p there. sym c.if-not-may_mount.false ∙ c.may_mount.ensures p there) c.in-Err.ensures c.refused.ensures.case c.refused.ensures.memory

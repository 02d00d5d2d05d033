use Rattle.std.proofs.Common.{ap, arith, length}
use Rattle.std.proofs.lemmas.List.Sums.{count_by-le-length, length-filter}
use Rattle.kernel_objects.specs.Shared.{fits_some}
use Rattle.kernel_objects.proofs.shared.KernelShared.devices_for.Goals as goal

pub returns-clause-bound : goal.returns-clause-bound
returns-clause-bound c =
    let fits = fits_some c.args.patterns.now in
    let declared = c.devices.result.now in
    omega (arith, ap length c.in_ok-fitting.ensures, length-filter fits declared, count_by-le-length fits declared, c.devices.ensures.bound)

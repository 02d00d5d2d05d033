use Rattle.std.proofs.Common.{arith}
use Rattle.zoneadmd_steps.proofs.Zonepaths.{fault_bound}
use Rattle.zoneadmd_steps.proofs.shared_cases.too_large.Goals as goal

pub overflow_cast-result : goal.overflow_cast-result
overflow_cast-result c =
    let small = fault_bound c.args.path.now c.args.contents.now c.args.fault c.requires.sound c.requires.text c.requires.fault in
    omega (arith, small, c.size_in.ensures)

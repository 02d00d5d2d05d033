use Rattle.std.proofs.Common.{refl}
use Rattle.zone_machine.proofs.Partings.{as-it-was}
use Rattle.zone_machine.proofs.machine.Machine.make_cell.Goals as goal

pub returns-in_err-make_cell-clause-same : goal.returns-in_err-make_cell-clause-same
returns-in_err-make_cell-clause-same g c = as-it-was c.args.self.now.parts _ c.make_cell.ensures.same refl

pub returns-clause-same : goal.returns-clause-same
returns-clause-same g c = as-it-was c.args.self.now.parts _ c.make_cell.ensures.same refl

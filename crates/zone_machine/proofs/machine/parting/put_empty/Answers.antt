use Rattle.std.proofs.Common.{bytes_eq}
use Rattle.std.specs.HashMap.{get_by}
use Rattle.zone_machine.proofs.Partings.{empty-more, has-new, kept-more}
use Rattle.zone_machine.proofs.machine.parting.put_empty.Goals as goal

pub returns-clause-cell : goal.returns-clause-cell
returns-clause-cell c = has-new c.args.zone c.args.cell (λ y. get_by (bytes_eq y) c.args.cells.now) _ c.put.ensures.updates.0

pub returns-clause-kept : goal.returns-clause-kept
returns-clause-kept c = kept-more c.args.zone c.args.cell (λ y. get_by (bytes_eq y) c.args.cells.now) _ c.put.ensures.updates.0

pub returns-clause-same : goal.returns-clause-same
returns-clause-same c = empty-more c.args.zone c.args.cell (λ y. get_by (bytes_eq y) c.args.cells.now) _ c.put.ensures.updates.0 c.requires.none c.requires.nothing

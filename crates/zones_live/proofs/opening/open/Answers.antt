use Rattle.brand_hooks.specs.Brands.{tables_of}
use Rattle.zones_live.proofs.Opened.{open-found, open-refused, open-stands}
use Rattle.zones_live.proofs.opening.open.Goals as goal

pub returns-clause-found : goal.returns-clause-found
returns-clause-found g c =
    let e = c.open.ensures in open-found g.D.Disk.view g.met.D.Disk.sound (tables_of c.args.brands.now) c.args.disk c.opens_store_one_way.ensures c.open.result e.begins e.stands e.opens e.ready e.passes

pub returns-clause-opened : goal.returns-clause-opened
returns-clause-opened g c = open-stands g.D.Disk.view g.met.D.Disk.sound (tables_of c.args.brands.now) c.args.disk c.open.result c.open.ensures.stands c.open.ensures.any_moment

pub returns-clause-refused : goal.returns-clause-refused
returns-clause-refused g c = open-refused g.D.Disk.view g.met.D.Disk.sound (tables_of c.args.brands.now) c.args.disk c.opens_store_one_way.ensures c.open.result c.open.ensures.refuses c.open.ensures.any_moment_err

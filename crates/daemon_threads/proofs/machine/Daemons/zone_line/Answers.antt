use Rattle.std.proofs.Common.{◌≡◌, ap, rules, subst, sym, true, ◌∙◌}
use Rattle.std.specs.Prelude.{bytes_eq}
use Rattle.zone_pools.proofs.Owned_laws.{same_true}
use Rattle.zone_cases.specs.declared.events.Subject.TheVariants.{Zone}
use Rattle.daemon_threads.proofs.Stepping.{cell-there, kept-in}
use Rattle.daemon_threads.specs.Definitions.{CellIn, place_world, state_of}
use Rattle.daemon_threads.proofs.machine.Daemons.zone_line.Goals as goal

pub returns-in-Ok-clause-step : goal.returns-in-Ok-clause-step
returns-in-Ok-clause-step g c = λ s has stands of.
    let zones = g.N.Names.zones in let brands = g.N.Names.brands in
    let same : bytes_eq c.in-Zone.name c.args.zone.now ≡ true = search rules in
    let is : c.in-Zone.name ≡ c.args.zone.now = same_true c.in-Zone.name c.args.zone.now same in
    c.in-Ok.ensures.step s (subst (λ k. CellIn brands k (place_world zones c.args.place (state_of brands s))) c.in-Zone.is has) stands (of ∙ ap Zone (sym is))

pub returns-in-Err-clause-kept : goal.returns-in-Err-clause-kept
returns-in-Err-clause-kept g c = λ sound w has.
    kept-in g.D.Disk.view g.N.Names.view g.N.Names.brands c.in-Zone.name c.args.event c.in-Zone.cell c.args.shared.now c.zone_event.new.cell c.zone_event.new.shared c.in-Err.ensures.err sound w (subst (λ k. CellIn g.N.Names.brands k w) c.in-Zone.is has)

pub returns-in-Err-clause-left : goal.returns-in-Err-clause-left
returns-in-Err-clause-left g c = λ s has stands of.
    let zones = g.N.Names.zones in let brands = g.N.Names.brands in
    let same : bytes_eq c.in-Zone.name c.args.zone.now ≡ true = search rules in
    let is : c.in-Zone.name ≡ c.args.zone.now = same_true c.in-Zone.name c.args.zone.now same in
    c.in-Err.ensures.err.stands s.stored (state_of brands s)
    (cell-there zones g.N.Names.apart brands c.args.place s c.in-Zone.name c.in-Zone.cell (subst (λ k. CellIn brands k (place_world zones c.args.place (state_of brands s))) c.in-Zone.is has)) (of ∙ ap Zone (sym is)) stands

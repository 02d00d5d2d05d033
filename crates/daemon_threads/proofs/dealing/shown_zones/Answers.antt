use Rattle.std.proofs.Common.{◌≡◌, ◌∷◌, ◌++◌, [], ap, append_assoc, rules, sym, ◌∙◌}
use Rattle.daemon_threads.proofs.Dealt_cells.{room-one}
use Rattle.daemon_threads.proofs.dealing.shown_zones.Goals as goal

pub loop-zone-preserved : goal.loop-zone-preserved
loop-zone-preserved c =
    let i = c.loop-zone.invariant in
    let z = c.in-Some.zone.now in
    let k = c.in-Some.cell.now in
    let step : c.loop-zone.zone-iterator ≡ (z, k) ∷ c.next.new.self = search rules in (
      i.0 ++ (z, k) ∷ [],
      append_assoc i.0 ((z, k) ∷ []) c.next.new.self ∙ (ap (λ l. i.0 ++ l) (sym step) ∙ i.1),
      room-one i.0 z k _ c.loop-zone.dealt c.show_zone.new.dealt i.2 c.in_ok-show_zone.ensures.zones c.in_ok-show_zone.ensures.shown c.in_ok-show_zone.ensures.cells c.in_ok-show_zone.ensures.room,
    )

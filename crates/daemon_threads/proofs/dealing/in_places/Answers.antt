use Rattle.std.proofs.Common.{◌≡◌, ◌∷◌, ◌++◌, [], ap, append_assoc, arith, rules, sym, ◌∙◌}
use Rattle.daemon_threads.proofs.Dealt_cells.{map-more}
use Rattle.daemon_threads.specs.Dealing.{place_cell}
use Rattle.daemon_threads.specs.declared.cell.PlaceCell.TheVariants as cells
use Rattle.daemon_threads.proofs.dealing.in_places.Goals as goal

pub loop-zone-preserved : goal.loop-zone-preserved
loop-zone-preserved c =
    let i = c.loop-zone.invariant in
    let z = c.in-Some.zone in
    let k = c.in-Some.cell in
    let step : c.loop-zone.zone-iterator ≡ (z, k) ∷ c.next.new.self = search rules in
    let put = c.push_reserved-in-loop-zone.ensures in
    let room = i.capacity in
    let same = put.capacity in
    record {
      done = i.done ++ (z, k) ∷ [];
      whole = append_assoc i.done ((z, k) ∷ []) c.next.new.self ∙ (ap (λ l. i.done ++ l) (sym step) ∙ i.whole);
      zones = i.zones;
      shown = i.shown;
      cells_are = put.items ∙ (ap (λ l. l ++ cells.Zone z k ∷ []) i.cells_are ∙ ap (λ l. cells.Global ∷ l) (sym (map-more place_cell i.done (z, k))));
      none = i.none;
      capacity = omega (arith, room, same);
      fits = i.fits;
    }

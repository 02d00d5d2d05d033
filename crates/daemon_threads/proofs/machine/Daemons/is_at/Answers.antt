use Rattle.std.proofs.Common.{◌≡◌, ◌<◌, length, rules, sym, ◌-◌, ◌∙◌}
use Rattle.std.specs.Prelude.{slice_index_or}
use Rattle.zone_pools.proofs.Owned_laws.{same_true}
use Rattle.daemon_threads.proofs.Places.{zone-at}
use Rattle.daemon_threads.proofs.machine.Daemons.is_at.Goals as goal

pub returns-then-at-len : goal.returns-then-at-len
returns-then-at-len g c same =
    let z = c.args.zone.now in let x = c.index.result.now in
    let is : x ≡ z = same_true x z (sym c.eq.ensures ∙ same) in
    let there : slice_index_or g.N.Names.zones (c.args.place - 2) x ≡ x = search rules in
    let near : c.args.place - 2 < length g.N.Names.zones = search rules in
    zone-at g.N.Names.zones c.args.place x z (search rules) near (there ∙ is)

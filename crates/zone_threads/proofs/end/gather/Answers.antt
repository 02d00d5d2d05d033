use Rattle.std.proofs.Common.{rules, ◌≡◌, ◌+◌, subst, vec_len}
use Rattle.zone_threads.specs.Ends.{Gathered}
use Rattle.zone_threads.proofs.end.gather.Goals as goal

pub loop-zone-preserved : goal.loop-zone-preserved
loop-zone-preserved g c =
    let i = c.loop-zone.invariant in
    let e = c.end_zone.ensures in
    let less : vec_len c.loop-zone.zones ≡ vec_len c.pop.new.self + 1 = search rules in (
      e.turn,
      e.idle,
      e.first,
      search rules,
      λ made was. e.roster made (vec_len c.pop.new.self) (subst (λ n. Gathered c.loop-zone.first.knows.role made n c.loop-zone.logs.items) less (i.4 made was)),
      search rules,
      search rules,
      e.cells i.7,
      e.near i.8,
    )

pub returns-clause-roster : goal.returns-clause-roster
returns-clause-roster g c made was =
    let none : vec_len c.loop-zone.zones ≡ 0 = search rules in
    subst (λ n. Gathered c.loop-zone.first.knows.role made n c.loop-zone.logs.items) none (c.loop-zone.invariant.4 made was)

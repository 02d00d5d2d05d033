use Rattle.std.proofs.Common.{IfSome, Option, rules, subst}
use Rattle.zone_threads.specs.Machines.{IsTurnOf, Turned}
use Rattle.zone_threads.proofs.Gives.{turned}
use Rattle.zone_threads.proofs.zone.Zone.local.Goals as goal

pub invariant_of-self-in-Some : goal.invariant_of-self-in-Some
invariant_of-self-in-Some g c =
    let D = g.M.Zoned.machine in
    let P : g.row.M-Entry.Denot → Type 0 = λ e. (w : D.World) → D.cell_of c.self.inside.cell w → Turned D c.self.inside.place c.local_turn.new.cell e w in (
      turned D g.J.Start.starts g.K.Place.turn c.self.inside.place c.self.inside.given c.self.inside.cell c.self.inside.log.items c.self.inside.marked c.self.inside.pass c.self.invariant.0
          c.local_turn.new.cell c.push_reserved.new.self.items c.in-Some.entry c.if-self.false (search rules)
          (subst (λ (o : Option g.row.M-Entry.Denot). IfSome o (IsTurnOf D c.self.inside.place)) c.in-Some.is c.in_ok-entry.ensures.turn) (subst (λ (o : Option g.row.M-Entry.Denot). IfSome o P) c.in-Some.is c.in_ok-entry.ensures.some),
      c.self.invariant.1,
    )

use Rattle.std.proofs.Common.{◌≡◌, Some, subst}
use Rattle.std.specs.Prelude.{nat_eq}
use Rattle.zone_pools.specs.Owners.{owner}
use Rattle.zone_machine.specs.Code.Cells.{Does, kept}
use Rattle.zone_machine.specs.Code.Rooms.{IsOpenTo}
use Rattle.zone_cases.specs.Code.Doings.{sits}
use Rattle.zone_cases.specs.State.Edits.{edits_world}
use Rattle.zone_machine.proofs.machine.sitting.sit_down.Goals as goal

pub returns-in-Some-Some-clause-does : goal.returns-in-Some-Some-clause-does
returns-in-Some-Some-clause-does c = λ z named opens.
    let s = c.in-Some-Some.sitting in let n = c.in-Some-Some.number in let sessions = c.args.shared.now.sessions in
    let own : s.owner ≡ z = rw c.in-Some-Some.is-1 at named in
    let free : IsOpenTo z (owner nat_eq sessions n) = rw c.in-Some-Some.is-0 at opens in
    rw (c.in-Some-Some.is-0, c.in-Some-Some.is-1)
    (subst (λ y. IsOpenTo y (owner nat_eq sessions n) → Does y (edits_world (Some n) (sits (Some s))) kept c.args.cell.now c.args.shared.now c.sit.new.cell c.sit.new.shared) own c.sit.ensures.does free)

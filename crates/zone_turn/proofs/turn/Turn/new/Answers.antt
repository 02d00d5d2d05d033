use Rattle.std.proofs.Common.{rules, ◌≡◌, subst, Some, [], ◌∷◌}
use Rattle.zone_turn.proofs.Steps.{begins}
use Rattle.atomic_table.specs.Table.{opening}
use Rattle.zone_turn.specs.Passes.{first_view}
use Rattle.zone_turn.specs.Rule.{IsTurn}
use Rattle.zone_turn.proofs.turn.Turn.new.Goals as goal

pub new-requires : goal.new-requires
new-requires g c =
    let is : Some c.args.shared ∷ [] ≡ c.push.new.self.items = search rules in
    subst (λ xs. IsTurn g.T.Storied.stands_for g.T.Storied.belongs_to (opening (0 ∷ 0 ∷ []) xs first_view)) is (begins g.T.Storied.stands_for g.T.Storied.belongs_to c.args.shared c.requires)

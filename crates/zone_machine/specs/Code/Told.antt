-- What the machine's parts tell of one zone.
use Rattle.std.specs.Prelude.{◌≡◌}
use Rattle.zn_base.specs.Names.{Name}
use Rattle.zone_cases.specs.Code.Cells.{world_or_empty}
use Rattle.zone_cases.specs.State.{State}
use Rattle.zone_cases.specs.State.Worlds.{World, world}
use Rattle.zone_machine.specs.Code.Cells.{Stands, cell_at, outside_in}
use Rattle.zone_machine.specs.declared.machine.parts.Parts.{Parts}

-- the world of z that the parts have
abbrev pub world_in : Name → Parts → World
world_in z p = world_or_empty (outside_in z p.shared) (cell_at z p)

-- it is what is told of z's world in every state that the parts stand for
abbrev pub IsTold : {A : Type 0} → Parts → Name → (World → A) → A → Type 0
IsTold p z tells told = (S : State) → Stands S p → told ≡ tells (world z S)

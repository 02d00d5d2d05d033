-- What each zone shows of itself where all zones are listed: its state, where that is none of the stored ones, and its id.
use Rattle.std.specs.Prelude.{List, None}
use Rattle.kernel_objects.specs.Kernel.{zid_of}
use Rattle.kernel_objects.specs.declared.objects.Id.{Id}
use Rattle.zn_base.specs.Names.{Name}
use Rattle.zone_pools.specs.Firsts.{first_of}
use Rattle.zone_pools.specs.Owned_lists.{mine}
use Rattle.zoneadmd_steps.specs.Desks.{Desk}
use Rattle.zone_cases.specs.State.{State}
use Rattle.zone_cases.specs.State.Worlds.{World}
use Rattle.zone_machine.specs.declared.machine.shown.Shown.{Shown}

abbrev pub nothing_shown : Shown
nothing_shown = record { active = None; id = None }

abbrev pub shown_by : Desk → List Id → Shown
shown_by d ids = record { active = d.active; id = zid_of (first_of ids) }

-- what a zone shows, by its world
abbrev pub world_shown : World → Shown
world_shown w = shown_by w.desk w.ids

-- what each zone shows
abbrev pub shown : State → Name → Shown
shown S z = shown_by (S.desks z) (mine z S.ids)

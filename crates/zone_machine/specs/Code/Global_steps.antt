-- A step of the global zone on what zones share and what they show, as the definitions have it.
use Rattle.std.specs.Prelude.{◌≡◌}
use Rattle.zone_cases.specs.State.{State}
use Rattle.zone_cases.specs.declared.events.Entry.{Entry}
use Rattle.zone_cases.specs.declared.events.Event.{Event}
use Rattle.zone_cases.specs.declared.events.Subject.TheVariants.{Global}
use Rattle.zone_machine.specs.Code.Cells.{SharedOf}
use Rattle.zone_machine.specs.Code.Shown_zones.{ShownOf}
use Rattle.zone_machine.specs.Machine.Common.{common}
use Rattle.zone_machine.specs.Machine.Histories.{after_entry, entry_at}
use Rattle.zone_machine.specs.Machine.Pools.{allowed}
use Rattle.zone_machine.specs.Machine.{subject}
use Rattle.zone_machine.specs.declared.machine.shared.Shared.{Shared}
use Rattle.zone_machine.specs.declared.machine.shown.ShownZones.{ShownZones}

-- the entry is the definitions', and what is left has what is common in the state after it, and what the zones show there
pub record GlobalAnswers (S : State) (t : ShownZones) (e : Event) (entry : Entry) (u : Shared) : Type 0 where
  pub told : entry ≡ entry_at S e (allowed S e)
  pub shared : SharedOf u (common (after_entry S entry))
  pub shown : ShownOf t (after_entry S entry)

-- whatever state they stood for in which the event is the global zone's
abbrev pub IsGlobalStep : Shared → ShownZones → Event → Entry → Shared → Type 0
IsGlobalStep s t e entry u = (S : State) → SharedOf s (common S) → ShownOf t S → subject S e ≡ Global → GlobalAnswers S t e entry u

-- Events.
use Rattle.std.specs.Prelude.{Bool, true, false}
use Rattle.zone_cases.specs.declared.events.Event.{Event}
use Rattle.zone_cases.specs.declared.events.Event.TheVariants.{Restart}

-- whether an event is a restart
abbrev pub is_restart : Event → Bool
is_restart Restart = true
is_restart e = false

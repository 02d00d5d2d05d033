-- The order in which a trace declares.
use Rattle.std.specs.Prelude.{◌≡◌, ◌++◌, ℕ, List, ◌∷◌, map, All, false}
use Rattle.zone_cases.specs.declared.events.Declaration.{Declaration}
use Rattle.zone_cases.specs.declared.events.Event.{Event}
use Rattle.zone_cases.specs.declared.events.Event.TheVariants.{System}
use Rattle.zones_run.specs.Scripts.{counts_event, script_of}
use Rattle.zones_run.specs.declared.words.Mode.{Mode}

-- the events of a whole input, in order
abbrev pub events_of : Mode → List ℕ → List Event
events_of mode bytes = map (λ e. e.1.event) (script_of mode bytes).events

-- a law: only declarations stand before a declaration
abbrev pub DeclaresFirst : Type 0
DeclaresFirst = (mode : Mode) (bytes : List ℕ) (before after : List Event) (what : Declaration) → events_of mode bytes ≡ before ++ System what ∷ after → All (λ e. counts_event e ≡ false) before

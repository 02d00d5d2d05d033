-- Runs of a machine: of events under the grants that the pools give, and of events under stated grants.
use Rattle.std.specs.Prelude.{◌≡◌, List, [], ◌∷◌, ◌++◌, Bool, true, ◌&&◌}
use Rattle.zone_cases.specs.State.{State}
use Rattle.zone_cases.specs.declared.events.Entry.{Entry}
use Rattle.zone_cases.specs.declared.events.Event.{Event}
use Rattle.zone_machine.specs.Code.Cells.{Stands}
use Rattle.zone_machine.specs.Code.Openings.{StandsFor}
use Rattle.zone_machine.specs.Machine.Histories.{after, asked, history, is_legal, run}
use Rattle.zone_machine.specs.Machine.Pools.{fits}
use Rattle.zone_machine.specs.Machine.{one}
use Rattle.zone_machine.specs.declared.machine.Machine.{Machine}
use Rattle.zone_machine.specs.declared.machine.parts.Parts.{Parts}
use Rattle.zone_pools.specs.declared.grant.Grant.{Grant}

-- from the state S, entries are a legal history of just these events, and the machine stands for the state after it
pub record HasRun {D F : Type 0} (S : State) (es : List Event) (h : List Entry) (m : Machine D F) : Type 0 where
  pub entries : h ≡ history S es
  pub legal : is_legal S h ≡ true
  pub stands : StandsFor (after S h) m

-- the first of the events were answered, and the machine's parts stand for the state after these
pub record HasRunSome (S : State) (es : List Event) (p : Parts) : Type 0 where
  pub done : List Event
  pub rest : List Event
  pub all : es ≡ done ++ rest
  pub stands : Stands (after S (history S done)) p

-- whether stated grants fit, each in the state that those before it leave
abbrev pub all_fit : State → List (Event × Grant) → Bool
all_fit S [] = true
all_fit S (e ∷ es) = fits S e.0 e.1 && all_fit (one S e.0 e.1).state es

-- the same of events under stated grants, which all fit
pub record HasRunGiven {D F : Type 0} (S : State) (es h : List Entry) (m : Machine D F) : Type 0 where
  pub entries : h ≡ run S (asked es)
  pub fit : all_fit S (asked es) ≡ true
  pub stands : StandsFor (after S h) m

pub record HasRunSomeGiven (S : State) (es : List Entry) (p : Parts) : Type 0 where
  pub done : List Entry
  pub rest : List Entry
  pub all : es ≡ done ++ rest
  pub stands : Stands (after S (run S (asked done))) p

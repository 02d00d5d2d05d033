-- What is declared from a state on, and of which nothing is stored.
use Rattle.std.specs.Prelude.{◌≡◌, ◌++◌, [], List, map, true}
use Rattle.zone_cases.specs.State.{State}
use Rattle.zone_cases.specs.declared.events.Declaration.{Declaration}
use Rattle.zone_cases.specs.declared.events.Entry.{Entry}
use Rattle.zone_cases.specs.declared.events.Event.TheVariants.{System}
use Rattle.zone_machine.specs.Machine.Changes.{changes}
use Rattle.zone_machine.specs.Machine.Histories.{after, is_legal}

-- just this was declared, in order, and a machine stands for the state after it. It changed nothing of what is stored
pub record Declared (S : State) (declared : List Declaration) (old new : List Entry) (stands : State → Type 0) : Type 0 where
  pub first : List Entry
  pub whole : new ≡ old ++ first
  pub declares : map (λ e. e.event) first ≡ map System declared
  pub legal : is_legal S first ≡ true
  pub none : changes S first ≡ []
  pub same : (after S first).commits ≡ S.commits
  pub stood : stands (after S first)

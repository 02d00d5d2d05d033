-- That the turns which are put in after a line come to an end.
use Rattle.std.specs.Prelude.{◌≡◌, ◌<◌, ◌++◌, ℕ, zero, suc, List, [], ◌∷◌, true, All, IfSome, Option, Some, None}
use Rattle.zn_base.specs.Names.{Name}
use Rattle.brand_hooks.specs.Brands.{Tabled}
use Rattle.commit_journal.specs.declared.records.Commit.{Commit}
use Rattle.zoneadmd_laws.specs.Turns_left.{IsSmall, turns_left}
use Rattle.zoneadmd_steps.specs.Turns.{Seen}
use Rattle.zone_machine.specs.Machine.{opening}
use Rattle.zone_machine.specs.Machine.Histories.{after, history, is_history}
use Rattle.zone_machine.specs.Machine.Images.{Holds}
use Rattle.zone_machine.specs.Machine.Pools.{fits}
use Rattle.zone_cases.specs.State.{State, stored}
use Rattle.zone_cases.specs.State.Worlds.{seen_of, world}
use Rattle.zone_cases.specs.declared.events.Entry.{Entry}
use Rattle.zone_cases.specs.declared.events.Event.TheVariants.{Turn}
use Rattle.zone_views.specs.Storable.{IsRight}
use Rattle.zones_run.specs.Scripting.{is_last, opened, state_after, turns_after, turns_until}
use Rattle.zones_run.specs.Tracing.{run_of}
use Rattle.zones_run.specs.declared.turns.Opened.{Opened}
use Rattle.zones_run.specs.declared.words.Mode.TheVariants.{WithTurns}
use Rattle.zones_run.specs.declared.words.Telling.{Telling}

-- what a zone's daemon finds in a state
abbrev pub found_in : Name → State → Seen
found_in z S = seen_of (world z S)

-- the zone has, and is configured to have, fewer than 10,000 mounts and claims, in a state and after each of so many turns
abbrev pub StaysSmall : ℕ → Name → State → Type 0
StaysSmall zero z S = Unit {0}
StaysSmall (suc more) z S = IsSmall (found_in z S) × StaysSmall more z (state_after S (Turn z))

-- the last of some entries is the last turn for a ticket
pub record EndsFor (o : Opened) (h : List Entry) : Type 0 where
  pub before : List Entry
  pub final : Entry
  pub whole : h ≡ before ++ final ∷ []
  pub ends : is_last o.ticket final.reply.head ≡ true

-- a law: where a zone's daemon has fewer turns left than may be put in, the last one that is put in answers the ticket, or the daemon
-- is stuck or has nothing to do
abbrev pub TurnsEnd : Type 0
TurnsEnd = (more : ℕ) (o : Opened) (S : State) → StaysSmall more o.zone S → turns_left (found_in o.zone S) < more → EndsFor o (history S (turns_until more o S))

-- a law: after any history whose grants fit, where what was stored of the zone at the start is right, the last one of the turns that are
-- put in after a line answers the ticket, or the daemon is stuck or has nothing to do
abbrev pub ScriptTurnsEnd : Type 0
ScriptTurnsEnd = (telling : Telling) (brands : List Tabled) (commits : List Commit) (h : List Entry) (o : Opened) → is_history fits (opening brands commits) h ≡ true → IfSome (stored o.zone commits) IsRight
    → (let S = after (opening brands commits) h in EndsFor o (history S (turns_after (WithTurns telling) (Some o) S)))

-- the entries after one that opened a ticket begin with turns of that zone's daemon, of which the last is the last turn for the ticket
pub record HasTurns (o : Opened) (rest : List Entry) : Type 0 where
  pub turns : List Entry
  pub others : List Entry
  pub whole : rest ≡ turns ++ others
  pub are : All (λ e. e.event ≡ Turn o.zone) turns
  pub end : EndsFor o turns

abbrev pub IsFollowed : Option Opened → List Entry → Type 0
IsFollowed None rest = Unit {0}
IsFollowed (Some o) rest = HasTurns o rest

-- so it is of each entry that opens a ticket
abbrev pub TicketsEnd : List Entry → Type 0
TicketsEnd [] = Unit {0}
TicketsEnd (e ∷ rest) = IsFollowed (opened e) rest × TicketsEnd rest

-- a law: so it is in the whole run of a script, from the commits that the image of a store stands for
abbrev pub ScriptTicketsEnd : Type 0
ScriptTicketsEnd = (telling : Telling) (brands : List Tabled) (R : List Commit) (image : List ℕ) (bytes : List ℕ) → Holds R image → TicketsEnd (run_of (WithTurns telling) brands R bytes).entries

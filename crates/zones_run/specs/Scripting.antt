-- The turns that `script` puts in: after a session's line that is answered by a ticket, turns of that zone's daemon, until the
-- ticket is answered or a turn is stuck.
use Rattle.std.specs.Prelude.{ℕ, zero, suc, List, [], ◌∷◌, ◌++◌, ◌==◌, map, Bool, true, false, Option, Some, None, if◌then◌else◌}
use Rattle.zone_machine.specs.Machine.Histories.{after_entry, entry_at}
use Rattle.zone_machine.specs.Machine.Pools.{allowed}
use Rattle.zone_cases.specs.State.{State}
use Rattle.zone_cases.specs.declared.events.Entry.{Entry}
use Rattle.zone_cases.specs.declared.events.Event.{Event}
use Rattle.zone_cases.specs.declared.events.Event.TheVariants.{Session, Turn}
use Rattle.zone_cases.specs.declared.events.Subject.{Subject}
use Rattle.zone_cases.specs.declared.events.Subject.TheVariants.{Zone}
use Rattle.zone_cases.specs.declared.events.Whose.{Whose}
use Rattle.zone_cases.specs.declared.events.Whose.TheVariants.{Found}
use Rattle.zn_base.specs.Names.{Name}
use Rattle.zones_run.specs.Scripts.{At_misfit, Ending, Script, ends, entry_for, fits_due, state_for, unstated, with_due}
use Rattle.zone_cases.specs.declared.replies.Head.{Head}
use Rattle.zone_cases.specs.declared.replies.Head.TheVariants.{Ticket, Turned}
use Rattle.zoneadmd_steps.specs.declared.requests.TurnReply.{TurnReply}
use Rattle.zoneadmd_steps.specs.declared.requests.TurnReply.TheVariants.{Finished, Idle, Stuck}
use Rattle.zones_run.specs.declared.due.Due.{Due}
use Rattle.zones_run.specs.declared.turns.Opened.{Opened}
use Rattle.zones_run.specs.declared.words.Mode.{Mode}
use Rattle.zones_run.specs.declared.words.Mode.TheVariants.{WithTurns}

-- the entry of an event in a state, under the grant that the pools give it, and the state after it
abbrev pub entry_in : State → Event → Entry
entry_in S e = entry_at S e (allowed S e)

abbrev pub state_after : State → Event → State
state_after S e = after_entry S (entry_in S e)

-- the state after several events
abbrev pub state_past : State → List Event → State
state_past S [] = S
state_past S (e ∷ es) = state_past (state_after S e) es

-- the ticket that a line was answered which a session typed, and the zone whose daemon gave it
abbrev pub opened_by : Event → Subject → Head → Option Opened
opened_by (Session n text) (Zone z) (Ticket t) = Some (record { zone = z; ticket = t })
opened_by e s head = None

-- the two parts of that
abbrev pub ticket_by : Event → Head → Option ℕ
ticket_by (Session n text) (Ticket t) = Some t
ticket_by e head = None

abbrev pub zone_by : Whose → Option Name
zone_by (Found (Zone z)) = Some z
zone_by whose = None

abbrev pub both_parts : Option ℕ → Option Name → Option Opened
both_parts (Some t) (Some z) = Some (record { zone = z; ticket = t })
both_parts t z = None

abbrev pub opened : Entry → Option Opened
opened e = opened_by e.event e.subject e.reply.head

-- a turn is the last one for a ticket where it answers the ticket, or where the daemon doesn't get on: it is stuck, or idle,
-- which it isn't while it has a ticket to answer
abbrev pub is_last_turn : ℕ → TurnReply → Bool
is_last_turn t (Finished ticket outcome) = ticket == t
is_last_turn t Stuck = true
is_last_turn t Idle = true
is_last_turn t reply = false

abbrev pub is_last : ℕ → Head → Bool
is_last t (Turned reply) = is_last_turn t reply
is_last t head = false

-- the turns of a zone's daemon up to the last one for its ticket, so many at most
unfoldable pub turns_until : ℕ → Opened → State → List Event
turns_until zero o S = []
turns_until (suc more) o S = Turn o.zone ∷ (if is_last o.ticket (entry_in S (Turn o.zone)).reply.head then [] else turns_until more o (state_after S (Turn o.zone)))

-- the turns that are put in after a line, in the state that it left: those for its ticket. No daemon has 10,000,000 turns left
abbrev pub turns_after : Mode → Option Opened → State → List Event
turns_after (WithTurns telling) (Some o) S = turns_until 10000000 o S
turns_after mode o S = []

abbrev pub puts_in : Mode → Bool
puts_in (WithTurns telling) = true
puts_in mode = false

-- events that count for the line of a number
abbrev pub numbered : ℕ → List Event → List (ℕ × Event)
numbered n es = map (λ e. (n, e)) es

-- such events, under the grants that the pools give
abbrev pub all_unstated : List (ℕ × Event) → List (ℕ × Due)
all_unstated events = map (λ e. (e.0, unstated e.1)) events

-- and before those of a script
abbrev pub with_events : List (ℕ × Event) → Script → Script
with_events events script = record { events = all_unstated events ++ script.events; ending = script.ending }

-- the events of lines from a state on, each with its line's number, and after each the turns that are put in, up to the first whose
-- stated grant doesn't fit
abbrev pub put_in : Mode → State → List (ℕ × Due) → Ending → Script
put_in mode S [] ending = ends ending
put_in mode S (e ∷ events) ending =
    let T = state_for S e.1 in
    let more = turns_after mode (opened (entry_for S e.1)) T in
    if fits_due S e.1 then with_due e (with_events (numbered e.0 more) (put_in mode (state_past T more) events ending)) else ends (At_misfit e.0)

-- a script with the turns that are put in, from a state on
abbrev pub with_turns : Mode → State → Script → Script
with_turns mode S script = put_in mode S script.events script.ending

abbrev pub is_turn : Event → Bool
is_turn (Turn z) = true
is_turn e = false

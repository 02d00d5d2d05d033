-- What the lines of an input say: their events, in order, each with the grant that its line states, if it does, and how they end.
use Rattle.std.specs.Prelude.{◌≡◌, ℕ, List, [], ◌∷◌, ◌+◌, Bool, true, false, ◌||◌, Option, Some, None, Result, Ok, Err, if◌then◌else◌}
use Rattle.std.specs.List.{list_any}
use Rattle.trace_text.specs.Given.{Given, given_of}
use Rattle.trace_text.specs.Lines.{Said, event_of}
use Rattle.trace_text.specs.declared.fault.LineFault.{LineFault}
use Rattle.zone_cases.specs.Events.{is_restart}
use Rattle.zone_cases.specs.declared.events.Event.{Event}
use Rattle.zone_cases.specs.declared.events.Event.TheVariants.{System}
use Rattle.zone_machine.specs.Code.Records.{taken}
use Rattle.zone_machine.specs.Machine.Histories.{after_entry, entry_at, is_allowed}
use Rattle.zone_machine.specs.Machine.Pools.{fits}
use Rattle.zone_cases.specs.State.{State}
use Rattle.zone_cases.specs.declared.events.Entry.{Entry}
use Rattle.zone_pools.specs.declared.grant.Grant.{Grant}
use Rattle.zn_base.specs.Lines.{lines_of}
use Rattle.zones_run.specs.Output.{is_past_limit}
use Rattle.zones_run.specs.declared.due.Due.{Due}
use Rattle.zones_run.specs.declared.words.Mode.{Mode}
use Rattle.zones_run.specs.declared.words.Mode.TheVariants.{Stated}

-- an event whose grant is the one that the pools give, or a stated one
abbrev pub unstated : Event → Due
unstated e = record { event = e; stated = None }

-- the entry of an event that is due, under its grant, and the state after it
abbrev pub entry_for : State → Due → Entry
entry_for S d = entry_at S d.event (taken d.stated S d.event)

abbrev pub state_for : State → Due → State
state_for S d = after_entry S (entry_for S d)

-- the entries of events that are due one after another
abbrev pub entries_from : State → List Due → List Entry
entries_from S [] = []
entries_from S (d ∷ ds) = entry_for S d ∷ entries_from (state_for S d) ds

-- a grant that is stated fits what its event asks of the pools
abbrev pub fits_stated : Option Grant → State → Event → Bool
fits_stated None S e = true
fits_stated (Some g) S e = fits S e g

abbrev pub fits_due : State → Due → Bool
fits_due S d = fits_stated d.stated S d.event

-- whether each line states what the pools gave its event
abbrev pub states : Mode → Bool
states Stated = true
states mode = false

-- which grants the entries of a run may have: those that fit, where they are stated, and else those that the pools give
abbrev pub permits : Mode → State → Event → Grant → Bool
permits Stated S e g = fits S e g
permits mode S e g = is_allowed S e g

-- what a line says that may be an event that is due
abbrev pub Says : Type 0
Says = Result (Option Due) LineFault

abbrev pub due_said : Said → Says
due_said (Ok None) = Ok None
due_said (Ok (Some e)) = Ok (Some (unstated e))
due_said (Err fault) = Err fault

abbrev pub due_given : Given → Says
due_given (Ok None) = Ok None
due_given (Ok (Some g)) = Ok (Some (record { event = g.1; stated = Some g.0 }))
due_given (Err fault) = Err fault

-- what a line says, by whether an event that counts has come
abbrev pub said_by : Mode → (started : Bool) → List ℕ → Says
said_by Stated started line = due_given (given_of started line)
said_by mode started line = due_said (event_of started line)

-- a line that restarts the system, under a grant that fits
abbrev pub Restarts : State → Says → Type 0
Restarts S (Ok (Some d)) = (is_restart d.event ≡ true) × (fits_due S d ≡ true)
Restarts S said = ⊥

-- how the lines end: at the end of the input, at a line outside the grammar, at one whose grant doesn't fit, or past a limit
pub data Ending : Type 0 where
  At_end : Ending
  At_fault : (number : ℕ) → LineFault → Ending
  At_misfit : (number : ℕ) → Ending
  Past_limit : (number : ℕ) → Ending

-- the events of the lines, each with the number of its line, up to where they end
pub record Script : Type 0 where
  pub events : List (ℕ × Due)
  pub ending : Ending

abbrev pub ends : Ending → Script
ends ending = record { events = []; ending = ending }

-- an event stands before those of the lines after it
abbrev pub with_due : ℕ × Due → Script → Script
with_due e script = record { events = e ∷ script.events; ending = script.ending }

-- a line's event does, if it says one
abbrev pub with_line : ℕ → Says → Script → Script
with_line number (Err fault) more = ends (At_fault number fault)
with_line number (Ok None) more = more
with_line number (Ok (Some d)) more = with_due (number, d) more

-- an event counts unless it is a declaration: once one that counts has come, nothing may be declared
abbrev pub counts_event : Event → Bool
counts_event (System what) = false
counts_event event = true

-- whether a line says such an event
abbrev pub counts : Says → Bool
counts (Ok (Some d)) = counts_event d.event
counts said = false

-- the script of the lines from a number on, by whether an event that counts has come before them
abbrev pub script_from : Mode → (started : Bool) → ℕ → List (List ℕ) → Script
script_from mode started number [] = ends At_end
script_from mode started number (line ∷ lines) =
    if is_past_limit number line then ends (Past_limit number)
    else let said = said_by mode started line in with_line number said (script_from mode (started || counts said) (number + 1) lines)

-- the script of a whole input
abbrev pub script_of : Mode → List ℕ → Script
script_of mode bytes = script_from mode false 1 (lines_of bytes)

-- whether a line of a whole input restarts the system
abbrev pub has_restart : Mode → List ℕ → Bool
has_restart mode bytes = list_any (λ e. is_restart e.1.event) (script_of mode bytes).events

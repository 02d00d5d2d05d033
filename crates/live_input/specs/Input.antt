-- What the whole input of `live` says: the events of its lines, in order, up to where they end.
use Rattle.std.specs.Prelude.{◌≡◌, ◌≢◌, ◌<◌, ℕ, ◌+◌, List, [], ◌∷◌, ◌++◌, length, Bool, true, false, ◌||◌, nat_lt, Some, None, Result, Ok, Err, if◌then◌else◌}
use Rattle.zn_base.specs.Lines.{lines_of}
use Rattle.trace_text.specs.Lines.{Said}
use Rattle.trace_text.specs.Live.{live_of}
use Rattle.trace_text.specs.declared.fault.LineFault.{LineFault}
use Rattle.trace_text.specs.declared.fault.LineFault.TheVariants.{Memory as No_memory}
use Rattle.input_lines.specs.declared.lines.ReadFault.{ReadFault}
use Rattle.input_lines.specs.declared.lines.ReadFault.TheVariants.{Memory}
use Rattle.zone_cases.specs.declared.events.Event.{Event}
use Rattle.zone_cases.specs.declared.events.Event.TheVariants.{Process, Restart, Session, System, Turn}
use Rattle.live_input.specs.declared.reading.Ending.{Ending}
use Rattle.live_input.specs.declared.reading.Ending.TheVariants.{End, Grammar, Limit}

pub record Input : Type 0 where
  pub events : List Event
  pub ending : Ending

-- a session typed it
abbrev pub is_typed : Event → Bool
is_typed (Session number text) = true
is_typed (Turn zone) = false
is_typed (Process zone pid call) = false
is_typed (System what) = false
is_typed Restart = false

-- a session that types has a number from 1 to 64
abbrev pub IsNumbered : Event → Type 0
IsNumbered (Session number text) = (number ≢ 0) × (number < 65)
IsNumbered (Turn zone) = Unit {0}
IsNumbered (Process zone pid call) = Unit {0}
IsNumbered (System what) = Unit {0}
IsNumbered Restart = Unit {0}

-- whether a line says such an event
abbrev pub types : Said → Bool
types (Ok (Some e)) = is_typed e
types (Ok None) = false
types (Err fault) = false

-- line 4,001, and a line of more than 4,096 bytes
abbrev pub is_past_limit : ℕ → List ℕ → Bool
is_past_limit number line = nat_lt 4000 number || nat_lt 4096 (length line)

abbrev pub ends : Ending → Input
ends ending = record { events = []; ending = ending }

abbrev pub with_event : Event → Input → Input
with_event e input = record { events = e ∷ input.events; ending = input.ending }

-- a line's event stands before those of the lines after it, and a line outside the grammar ends them
abbrev pub with_line : ℕ → Said → Input → Input
with_line number (Ok None) more = more
with_line number (Ok (Some e)) more = with_event e more
with_line number (Err fault) more = ends (Grammar number fault)

-- the lines from a number on, by whether a session's line has come before them
abbrev pub input_from : (started : Bool) → ℕ → List (List ℕ) → Input
input_from started number [] = ends End
input_from started number (line ∷ lines) =
    if is_past_limit number line then ends (Limit number)
    else let said = live_of started line in with_line number said (input_from (started || types said) (number + 1) lines)

-- the whole input
abbrev pub input_of : List ℕ → Input
input_of bytes = input_from false 1 (lines_of bytes)

-- a line's event, if it says one, was put after others, and whether a session typed one by now
abbrev pub Puts : Said → (started now : Bool) → (old new : List Event) → Type 0
Puts (Ok None) started now old new = (now ≡ started) × (new ≡ old)
Puts (Ok (Some e)) started now old new = (now ≡ (started || is_typed e)) × (new ≡ old ++ e ∷ [])
Puts (Err fault) started now old new = ⊥

-- what a line that can't be read ends the input with, or that memory ran out, which is no ending
abbrev pub ended_at : ℕ → LineFault → Result Ending ReadFault
ended_at number No_memory = Err Memory
ended_at number fault = Ok (Grammar number fault)

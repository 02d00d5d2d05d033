-- What a line says where sessions are live: what one of them types, or what is declared.
use Rattle.std.specs.Prelude.{◌≡◌, ◌||◌, ◌++◌, ◌∷◌, ℕ, List, length, Bool, false, true, IsTrue, Some, Ok, Err, bytes_eq, codes, if◌then◌else◌}
use Rattle.zone_cases.specs.declared.events.Entry.{Entry}
use Rattle.zone_cases.specs.declared.events.Event.{Event}
use Rattle.zone_cases.specs.declared.events.Event.TheVariants.{Process, Restart, Session, System, Turn}
use Rattle.trace_text.specs.Given.{IsAt, IsRight, is_late}
use Rattle.trace_text.specs.Lines.{Said, event_of, first_word, given_text, line_text}
use Rattle.trace_text.specs.Replies.{reply_text}
use Rattle.trace_text.specs.declared.fault.LineFault.{LineFault}
use Rattle.trace_text.specs.declared.fault.LineFault.TheVariants.{BadTag}

-- the tags that a trace alone has: of a daemon's turn, of a process's call and of a restart
abbrev pub is_traced : List ℕ → Bool
is_traced tag = bytes_eq tag (codes "D") || bytes_eq tag (codes "P") || bytes_eq tag (codes "R")

-- the event that a line says, none where it is blank or a comment, or the first fault: under every other tag as in a trace
abbrev pub live_of : (started : Bool) → List ℕ → Said
live_of started line = if is_traced (first_word line) then Err BadTag else event_of started line

-- what a record of live sessions has of an entry: the line of its event, with what it was given, and then its reply
abbrev pub entry_text : Entry → List ℕ
entry_text e = codes "> " ++ given_text e.grant e.event ++ 10 ∷ reply_text e.subject e.reply

-- whether an event is a session's or a declaration
abbrev pub is_live : Event → Bool
is_live (Session number text) = true
is_live (Turn zone) = false
is_live (Process zone pid call) = false
is_live (System what) = true
is_live Restart = false

-- a law: a line says an event where sessions are live just where it says it in a trace, and it is a session's or a declaration
abbrev pub LiveSaysJust : Type 0
LiveSaysJust = (started : Bool) (line : List ℕ) (event : Event)
    → (live_of started line ≡ Ok (Some event) → (event_of started line ≡ Ok (Some event)) × IsTrue (is_live event))
    × (event_of started line ≡ Ok (Some event) → IsTrue (is_live event) → live_of started line ≡ Ok (Some event))

-- a law: what is written of such an event is read as the event
abbrev pub LiveReadBack : Type 0
LiveReadBack = (started : Bool) (event : Event) → IsRight event → IsTrue (is_live event) → is_late started event ≡ false → live_of started (line_text event) ≡ Ok (Some event)

-- a law: an event that a line says is such a one, can be said by a line, and is no late declaration
abbrev pub LiveAreRight : Type 0
LiveAreRight = (started : Bool) (line : List ℕ) (event : Event) → live_of started line ≡ Ok (Some event) → IsTrue (is_live event) × IsRight event × (is_late started event ≡ false)

-- a law: the place of a bad word lies in its line, or at its end
abbrev pub LivePlacesAreWithin : Type 0
LivePlacesAreWithin = (started : Bool) (line : List ℕ) (fault : LineFault) → live_of started line ≡ Err fault → IsAt (length line) fault

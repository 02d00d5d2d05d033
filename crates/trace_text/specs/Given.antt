-- What a line says whose event is behind what it was given, and what such lines are.
use Rattle.std.specs.Prelude.{◌≡◌, ◌≤◌, ◌++◌, ◌+◌, ℕ, List, [], ◌∷◌, drop, length, Bool, false, IsTrue, Option, Some, None, Ok, Err, bytes_eq, codes, find, option_map, if◌then◌else◌, Result}
use Rattle.std.specs.List.{list_all}
use Rattle.zn_base.specs.Decimals.{decimal_of}
use Rattle.zn_base.specs.Lines.{lines_of, newline}
use Rattle.zn_base.specs.Names.{is_name}
use Rattle.zn_base.specs.Text.{is_text_byte}
use Rattle.zone_pools.specs.declared.grant.Grant.{Grant}
use Rattle.zone_pools.specs.declared.grant.Grant.TheVariants.{Denied, Nothing, Number, Yes}
use Rattle.zone_pools.specs.declared.grant.Pool.{Pool}
use Rattle.zone_pools.specs.declared.grant.Pool.TheVariants.{Pids, Zids, Zones, Paths, Store, Links, Addresses, Datasets, Source}
use Rattle.zone_cases.specs.declared.events.Event.{Event}
use Rattle.zone_cases.specs.declared.events.Event.TheVariants.{Process, Restart, Session, System, Turn}
use Rattle.grant_text.specs.Text.{SplitsInto, grant_text, greatest_number, is_grant, pool_word}
use Rattle.trace_text.specs.Lines.{MayCome, Said, after_word, begins_with, event_of, first_word, given_text, is_no_event, line_text}
use Rattle.trace_text.specs.declared.fault.LineFault.{LineFault}
use Rattle.trace_text.specs.declared.fault.LineFault.TheVariants.{BadTag, BadWord, GrantForm, Memory, SysAfterStart}

-- N
abbrev pub number_in : List ℕ → Option ℕ
number_in word = if bytes_eq word (codes "0") then Some 0 else decimal_of greatest_number word

abbrev pub pools : List Pool
pools = Pids ∷ Zids ∷ Zones ∷ Paths ∷ Store ∷ Links ∷ Addresses ∷ Datasets ∷ Source ∷ []

-- POOL
abbrev pub pool_in : List ℕ → Option Pool
pool_in word = find (λ pool. bytes_eq (pool_word pool) word) pools

-- `@-`, `@yes` or `@N`
abbrev pub grant_in : List ℕ → Option Grant
grant_in word =
    if bytes_eq word (codes "@-") then Some Nothing
    else if bytes_eq word (codes "@yes") then Some Yes
    else if begins_with 64 word then option_map Number (number_in (drop 1 word))
    else None

-- a grant, where a space and a rest follow it
abbrev pub followed : Option Grant → Option (List ℕ) → Option (Grant × List ℕ)
followed (Some grant) (Some rest) = Some (grant, rest)
followed grant rest = None

-- `@no POOL`, or one word
abbrev pub stated_by : List ℕ → Option (List ℕ) → Option (Grant × List ℕ)
stated_by word None = None
stated_by word (Some more) =
    if bytes_eq word (codes "@no") then followed (option_map Denied (pool_in (first_word more))) (after_word more)
    else followed (grant_in word) (Some more)

-- the grant with whose text and one space a line begins, and what follows the space
abbrev pub stated : List ℕ → Option (Grant × List ℕ)
stated line = stated_by (first_word line) (after_word line)

-- what a line says with its grant: both, none of both, or why it can't be read
abbrev pub Given : Type 0
Given = Result (Option (Grant × Event)) LineFault

-- a fault of what begins at a place of its line
abbrev pub moved : (place : ℕ) → LineFault → LineFault
moved place (BadWord at) = BadWord (place + at)
moved place Memory = Memory
moved place GrantForm = GrantForm
moved place BadTag = BadTag
moved place SysAfterStart = SysAfterStart

-- a fault whose place, if it has one, lies before an end or there
abbrev pub IsAt : (end : ℕ) → LineFault → Type 0
IsAt end (BadWord place) = place ≤ end
IsAt end Memory = Unit {0}
IsAt end GrantForm = Unit {0}
IsAt end BadTag = Unit {0}
IsAt end SysAfterStart = Unit {0}

-- behind a grant an event has to stand, from a place of the line on
abbrev pub behind : Grant → (place : ℕ) → Said → Given
behind grant place (Ok (Some event)) = Ok (Some (grant, event))
behind grant place (Ok None) = Err BadTag
behind grant place (Err fault) = Err (moved place fault)

abbrev pub given_by : (started : Bool) → Option (Grant × List ℕ) → Given
given_by started None = Err GrantForm
given_by started (Some split) = behind split.0 (length (grant_text split.0) + 1) (event_of started split.1)

-- the grant and the event that a line says, none where it is blank or a comment, or the first fault
abbrev pub given_of : (started : Bool) → List ℕ → Given
given_of started line = if is_no_event line then Ok None else given_by started (stated line)

-- what a session types is printable, and a zone has the name of one
abbrev pub HasTexts : Event → Type 0
HasTexts (Session number text) = IsTrue (list_all is_text_byte text)
HasTexts (Turn zone) = IsTrue (is_name zone)
HasTexts (Process zone pid call) = IsTrue (is_name zone)
HasTexts (System what) = Unit {0}
HasTexts Restart = Unit {0}

-- an event that a line can say
pub record IsRight (event : Event) : Type 0 where
  pub may : MayCome event
  pub texts : HasTexts event

-- whether an event is a declaration that comes after another event
abbrev pub is_late : (started : Bool) → Event → Bool
is_late started (System what) = started
is_late started event = false

-- a law: just the text of a grant, a space and a rest are split
abbrev pub StatesJustSplits : Type 0
StatesJustSplits = (line rest : List ℕ) (grant : Grant) → (SplitsInto line grant rest → stated line ≡ Some (grant, rest)) × (stated line ≡ Some (grant, rest) → SplitsInto line grant rest)

-- a law: what is written of an event is read as the event
abbrev pub EventReadBack : Type 0
EventReadBack = (started : Bool) (event : Event) → IsRight event → is_late started event ≡ false → event_of started (line_text event) ≡ Ok (Some event)

-- a law: what is written of a grant and an event is read as both
abbrev pub GivenReadBack : Type 0
GivenReadBack = (started : Bool) (grant : Grant) (event : Event) → IsTrue (is_grant grant) → IsRight event → is_late started event ≡ false
    → given_of started (given_text grant event) ≡ Ok (Some (grant, event))

-- laws: an event that a line says is one that a line can say, and is no late declaration
abbrev pub EventsAreRight : Type 0
EventsAreRight = (started : Bool) (line : List ℕ) (event : Event) → event_of started line ≡ Ok (Some event) → IsRight event × (is_late started event ≡ false)

abbrev pub GivenAreRight : Type 0
GivenAreRight = (started : Bool) (line : List ℕ) (grant : Grant) (event : Event) → given_of started line ≡ Ok (Some (grant, event))
    → IsTrue (is_grant grant) × IsRight event × (is_late started event ≡ false)

-- a law: a line that says a grant and an event is the grant's text, a space and a rest that says the event
abbrev pub StatesItsSplit : Type 0
StatesItsSplit = (started : Bool) (line : List ℕ) (grant : Grant) (event : Event) → given_of started line ≡ Ok (Some (grant, event))
    → (rest : List ℕ) × SplitsInto line grant rest × (event_of started rest ≡ Ok (Some event))

-- laws: the place of a bad word lies in its line, or at its end
abbrev pub PlacesAreWithin : Type 0
PlacesAreWithin = (started : Bool) (line : List ℕ) (fault : LineFault) → event_of started line ≡ Err fault → IsAt (length line) fault

abbrev pub GivenPlacesAreWithin : Type 0
GivenPlacesAreWithin = (started : Bool) (line : List ℕ) (fault : LineFault) → given_of started line ≡ Err fault → IsAt (length line) fault

-- laws: an event's line is of printable bytes, also behind a grant
abbrev pub LinesArePrintable : Type 0
LinesArePrintable = (event : Event) → IsRight event → IsTrue (list_all is_text_byte (line_text event))

abbrev pub GivenArePrintable : Type 0
GivenArePrintable = (grant : Grant) (event : Event) → IsTrue (is_grant grant) → IsRight event → IsTrue (list_all is_text_byte (given_text grant event))

-- laws: so it has no newline, and a text that it begins, with a newline behind it, is cut just there
abbrev pub LinesAreCut : Type 0
LinesAreCut = (event : Event) (more : List ℕ) → IsRight event → lines_of (line_text event ++ newline ∷ more) ≡ line_text event ∷ lines_of more

abbrev pub GivenAreCut : Type 0
GivenAreCut = (grant : Grant) (event : Event) (more : List ℕ) → IsTrue (is_grant grant) → IsRight event
    → lines_of (given_text grant event ++ newline ∷ more) ≡ given_text grant event ∷ lines_of more

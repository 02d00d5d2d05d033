-- The record of sessions that run at once: one list of the entries of all of them, and of the turns that were taken for them. A
-- script is what a session types, a text a line.
use Rattle.std.specs.Prelude.{◌≡◌, ℕ, List, [], ◌∷◌, ◌++◌, ◌&&◌, ◌||◌, Bool, true, false, Option, Some, None, map, nat_eq, not, if◌then◌else◌}
use Rattle.std.specs.List.{list_all}
use Rattle.brand_hooks.specs.Brands.{Tabled}
use Rattle.commit_journal.specs.declared.records.Commit.{Commit}
use Rattle.zn_base.specs.Names.{Name}
use Rattle.zone_cases.specs.State.{State}
use Rattle.zone_cases.specs.declared.events.Declaration.{Declaration}
use Rattle.zone_cases.specs.declared.events.Entry.{Entry}
use Rattle.zone_cases.specs.declared.events.Event.{Event}
use Rattle.zone_cases.specs.declared.events.Event.TheVariants.{Process as Call_of, Restart, Session, System, Turn}
use Rattle.zone_cases.specs.declared.events.Subject.{Subject}
use Rattle.zone_cases.specs.declared.events.Subject.TheVariants.{Zone}
use Rattle.zone_cases.specs.declared.replies.Head.{Head}
use Rattle.zone_cases.specs.declared.replies.Head.TheVariants.{Ticket, Turned}
use Rattle.zone_machine.specs.Machine.{opening}
use Rattle.zone_machine.specs.Machine.Histories.{after, is_legal}
use Rattle.zone_machine.specs.Machine.Local.{is_turn_of}
use Rattle.zoneadmd_steps.specs.Local.{is_idle}
use Rattle.zoneadmd_steps.specs.declared.requests.TurnReply.{TurnReply}
use Rattle.zoneadmd_steps.specs.declared.requests.TurnReply.TheVariants.{Finished, Stuck}

-- each session's script, by the session's number. One that has none types nothing
abbrev pub Scripts : Type 0
Scripts = ℕ → List (List ℕ)

-- an event is the session's line
abbrev pub is_line_of : ℕ → Event → Bool
is_line_of n (Session m text) = nat_eq n m
is_line_of n (Turn z) = false
is_line_of n (Call_of z pid c) = false
is_line_of n (System what) = false
is_line_of n Restart = false

-- what the session types by it
abbrev pub typed_by : ℕ → Event → List (List ℕ)
typed_by n (Session m text) = if nat_eq n m then text ∷ [] else []
typed_by n (Turn z) = []
typed_by n (Call_of z pid c) = []
typed_by n (System what) = []
typed_by n Restart = []

-- all that the session types, in order
abbrev pub lines_of : ℕ → List Entry → List (List ℕ)
lines_of n [] = []
lines_of n (e ∷ h) = typed_by n e.event ++ lines_of n h

-- an event is a session's line, or a turn that isn't idle
abbrev pub is_idle_head : Head → Bool
is_idle_head (Turned reply) = is_idle reply
is_idle_head head = false

abbrev pub may_stand : Event → Head → Bool
may_stand (Session n text) head = true
may_stand (Turn z) head = not (is_idle_head head)
may_stand (Call_of z pid c) head = false
may_stand (System what) head = false
may_stand Restart head = false

-- what a session waits for that was answered a ticket: that a turn of this zone's daemon answers it
pub record Awaited : Type 0 where
  pub zone : Name
  pub ticket : ℕ

abbrev pub awaited : Subject → Head → Option Awaited
awaited (Zone z) (Ticket t) = Some (record { zone = z; ticket = t })
awaited subject head = None

-- a turn ends the wait where it answers the ticket, or is stuck
abbrev pub ends_turn : ℕ → TurnReply → Bool
ends_turn t (Finished u outcome) = nat_eq t u
ends_turn t Stuck = true
ends_turn t reply = false

abbrev pub ends_head : ℕ → Head → Bool
ends_head t (Turned reply) = ends_turn t reply
ends_head t head = false

abbrev pub ends : Awaited → Event → Head → Bool
ends w e head = is_turn_of w.zone e && ends_head w.ticket head

-- such a turn stands before the session's next entry. Where neither comes, the turn may be `late`
abbrev pub is_answered : (late : Bool) → ℕ → Awaited → List Entry → Bool
is_answered late n w [] = late
is_answered late n w (e ∷ h) = ends w e.event e.reply.head || (not (is_line_of n e.event) && is_answered late n w h)

abbrev pub is_answered_to : (late : Bool) → Event → Option Awaited → List Entry → Bool
is_answered_to late (Session n text) (Some w) h = is_answered late n w h
is_answered_to late e w h = true

-- each ticket that a session was answered
abbrev pub all_answered : (late : Bool) → List Entry → Bool
all_answered late [] = true
all_answered late (e ∷ h) = is_answered_to late e.event (awaited e.subject e.reply.head) h && all_answered late h

-- a part of such a record, from a state on: the machine answers so; what each session typed are lines of its script, from the first
-- one on, in order and each once; every other entry is a turn that isn't idle; and no session that was answered a ticket types
-- anything before a turn answered it or was stuck
pub record IsPartial (S : State) (scripts : Scripts) (h : List Entry) : Type 0 where
  pub legal : is_legal S h ≡ true
  pub lines : (n : ℕ) → (rest : List (List ℕ)) × (lines_of n h ++ rest ≡ scripts n)
  pub others : list_all (λ e. may_stand e.event e.reply.head) h ≡ true
  pub tickets : all_answered true h ≡ true

-- the whole: each session typed all lines of its script, and each ticket was answered, or a turn was stuck
pub record IsRecord (S : State) (scripts : Scripts) (h : List Entry) : Type 0 where
  pub legal : is_legal S h ≡ true
  pub lines : (n : ℕ) → lines_of n h ≡ scripts n
  pub others : list_all (λ e. may_stand e.event e.reply.head) h ≡ true
  pub tickets : all_answered false h ≡ true

-- before any event there are some commits; then just this is declared, in order; and what comes after is such, from there on
pub record Declares (brands : List Tabled) (R : List Commit) (declared : List Declaration) (Goes_on : State → List Entry → Type 0) (h : List Entry) : Type 0 where
  pub first : List Entry
  pub rest : List Entry
  pub whole : h ≡ first ++ rest
  pub declares : map (λ e. e.event) first ≡ map System declared
  pub legal : is_legal (opening brands R) first ≡ true
  pub follows : Goes_on (after (opening brands R) first) rest

-- the record of a run: what is declared, and then that of the sessions, or a part of it
abbrev pub IsRunRecord : List Tabled → List Commit → List Declaration → Scripts → List Entry → Type 0
IsRunRecord brands R declared scripts h = Declares brands R declared (λ S rest. IsRecord S scripts rest) h

abbrev pub IsRunPartial : List Tabled → List Commit → List Declaration → Scripts → List Entry → Type 0
IsRunPartial brands R declared scripts h = Declares brands R declared (λ S rest. IsPartial S scripts rest) h

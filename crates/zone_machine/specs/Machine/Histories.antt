-- Lists of entries, from a state on.
use Rattle.std.specs.Prelude.{List, [], ◌∷◌, map, filter, Bool, true, false, ◌&&◌, bytes_eq, if◌then◌else◌}
use Rattle.zn_base.specs.Names.{Name}
use Rattle.zone_pools.specs.Same.{same_grant}
use Rattle.zone_pools.specs.declared.grant.Grant.{Grant}
use Rattle.zone_cases.specs.State.Decisions.{act_of, acts_world}
use Rattle.zone_machine.specs.Machine.{decide, one, session_number, subject, whole_world}
use Rattle.zone_machine.specs.Machine.Pools.{allowed}
use Rattle.zone_machine.specs.Machine.Same.{same_reply, same_subject}
use Rattle.zone_cases.specs.State.{State}
use Rattle.zone_cases.specs.State.Worlds.{World, view_of}
use Rattle.zone_cases.specs.declared.events.Entry.{Entry}
use Rattle.zone_cases.specs.declared.events.Event.{Event}
use Rattle.zone_cases.specs.declared.events.Subject.{Subject}
use Rattle.zone_cases.specs.declared.events.Subject.TheVariants.{Zone, Global, Whole}
use Rattle.zone_cases.specs.declared.replies.Reply.{Reply}

abbrev pub entry_at : State → Event → Grant → Entry
entry_at S e g = record { event = e; subject = subject S e; grant = g; reply = (one S e g).reply }

-- the entries of events with their grants as they stand
abbrev pub run : State → List (Event × Grant) → List Entry
run S [] = []
run S (e ∷ es) = entry_at S e.0 e.1 ∷ run (one S e.0 e.1).state es

-- the entries of events with the grants that the pools give
abbrev pub history : State → List Event → List Entry
history S [] = []
history S (e ∷ es) = entry_at S e (allowed S e) ∷ history (one S e (allowed S e)).state es

abbrev pub after_entry : State → Entry → State
after_entry S e = (one S e.event e.grant).state

-- the state that entries leave
abbrev pub after : State → List Entry → State
after S [] = S
after S (e ∷ h) = after (after_entry S e) h

-- what an entry says is so
abbrev pub is_told : State → Entry → Bool
is_told S e = same_subject e.subject (subject S e.event) && same_reply e.reply (one S e.event e.grant).reply

-- entries that say what is so, under grants that are permitted
abbrev pub is_history : (State → Event → Grant → Bool) → State → List Entry → Bool
is_history permits S [] = true
is_history permits S (e ∷ h) = is_told S e && permits S e.event e.grant && is_history permits (after_entry S e) h

abbrev pub is_allowed : State → Event → Grant → Bool
is_allowed S e g = same_grant g (allowed S e)

abbrev pub any_grant : State → Event → Grant → Bool
any_grant S e g = true

-- a legal history: each entry has the grant that the pools give
abbrev pub is_legal : State → List Entry → Bool
is_legal S h = is_history is_allowed S h

-- entries of z, and those that concern it
abbrev pub is_of : Name → Subject → Bool
is_of z (Zone y) = bytes_eq z y
is_of z Global = false
is_of z Whole = false

abbrev pub concerns : Name → Subject → Bool
concerns z (Zone y) = bytes_eq z y
concerns z Global = false
concerns z Whole = true

-- the entries of z and of the whole system
abbrev pub only : Name → List Entry → List Entry
only z h = filter (λ e. concerns z e.subject) h

-- the replies of z
abbrev pub replies : Name → List Entry → List Reply
replies z h = map (λ e. e.reply) (filter (λ e. is_of z e.subject) h)

-- the events of entries, with their grants
abbrev pub asked : List Entry → List (Event × Grant)
asked h = map (λ e. (e.event, e.grant)) h

-- what an entry leaves of z's world, from that world alone
abbrev pub world_by : Subject → Name → World → Event → Grant → World
world_by (Zone y) z w e g = if bytes_eq z y then acts_world (session_number e) (act_of (decide (view_of z w) e) g) w else w
world_by Global z w e g = w
world_by Whole z w e g = whole_world e w

abbrev pub world_one : Name → World → Entry → World
world_one z w e = world_by e.subject z w e.event e.grant

abbrev pub replay : Name → World → List Entry → World
replay z w [] = w
replay z w (e ∷ h) = replay z (world_one z w e) h

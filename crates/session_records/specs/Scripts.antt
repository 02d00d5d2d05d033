-- The same rules an entry at a time: how far each session is, and which entry may come next.
use Rattle.std.specs.Prelude.{◌≡◌, ℕ, List, [], ◌∷◌, ◌&&◌, Bool, true, false, Option, Some, None, bytes_eq, drop, is_some, nat_eq, not, if◌then◌else◌}
use Rattle.zone_cases.specs.declared.events.Entry.{Entry}
use Rattle.zone_cases.specs.declared.events.Event.{Event}
use Rattle.zone_cases.specs.declared.events.Event.TheVariants.{Process as Call_of, Restart, Session, System, Turn}
use Rattle.zone_cases.specs.declared.events.Subject.{Subject}
use Rattle.zone_cases.specs.declared.replies.Head.{Head}
use Rattle.session_records.specs.Folds.{all_right, folded}
use Rattle.session_records.specs.Records.{Awaited, Scripts, awaited, ends, is_idle_head}

-- how far a session is: the lines that it still has to type, and what it waits for
pub record Progress : Type 0 where
  pub left : List (List ℕ)
  pub waits : Option Awaited

abbrev pub begun : Scripts → ℕ → Progress
begun scripts n = record { left = scripts n; waits = None }

-- a turn ends what it ends
abbrev pub waits_after : Event → Head → Option Awaited → Option Awaited
waits_after e head None = None
waits_after e head (Some w) = if ends w e head then None else Some w

-- a line is typed by its session, which waits from then on where it is answered a ticket
abbrev pub after_line : Subject → Head → Progress → Progress
after_line subject head p = record { left = drop 1 p.left; waits = awaited subject head }

abbrev pub progress_after : Event → Subject → Head → ℕ → Progress → Progress
progress_after (Session m text) subject head n p = if nat_eq n m then after_line subject head p else p
progress_after e subject head n p = record { left = p.left; waits = waits_after e head p.waits }

unfoldable pub noted : (ℕ → Progress) → Entry → ℕ → Progress
noted p e n = progress_after e.event e.subject e.reply.head n (p n)

-- a session's next line is this one, and it waits for nothing
abbrev pub is_first : List ℕ → List (List ℕ) → Bool
is_first text [] = false
is_first text (line ∷ lines) = bytes_eq text line

abbrev pub is_next : List ℕ → Progress → Bool
is_next text p = not (is_some p.waits) && is_first text p.left

-- which event may come next, and be answered so: the next line of a session that waits for nothing, or a turn that isn't idle
abbrev pub may_come_by : (ℕ → Progress) → Event → Head → Bool
may_come_by p (Session n text) head = is_next text (p n)
may_come_by p (Turn z) head = not (is_idle_head head)
may_come_by p (Call_of z pid c) head = false
may_come_by p (System what) head = false
may_come_by p Restart head = false

unfoldable pub may_come : (ℕ → Progress) → Entry → Bool
may_come p e = may_come_by p e.event e.reply.head

-- each entry might come where it stands
abbrev pub keeps_scripts : Scripts → List Entry → Bool
keeps_scripts scripts h = all_right may_come noted (begun scripts) h

-- all lines of a session were typed, and it waits for nothing
pub record IsDone (scripts : Scripts) (h : List Entry) (n : ℕ) : Type 0 where
  pub typed : (folded noted (begun scripts) h n).left ≡ []
  pub free : (folded noted (begun scripts) h n).waits ≡ None

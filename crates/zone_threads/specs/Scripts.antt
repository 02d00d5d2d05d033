-- How far each session is, and which entry may come next.
use Rattle.std.specs.Prelude.{◌≡◌, ℕ, ◌+◌, ◌%◌, ◌<◌, ◌==◌, ◌&&◌, not, Bool, true, false, List, length, slice_index_or, slice_get, Option, Some, None, is_some, if◌then◌else◌}
use Rattle.zone_threads.specs.Folds.{folded}
use Rattle.zone_threads.specs.Machines.{Definitions}
use Rattle.zone_threads.specs.declared.machine.Said.{Said}
use Rattle.zone_threads.specs.declared.machine.Said.TheVariants as says
use Rattle.zone_threads.specs.declared.machine.Told.{Told}
use Rattle.zone_threads.specs.declared.tally.Progress.{Progress}
use Rattle.zone_threads.specs.declared.tally.Ticket.{Ticket}

-- a session that has done nothing
abbrev pub fresh : Progress
fresh = record { done = 0; awaits = None }

abbrev pub beginning : ℕ → Progress
beginning s = fresh

-- whether a turn that says this ends what a ticket of that number waits for
abbrev pub ends_ticket : ℕ → Said → Bool
ends_ticket n (says.Finished m) = m == n
ends_ticket n says.Stuck = true
ends_ticket n says.Idle = false
ends_ticket n (says.Ticket m) = false
ends_ticket n says.Other = false

-- whether a turn of the zone of a place answers a ticket
abbrev pub answers : Ticket → ℕ → Said → Bool
answers ticket p said = (ticket.place == p) && ends_ticket ticket.number said

-- the ticket that a line was answered by
abbrev pub ticket_of : ℕ → Said → Option Ticket
ticket_of p (says.Ticket n) = Some (record { place = p; number = n })
ticket_of p says.Idle = None
ticket_of p (says.Finished n) = None
ticket_of p says.Stuck = None
ticket_of p says.Other = None

abbrev pub awaits_after : ℕ → Said → Option Ticket → Option Ticket
awaits_after p said None = None
awaits_after p said (Some ticket) = if answers ticket p said then None else Some ticket

-- a session after a turn
abbrev pub after_turn : ℕ → Said → Progress → Progress
after_turn p said t = record { done = t.done; awaits = awaits_after p said t.awaits }

-- a session after an entry of the zone of a place
unfoldable pub progress_one : ℕ → Progress → ℕ → Told → Progress
progress_one s t p told =
    if told.session == 0 then after_turn p told.said t
    else if told.session == s then record { done = (t.done + 1) % 18446744073709551616; awaits = ticket_of p told.said }
    else t

abbrev pub is_idle : Said → Bool
is_idle says.Idle = true
is_idle (says.Ticket n) = false
is_idle (says.Finished n) = false
is_idle says.Stuck = false
is_idle says.Other = false

abbrev pub TallyOf : List Progress → (ℕ → Progress) → Type 0
TallyOf tally t = (s : ℕ) → s < length tally → slice_index_or tally s fresh ≡ t s

module _ {State Cell Shared Line Entry Heard : Type 0} (D : Definitions State Cell Shared Line Entry Heard) where
  abbrev pub session : Entry → ℕ
  session e = (D.told e).session

  abbrev pub noted : (ℕ → Progress) → Entry → ℕ → Progress
  noted t e s = progress_one s (t s) (D.by e) (D.told e)

  -- entries that change nothing of how far sessions are, however far they are
  abbrev pub IsSilent : List Entry → Type 0
  IsSilent es = (t : ℕ → Progress) → folded noted t es ≡ t

  abbrev pub is_line_at : Option Line → Entry → Bool
  is_line_at None e = false
  is_line_at (Some line) e = D.is_line line e

  -- a turn that isn't idle, or the next line of a session that doesn't wait
  unfoldable pub may : (ℕ → List Line) → (ℕ → Progress) → Entry → Bool
  may scripts t e =
      if session e == 0 then not (is_idle (D.told e).said)
      else not (is_some (t (session e)).awaits) && is_line_at (slice_get (scripts (session e)) (t (session e)).done) e

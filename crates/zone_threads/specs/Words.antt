-- A legal record of sessions, in words of its own.
use Rattle.std.specs.Prelude.{◌≡◌, ◌≢◌, ℕ, ◌==◌, ◌&&◌, not, Bool, true, false, List, [], ◌∷◌, Option, Some, None, if◌then◌else◌}
use Rattle.zone_threads.specs.Folds.{all_right}
use Rattle.zone_threads.specs.Machines.{Definitions}
use Rattle.zone_threads.specs.Scripts.{answers, is_idle, session, ticket_of}
use Rattle.zone_threads.specs.declared.tally.Ticket.{Ticket}

module _ {State Cell Shared Line Entry Heard : Type 0} (D : Definitions State Cell Shared Line Entry Heard) where
  -- the entries of a session, in their order
  abbrev pub entries_of : ℕ → List Entry → List Entry
  entries_of s [] = []
  entries_of s (e ∷ es) = if session D e == s then e ∷ entries_of s es else entries_of s es

  -- the entries are those of the first of these lines, in their order, each once
  abbrev pub begin_lines : List Line → List Entry → Bool
  begin_lines lines [] = true
  begin_lines [] (e ∷ es) = false
  begin_lines (l ∷ lines) (e ∷ es) = D.is_line l e && begin_lines lines es

  -- the entries are those of these lines, in their order, each once
  abbrev pub are_lines : List Line → List Entry → Bool
  are_lines [] [] = true
  are_lines (l ∷ lines) [] = false
  are_lines [] (e ∷ es) = false
  are_lines (l ∷ lines) (e ∷ es) = D.is_line l e && are_lines lines es

  -- an entry is a turn
  abbrev pub is_turn : Entry → Bool
  is_turn e = session D e == 0

  -- it ends what a ticket waits for: it is a turn that finishes it, or one of its zone that is stuck
  abbrev pub ends : Ticket → Entry → Bool
  ends ticket e = is_turn e && answers ticket (D.by e) (D.told e).said

  -- such a turn stands before the next entry of the session; `late` says what holds where neither comes
  abbrev pub is_answered : (late : Bool) → (s : ℕ) → Ticket → List Entry → Bool
  is_answered late s ticket [] = late
  is_answered late s ticket (e ∷ es) = if ends ticket e then true else if session D e == s then false else is_answered late s ticket es

  -- the ticket by which an entry of a session is answered
  abbrev pub opens : Entry → Option Ticket
  opens e = if is_turn e then None else ticket_of (D.by e) (D.told e).said

  abbrev pub is_answered_if : Bool → ℕ → Option Ticket → List Entry → Bool
  is_answered_if late s None es = true
  is_answered_if late s (Some ticket) es = is_answered late s ticket es

  -- each ticket is answered before its session's next entry
  abbrev pub all_answered : (late : Bool) → List Entry → Bool
  all_answered late [] = true
  all_answered late (e ∷ es) = is_answered_if late (session D e) (opens e) es && all_answered late es

  -- no turn is idle
  abbrev pub none_idle : List Entry → Bool
  none_idle [] = true
  none_idle (e ∷ es) = not (is_turn e && is_idle (D.told e).said) && none_idle es

  -- what is recorded so far: each session's entries are the first of its lines
  pub record IsPartial (start : State) (scripts : ℕ → List Line) (h : List Entry) : Type 0 where
    pub legal : all_right D.right D.one start h ≡ true
    pub lines : (s : ℕ) → s ≢ 0 → begin_lines (scripts s) (entries_of s h) ≡ true
    pub turns : none_idle h ≡ true
    pub tickets : all_answered true h ≡ true

  -- each session's entries are its lines, in order, each once, and each ticket was answered
  pub record IsRecord (start : State) (scripts : ℕ → List Line) (h : List Entry) : Type 0 where
    pub legal : all_right D.right D.one start h ≡ true
    pub lines : (s : ℕ) → s ≢ 0 → are_lines (scripts s) (entries_of s h) ≡ true
    pub turns : none_idle h ≡ true
    pub tickets : all_answered false h ≡ true

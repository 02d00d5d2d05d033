-- What a zone under its lock keeps.
use Rattle.std.specs.Prelude.{◌≡◌, ◌≢◌, Err, None, Ok, Option, Result, Some, ℕ, ◌≤◌, Bool, true, false, List, length, take, drop}
use Rattle.atomic_table.specs.Seated.{TableId}
use Rattle.std.specs.List.{All}
use Rattle.zone_turn.specs.Passes.{Holder, is_idle}
use Rattle.zone_threads.specs.Folds.{folded, all_right}
use Rattle.zone_threads.specs.Machines.{Definitions}
use Rattle.zone_threads.specs.Notes.{dones, has_mark}
use Rattle.zone_threads.specs.Scripts.{TallyOf, may, noted}
use Rattle.zone_threads.specs.declared.notes.Note.{Note}
use Rattle.zone_threads.specs.declared.tally.Progress.{Progress}
use Rattle.zone_threads.specs.declared.step.Job.{Job}
use Rattle.zone_threads.specs.declared.step.Job.TheVariants as jobs
use Rattle.zone_threads.specs.declared.tally.Ticket.{Ticket}
use Rattle.zone_threads.specs.declared.step.Outcome.{Outcome}
use Rattle.zone_threads.specs.declared.step.Outcome.TheVariants as outcomes
use Rattle.zone_threads.specs.declared.step.Ask.{Ask}
use Rattle.zone_threads.specs.declared.step.Ask.TheVariants as asks

-- a zone's pass, by which it told that it did this, and that it is marked, if it is
pub record Seated {Entry : Type 0} (turn : TableId) (place : ℕ) (es : List Entry) (marked : Bool) (holder : Holder (Note Entry)) : Type 0 where
  pub of_turn : holder.turn ≡ turn
  pub idle : is_idle holder.knows ≡ true
  pub numbered : holder.knows.number ≡ place
  pub done : dones holder.knows.list ≡ es
  pub marks : marked ≡ true → has_mark holder.knows.list ≡ true

module _ {State Cell Shared Line Entry Heard : Type 0} (D : Definitions State Cell Shared Line Entry Heard) where
  -- the world of a place after these of its entries
  abbrev pub left_by : State → ℕ → List Entry → D.World
  left_by start p es = folded D.world_one (D.world p start) es

  -- the entries since the last give are local, and unless it is marked the cell stands for the world that the log leaves
  pub record Logged (start : State) (p : ℕ) (cell : Cell) (log : List Entry) (given : ℕ) (marked : Bool) : Type 0 where
    pub within : given ≤ length log
    pub locals : all_right (D.is_local p) D.world_one (left_by start p (take given log)) (drop given log) ≡ true
    pub stands : marked ≡ false → D.cell_of cell (left_by start p log)

  -- so it is from each of some states on, and the entries since the last give are of its place
  pub record IsZone (starts : State → Type 0) (turn : TableId) (p : ℕ) (cell : Cell) (log : List Entry) (given : ℕ) (marked : Bool) (holder : Holder (Note Entry)) : Type 0 where
    pub near : given ≤ length log
    pub mine : All (λ (e : Entry). D.by e ≡ p) (drop given log)
    pub logged : (start : State) → starts start → Logged start p cell log given marked
    pub seated : Seated turn p (take given log) marked holder

  -- what a step of a zone left, from whatever state and progress
  pub record Did (scripts : ℕ → List Line) (p : ℕ) (k : Cell) (m : Shared) (ts : List Progress) (e : Entry) (s : State) (t : ℕ → Progress) : Type 0 where
    pub is_right : D.right s e ≡ true
    pub may_come : may D scripts t e ≡ true
    pub mine : D.by e ≡ p
    pub cell : D.cell_of k (D.world p (D.one s e))
    pub shared : D.shared_of m (D.common (D.one s e))
    pub tally : TallyOf ts (noted D t e)

  -- what an entry did, from whatever state cell and shared part stood for, and however far each session was
  abbrev pub Does : (scripts : ℕ → List Line) → (p : ℕ) → Cell → Shared → List Progress → Cell → Shared → List Progress → Entry → Type 0
  Does scripts p c m ts c' m' ts' e = (s : State) (t : ℕ → Progress) → D.cell_of c (D.world p s) → D.shared_of m (D.common s) → TallyOf ts t → Did scripts p c' m' ts' e s t

  -- a turn is one before which the zone's hooks answered so, and a line is one of these, which are the session's
  abbrev pub IsJob : (ℕ → List Line) → (s : ℕ) → (lines : List Line) → Cell → Job Heard → Type 0
  IsJob scripts s lines cell (jobs.Turn heard) = D.heard cell heard
  IsJob scripts s lines cell jobs.Give = Unit {0}
  IsJob scripts s lines cell jobs.Look = Unit {0}
  IsJob scripts s lines cell (jobs.Line number) = (s ≢ 0) × (lines ≡ scripts s)

-- a line that is asked for is one of these, which are the session's
abbrev pub IsAsk : {Line : Type 0} → (ℕ → List Line) → (s : ℕ) → (lines : List Line) → Ask → Type 0
IsAsk scripts s lines asks.Turn = Unit {0}
IsAsk scripts s lines asks.Give = Unit {0}
IsAsk scripts s lines asks.Look = Unit {0}
IsAsk scripts s lines (asks.Line number) = (s ≢ 0) × (lines ≡ scripts s)

abbrev pub where_free : ℕ → Option Ticket → Result ℕ Outcome
where_free done None = Ok done
where_free done (Some ticket) = Err (outcomes.Waits ticket.place)

-- where a session is: at a line, or it waits; one that isn't there can do nothing
abbrev pub where_at : Option Progress → Result ℕ Outcome
where_at None = Err outcomes.Ended
where_at (Some t) = where_free t.done t.awaits

-- What is left at the end.
use Rattle.std.specs.Prelude.{◌≡◌, ◌≢◌, ℕ, ◌+◌, ◌<◌, ◌≤◌, ◌==◌, true, false, List, [], ◌∷◌, ◌++◌, length, map, take, drop, slice_index_or, None, if◌then◌else◌}
use Rattle.std.specs.List.{All}
use Rattle.zone_turn.specs.Histories.{own}
use Rattle.zone_turn.specs.declared.views.Role.{Role}
use Rattle.zone_turn.specs.declared.views.Role.TheVariants.{First}
use Rattle.zone_turn.specs.declared.views.Roster.{Roster}
use Rattle.zone_threads.specs.Folds.{folded}
use Rattle.zone_threads.specs.Machines.{Definitions}
use Rattle.zone_threads.specs.Notes.{dones, has_mark}
use Rattle.zone_threads.specs.Records.{Middle, Stands, StandsFrom}
use Rattle.zone_threads.specs.Scripts.{beginning, fresh, noted}
use Rattle.zone_threads.specs.Zones.{Logged}
use Rattle.zone_threads.specs.declared.history.Tail.{Tail}
use Rattle.zone_threads.specs.declared.notes.Note.{Note}
use Rattle.zone_threads.specs.declared.tally.Progress.{Progress}
use Rattle.zone_threads.specs.declared.run.Script.{Script}
use Rattle.zone_threads.specs.declared.zone.Back.{Back}
use Rattle.zone_threads.specs.declared.zone.Log.{Log}

-- a session's lines are done, and it doesn't wait
abbrev pub Finished : List Progress → ℕ → ℕ → Type 0
Finished ts s lines = (s < length ts) × (slice_index_or ts s fresh ≡ record { done = lines; awaits = None })

-- a script has the lines of its session, whose number is from 1 to 64
abbrev pub IsScript : {Line : Type 0} → (ℕ → List Line) → Script Line → Type 0
IsScript scripts script = (script.session ≢ 0) × (script.session < 65) × (script.lines.items ≡ scripts script.session)

-- what the first pass knows: how many passes were made and are out, and the lists that were taken back
abbrev pub roster : {Entry : Type 0} → ℕ → ℕ → List (ℕ × List Entry) → Roster Entry
roster made out kept = record { made = made; out = out; kept = kept }

-- there is a cell of each zone, and none twice: so many, of places that differ and are from 1 to that number
pub record AreAll {Cell : Type 0} (zones : ℕ) (backs : List (Back Cell)) : Type 0 where
  pub count : length backs ≡ zones
  pub within : All (λ (b : Back Cell). (0 < b.place) × (b.place ≤ zones)) backs
  pub differ : (i j : ℕ) (d : Back Cell) → i < j → j < length backs → (slice_index_or backs i d).place ≢ (slice_index_or backs j d).place

-- none is marked
abbrev pub AreFree : {Cell : Type 0} → List (Back Cell) → Type 0
AreFree backs = All (λ b. b.marked ≡ false) backs

module _ {Cell Entry : Type 0} where
  -- what a log gave, and what it didn't
  abbrev pub gave : Log Cell Entry → List Entry
  gave l = take l.given l.entries.items

  abbrev pub rest : Log Cell Entry → List Entry
  rest l = drop l.given l.entries.items

  abbrev pub rests : List (Log Cell Entry) → List Entry
  rests [] = []
  rests (l ∷ ls) = rest l ++ rests ls

  -- no two are of one place
  abbrev pub Differ : List (Log Cell Entry) → Type 0
  Differ ls = (i j : ℕ) (d : Log Cell Entry) → i < j → j < length ls → (slice_index_or ls i d).place ≢ (slice_index_or ls j d).place

  abbrev pub pair : Log Cell Entry → ℕ × List Entry
  pair l = (l.place, gave l)

  abbrev pub pairs : List (Log Cell Entry) → List (ℕ × List Entry)
  pairs ls = map pair ls

  abbrev pub back : Log Cell Entry → Back Cell
  back l = record { place = l.place; cell = l.cell; marked = l.marked }

  abbrev pub tail : Log Cell Entry → Tail Entry
  tail l = record { place = l.place; entries = l.entries }

  -- what a zone's pass told is what its log gave, and that it is marked, if it is
  pub record IsKeptOf (k : ℕ × List (Note Entry)) (l : Log Cell Entry) : Type 0 where
    pub place : k.0 ≡ l.place
    pub done : dones k.1 ≡ gave l
    pub marks : l.marked ≡ true → has_mark k.1 ≡ true

  -- so with each of them
  abbrev pub AreKept : List (ℕ × List (Note Entry)) → List (Log Cell Entry) → Type 0
  AreKept [] [] = Unit {0}
  AreKept [] (l ∷ ls) = ⊥
  AreKept (k ∷ ks) [] = ⊥
  AreKept (k ∷ ks) (l ∷ ls) = IsKeptOf k l × AreKept ks ls

  -- the first pass knows how many passes were made and are out, and what those of the logs told
  pub record Gathered (role : Role (Note Entry)) (made out : ℕ) (logs : List (Log Cell Entry)) : Type 0 where
    pub kept : List (ℕ × List (Note Entry))
    pub is : role ≡ First (roster made out kept)
    pub are : AreKept kept logs

  -- the entries of a place
  abbrev pub log_of : List (Log Cell Entry) → ℕ → List Entry
  log_of [] p = []
  log_of (l ∷ ls) p = if l.place == p then l.entries.items else log_of ls p

module _ {State Cell Shared Line Entry Heard : Type 0} (D : Definitions State Cell Shared Line Entry Heard) where
  -- what a zone left: the entries that it didn't give are of its place, and local ones, and unless it is marked the cell stands for the
  -- world that the log leaves
  pub record IsLeft (starts : State → Type 0) (l : Log Cell Entry) : Type 0 where
    pub near : l.given ≤ length l.entries.items
    pub mine : All (λ (e : Entry). D.by e ≡ l.place) (rest l)
    pub logged : (start : State) → starts start → Logged D start l.place l.cell l.entries.items l.given l.marked

  -- unless it is marked, it stands for its world after the history
  abbrev pub IsBack : State → List Entry → Back Cell → Type 0
  IsBack start h b = b.marked ≡ false → D.cell_of b.cell (D.world b.place (folded D.one start h))

  -- the cells stand for what the zones of the places 1, 2 and so on begin with in each of some states
  abbrev pub IsOpening : (State → Type 0) → List Cell → Type 0
  IsOpening starts cells = (start : State) → starts start → (i : ℕ) (d : Cell) → i < length cells → D.cell_of (slice_index_or cells i d) (D.world (i + 1) start)

  -- there is one history for which the part stands, what the logs gave are the entries of each place in it, and the cells are all there
  pub record Closed (starts : State → Type 0) (scripts : ℕ → List Line) (zones : ℕ) (m : Shared) (ts : List Progress) (rs : List (ℕ × ℕ)) (logs : List (Log Cell Entry)) : Type 0 where
    pub h : List Entry
    pub stands : StandsFrom D starts scripts m ts rs h
    pub mine : All (λ (l : Log Cell Entry). own D.by l.place h ≡ gave l) logs
    pub others : (p : ℕ) → All (λ (l : Log Cell Entry). l.place ≢ p) logs → own D.by p h ≡ []
    pub left : All (IsLeft starts) logs
    pub differ : Differ logs
    pub count : length logs ≡ zones
    pub all_back : AreAll zones (map back logs)
    pub free : D.is_sound m ≡ true → AreFree (map back logs)

  -- there is one history for which the part stands, the logs are the entries of each place in it, and the cells are all there
  pub record Ended (starts : State → Type 0) (scripts : ℕ → List Line) (zones : ℕ) (m : Shared) (ts : List Progress) (rs : List (ℕ × ℕ)) (logs : List (Log Cell Entry)) : Type 0 where
    pub h : List Entry
    pub stands : (start : State) → starts start → Stands D start scripts m ts rs h
    pub each : (p : ℕ) → own D.by p h ≡ log_of logs p
    pub backs : (start : State) → starts start → All (IsBack start h) (map back logs)
    pub all_back : AreAll zones (map back logs)
    pub free : D.is_sound m ≡ true → AreFree (map back logs)

  -- a history that keeps to the scripts from each of some states on, and the cells after it
  pub record Over (starts : State → Type 0) (scripts : ℕ → List Line) (zones : ℕ) (m : Shared) (h : List Entry) (cells : List (Back Cell)) : Type 0 where
    pub middle : (start : State) → starts start → Middle D start scripts m h
    pub backs : (start : State) → starts start → All (IsBack start h) cells
    pub there : AreAll zones cells
    pub free : D.is_sound m ≡ true → AreFree cells

  abbrev pub HasAll : List Entry → ℕ → ℕ → Type 0
  HasAll h s lines = folded (noted D) beginning h s ≡ record { done = lines; awaits = None }

-- What the part that goes round stands for.
use Rattle.std.specs.Prelude.{◌≡◌, ℕ, ◌+◌, ◌≤◌, true, false, List, [], ◌∷◌, ◌++◌, length, map, replicate}
use Rattle.zone_threads.specs.Folds.{folded, all_right}
use Rattle.zone_threads.specs.Machines.{Definitions}
use Rattle.zone_threads.specs.Notes.{dones, has_mark}
use Rattle.zone_threads.specs.Scripts.{TallyOf, beginning, may, noted}
use Rattle.zone_threads.specs.declared.notes.Note.{Note}
use Rattle.zone_threads.specs.declared.tally.Progress.{Progress}

-- the places, one for each entry, of runs of entries
abbrev pub spread : List (ℕ × ℕ) → List ℕ
spread [] = []
spread (r ∷ rs) = replicate r.1 r.0 ++ spread rs

module _ {State Cell Shared Line Entry Heard : Type 0} (D : Definitions State Cell Shared Line Entry Heard) where
  -- a legal history that keeps to the scripts, and what is common after it
  pub record Middle (start : State) (scripts : ℕ → List Line) (m : Shared) (h : List Entry) : Type 0 where
    pub legal : all_right D.right D.one start h ≡ true
    pub kept : all_right (may D scripts) (noted D) beginning h ≡ true
    pub shared : D.shared_of m (D.common (folded D.one start h))

  pub record Stands (start : State) (scripts : ℕ → List Line) (m : Shared) (ts : List Progress) (rs : List (ℕ × ℕ)) (h : List Entry) : Type 0 where
    pub middle : Middle start scripts m h
    pub tally : TallyOf ts (folded (noted D) beginning h)
    pub wide : length ts ≡ 65
    pub order : spread rs ≡ map D.by h

  -- from each of some states on
  pub record StandsFrom (starts : State → Type 0) (scripts : ℕ → List Line) (m : Shared) (ts : List Progress) (rs : List (ℕ × ℕ)) (h : List Entry) : Type 0 where
    pub wide : length ts ≡ 65
    pub each : (start : State) → starts start → Stands start scripts m ts rs h

  -- what passes told: from each of some states on the part stands for what was done, and while it may be used no zone is marked
  pub record Tells (starts : State → Type 0) (scripts : ℕ → List Line) (m : Shared) (ts : List Progress) (rs : List (ℕ × ℕ)) (ns : List (Note Entry)) : Type 0 where
    pub stands : StandsFrom starts scripts m ts rs (dones ns)
    pub free : D.is_sound m ≡ true → has_mark ns ≡ false

  -- what the part stands for: what passes told; it has room for a run more of each of so many zones; and until a zone told something, what
  -- zones share is as it was at first
  pub record IsPart (starts : State → Type 0) (scripts : ℕ → List Line) (first : Shared → Type 0) (zones : ℕ) (m : Shared) (ts : List Progress) (many : ℕ) (rs : List (ℕ × ℕ)) (order : ℕ) (ns : List (Note Entry)) : Type 0 where
    pub tells : Tells starts scripts m ts rs ns
    pub counts : many ≡ zones
    pub has_room : length rs + zones ≤ order
    pub untouched : ns ≡ [] → first m

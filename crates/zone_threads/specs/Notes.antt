-- What passes tell of zones: what was done, and which zones are marked.
use Rattle.std.specs.Prelude.{ℕ, Bool, true, false, List, [], ◌∷◌, ◌++◌, map}
use Rattle.zone_threads.specs.declared.notes.Note.{Note}
use Rattle.zone_threads.specs.declared.notes.Note.TheVariants.{Done, Free, Marked}

module _ {Entry : Type 0} where
  -- what was done
  abbrev pub dones : List (Note Entry) → List Entry
  dones [] = []
  dones (Done e ∷ ns) = e ∷ dones ns
  dones (Marked p ∷ ns) = dones ns
  dones (Free p ∷ ns) = dones ns

  -- whether some zone is marked
  abbrev pub has_mark : List (Note Entry) → Bool
  has_mark [] = false
  has_mark (Done e ∷ ns) = has_mark ns
  has_mark (Marked p ∷ ns) = true
  has_mark (Free p ∷ ns) = has_mark ns

  abbrev pub note_by : (Entry → ℕ) → Note Entry → ℕ
  note_by by (Done e) = by e
  note_by by (Marked p) = p
  note_by by (Free p) = p

  abbrev pub mark_of : ℕ → Bool → List (Note Entry)
  mark_of p true = Marked p ∷ []
  mark_of p false = Free p ∷ []

  -- what the zone of a place tells: what it did, and whether it is marked
  abbrev pub notes_of : ℕ → List Entry → Bool → List (Note Entry)
  notes_of p es marked = map Done es ++ mark_of p marked

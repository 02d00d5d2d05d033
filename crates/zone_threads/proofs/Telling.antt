-- What notes put together tell.
use Rattle.std.proofs.Common.{◌≡◌, ℕ, ◌==◌, Bool, true, false, List, [], ◌∷◌, ◌++◌, refl, ap, arith, suc}
use Rattle.std.specs.List.{All}
use Rattle.std.proofs.lemmas.List.Elements.{All-cons, All-nil}
use Rattle.zone_turn.specs.Histories.{own}
use Rattle.zone_threads.specs.Notes.{dones, has_mark, note_by, notes_of}
use Rattle.zone_threads.specs.declared.notes.Note.{Note}
use Rattle.zone_threads.specs.declared.notes.Note.TheVariants.{Done, Free, Marked}
use Rattle.zone_threads.proofs.Bools.{apart}

module _ {Entry : Type 0} where
  pub dones_append : (ms ns : List (Note Entry)) → dones (ms ++ ns) ≡ dones ms ++ dones ns
  dones_append [] ns = refl
  dones_append (Done e ∷ ms) ns = ap (λ l. e ∷ l) (dones_append ms ns)
  dones_append (Marked p ∷ ms) ns = dones_append ms ns
  dones_append (Free p ∷ ms) ns = dones_append ms ns

  pub free_append : (ms ns : List (Note Entry)) → has_mark ms ≡ false → has_mark ns ≡ false → has_mark (ms ++ ns) ≡ false
  free_append [] ns a b = b
  free_append (Done e ∷ ms) ns a b = free_append ms ns a b
  free_append (Marked p ∷ ms) ns a b = a
  free_append (Free p ∷ ms) ns a b = free_append ms ns a b

  pub mark_behind : (ms ns : List (Note Entry)) → has_mark ns ≡ true → has_mark (ms ++ ns) ≡ true
  mark_behind [] ns a = a
  mark_behind (Done e ∷ ms) ns a = mark_behind ms ns a
  mark_behind (Marked p ∷ ms) ns a = refl
  mark_behind (Free p ∷ ms) ns a = mark_behind ms ns a

  -- what a zone tells is what it did, and whether it is marked
  pub dones_notes : (p : ℕ) (es : List Entry) (marked : Bool) → dones (notes_of p es marked) ≡ es
  dones_notes p [] true = refl
  dones_notes p [] false = refl
  dones_notes p (e ∷ es) marked = ap (λ l. e ∷ l) (dones_notes p es marked)

  pub mark_notes : (p : ℕ) (es : List Entry) (marked : Bool) → has_mark (notes_of p es marked) ≡ marked
  mark_notes p [] true = refl
  mark_notes p [] false = refl
  mark_notes p (e ∷ es) marked = mark_notes p es marked

  module _ (by : Entry → ℕ) where
    pub notes_mine : (p : ℕ) (es : List Entry) (marked : Bool) → All (λ (e : Entry). by e ≡ p) es → All (λ (n : Note Entry). note_by by n ≡ p) (notes_of p es marked)
    notes_mine p [] true mine = All-cons (λ (n : Note Entry). note_by by n ≡ p) (Marked p) [] refl (All-nil (λ (n : Note Entry). note_by by n ≡ p))
    notes_mine p [] false mine = All-cons (λ (n : Note Entry). note_by by n ≡ p) (Free p) [] refl (All-nil (λ (n : Note Entry). note_by by n ≡ p))
    notes_mine p (e ∷ es) marked mine = All-cons (λ (n : Note Entry). note_by by n ≡ p) (Done e) (notes_of p es marked) (mine 0 e (omega arith)) (notes_mine p es marked (λ k d near. mine (suc k) d (omega arith)))

    -- what a zone did is what its own notes tell
    pub dones_own : (p : ℕ) (ns : List (Note Entry)) → dones (own (note_by by) p ns) ≡ own by p (dones ns)
    dones_own p [] = refl
    dones_own p (Done e ∷ ns) = here (by e == p) refl (dones_own p ns)
      where
        here : (b : Bool) → (by e == p) ≡ b → dones (own (note_by by) p ns) ≡ own by p (dones ns) → dones (own (note_by by) p (Done e ∷ ns)) ≡ own by p (e ∷ dones ns)
        here true q rest = rw q (ap (λ l. e ∷ l) rest)
        here false q rest = rw q rest
    dones_own p (Marked m ∷ ns) = here (m == p) refl (dones_own p ns)
      where
        here : (b : Bool) → (m == p) ≡ b → dones (own (note_by by) p ns) ≡ own by p (dones ns) → dones (own (note_by by) p (Marked m ∷ ns)) ≡ own by p (dones ns)
        here true q rest = rw q rest
        here false q rest = rw q rest
    dones_own p (Free m ∷ ns) = here (m == p) refl (dones_own p ns)
      where
        here : (b : Bool) → (m == p) ≡ b → dones (own (note_by by) p ns) ≡ own by p (dones ns) → dones (own (note_by by) p (Free m ∷ ns)) ≡ own by p (dones ns)
        here true q rest = rw q rest
        here false q rest = rw q rest

    -- where none is marked, no own note is a mark
    pub own_free : (p : ℕ) (ns : List (Note Entry)) → has_mark ns ≡ false → has_mark (own (note_by by) p ns) ≡ false
    own_free p [] free = refl
    own_free p (Done e ∷ ns) free = here (by e == p) refl (own_free p ns free)
      where
        here : (b : Bool) → (by e == p) ≡ b → has_mark (own (note_by by) p ns) ≡ false → has_mark (own (note_by by) p (Done e ∷ ns)) ≡ false
        here true q rest = rw q rest
        here false q rest = rw q rest
    own_free p (Marked m ∷ ns) free = absurd (apart free)
    own_free p (Free m ∷ ns) free = here (m == p) refl (own_free p ns free)
      where
        here : (b : Bool) → (m == p) ≡ b → has_mark (own (note_by by) p ns) ≡ false → has_mark (own (note_by by) p (Free m ∷ ns)) ≡ false
        here true q rest = rw q rest
        here false q rest = rw q rest

  -- a zone always tells something
  pub notes_some : (p : ℕ) (ns : List (Note Entry)) (es : List Entry) (marked : Bool) → ns ++ notes_of p es marked ≡ [] → ⊥
  notes_some p [] [] true is = cc
  notes_some p [] [] false is = cc
  notes_some p [] (e ∷ es) marked is = cc
  notes_some p (n ∷ ns) es marked is = cc

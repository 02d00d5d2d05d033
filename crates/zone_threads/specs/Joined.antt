-- One list of entries, from the order of their places and the entries of each place.
use Rattle.std.specs.Prelude.{ℕ, ◌==◌, List, [], ◌∷◌, ◌++◌, take, drop, if◌then◌else◌}
use Rattle.zone_threads.specs.declared.history.Tail.{Tail}

module _ {Entry : Type 0} where
  -- the entries in this order of places: at each place its next one
  abbrev pub joined : List ℕ → (ℕ → List Entry) → List Entry
  joined [] each = []
  joined (p ∷ ps) each = take 1 (each p) ++ joined ps (λ q. if q == p then drop 1 (each q) else each q)

  -- the entries of a place
  abbrev pub tail_of : List (Tail Entry) → ℕ → List Entry
  tail_of [] p = []
  tail_of (t ∷ ts) p = if t.place == p then t.entries.items else tail_of ts p

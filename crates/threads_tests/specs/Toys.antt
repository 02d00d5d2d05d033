-- What the toy machine is. A state is the list of what was done, the last entry first.
use Rattle.std.specs.Prelude.{◌≡◌, ℕ, ◌+◌, ◌==◌, ◌&&◌, not, Bool, false, List, [], ◌∷◌, if◌then◌else◌}
use Rattle.zone_threads.specs.Machines.{Definitions}
use Rattle.zone_threads.specs.Scripts.{is_idle}
use Rattle.threads_tests.specs.declared.toy.Cell.{Cell}
use Rattle.threads_tests.specs.declared.toy.Entry.{Entry}
use Rattle.threads_tests.specs.declared.toy.Line.{Line}
use Rattle.threads_tests.specs.declared.toy.Pool.{Pool}

-- whether the zone of a place is busy
abbrev pub busy_at : ℕ → List Entry → Bool
busy_at p [] = false
busy_at p (e ∷ es) = if e.place == p then e.is_busy else busy_at p es

-- how much was drawn from the pool
abbrev pub drawn_by : List Entry → ℕ
drawn_by [] = 0
drawn_by (e ∷ es) = e.draws + drawn_by es

abbrev pub is_turn : Entry → Bool
is_turn e = e.told.session == 0

abbrev pub toy : Definitions (List Entry) Cell Pool Line Entry (Unit {0})
toy = record {
  World = Bool;
  Common = ℕ;
  world = busy_at;
  common = drawn_by;
  one = λ s e. e ∷ s;
  right = λ s e. not (is_turn e && is_idle e.told.said);
  by = λ e. e.place;
  told = λ e. e.told;
  place_of = λ k s l. l.place;
  is_line = λ l e. e.line == l.number;
  world_one = λ w e. e.is_busy;
  is_local = λ p w e. (e.place == p) && ((e.draws == 0) && (is_turn e && not (is_idle e.told.said)));
  is_busy = λ w. w;
  is_sound = λ m. m.is_sound;
  cell_of = λ c w. c.is_busy ≡ w;
  shared_of = λ m k. m.drawn ≡ k;
  heard = λ c h. Unit {0};
}

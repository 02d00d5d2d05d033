-- What a store may hold, and how many zones.
use Rattle.std.specs.Prelude.{ℕ, List, length, Bool, IsTrue, true, false, not, Option, Some, None}
use Rattle.std.specs.List.{list_all}
use Rattle.zn_base.specs.Names.{Name}
use Rattle.zn_base.specs.States.{is_stored}
use Rattle.zn_base.specs.declared.state.ZoneState.{ZoneState}
use Rattle.commit_journal.specs.Stored.{stored, without}
use Rattle.commit_journal.specs.declared.records.Commit.{Commit}
use Rattle.commit_journal.specs.declared.records.Record.{Record}
use Rattle.zone_config.specs.Sound.{IsSound}

abbrev pub is_storable : Option Record → Bool
is_storable None = true
is_storable (Some row) = is_stored row.state

abbrev pub are_storable : List Commit → Bool
are_storable commits = list_all (λ c. is_storable c.stored) commits

-- a zone's state, where no store holds it: a restart ends it
abbrev pub ends_with_a_restart : Option ZoneState → Bool
ends_with_a_restart None = false
ends_with_a_restart (Some s) = not (is_stored s)

-- how many zones besides z some commits leave
abbrev pub zones_besides : Name → List Commit → ℕ
zones_besides z commits = length (without z (stored commits))

-- a record that a store may hold, whatever its number: its state is one of these, and its configuration is sound
pub record IsRight (row : Record) : Type 0 where
  pub state : IsTrue (is_stored row.state)
  pub config : IsSound row.config

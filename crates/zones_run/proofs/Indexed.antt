-- The rows of the index of what some commits store: no two have one name, and each has a stored state.
use Rattle.std.proofs.Common.{◌≡◌, ◌≢◌, ◌&&◌, Bool, true, false, cond, List, [], ◌∷◌, All, Option, Some, None, IsTrue, bytes_eq, filter, map, not, refl, ap, sym, subst, arith}
use Rattle.std.specs.List.{AllPairs}
use Rattle.std.proofs.lemmas.List.Elements.{All-cons, All-filter, All-map, All-nil}
use Rattle.std.proofs.lemmas.List.Kept.{AllPairs-cons}
use Rattle.std.proofs.lemmas.Slice.Eq.{bytes_eq-Decides}
use Rattle.commit_journal.specs.Journal.{Leave}
use Rattle.commit_journal.specs.Stored.{Rows, from_first, is_removed, last_record, stored, without}
use Rattle.commit_journal.specs.declared.records.Commit.{Commit}
use Rattle.commit_journal.specs.declared.records.Record.{Record}
use Rattle.index_file.specs.Index.{NamesDiffer}
use Rattle.index_file.specs.declared.rows.IndexRow.{IndexRow}
use Rattle.zn_base.specs.Names.{Name}
use Rattle.zn_base.specs.States.{is_stored}
use Rattle.zone_machine.specs.Machine.Indexed.{index_of, index_row}
use Rattle.zn_io.specs.Disk.{View}
use Rattle.commit_journal.specs.Zones.{rows_of}
use Rattle.zone_machine.specs.Code.Openings.{StandsFor}
use Rattle.zone_machine.specs.Code.Records.{IsReady}
use Rattle.zone_cases.specs.State.{State, bodies_of}
use Rattle.zone_machine.specs.declared.machine.Machine.{Machine}
use Rattle.zone_pools.specs.declared.owned.Owned.{Owned}
use Rattle.zones_run.proofs.Resting.{rest_left}

abbrev Differs : Name → Owned Record → Type 0
Differs z o = z ≢ o.zone

-- no later zone has the name of an earlier one
abbrev Distinct : Rows → Type 0
Distinct [] = Unit {0}
Distinct (o ∷ os) = All (Differs o.zone) os × Distinct os

distinct_filter : (p : Owned Record → Bool) (os : Rows) → Distinct os → Distinct (filter p os)
distinct_filter p [] d = tt
distinct_filter p (o ∷ os) d = elim (p o) as (λ b. Distinct (cond b (o ∷ filter p os) (filter p os))) [
  | true ↦ (All-filter p (Differs o.zone) os d.0, distinct_filter p os d.1)
  | false ↦ distinct_filter p os d.1
]

-- the others have another name
not_same : (b : Bool) → b ≡ true → b ≡ false → ⊥
not_same b same differs = cc

other : (z : Name) (o : Owned Record) (rest : Rows) (b : Bool) → bytes_eq z o.zone ≡ b → All (Differs z) rest → All (Differs z) (cond (not (b && true)) (o ∷ rest) rest)
other z o rest true is all = all
other z o rest false is all = All-cons (Differs z) o rest (λ same. not_same (bytes_eq z o.zone) ((bytes_eq-Decides z o.zone).1 same) is) all

others : (z : Name) (os : Rows) → All (Differs z) (without z os)
others z [] = All-nil (Differs z)
others z (o ∷ os) = other z o (without z os) (bytes_eq z o.zone) refl (others z os)

distinct_first : (said : Option Record) (z : Name) (later : List Commit) (os : Rows) → Distinct os → Distinct (from_first said z later os)
distinct_first None z later os d = d
distinct_first (Some row) z later os d = elim (is_removed z later) as (λ b. Distinct (cond b os (record { zone = z; it = last_record row z later } ∷ without z os))) [
  | true ↦ d
  | false ↦ (others z os, distinct_filter _ os d)
]

distinct_stored : (commits : List Commit) → Distinct (stored commits)
distinct_stored [] = tt
distinct_stored (c ∷ commits) = distinct_first c.stored c.zone commits (stored commits) (distinct_stored commits)

no_pairs : {X : Type 0} (R : X → X → Type 0) → AllPairs R []
no_pairs R = λ i j d h k. absurd (omega (arith, h, k))

names_differ : (os : Rows) → Distinct os → NamesDiffer (map index_row os)
names_differ [] d = no_pairs (λ (a b : IndexRow). a.name ≢ b.name)
names_differ (o ∷ os) d =
    AllPairs-cons (λ (a b : IndexRow). a.name ≢ b.name) (index_row o) (map index_row os) (All-map (λ (b : IndexRow). o.zone ≢ b.name) index_row os d.0) (names_differ os d.1)

pub index_differs : (commits : List Commit) → NamesDiffer (index_of commits)
index_differs commits = names_differ (stored commits) (distinct_stored commits)

pub index_rests : (commits : List Commit) → Leave (bodies_of commits) (stored commits) → All (λ (row : IndexRow). IsTrue (is_stored row.state)) (index_of commits)
index_rests commits left = All-map (λ (row : IndexRow). IsTrue (is_stored row.state)) index_row (stored commits) (rest_left commits left)

-- what a ready machine's rows are left by
pub index_left : {D F : Type 0} (S : State) (m : Machine D F) (v : View) → StandsFor S m → IsReady v m.bank m.parts.shared → Leave (bodies_of S.commits) (stored S.commits)
index_left S m v stands ready =
    subst (λ rows. Leave (bodies_of S.commits) rows) (sym (ap (λ k. k.rows) stands.parts.shared)) (subst (λ bodies. Leave bodies (rows_of m.parts.shared.rows.entries)) (sym stands.bodies) ready.zones.leave)

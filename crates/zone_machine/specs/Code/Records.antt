-- The record that a case stores, and what writing it leaves on the disk.
use Rattle.std.specs.Prelude.{◌≡◌, ◌≢◌, ◌≤◌, ◌+◌, ◌++◌, ◌↔◌, ℕ, List, [], ◌∷◌, length, Bool, true, false, Option, Some, None, Result, Ok, Err, IfOk, IsTrue}
use Rattle.zn_io.specs.Disk.{Leaves, View}
use Rattle.zn_base.specs.Names.{Name}
use Rattle.zone_disk.specs.Bank.{Account}
use Rattle.zone_disk.specs.Image.{Stands, used_by}
use Rattle.zone_pools.specs.Decisions.{number_in}
use Rattle.zone_pools.specs.declared.grant.Grant.{Grant}
use Rattle.zone_pools.specs.declared.grant.Pool.{Pool}
use Rattle.commit_journal.specs.Store.{HasZones, IsBeforeOrAfter, Stores, change_text}
use Rattle.commit_journal.specs.Stored.{Rows, may_stand, with_stored}
use Rattle.commit_journal.specs.Zones.{rows_of}
use Rattle.commit_journal.specs.declared.records.Record.{Record}
use Rattle.zoneadmd_steps.specs.Arrivals.{Arrival, New_record}
use Rattle.zoneadmd_steps.specs.Code.Cases.{IsNumberedTurn}
use Rattle.zoneadmd_steps.specs.declared.cases.JobCase.TheVariants.{Ask}
use Rattle.zoneadmd_steps.specs.declared.cases.TurnCase.{TurnCase}
use Rattle.zoneadmd_steps.specs.declared.cases.TurnCase.TheVariants.{GoOn}
use Rattle.zoneadmd_steps.specs.declared.objects.changes.Came.TheVariants as came
use Rattle.zone_cases.specs.declared.cases.Case.{Case}
use Rattle.zone_cases.specs.declared.cases.Case.TheVariants.{Commit, Remove, Turn}
use Rattle.zone_machine.specs.declared.machine.records.ToStore.{ToStore}
use Rattle.zone_machine.specs.declared.machine.records.ToStore.TheVariants as stores
use Rattle.zone_cases.specs.Code.Cases.{numbered_row}
use Rattle.zn_io.specs.Streams.{Rose}
use Rattle.zone_cases.specs.Code.Cells.{CellOf}
use Rattle.zone_machine.specs.Code.Cells.{SharedOf, Stands as Parts_stand}
use Rattle.zone_machine.specs.Machine.Common.{common}
use Rattle.zone_cases.specs.State.Worlds.{world}
use Rattle.zone_cases.specs.declared.events.Subject.TheVariants.{Zone}
use Rattle.zone_cases.specs.declared.cell.Cell.{Cell}
use Rattle.zone_machine.specs.Machine.{one, subject}
use Rattle.zone_machine.specs.Machine.Images.{Goes}
use Rattle.zone_machine.specs.Machine.Pools.{allowed}
use Rattle.zone_cases.specs.State.{State, bodies_of}
use Rattle.zone_cases.specs.declared.events.Event.{Event}
use Rattle.zone_machine.specs.declared.faults.StepFault.{StepFault}
use Rattle.zone_machine.specs.declared.faults.StepFault.TheVariants.{BadGrant, DiskFault, Memory, NoStore, WouldRecord}
use Rattle.zone_machine.specs.declared.machine.parts.Parts.{Parts}
use Rattle.zone_machine.specs.declared.machine.shared.Shared.{Shared}

-- the record of a case has the number that the grant gives it
abbrev pub HasNumberTurn : TurnCase → Grant → Type 0
HasNumberTurn (GoOn (Ask (came.Moved r owner new) next)) g = IfOk (number_in g) (λ n. r.value.revision ≡ n)
HasNumberTurn _ g = Unit {0}

abbrev pub HasNumber : Case → Grant → Type 0
HasNumber (Commit c) g = IfOk (number_in g) (λ n. numbered_row c.value.novelty c.value.owner c.value.row.value n ≡ c.value.row.value)
HasNumber (Turn c) g = IsNumberedTurn c g × HasNumberTurn c g
HasNumber _ g = Unit {0}

-- what a case stores under a grant
abbrev pub stored_if : Result ℕ Pool → Option Record → Option Arrival
stored_if (Ok n) row = Some (New_record row)
stored_if (Err pool) row = None

abbrev pub stored_turn : TurnCase → Grant → Option Arrival
stored_turn (GoOn (Ask (came.Record r owner) next)) g = stored_if (number_in g) (Some r.value)
stored_turn (GoOn (Ask (came.Moved r owner new) next)) g = stored_if (number_in g) (Some r.value)
stored_turn _ g = None

abbrev pub stored_by : Case → Grant → Option Arrival
stored_by (Commit c) g = stored_if (number_in g) (Some c.value.row.value)
stored_by (Remove r) g = stored_if (number_in g) None
stored_by (Turn c) g = stored_turn c g
stored_by _ g = None

abbrev pub stored_row : Option Record → Option Arrival
stored_row row = Some (New_record row)

abbrev pub stored_if_any : Result ℕ Pool → ToStore → Option Arrival
stored_if_any r stores.Nothing = None
stored_if_any r (stores.Row row) = stored_if r (Some row.now)
stored_if_any r stores.Removal = stored_if r None

-- the bodies, the rows and the bytes of the bank with what is stored of z
abbrev pub bodies_with : Name → Option Arrival → List (List ℕ) → List (List ℕ)
bodies_with z (Some (New_record row)) bodies = bodies ++ change_text z row ∷ []
bodies_with z _ bodies = bodies

abbrev pub rows_with : Name → Option Arrival → Rows → Rows
rows_with z (Some (New_record row)) rows = with_stored z row rows
rows_with z _ rows = rows

abbrev pub used_with : Name → Option Arrival → ℕ → ℕ
used_with z (Some (New_record row)) used = used + (5 + length (change_text z row))
used_with z _ used = used

-- it may be stored: the zone is stored already, or there is a place for it
abbrev pub MayStand : Name → Option Arrival → Rows → Type 0
MayStand z (Some (New_record row)) rows = IsTrue (may_stand z row rows)
MayStand z _ rows = Unit {0}

-- an image stands for what was stored, or for that with what is stored now
abbrev pub StoresEither : Name → Option Arrival → List (List ℕ) → Rows → List ℕ → Type 0
StoresEither z (Some (New_record row)) bodies rows image = IsBeforeOrAfter bodies rows z row image
StoresEither z _ bodies rows image = Stores bodies rows image

-- a bank that may be written has the records of the rows of the shared part, whose bytes are counted there, and whatever a crash
-- leaves now stands for them
pub record IsReady {D : Type 0} (v : View) (b : Account D) (s : Shared) : Type 0 where
  pub sound : b.sound ≡ true
  pub zones : HasZones b.records (rows_of s.rows.entries)
  pub used : s.used ≡ used_by b.records
  pub settled : v.Keeps → (image : List ℕ) → v.Now image → Stands image b.records

-- what a crash leaves at any moment while something is stored of z, and at the end
pub record Writes (z : Name) (came : Option Arrival) (bodies : List (List ℕ)) (rows : Rows) (old new : View) : Type 0 where
  pub any_moment : old.Keeps → Leaves old new (StoresEither z came bodies rows)
  pub now : old.Keeps → (image : List ℕ) → new.Now image → StoresEither z came bodies rows image
  pub model : old.Keeps ↔ new.Keeps
  pub faults : old.faults ≤ new.faults

-- the grant that an event takes: the stated one, or what the pools give
abbrev pub taken : Option Grant → State → Event → Grant
taken None S e = allowed S e
taken (Some g) S e = g

-- whatever state the parts stand for, the bodies of whose commits a bank has: what a crash leaves at any moment and at the end
-- stands for its commits or for those after the event, and once that is answered the bank has the bodies of these
abbrev pub GoesUnder : Option Grant → Parts → Event → List (List ℕ) → View → View → Type 0
GoesUnder stated t e bodies v w = (S : State) → Parts_stand S t → bodies_of S.commits ≡ bodies → Goes S.commits (one S e (taken stated S e)).state.commits v w

abbrev pub KeepsBodies : Option Grant → Parts → Event → (old new : List (List ℕ)) → Type 0
KeepsBodies stated t e old new = (S : State) → Parts_stand S t → bodies_of S.commits ≡ old → bodies_of (one S e (taken stated S e)).state.commits ≡ new

-- the event stores a record, whatever state the parts stand for
abbrev pub StoresUnder : Option Grant → Parts → Event → Type 0
StoresUnder stated t e = (S : State) → Parts_stand S t → (one S e (taken stated S e)).state.commits ≢ S.commits

-- the same of a zone's cell and the shared part
abbrev pub GoesInCell : Name → Option Grant → Cell → Shared → Event → List (List ℕ) → View → View → Type 0
GoesInCell z stated c s e bodies v w =
    (S : State) → CellOf c (world z S) → SharedOf s (common S) → subject S e ≡ Zone z → bodies_of S.commits ≡ bodies → Goes S.commits (one S e (taken stated S e)).state.commits v w

abbrev pub KeepsBodiesInCell : Name → Option Grant → Cell → Shared → Event → (old new : List (List ℕ)) → Type 0
KeepsBodiesInCell z stated c s e old new =
    (S : State) → CellOf c (world z S) → SharedOf s (common S) → subject S e ≡ Zone z → bodies_of S.commits ≡ old → bodies_of (one S e (taken stated S e)).state.commits ≡ new

-- the disk keeps to its model or doesn't, as before, and its faults are no fewer
pub record Passes (old new : View) : Type 0 where
  pub model : old.Keeps ↔ new.Keeps
  pub faults : old.faults ≤ new.faults

-- a fault that no disk has a part in
abbrev pub NeedsNoDisk : StepFault → Type 0
NeedsNoDisk Memory = Unit {0}
NeedsNoDisk BadGrant = Unit {0}
NeedsNoDisk fault = ⊥

-- the bank after an event that was not answered and is no restart: where the disk failed, its count of faults rose, and no event may be taken any
-- more; else the bank is as it was. The disk fails only in an event that may record, and only one that may not would
abbrev pub BankLeft : {D : Type 0} → (may_record : Bool) → StepFault → (old new : Account D) → (v w : View) → Shared → Type 0
BankLeft may Memory a b v w s = (b ≡ a) × IsReady w b s
BankLeft may BadGrant a b v w s = (b ≡ a) × IsReady w b s
BankLeft false WouldRecord a b v w s = (b ≡ a) × IsReady w b s
BankLeft true WouldRecord a b v w s = ⊥
BankLeft false DiskFault a b v w s = ⊥
BankLeft true DiskFault a b v w s = Rose v.faults w.faults × (b.sound ≡ false)
BankLeft may (NoStore fault) a b v w s = ⊥

-- What is known of an event that was decided, and how it is answered.
use Rattle.std.specs.Prelude.{◌≡◌, ℕ, bytes_eq, slice_get, Bool, false, Option, Some, None}
use Rattle.std.specs.Fn.{Shared}
use denote.Ref.{Bor}
use Rattle.indexmap.specs.IndexMap.{IsUnique, index_of_by, values}
use Rattle.zn_base.specs.Names.{Name}
use Rattle.zone_cases.specs.Code.Cells.{IsHeardIn, cell_objects}
use Rattle.zone_machine.specs.Code.Cells.{cell_at}
use Rattle.zone_cases.specs.declared.cell.Cell.{Cell}
use Rattle.zone_cases.specs.declared.events.Answer.{Answer}
use Rattle.zone_cases.specs.declared.events.Entry.{Entry}
use Rattle.zone_cases.specs.declared.events.Event.{Event}
use Rattle.zone_cases.specs.declared.events.Event.TheVariants.{Process, Restart, Session, System, Turn}
use Rattle.zone_cases.specs.declared.events.Subject.{Subject}
use Rattle.zone_cases.specs.declared.events.Subject.TheVariants.{Global, Whole, Zone}
use Rattle.zone_cases.specs.declared.events.Whose.{Whose}
use Rattle.zone_cases.specs.declared.events.Whose.TheVariants.{Found, Own}
use Rattle.zone_machine.specs.declared.machine.parts.Parts.{Parts}
use Rattle.brand_hooks.specs.Brands.{tables_of}
use Rattle.brand_hooks.specs.Hooks.{AllFollow}
use Rattle.brand_hooks.specs.declared.change.Change.{Change}
use Rattle.brand_hooks.specs.declared.table.HookAnswer.{HookAnswer}
use Rattle.zone_machine.specs.declared.machine.Foreseen.{Foreseen}
use Rattle.zone_machine.specs.declared.machine.Machine.{Machine}
use Rattle.zone_machine.specs.Code.Records.{IsReady}
use Rattle.zn_io.specs.Disk.{View as Disk_view}
use Rattle.zoneadmd_steps.specs.Code.Cases.{next_hook}
use Rattle.zoneadmd_steps.specs.Code.Desks.{as_desk}
use Rattle.zoneadmd_steps.specs.Code.Recordings.{records_next}
use Rattle.zone_cases.specs.declared.replies.Reply.{Reply}
use Rattle.zone_pools.specs.declared.grant.Grant.{Grant}

-- z's cell stands at an index
pub record IsCellAt (p : Parts) (at : ℕ) (z : Name) : Type 0 where
  pub index : index_of_by (bytes_eq z) p.cells ≡ Some at
  pub value : slice_get (values p.cells) at ≡ cell_at z p
  pub unique : IsUnique bytes_eq p.cells

-- where z's cell stands, if z has one
abbrev pub IsPlaced : Parts → Name → Option ℕ → Type 0
IsPlaced t z None = cell_at z t ≡ None
IsPlaced t z (Some at) = IsCellAt t at z

-- the same of a turn's zone; of any other event nothing is told
abbrev pub IsPlacedTurn : Parts → Event → Option ℕ → Type 0
IsPlacedTurn t (Turn z) place = IsPlaced t z place
IsPlacedTurn t _ place = Unit {0}

-- the entry of an event, by what it is granted and the reply
abbrev pub entry_of : Subject → Event → Grant → Reply → Entry
entry_of s e g reply = record { event = e; subject = s; grant = g; reply = reply }

-- whose an event is by itself: the zone that it has, or the whole system; of a session's line that is to be found
abbrev pub own_subject : Event → Subject
own_subject (Session n text) = Global
own_subject (Turn z) = Zone z
own_subject (Process z pid c) = Zone z
own_subject (System what) = Whole
own_subject Restart = Whole

-- whose an event was that was answered
abbrev pub subject_by : Event → Whose → Subject
subject_by e Own = own_subject e
subject_by e (Found s) = s

-- the entry that an event and its answer are
abbrev pub entry_by : Event → Answer → Entry
entry_by e a = entry_of (subject_by e a.whose) e a.grant a.reply

-- what the brand of a turn's zone answers to the next step of its daemon
abbrev pub IsHeard : Parts → Event → HookAnswer → Type 0
IsHeard t (Turn z) answer = (c : Cell) → cell_at z t ≡ Some c → IsHeardIn t.shared.brands c answer
IsHeard t _ answer = Unit {0}

-- of which change the brand of a turn's zone is asked at the next step of its daemon
abbrev pub IsNextHook : Parts → Event → Option (Option ℕ × Change) → Type 0
IsNextHook t (Turn z) asked = (c : Cell) → cell_at z t ≡ Some c → asked ≡ next_hook (cell_objects c) (as_desk c.desk).job
IsNextHook t _ asked = Unit {0}

-- whether the next step of a cell's daemon changes what is stored of the zone
abbrev pub cell_records : Option Cell → Bool
cell_records None = false
cell_records (Some c) = records_next (cell_objects c) (as_desk c.desk).job

-- the same of the daemon of a turn's zone; of any other event nothing is told
abbrev pub turn_records : Parts → Event → Bool
turn_records t (Turn z) = cell_records (cell_at z t)
turn_records t _ = false

-- what was foreseen of an event
pub record IsForeseen (t : Parts) (e : Event) (f : Foreseen) : Type 0 where
  pub place : IsPlacedTurn t e f.place
  pub hook : IsHeard t e f.hook

-- the machine asks brands whose hooks follow their tables, and its parts know these
abbrev pub AsksBrands : {D F : Type 0} → Shared F (Bor Change × Unit {0}) HookAnswer → Machine D F → Type 0
AsksBrands g m = AllFollow g m.brands.now × (m.parts.shared.brands ≡ tables_of m.brands.now)

-- the machine may take events: its bank is ready for what zones share
abbrev pub MayGoOn : {D F : Type 0} → (D → Disk_view) → Machine D F → Type 0
MayGoOn view m = IsReady (view m.bank.disk) m.bank m.parts.shared

-- What lies in a place and what the zones share stand for, and what an event leaves of them.
use Rattle.std.specs.Prelude.{◌≡◌, ℕ, List, true}
use Rattle.commit_journal.specs.declared.records.Commit.{Commit}
use Rattle.zn_base.specs.Names.{Name}
use Rattle.zn_io.specs.Disk.{View}
use Rattle.zone_cases.specs.Code.Cells.{CellOf}
use Rattle.zone_cases.specs.State.{State, bodies_of}
use Rattle.zone_cases.specs.State.Worlds.{World, world}
use Rattle.zone_cases.specs.declared.cell.Cell.{Cell}
use Rattle.zone_cases.specs.declared.events.Entry.{Entry}
use Rattle.zone_cases.specs.declared.events.Event.{Event}
use Rattle.zone_cases.specs.declared.events.Event.TheVariants.{Session}
use Rattle.zone_cases.specs.declared.events.Subject.{Subject}
use Rattle.zone_cases.specs.declared.events.Subject.TheVariants.{Zone}
use Rattle.zone_machine.specs.Code.Cells.{SharedOf}
use Rattle.zone_machine.specs.Code.Shown_zones.{shown_in}
use Rattle.zone_machine.specs.Machine.{subject}
use Rattle.zone_machine.specs.Machine.Common.{Common, common}
use Rattle.zone_machine.specs.Machine.Histories.{after_entry, entry_at}
use Rattle.zone_machine.specs.Machine.Pools.{allowed}
use Rattle.zone_machine.specs.Shown.{shown}
use Rattle.zone_machine.specs.declared.machine.shown.Shown.{Shown}
use Rattle.daemon_threads.specs.Disks.{DiskOf}
use Rattle.daemon_threads.specs.Goods.{Goods}

-- what is common to all zones of a state: what more than one of them may ask, what each shows of itself, all records, and whose each
-- line is
pub record Commons : Type 0 where
  pub common : Common
  pub shown : Name → Shown
  pub commits : List Commit
  -- whose a line of a session is
  pub whose : ℕ → List ℕ → Subject

abbrev pub commons : State → Commons
commons S = record { common = common S; shown = shown S; commits = S.commits; whose = λ n text. subject S (Session n text) }

-- the part has what is common to the zones of some state
pub record PartOf {D : Type 0} (m : Goods D) (k : Commons) : Type 0 where
  pub state : State
  pub is : commons state ≡ k
  pub shared : SharedOf m.shared k.common
  pub shown : (z : Name) → k.shown z ≡ shown_in m.shown z
  pub bodies : bodies_of k.commits ≡ m.bank.records

-- the same, and what was stored when the sessions began
pub record Known : Type 0 where
  pub stored : List Commit
  pub now : Commons

-- what a part stands for whose disk began as the view v, where these commits were stored: while it may be used it has what is common to
-- the zones of some state, and its disk has what is stored, whether or not it may be used
pub record Stands {D : Type 0} (view : D → View) (v : View) (before : List Commit) (m : Goods D) (k : Commons) : Type 0 where
  pub part : m.bank.sound ≡ true → PartOf m k
  pub disk : DiskOf v before m.bank.sound (view m.bank.disk) k.commits

-- the entry is the definitions', under the grant that the pools give, and what is left stands for what is common after it
pub record Answers {D : Type 0} (view : D → View) (v : View) (before : List Commit) (S : State) (e : Event) (entry : Entry) (n : Goods D) : Type 0 where
  pub told : entry ≡ entry_at S e (allowed S e)
  pub stands : Stands view v before n (commons (after_entry S entry))

-- and the cell has its zone's world after it
pub record CellAnswers {D : Type 0} (view : D → View) (v : View) (before : List Commit) (z : Name) (S : State) (e : Event) (entry : Entry) (d : Cell) (n : Goods D) : Type 0 where
  pub answers : Answers view v before S e entry n
  pub cell : CellOf d (world z (after_entry S entry))

-- an event of z that wasn't done: the cell has the worlds that it had, unless the part may not be used any more, and the part stands for
-- what it stood for
pub record IsUndone {D : Type 0} (view : D → View) (v : View) (z : Name) (e : Event) (c : Cell) (m : Goods D) (d : Cell) (n : Goods D) : Type 0 where
  pub cell : n.bank.sound ≡ true → (w : World) → CellOf c w → CellOf d w
  pub stands : (before : List Commit) (S : State) → CellOf c (world z S) → subject S e ≡ Zone z → Stands view v before m (commons S) → Stands view v before n (commons S)

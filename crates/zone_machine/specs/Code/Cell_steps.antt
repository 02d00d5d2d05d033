-- A step on a zone's cell and the shared part, as the definitions have it.
use Rattle.std.specs.Prelude.{◌≡◌, true, false, Option, Some, None}
use Rattle.zn_base.specs.Names.{Name}
use Rattle.zone_machine.specs.Machine.Common.{common}
use Rattle.zone_cases.specs.State.{State}
use Rattle.zone_cases.specs.State.Worlds.{world}
use Rattle.zone_cases.specs.declared.cell.Cell.{Cell}
use Rattle.zone_cases.specs.declared.events.Event.{Event}
use Rattle.zone_cases.specs.declared.events.Subject.TheVariants.{Zone}
use Rattle.zone_machine.specs.declared.machine.shared.Shared.{Shared}
use Rattle.zone_pools.specs.declared.grant.Grant.{Grant}
use Rattle.zone_machine.specs.Machine.Histories.{entry_at}
use Rattle.zone_machine.specs.Machine.{one, subject}
use Rattle.zone_machine.specs.Machine.Pools.{allowed, fits}
use Rattle.zone_cases.specs.Code.Cells.{CellOf}
use Rattle.zone_machine.specs.Code.Cells.{SharedOf}
use Rattle.zone_cases.specs.declared.events.Entry.{Entry}
use Rattle.zone_machine.specs.Code.Rooms.{Alike}
use Rattle.zone_machine.specs.Code.Steps.{Takes}
use Rattle.zone_machine.specs.declared.faults.StepFault.{StepFault}
use Rattle.zone_machine.specs.declared.faults.StepFault.TheVariants.{BadGrant, DiskFault, Memory, NoStore, WouldRecord}

-- the same of a zone's cell and the shared part: the entry is the definitions', and what is left has the world and what is common of
-- the state after it
pub record CellAnswers (z : Name) (S : State) (e : Event) (g : Grant) (entry : Entry) (d : Cell) (t : Shared) : Type 0 where
  pub told : entry ≡ entry_at S e g
  pub cell : CellOf d (world z (one S e g).state)
  pub shared : SharedOf t (common (one S e g).state)

-- whatever state they stood for in which the event is the zone's
abbrev pub IsCellStep : Name → Cell → Shared → Event → Grant → Entry → Cell → Shared → Type 0
IsCellStep z c s e g entry d t = (S : State) → CellOf c (world z S) → SharedOf s (common S) → subject S e ≡ Zone z → CellAnswers z S e g entry d t

-- under the grant that the pools give
abbrev pub IsAllowedCellStep : Name → Cell → Shared → Event → Entry → Cell → Shared → Type 0
IsAllowedCellStep z c s e entry d t = (S : State) → CellOf c (world z S) → SharedOf s (common S) → subject S e ≡ Zone z → CellAnswers z S e (allowed S e) entry d t

-- under a grant that fits
abbrev pub IsFittingCellStep : Name → Cell → Shared → Event → Grant → Entry → Cell → Shared → Type 0
IsFittingCellStep z c s e g entry d t = (S : State) → CellOf c (world z S) → SharedOf s (common S) → subject S e ≡ Zone z → (fits S e g ≡ true) × CellAnswers z S e g entry d t

-- under the one or the other
pub record CellStepsUnder (z : Name) (stated : Option Grant) (S : State) (e : Event) (entry : Entry) (d : Cell) (t : Shared) : Type 0 where
  pub takes : Takes stated S e entry.grant
  pub answers : CellAnswers z S e entry.grant entry d t

abbrev pub IsCellStepUnder : Name → Option Grant → Cell → Shared → Event → Entry → Cell → Shared → Type 0
IsCellStepUnder z stated c s e entry d t = (S : State) → CellOf c (world z S) → SharedOf s (common S) → subject S e ≡ Zone z → CellStepsUnder z stated S e entry d t

-- the grant doesn't fit, and nothing is changed
abbrev pub IsCellMisfit : Name → Cell → Shared → Event → Grant → Cell → Shared → Type 0
IsCellMisfit z c s e g d t = ((S : State) → CellOf c (world z S) → SharedOf s (common S) → subject S e ≡ Zone z → fits S e g ≡ false) × (d ≡ c) × (t ≡ s)

abbrev pub IsCellMisfitUnder : Name → Option Grant → Cell → Shared → Event → Cell → Shared → Type 0
IsCellMisfitUnder z None c s e d t = ⊥
IsCellMisfitUnder z (Some g) c s e d t = IsCellMisfit z c s e g d t

-- a stated grant fits
abbrev pub FitsInCell : Name → Option Grant → Cell → Shared → Event → Type 0
FitsInCell z None c s e = Unit {0}
FitsInCell z (Some g) c s e = (S : State) → CellOf c (world z S) → SharedOf s (common S) → subject S e ≡ Zone z → fits S e g ≡ true

-- what an event leaves that is not answered: where the disk failed, nothing is said of the cell and the shared part
abbrev pub CellLeaves : StepFault → Name → Option Grant → Cell → Shared → Event → Cell → Shared → Type 0
CellLeaves Memory z stated c s e d t = Alike c s d t
CellLeaves WouldRecord z stated c s e d t = Alike c s d t
CellLeaves BadGrant z stated c s e d t = IsCellMisfitUnder z stated c s e d t
CellLeaves DiskFault z stated c s e d t = FitsInCell z stated c s e
CellLeaves (NoStore fault) z stated c s e d t = ⊥

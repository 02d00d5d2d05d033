-- A step of the machine, as the definitions have it.
use Rattle.zone_pools.specs.Asked.{Asked}
use Rattle.std.specs.Prelude.{◌≡◌, ◌⊎◌, List, Option, None, Bool, true, false, IsErrOf, Result, Some}
use Rattle.zn_base.specs.Names.{Name}
use Rattle.zone_pools.specs.declared.grant.Grant.{Grant}
use Rattle.zn_base.specs.declared.state.ZoneState.{ZoneState}
use Rattle.zone_machine.specs.Machine.Histories.{entry_at}
use Rattle.zone_machine.specs.Machine.{one, subject}
use Rattle.zone_machine.specs.Machine.Pools.{allowed, fits}
use Rattle.zone_cases.specs.State.{State, zone_state}
use Rattle.zone_machine.specs.Code.Cells.{Stands}
use Rattle.zone_machine.specs.Code.Records.{StoresUnder}
use Rattle.zone_cases.specs.declared.events.Entry.{Entry}
use Rattle.zone_cases.specs.declared.events.Event.{Event}
use Rattle.zone_cases.specs.declared.events.Subject.{Subject}
use Rattle.zone_machine.specs.declared.faults.StepFault.{StepFault}
use Rattle.zone_machine.specs.declared.faults.StepFault.TheVariants.{Memory, BadGrant, DiskFault, NoStore, WouldRecord}
use Rattle.zone_machine.specs.declared.machine.parts.Parts.{Parts}
use Rattle.zone_pools.specs.declared.grant.Grant.TheVariants.{Nothing}
use Rattle.zone_pools.specs.Pools.{Pools, fits_asked, said_by_all}

-- the event is answered by the definitions' entry under a grant, and what is left stands for the state after it
pub record Answers (S : State) (e : Event) (g : Grant) (entry : Entry) (u : Parts) : Type 0 where
  pub told : entry ≡ entry_at S e g
  pub stands : Stands (one S e g).state u

-- whatever state the parts stood for
abbrev pub IsStep : Parts → Event → Grant → Entry → Parts → Type 0
IsStep t e g entry u = (S : State) → Stands S t → Answers S e g entry u

-- the grant doesn't fit, and nothing is changed
abbrev pub IsMisfit : Parts → Event → Grant → Parts → Type 0
IsMisfit t e g u = ((S : State) → Stands S t → fits S e g ≡ false) × (u ≡ t)

-- a grant that doesn't fit is reported as such, or memory runs out
abbrev pub IsRefusedIfUnfit : Parts → Event → Grant → Result Entry StepFault → Type 0
IsRefusedIfUnfit t e g result = (S : State) → Stands S t → fits S e g ≡ false → IsErrOf result BadGrant ⊎ IsErrOf result Memory

-- what the parts say of every state that they stand for
abbrev pub IsSubject : Parts → Event → Subject → Type 0
IsSubject t e s = (S : State) → Stands S t → s ≡ subject S e

abbrev pub IsAllowed : Parts → Event → Grant → Type 0
IsAllowed t e g = (S : State) → Stands S t → g ≡ allowed S e

abbrev pub IsZoneState : Parts → Name → Option ZoneState → Type 0
IsZoneState t z s = (S : State) → Stands S t → s ≡ zone_state z S

abbrev pub IsStarted : Parts → Bool → Type 0
IsStarted t b = (S : State) → Stands S t → b ≡ S.started

-- the grant that is taken: the one that the pools give, or the stated one, which fits
abbrev pub Takes : Option Grant → State → Event → Grant → Type 0
Takes None S e g = g ≡ allowed S e
Takes (Some stated) S e g = (g ≡ stated) × (fits S e stated ≡ true)

abbrev pub IsTaken : Parts → Option Grant → Event → Grant → Type 0
IsTaken t stated e g = (S : State) → Stands S t → Takes stated S e g

pub record StepsUnder (stated : Option Grant) (S : State) (e : Event) (entry : Entry) (u : Parts) : Type 0 where
  pub takes : Takes stated S e entry.grant
  pub answers : Answers S e entry.grant entry u

abbrev pub IsStepUnder : Option Grant → Parts → Event → Entry → Parts → Type 0
IsStepUnder stated t e entry u = (S : State) → Stands S t → StepsUnder stated S e entry u

abbrev pub IsMisfitUnder : Option Grant → Parts → Event → Parts → Type 0
IsMisfitUnder None t e u = ⊥
IsMisfitUnder (Some g) t e u = IsMisfit t e g u

-- the parts stand for what they stood for
abbrev pub AsItWas : Parts → Parts → Type 0
AsItWas t u = (S : State) → (Stands S t → Stands S u) × (Stands S u → Stands S t)

-- a stated grant fits
abbrev pub FitsIn : Option Grant → Parts → Event → Type 0
FitsIn None t e = Unit {0}
FitsIn (Some g) t e = (S : State) → Stands S t → fits S e g ≡ true

-- what an event leaves that is not answered and is no restart: memory ran out, the stated grant doesn't fit, it stores a record
-- and may not yet, or the disk failed under a grant that fits, after which nothing is said of the parts
abbrev pub Leaves : StepFault → Option Grant → Parts → Event → Parts → Type 0
Leaves Memory stated t e u = AsItWas t u
Leaves BadGrant stated t e u = IsMisfitUnder stated t e u
Leaves WouldRecord stated t e u = AsItWas t u × StoresUnder stated t e
Leaves DiskFault stated t e u = FitsIn stated t e
Leaves (NoStore fault) stated t e u = ⊥

-- the same once its grant was found
abbrev pub LeavesGranted : StepFault → Grant → Parts → Event → Parts → Type 0
LeavesGranted Memory g t e u = AsItWas t u
LeavesGranted BadGrant g t e u = ⊥
LeavesGranted WouldRecord g t e u = AsItWas t u × StoresUnder (Some g) t e
LeavesGranted DiskFault g t e u = Unit {0}
LeavesGranted (NoStore fault) g t e u = ⊥

-- the grant that a case takes: what the pools say, or the stated one, which fits what it asks
abbrev pub IsGrantFor : Name → Pools → List Asked → Option Grant → Grant → Type 0
IsGrantFor z P asked None g = g ≡ said_by_all P z asked Nothing
IsGrantFor z P asked (Some stated) g = (g ≡ stated) × (fits_asked P z asked stated ≡ true)

-- a stated grant doesn't fit it
abbrev pub IsUnfit : Name → Pools → List Asked → Option Grant → Type 0
IsUnfit z P asked None = ⊥
IsUnfit z P asked (Some stated) = fits_asked P z asked stated ≡ false

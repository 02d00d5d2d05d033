-- A restart of the system as an event: what it asks more than other events, what it leaves where it isn't done, and what every event
-- of the machine does, a restart or not.
use Rattle.std.specs.Prelude.{◌≡◌, ℕ, List, Bool, true, false, Option}
use Rattle.zn_io.specs.Disk.{View}
use Rattle.zn_io.specs.Streams.{Rose}
use Rattle.zone_disk.specs.Bank.{Account}
use Rattle.zone_pools.specs.declared.grant.Grant.{Grant}
use Rattle.zone_machine.specs.Code.Cells.{Stands}
use Rattle.zone_machine.specs.Code.Decided.{entry_of}
use Rattle.zone_machine.specs.Code.Openings.{BeginsAgain}
use Rattle.zone_machine.specs.Code.Records.{BankLeft, IsReady, taken}
use Rattle.zone_machine.specs.Code.Steps.{Answers, FitsIn, IsMisfitUnder, Leaves, StepsUnder}
use Rattle.zone_machine.specs.Machine.{one}
use Rattle.zone_machine.specs.Machine.Pools.{allowed, fits}
use Rattle.zone_cases.specs.State.{State, bodies_of}
use Rattle.zone_cases.specs.State.Decisions.{says}
use Rattle.zone_cases.specs.declared.events.Entry.{Entry}
use Rattle.zone_cases.specs.declared.events.Event.{Event}
use Rattle.zone_cases.specs.declared.events.Event.TheVariants.{Restart}
use Rattle.zone_cases.specs.declared.events.Subject.TheVariants.{Whole}
use Rattle.zone_machine.specs.declared.faults.StepFault.{StepFault}
use Rattle.zone_machine.specs.declared.faults.StepFault.TheVariants.{BadGrant, DiskFault, Memory, NoStore, WouldRecord}
use Rattle.zone_machine.specs.declared.machine.Machine.{Machine}
use Rattle.zone_machine.specs.declared.machine.parts.Parts.{Parts}
use Rattle.zone_machine.specs.declared.machine.shared.Shared.{Shared}
use Rattle.zone_cases.specs.declared.replies.Head.TheVariants.{Ok}

-- a restart reads the store again, which gives a state's commits where the disk keeps to its model and the bank has their bodies. Of
-- every other event nothing is asked
abbrev pub FindsAgain : Event → View → (bodies : List (List ℕ)) → State → Type 0
FindsAgain Restart v bodies S = v.Keeps × (bodies_of S.commits ≡ bodies)
FindsAgain e v bodies S = Unit {0}

-- an event of the machine is answered by the definitions' entry under the grant that the pools give, whatever state it stood for
abbrev pub IsAllowedStepOf : {D F : Type 0} → (D → View) → Machine D F → Event → Entry → Machine D F → Type 0
IsAllowedStepOf view m e entry n = (S : State) → Stands S m.parts → FindsAgain e (view m.bank.disk) m.bank.records S → Answers S e (allowed S e) entry n.parts

-- or under a grant that fits
abbrev pub IsFittingStepOf : {D F : Type 0} → (D → View) → Machine D F → Event → Grant → Entry → Machine D F → Type 0
IsFittingStepOf view m e g entry n = (S : State) → Stands S m.parts → FindsAgain e (view m.bank.disk) m.bank.records S → (fits S e g ≡ true) × Answers S e g entry n.parts

-- or under the one of these that it takes
abbrev pub IsStepUnderOf : {D F : Type 0} → (D → View) → Option Grant → Machine D F → Event → Entry → Machine D F → Type 0
IsStepUnderOf view stated m e entry n = (S : State) → Stands S m.parts → FindsAgain e (view m.bank.disk) m.bank.records S → StepsUnder stated S e entry n.parts

-- and the bank then has the bodies of the commits after it
abbrev pub KeepsBodiesOf : {D F : Type 0} → (D → View) → Option Grant → Machine D F → Event → Machine D F → Type 0
KeepsBodiesOf view stated m e n =
    (S : State) → Stands S m.parts → bodies_of S.commits ≡ m.bank.records → FindsAgain e (view m.bank.disk) m.bank.records S → bodies_of (one S e (taken stated S e)).state.commits ≡ n.bank.records

-- after a restart the machine begins again, whatever the disk is: with some commits, and with what was declared
abbrev pub BeginsAgainAfter : {D F : Type 0} → Event → Machine D F → Machine D F → Type 0
BeginsAgainAfter Restart m n = (S : State) → Stands S m.parts → BeginsAgain S n
BeginsAgainAfter e m n = Unit {0}

-- no store was found again: only a restart looks for one, and on a disk that keeps to its model it finds it
abbrev pub LosesStore : Event → View → StepFault → Type 0
LosesStore Restart v (NoStore fault) = v.Keeps → ⊥
LosesStore e v fault = ⊥

-- what a restart leaves that is not done: the parts as they were
abbrev pub LeavesRestart : StepFault → Option Grant → Parts → Parts → Type 0
LeavesRestart BadGrant stated t u = IsMisfitUnder stated t Restart u
LeavesRestart WouldRecord stated t u = u ≡ t
LeavesRestart fault stated t u = (u ≡ t) × FitsIn stated t Restart

-- what an event leaves that is not answered
abbrev pub LeavesAny : StepFault → Option Grant → Parts → Event → Parts → Type 0
LeavesAny fault stated t Restart u = LeavesRestart fault stated t u
LeavesAny fault stated t e u = Leaves fault stated t e u

-- the bank after a restart that was not done: as it was, where the restart had to wait or its grant doesn't fit; else no event may
-- be taken any more. Where the disk failed, its count of faults rose
abbrev pub RestartLeft : {D : Type 0} → (may_record : Bool) → StepFault → (old new : Account D) → (v w : View) → Shared → Type 0
RestartLeft may BadGrant a b v w s = (b ≡ a) × IsReady w b s
RestartLeft false WouldRecord a b v w s = (b ≡ a) × IsReady w b s
RestartLeft true Memory a b v w s = b.sound ≡ false
RestartLeft true DiskFault a b v w s = Rose v.faults w.faults × (b.sound ≡ false)
RestartLeft true (NoStore fault) a b v w s = (v.Keeps → ⊥) × (b.sound ≡ false)
RestartLeft may fault a b v w s = ⊥

-- the bank after an event that was not answered
abbrev pub BankLeftAny : {D : Type 0} → (may_record : Bool) → Event → StepFault → (old new : Account D) → (v w : View) → Shared → Type 0
BankLeftAny may Restart fault a b v w s = RestartLeft may fault a b v w s
BankLeftAny may e fault a b v w s = BankLeft may fault a b v w s

-- a restart is answered ok, under the grant that an event has which asks nothing
abbrev pub restart_entry : Grant → Entry
restart_entry g = entry_of Whole Restart g (says Ok)

abbrev pub RestartsUnder : {D F : Type 0} → (D → View) → Option Grant → Machine D F → Entry → Machine D F → Type 0
RestartsUnder view stated m entry n = (S : State) → Stands S m.parts → FindsAgain Restart (view m.bank.disk) m.bank.records S → StepsUnder stated S Restart entry n.parts

-- In the midst of a run: some entries more, each of which might come, after which it goes on or a fault ended it.
use Rattle.std.specs.Prelude.{◌≡◌, ◌<◌, ◌++◌, ◌∷◌, [], ℕ, List, None, Some, length, slice_index_or, true}
use Rattle.zn_io.specs.Disk.{View}
use Rattle.zone_cases.specs.State.{At, Awaiting, State}
use Rattle.zone_cases.specs.declared.events.Entry.{Entry}
use Rattle.zone_cases.specs.declared.events.Event.{Event}
use Rattle.zone_machine.specs.Machine.Histories.{after, after_entry, entry_at, is_legal}
use Rattle.zone_machine.specs.Machine.Pools.{allowed}
use Rattle.zone_machine.specs.declared.faults.StepFault.{StepFault}
use Rattle.zone_machine.specs.declared.faults.StepFault.TheVariants.{Memory}
use Rattle.session_records.specs.Folds.{all_right, folded}
use Rattle.session_records.specs.Records.{Awaited}
use Rattle.session_records.specs.Scripts.{Progress, may_come, noted}
use Rattle.session_runs.specs.Far.{AreFar}
use Rattle.session_runs.specs.Runs.{IsReached, LeavesFront}
use Rattle.session_runs.specs.declared.far.Far.{Far}
use Rattle.session_runs.specs.declared.far.Script.{Script}

-- in the midst of it: the sessions are so far, whoever waits by the record waits in the state, and a machine stands for that
pub record IsMidway (S : State) (p : ℕ → Progress) (scripts : List Script) (far : List Far) (stands : State → Type 0) : Type 0 where
  pub reached : IsReached S
  pub waits : (n : ℕ) (w : Awaited) → (p n).waits ≡ Some w → S.sessions n ≡ At w.zone (Awaiting w.ticket)
  pub far_by : AreFar scripts far p
  pub stood : stands S

-- some entries more, each of which might come
pub record Adds (S : State) (p : ℕ → Progress) (old new : List Entry) (ends : List Entry → Type 0) : Type 0 where
  pub more : List Entry
  pub whole : new ≡ old ++ more
  pub legal : is_legal S more ≡ true
  pub keeps : all_right may_come noted p more ≡ true
  pub ended : ends more

-- after which it goes on
pub record GoesOn (S : State) (p : ℕ → Progress) (scripts : List Script) (far : List Far) (stands : State → Type 0) (v w : View) (more : List Entry) : Type 0 where
  pub midway : IsMidway (after S more) (folded noted p more) scripts far stands
  pub left : LeavesFront S more [] v w

-- or a fault ended it
pub record Halts (fault : StepFault) (S : State) (stands : State → Type 0) (v w : View) (more : List Entry) : Type 0 where
  pub stood : fault ≡ Memory → stands (after S more)
  pub under_way : List Entry
  pub settled : fault ≡ Memory → under_way ≡ []
  pub left : LeavesFront S more under_way v w

abbrev pub AddsOn : State → (ℕ → Progress) → List Script → List Far → (old new : List Entry) → (State → Type 0) → (v w : View) → Type 0
AddsOn S p scripts far old new stands v w = Adds S p old new (GoesOn S p scripts far stands v w)

abbrev pub AddsUpTo : StepFault → State → (ℕ → Progress) → (old new : List Entry) → (State → Type 0) → (v w : View) → Type 0
AddsUpTo fault S p old new stands v w = Adds S p old new (Halts fault S stands v w)

-- a session is done
abbrev pub HasDone : Progress → Type 0
HasDone q = (q.left ≡ []) × (q.waits ≡ None)

-- an event was answered under the grant that the pools give it
pub record Takes (S : State) (x : Event) (e : Entry) (stands : State → Type 0) (v w : View) : Type 0 where
  pub told : e ≡ entry_at S x (allowed S x)
  pub stood : stands (after_entry S e)
  pub left : LeavesFront S (e ∷ []) [] v w

-- it goes on, and the scripts before the one of a number are done
pub record GoesBefore (at : ℕ) (S : State) (p : ℕ → Progress) (scripts : List Script) (far : List Far) (stands : State → Type 0) (v w : View) (more : List Entry) : Type 0 where
  pub goes : GoesOn S p scripts far stands v w more
  pub done : (i : ℕ) (s : Script) → i < at → i < length scripts → HasDone (folded noted p more (slice_index_or scripts i s).session)

abbrev pub RunsBefore : ℕ → State → (ℕ → Progress) → List Script → List Far → (old new : List Entry) → (State → Type 0) → (v w : View) → Type 0
RunsBefore at S p scripts far old new stands v w = Adds S p old new (GoesBefore at S p scripts far stands v w)

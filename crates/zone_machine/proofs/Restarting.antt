-- A restart as an event, and what holds of any event.
use Rattle.std.proofs.Common.{◌≡◌, ◌⊎◌, inl, inr, Bool, true, false, List, [], Option, Some, None, ap, refl, subst, sym, ◌∙◌}
use Rattle.std.proofs.lemmas.Bool.{false≢true}
use Rattle.std.specs.Prelude.{IfErr, IsErrOf, OnOk, Result, Err, Ok as Right}
use Rattle.zn_io.proofs.Moments.{weaker}
use Rattle.zn_io.specs.Disk.{IsSound, Leaves as Disk_leaves, View}
use Rattle.commit_journal.specs.declared.fault.StoreFault.{StoreFault}
use Rattle.commit_journal.specs.declared.fault.StoreFault.TheVariants as store_fault
use Rattle.commit_journal.specs.declared.records.Commit.{Commit}
use Rattle.zone_disk.specs.Bank.{Account}
use Rattle.zone_pools.specs.Pools.{Pools}
use Rattle.zone_pools.specs.declared.grant.Grant.{Grant}
use Rattle.zn_base.specs.Names.{Name}
use Rattle.zone_machine.proofs.Opening.{ready-holds}
use Rattle.zone_machine.proofs.Stepping.{IsMisfitUnder-whole, IsTaken-whole}
use Rattle.zone_machine.specs.Code.Cells.{SharedOf, Stands}
use Rattle.zone_machine.specs.Code.Openings.{StandsFor}
use Rattle.zone_machine.specs.Code.Records.{BankLeft, GoesUnder, IsReady, taken}
use Rattle.zone_machine.specs.Code.Restarts.{BankLeftAny, BeginsAgainAfter, KeepsBodiesOf, LeavesAny, LeavesRestart, LosesStore, RestartLeft, RestartsUnder, restart_entry}
use Rattle.zone_machine.specs.Code.Steps.{AsItWas, FitsIn, IsGrantFor, IsRefusedIfUnfit, IsTaken, IsUnfit, Leaves}
use Rattle.zone_cases.specs.Events.{is_restart}
use Rattle.zone_machine.specs.Machine.{one, restarted, subject}
use Rattle.zone_machine.specs.Machine.Common.{common}
use Rattle.zone_machine.specs.Machine.Histories.{entry_at}
use Rattle.zone_machine.specs.Machine.Images.{Goes, Holds, HoldsEither, IsStoreOf}
use Rattle.zone_cases.specs.State.{State, bodies_of}
use Rattle.zone_cases.specs.declared.events.Entry.{Entry}
use Rattle.zone_cases.specs.declared.events.Event.{Event}
use Rattle.zone_cases.specs.declared.events.Event.TheVariants.{Process as Call_of, Restart, Session, System, Turn}
use Rattle.zone_machine.specs.declared.faults.StepFault.{StepFault}
use Rattle.zone_machine.specs.declared.faults.StepFault.TheVariants.{BadGrant, DiskFault, Memory, NoStore, WouldRecord}
use Rattle.zone_machine.specs.declared.machine.Machine.{Machine}
use Rattle.zone_machine.specs.declared.machine.parts.Parts.{Parts}
use Rattle.zone_machine.specs.declared.machine.shared.Shared.{Shared}

pub restart-is : (e : Event) → is_restart e ≡ true → e ≡ Restart
restart-is (Session n text) h = absurd (false≢true h)
restart-is (Turn z) h = absurd (false≢true h)
restart-is (Call_of z pid c) h = absurd (false≢true h)
restart-is (System what) h = absurd (false≢true h)
restart-is Restart h = refl

-- what any other event does is what any event does
pub again-other : {D F : Type 0} (e : Event) (m n : Machine D F) → is_restart e ≡ false → BeginsAgainAfter e m n
again-other (Session n text) m k h = tt
again-other (Turn z) m k h = tt
again-other (Call_of z pid c) m k h = tt
again-other (System what) m k h = tt
again-other Restart m k h = absurd (false≢true (sym h))

pub leaves-other : (fault : StepFault) (stated : Option Grant) (t u : Parts) (e : Event) → is_restart e ≡ false → Leaves fault stated t e u → LeavesAny fault stated t e u
leaves-other fault stated t u (Session n text) h left = left
leaves-other fault stated t u (Turn z) h left = left
leaves-other fault stated t u (Call_of z pid c) h left = left
leaves-other fault stated t u (System what) h left = left
leaves-other fault stated t u Restart h left = absurd (false≢true (sym h))

pub left-other : {D : Type 0} (may : Bool) (e : Event) (fault : StepFault) (a b : Account D) (v w : View) (s : Shared) → is_restart e ≡ false → BankLeft may fault a b v w s → BankLeftAny may e fault a b v w s
left-other may (Session n text) fault a b v w s h left = left
left-other may (Turn z) fault a b v w s h left = left
left-other may (Call_of z pid c) fault a b v w s h left = left
left-other may (System what) fault a b v w s h left = left
left-other may Restart fault a b v w s h left = absurd (false≢true (sym h))

-- a restart's faults
pub restart-fault : {D : Type 0} (fault : StepFault) (stated : Option Grant) (t u : Parts) (a b : Account D) (v w : View) (s : Shared) → LeavesRestart fault stated t u → RestartLeft true fault a b v w s
    → (fault ≡ BadGrant → ⊥) → (fault ≡ Memory) ⊎ ((fault ≡ DiskFault) ⊎ LosesStore Restart v fault)
restart-fault Memory stated t u a b v w s leaves left none = inl refl
restart-fault BadGrant stated t u a b v w s leaves left none = absurd (none refl)
restart-fault WouldRecord stated t u a b v w s leaves left none = absurd left
restart-fault DiskFault stated t u a b v w s leaves left none = inr (inl refl)
restart-fault (NoStore f) stated t u a b v w s leaves left none = inr (inr left.0)

pub no-misfit : (fault : StepFault) (t u : Parts) → LeavesRestart fault None t u → fault ≡ BadGrant → ⊥
no-misfit fault t u leaves is = subst (λ f. LeavesRestart f None t u) is leaves

-- memory ran out: the parts are as they were
pub memory-restart : (fault : StepFault) (stated : Option Grant) (t u : Parts) → LeavesRestart fault stated t u → fault ≡ Memory → AsItWas t u
memory-restart fault stated t u leaves is =
    let same : u ≡ t = (subst (λ f. LeavesRestart f stated t u) is leaves).0 in
    λ S. (λ h. subst (λ p. Stands S p) (sym same) h, λ h. subst (λ p. Stands S p) same h)

-- the restart doesn't touch the commits, whatever a crash leaves
pub restart-goes : {D : Type 0} (S : State) (X : List Commit) (b : Account D) (s : Shared) (v w : View) → IsSound w → bodies_of S.commits ≡ b.records → SharedOf s (common S) → IsReady v b s → ((R : List Commit) → IsStoreOf v R → Disk_leaves v w (Holds R))
    → Goes S.commits X v w
restart-goes S X b s v w sound same shared ready any = record {
  any_moment = λ keeps. weaker v w (Holds S.commits) (HoldsEither S.commits X) (λ image h. inl h) (any S.commits (store keeps));
  now = λ keeps image now. let leaves = any S.commits (store keeps) in inl (leaves.each image (sound.counts_now v.moment image leaves.later now));
}
  where
    store : v.Keeps → IsStoreOf v S.commits
    store keeps = record { keeps = keeps; now = λ image now. ready-holds S b s v same shared ready keeps image now }

-- a restart, opened
told-restart : (S : State) (g : Grant) → restart_entry g ≡ entry_at S Restart g
unfolding one subject
told-restart S g = refl

stands-restart : (S : State) (g : Grant) (u : Parts) → Stands (restarted S) u → Stands (one S Restart g).state u
unfolding one subject
stands-restart S g u h = h

commits-restart : (S : State) (g : Grant) → (one S Restart g).state.commits ≡ S.commits
unfolding one subject
commits-restart S g = refl

-- a stated grant that is taken fits
fits-taken : (stated : Option Grant) (t : Parts) (e : Event) (g : Grant) → IsTaken t stated e g → FitsIn stated t e
fits-taken None t e g takes = tt
fits-taken (Some stated) t e g takes = λ S h. (takes S h).1

-- the system restarted, under the grant of an event that asks nothing
module _ {D F : Type 0} (view : D → View) (stated : Option Grant) (m n : Machine D F) where
  module _ (again : (view m.bank.disk).Keeps → (S : State) → StandsFor S m → StandsFor (restarted S) n) where
    pub restarts : (g : Grant) → ((P : Pools) (z : Name) → IsGrantFor z P [] stated g) → RestartsUnder view stated m (restart_entry g) n
    restarts g takes S h finds = record {
      takes = IsTaken-whole m.parts Restart refl stated g takes S h;
      answers = record { told = told-restart S g; stands = stands-restart S g n.parts (again finds.0 S (record { parts = h; bodies = finds.1 })).parts };
    }

    pub keeps-restart : KeepsBodiesOf view stated m Restart n
    keeps-restart S h same finds = ap bodies_of (commits-restart S (taken stated S Restart)) ∙ (again finds.0 S (record { parts = h; bodies = same })).bodies

  pub goes-restart : IsSound (view n.bank.disk) → IsReady (view m.bank.disk) m.bank m.parts.shared → ((R : List Commit) → IsStoreOf (view m.bank.disk) R → Disk_leaves (view m.bank.disk) (view n.bank.disk) (Holds R))
      → GoesUnder stated m.parts Restart m.bank.records (view m.bank.disk) (view n.bank.disk)
  goes-restart sound ready any S h same = restart-goes S (one S Restart (taken stated S Restart)).state.commits m.bank m.parts.shared (view m.bank.disk) (view n.bank.disk) sound same h.shared ready any

  -- or it didn't
  pub fits-restart : (g : Grant) → ((P : Pools) (z : Name) → IsGrantFor z P [] stated g) → FitsIn stated m.parts Restart
  fits-restart g takes = fits-taken stated m.parts Restart g (IsTaken-whole m.parts Restart refl stated g takes)

-- its grant doesn't fit
pub misfit-restart : {T : Type 0} (stated : Option Grant) (t : Parts) (r : Result T StepFault) → IsErrOf r BadGrant → ((P : Pools) (z : Name) → IsUnfit z P [] stated) → IfErr r (λ fault. LeavesRestart fault stated t t)
misfit-restart stated t (Right x) is unfit = tt
misfit-restart stated t (Err BadGrant) is unfit = IsMisfitUnder-whole t Restart refl stated unfit
misfit-restart stated t (Err Memory) is unfit = absurd (cc)
misfit-restart stated t (Err WouldRecord) is unfit = absurd (cc)
misfit-restart stated t (Err DiskFault) is unfit = absurd (cc)
misfit-restart stated t (Err (NoStore f)) is unfit = absurd (cc)

-- only on a disk that doesn't keep to its model no store is found again
pub lost-restart : (fault : StoreFault) (v : View) → (v.Keeps → (fault ≡ store_fault.Memory) ⊎ (fault ≡ store_fault.DiskFault)) → (fault ≡ store_fault.Memory → ⊥) → (fault ≡ store_fault.DiskFault → ⊥) → v.Keeps → ⊥
lost-restart fault v refuses not_memory not_disk keeps = elim (refuses keeps) as (λ _. ⊥) [ inl is ↦ not_memory is | inr is ↦ not_disk is ]

-- one that doesn't fit is told as such, or memory ran out
pub restart-unfit : {D : Type 0} (r : Result Entry StepFault) (t u : Parts) (e : Event) (g : Grant) (a b : Account D) (v w : View) (s : Shared) → is_restart e ≡ true → OnOk r (FitsIn (Some g) t Restart) → IfErr r (λ fault. LeavesRestart fault (Some g) t u)
    → IfErr r (λ fault. RestartLeft true fault a b v w s) → IsRefusedIfUnfit t e g r
restart-unfit r t u e g a b v w s is fits leaves left = subst (λ e. IsRefusedIfUnfit t e g r) (sym (restart-is e is)) (at_result r fits leaves left)
  where
    at_result : (r : Result Entry StepFault) → OnOk r (FitsIn (Some g) t Restart) → IfErr r (λ fault. LeavesRestart fault (Some g) t u) → IfErr r (λ fault. RestartLeft true fault a b v w s) → IsRefusedIfUnfit t Restart g r
    at_result (Right x) fits leaves left = λ S h unfit. absurd (false≢true (sym unfit ∙ fits S h))
    at_result (Err Memory) fits leaves left = λ S h unfit. inr refl
    at_result (Err BadGrant) fits leaves left = λ S h unfit. inl refl
    at_result (Err WouldRecord) fits leaves left = absurd left
    at_result (Err DiskFault) fits leaves left = λ S h unfit. absurd (false≢true (sym unfit ∙ leaves.1 S h))
    at_result (Err (NoStore fault)) fits leaves left = λ S h unfit. absurd (false≢true (sym unfit ∙ leaves.1 S h))

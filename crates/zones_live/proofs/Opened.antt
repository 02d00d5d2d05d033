-- A store that was opened, or was not.
use Rattle.std.proofs.Common.{◌≡◌, ◌⊎◌, ℕ, Err, IfOk, List, Ok, Result, inl, inr, subst}
use Rattle.std.specs.Prelude.{IfErr}
use Rattle.zn_io.specs.Disk.{IsSound, Leaves, View}
use Rattle.brand_hooks.specs.Brands.{Tabled}
use Rattle.commit_journal.specs.Store.{OpensStore, OpensStoreOneWay}
use Rattle.commit_journal.specs.Stored.{Rows, stored}
use Rattle.commit_journal.specs.declared.fault.StoreFault.{StoreFault}
use Rattle.commit_journal.specs.declared.fault.StoreFault.TheVariants.{DiskFault, Memory}
use Rattle.commit_journal.specs.declared.records.Commit.{Commit}
use Rattle.session_runs.proofs.Machine_steps.{ready-holds}
use Rattle.zone_cases.specs.State.{bodies_of}
use Rattle.zone_machine.specs.Code.Decided.{MayGoOn}
use Rattle.zone_machine.specs.Code.Openings.{Begins, StandsFor}
use Rattle.zone_machine.specs.Code.Records.{Passes}
use Rattle.zone_machine.specs.Machine.{opening}
use Rattle.zone_machine.specs.Machine.Images.{Holds, IsStoreOf}
use Rattle.zone_machine.specs.declared.machine.Machine.{Machine}
use Rattle.zones_run.specs.Recording.{KeepsStore}
use Rattle.zones_run.proofs.Opened.{holds_or_fault, opened_store}

keeps-opened : (R : List Commit) (v w : View) → IsSound w → Leaves v w (Holds R) → KeepsStore R v w
keeps-opened R v w sound past = record { any_moment = past; now = λ image now. past.each image (sound.counts_now v.moment image past.later now) }

module _ {D F : Type 0} (view : D → View) (sound : (d : D) → IsSound (view d)) (brands : List Tabled) (disk : D) where
  pub open-stands : (r : Result (Machine D F) (StoreFault × D)) → ((view disk).Keeps → IfOk r (λ m. (R : List Commit) → Holds R (view disk).reads → StandsFor (opening brands R) m)) → ((R : List Commit) → IsStoreOf (view disk) R → IfOk r (λ m. Leaves (view disk) (view m.bank.disk) (Holds R)))
      → (R : List Commit) → IsStoreOf (view disk) R → IfOk r (λ m. StandsFor (opening brands R) m × KeepsStore R (view disk) (view m.bank.disk))
  open-stands (Ok m) stands leaves R is = (opened_store brands R (view disk) m (sound disk) is stands, keeps-opened R (view disk) (view m.bank.disk) (sound m.bank.disk) (leaves R is))
  open-stands (Err e) stands leaves R is = tt

  pub open-refused : OpensStoreOneWay → (r : Result (Machine D F) (StoreFault × D)) → ((view disk).Keeps → IfErr r (λ e. (e.0 ≡ Memory) ⊎ ((e.0 ≡ DiskFault) ⊎ OpensStore (view disk).reads (Err e.0)))) → ((R : List Commit) → IsStoreOf (view disk) R → IfErr r (λ e. Leaves (view disk) (view e.1) (Holds R)))
      → (R : List Commit) → IsStoreOf (view disk) R → IfErr r (λ e. ((e.0 ≡ Memory) ⊎ (e.0 ≡ DiskFault)) × KeepsStore R (view disk) (view e.1))
  open-refused one (Ok m) refuses leaves R is = tt
  open-refused one (Err e) refuses leaves R is = (either (refuses is.keeps), keeps-opened R (view disk) (view e.1) (sound e.1) (leaves R is))
    where
      either : (e.0 ≡ Memory) ⊎ ((e.0 ≡ DiskFault) ⊎ OpensStore (view disk).reads (Err e.0)) → (e.0 ≡ Memory) ⊎ (e.0 ≡ DiskFault)
      either (inl m) = inl m
      either (inr (inl d)) = inr d
      either (inr (inr opens)) = absurd (holds_or_fault one R (view disk).reads e.0 (is.now (view disk).reads ((sound disk).reads_now is.keeps)) opens)

  -- it stands for some commits, which are those that the disk reads as where it keeps to its model
  pub open-found : OpensStoreOneWay → (r : Result (Machine D F) (StoreFault × D)) → IfOk r (Begins brands) → ((view disk).Keeps → IfOk r (λ m. (R : List Commit) → Holds R (view disk).reads → StandsFor (opening brands R) m)) → ((view disk).Keeps → IfOk r (λ m. (R : List Commit) × Holds R (view disk).reads))
      → IfOk r (MayGoOn view) → IfOk r (λ m. Passes (view disk) (view m.bank.disk)) → IfOk r (λ m. (R : List Commit) × StandsFor (opening brands R) m × ((view disk).Keeps → Holds R (view disk).reads))
  open-found one (Err e) begins stands opens ready passes = tt
  open-found one (Ok m) begins stands opens ready passes = (begins.0, begins.1, found)
    where
      found : (view disk).Keeps → Holds begins.0 (view disk).reads
      found keeps =
          let o = opens keeps in
          let kept = passes.model.0 keeps in
          let w = view m.bank.disk in
          let now = (sound m.bank.disk).reads_now kept in
          let as-begun : Holds begins.0 w.reads = ready-holds (opening brands begins.0) m w begins.1 ready kept w.reads now in
          let as-read : Holds o.0 w.reads = ready-holds (opening brands o.0) m w (stands keeps o.0 o.1) ready kept w.reads now in
          subst (λ (r : Result (List (List ℕ) × Rows) StoreFault). OpensStore (view disk).reads r) (one w.reads (Ok (bodies_of o.0, stored o.0)) (Ok (bodies_of begins.0, stored begins.0)) as-read as-begun) o.1

-- a fault other than memory and the disk's
pub neither : (fault : StoreFault) → (fault ≡ Memory → ⊥) → (fault ≡ DiskFault → ⊥) → (fault ≡ Memory) ⊎ (fault ≡ DiskFault) → ⊥
neither fault no-memory no-disk (inl is) = no-memory is
neither fault no-memory no-disk (inr is) = no-disk is

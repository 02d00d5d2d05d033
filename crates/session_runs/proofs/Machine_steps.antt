-- What a step of the machine comes to that is no restart.
use Rattle.std.proofs.Common.{◌≡◌, ◌⊎◌, ◌∷◌, [], ℕ, List, None, Result, Ok, Err, true, false, ap, arith, inl, inr, refl, subst, sym, ◌∙◌}
use Rattle.std.specs.Prelude.{IfErr, IfOk, IsErrAnd, IsErrOf, OnOk}
use Rattle.std.proofs.lemmas.Bool.{false≢true}
use Rattle.zn_io.proofs.Moments.{weaker}
use Rattle.zn_io.specs.Disk.{IsSound, View}
use Rattle.zn_io.specs.Streams.{Rose}
use Rattle.commit_journal.specs.Journal.{Leave}
use Rattle.commit_journal.specs.Zones.{rows_of}
use Rattle.zone_disk.specs.Bank.{Account}
use Rattle.zone_disk.specs.Image.{Stands as Image_stands}
use Rattle.zone_cases.specs.Events.{is_restart}
use Rattle.zone_cases.specs.State.{State, bodies_of}
use Rattle.zone_cases.specs.declared.events.Entry.{Entry}
use Rattle.zone_cases.specs.declared.events.Event.{Event}
use Rattle.zone_cases.specs.declared.events.Event.TheVariants.{Process as Call_of, Restart, Session, System, Turn}
use Rattle.zone_machine.specs.Code.Openings.{StandsFor}
use Rattle.zone_machine.specs.Code.Records.{BankLeft, GoesUnder, IsReady, Passes}
use Rattle.zone_machine.specs.Code.Restarts.{BankLeftAny, FindsAgain, IsAllowedStepOf, KeepsBodiesOf, LosesStore}
use Rattle.zone_machine.specs.Code.Steps.{AsItWas}
use Rattle.zone_machine.specs.Machine.{one}
use Rattle.zone_machine.specs.Machine.Changes.{HoldsFront}
use Rattle.zone_machine.specs.Machine.Histories.{after_entry, entry_at}
use Rattle.zone_machine.specs.Machine.Images.{Goes, HoldsEither, NowHolds}
use Rattle.zone_machine.specs.Machine.Pools.{allowed}
use Rattle.zone_machine.specs.declared.faults.StepFault.{StepFault}
use Rattle.zone_machine.specs.declared.faults.StepFault.TheVariants.{BadGrant, DiskFault, Memory, NoStore, WouldRecord}
use Rattle.zone_machine.specs.declared.machine.Machine.{Machine}
use Rattle.zone_machine.specs.declared.machine.shared.Shared.{Shared}
use Rattle.session_records.specs.Scripts.{Progress}
use Rattle.session_runs.proofs.Adding.{adds-none, leaves-none}
use Rattle.session_runs.proofs.Histories.{front-one, legal-entry}
use Rattle.session_runs.specs.Midway.{AddsOn, AddsUpTo, GoesOn, Halts, IsMidway, Takes}
use Rattle.session_runs.specs.Runs.{LeavesFront}
use Rattle.session_runs.specs.declared.far.Far.{Far}
use Rattle.session_runs.specs.declared.far.Script.{Script}

-- of an event that is no restart nothing more is asked, and it finds no other store
finds-other : (e : Event) (v : View) (bodies : List (List ℕ)) (S : State) → is_restart e ≡ false → FindsAgain e v bodies S
finds-other (Session n text) v bodies S h = tt
finds-other (Turn z) v bodies S h = tt
finds-other (Call_of z pid c) v bodies S h = tt
finds-other (System what) v bodies S h = tt
finds-other Restart v bodies S h = absurd (false≢true (sym h))

left-other : {D : Type 0} (e : Event) (fault : StepFault) (a b : Account D) (v w : View) (s : Shared) → is_restart e ≡ false → BankLeftAny true e fault a b v w s → BankLeft true fault a b v w s
left-other (Session n text) fault a b v w s h left = left
left-other (Turn z) fault a b v w s h left = left
left-other (Call_of z pid c) fault a b v w s h left = left
left-other (System what) fault a b v w s h left = left
left-other Restart fault a b v w s h left = absurd (false≢true (sym h))

loses-none : (e : Event) (v : View) (fault : StepFault) → is_restart e ≡ false → LosesStore e v fault → ⊥
loses-none (Session n text) v fault h lost = lost
loses-none (Turn z) v fault h lost = lost
loses-none (Call_of z pid c) v fault h lost = lost
loses-none (System what) v fault h lost = lost
loses-none Restart v fault h lost = absurd (false≢true (sym h))

either-fault : (x : Event) (fault : StepFault) (v : View) → is_restart x ≡ false → (fault ≡ Memory) ⊎ ((fault ≡ DiskFault) ⊎ LosesStore x v fault) → (fault ≡ Memory) ⊎ (fault ≡ DiskFault)
either-fault x fault v stays (inl is) = inl is
either-fault x fault v stays (inr (inl is)) = inr is
either-fault x fault v stays (inr (inr lost)) = absurd (loses-none x v fault stays lost)

-- so memory ran out, or the disk failed
pub step-only : (x : Event) (r : Result Entry StepFault) (v : View) → is_restart x ≡ false → IfErr r (λ fault. (fault ≡ Memory) ⊎ ((fault ≡ DiskFault) ⊎ LosesStore x v fault)) → IfErr r (λ fault. (fault ≡ Memory) ⊎ (fault ≡ DiskFault))
step-only x (Ok entry) v stays err = tt
step-only x (Err fault) v stays err = either-fault x fault v stays err

-- what is left of the bank then
pub memory-left : {D : Type 0} (x : Event) (r : Result Entry StepFault) (a b : Account D) (v w : View) (s : Shared) → is_restart x ≡ false → IfErr r (λ fault. BankLeftAny true x fault a b v w s) → IsErrOf r Memory → IsReady w b s
memory-left x r a b v w s stays left is = (left-other x Memory a b v w s stays (subst (λ (r : Result Entry StepFault). IfErr r (λ fault. BankLeftAny true x fault a b v w s)) is left)).1

pub disk-left : {D : Type 0} (x : Event) (r : Result Entry StepFault) (a b : Account D) (v w : View) (s : Shared) → is_restart x ≡ false → IfErr r (λ fault. BankLeftAny true x fault a b v w s) → IsErrOf r DiskFault → Rose v.faults w.faults × (b.sound ≡ false)
disk-left x r a b v w s stays left is = left-other x DiskFault a b v w s stays (subst (λ (r : Result Entry StepFault). IfErr r (λ fault. BankLeftAny true x fault a b v w s)) is left)

-- whatever a crash leaves of a ready machine stands for the commits of its state
pub ready-holds : {D F : Type 0} (S : State) (m : Machine D F) (v : View) → StandsFor S m → IsReady v m.bank m.parts.shared → v.Keeps → NowHolds v S.commits
ready-holds S m v stands ready keeps = λ image now. record {
  stands = subst (λ bodies. Image_stands image bodies) (sym stands.bodies) (ready.settled keeps image now);
  leave = subst (λ rows. Leave (bodies_of S.commits) rows) (sym (ap (λ k. k.rows) stands.parts.shared)) (subst (λ bodies. Leave bodies (rows_of m.parts.shared.rows.entries)) (sym stands.bodies) ready.zones.leave);
}

-- what one entry leaves on the disk
leaves-one : (S : State) (x : Event) (v w : View)
    → (let T = (one S x (allowed S x)).state in Goes S.commits T.commits v w → (v.Keeps → NowHolds w T.commits) → (v.Keeps → w.Keeps) → LeavesFront S (entry_at S x (allowed S x) ∷ []) [] v w)
leaves-one S x v w goes holds model =
    let e = entry_at S x (allowed S x) in record {
      few = omega arith;
      legal = legal-entry S x;
      model = model;
      any_moment = λ k. weaker v w (HoldsEither S.commits (after_entry S e).commits) (HoldsFront S (e ∷ [])) (front-one S e) (goes.any_moment k);
      now = λ k image now. inl (holds k image now);
    }

-- or one under way
leaves-torn : (S : State) (x : Event) (v w : View) → Goes S.commits (one S x (allowed S x)).state.commits v w → (v.Keeps → w.Keeps) → LeavesFront S [] (entry_at S x (allowed S x) ∷ []) v w
leaves-torn S x v w goes model =
    let e = entry_at S x (allowed S x) in record {
      few = omega arith;
      legal = legal-entry S x;
      model = model;
      any_moment = λ k. weaker v w (HoldsEither S.commits (after_entry S e).commits) (HoldsFront S (e ∷ [])) (front-one S e) (goes.any_moment k);
      now = λ k image now. goes.now k image now;
    }

module _ {D F : Type 0} (view : D → View) (S : State) where
  -- the event was answered
  pub step-takes : (x : Event) (entry : Entry) (old new : Machine D F) → is_restart x ≡ false → StandsFor S old → IsAllowedStepOf view old x entry new → GoesUnder None old.parts x old.bank.records (view old.bank.disk) (view new.bank.disk) → KeepsBodiesOf view None old x new
      → IsReady (view new.bank.disk) new.bank new.parts.shared → Passes (view old.bank.disk) (view new.bank.disk) → Takes S x entry (λ T. StandsFor T new) (view old.bank.disk) (view new.bank.disk)
  step-takes x entry old new stays stands ok goes bodies ready passes =
      let v = view old.bank.disk in
      let w = view new.bank.disk in
      let finds = finds-other x v old.bank.records S stays in
      let answers = ok S stands.parts finds in
      let stood : StandsFor (one S x (allowed S x)).state new = record { parts = answers.stands; bodies = bodies S stands.parts stands.bodies finds } in
      record {
        told = answers.told;
        stood = subst (λ (T : State). StandsFor T new) (sym (ap (after_entry S) answers.told)) stood;
        left = subst (λ (e : Entry). LeavesFront S (e ∷ []) [] v w) (sym answers.told)
            (leaves-one S x v w (goes S stands.parts stands.bodies) (λ k. ready-holds (one S x (allowed S x)).state new w stood ready (passes.model.0 k)) passes.model.0);
      }

  -- nothing was done
  pub halts-none : (m : Machine D F) (fault : StepFault) → StandsFor S m → IsSound (view m.bank.disk) → IsReady (view m.bank.disk) m.bank m.parts.shared → Halts fault S (λ T. StandsFor T m) (view m.bank.disk) (view m.bank.disk) []
  halts-none m fault stands sound ready = record {
    stood = λ is. stands;
    under_way = [];
    settled = λ is. refl;
    left = leaves-none S (view m.bank.disk) sound (λ k. ready-holds S m (view m.bank.disk) stands ready k);
  }

  halts-memory : (old new : Machine D F) → StandsFor S old → AsItWas old.parts new.parts → new.bank ≡ old.bank → IsSound (view new.bank.disk) → IsReady (view new.bank.disk) new.bank new.parts.shared
      → Halts Memory S (λ T. StandsFor T new) (view old.bank.disk) (view new.bank.disk) []
  halts-memory old new stands was same sound ready =
      let stood : StandsFor S new = record { parts = (was S).0 stands.parts; bodies = stands.bodies ∙ sym (ap (λ b. b.records) same) } in
      subst (λ (b : Account D). Halts Memory S (λ T. StandsFor T new) (view b.disk) (view new.bank.disk) []) same (halts-none new Memory stood sound ready)

  halts-disk : (x : Event) (new : Machine D F) (v w : View) → Goes S.commits (one S x (allowed S x)).state.commits v w → (v.Keeps → w.Keeps) → Halts DiskFault S (λ T. StandsFor T new) v w []
  halts-disk x new v w goes model = record {
    stood = λ is. absurd (cc);
    under_way = entry_at S x (allowed S x) ∷ [];
    settled = λ is. absurd (cc);
    left = leaves-torn S x v w goes model;
  }

  halts-fault : (x : Event) (r : Result Entry StepFault) (old new : Machine D F) → is_restart x ≡ false → StandsFor S old → IsSound (view new.bank.disk) → GoesUnder None old.parts x old.bank.records (view old.bank.disk) (view new.bank.disk)
      → Passes (view old.bank.disk) (view new.bank.disk) → (IsErrOf r Memory → AsItWas old.parts new.parts) → IfErr r (λ fault. (fault ≡ Memory) ⊎ ((fault ≡ DiskFault) ⊎ LosesStore x (view old.bank.disk) fault)) → IfErr r (λ fault. BankLeftAny true x fault old.bank new.bank (view old.bank.disk) (view new.bank.disk) new.parts.shared)
      → IfErr r (λ fault. Halts fault S (λ T. StandsFor T new) (view old.bank.disk) (view new.bank.disk) [])
  halts-fault x (Ok entry) old new stays stands sound goes passes was err left = tt
  halts-fault x (Err fault) old new stays stands sound goes passes was err left = at_fault fault was (either-fault x fault (view old.bank.disk) stays err) (left-other x fault old.bank new.bank (view old.bank.disk) (view new.bank.disk) new.parts.shared stays left)
    where
      at_fault : (fault : StepFault) → (IsErrOf {T = Entry} (Err fault) Memory → AsItWas old.parts new.parts) → (fault ≡ Memory) ⊎ (fault ≡ DiskFault) → BankLeft true fault old.bank new.bank (view old.bank.disk) (view new.bank.disk) new.parts.shared → Halts fault S (λ T. StandsFor T new) (view old.bank.disk) (view new.bank.disk) []
      at_fault Memory was is left = halts-memory old new stands (was refl) left.0 sound left.1
      at_fault DiskFault was is left = halts-disk x new (view old.bank.disk) (view new.bank.disk) (goes S stands.parts stands.bodies) passes.model.0
      at_fault BadGrant was (inl is) left = absurd (cc)
      at_fault BadGrant was (inr is) left = absurd (cc)
      at_fault WouldRecord was is left = absurd left
      at_fault (NoStore fault) was is left = absurd left

-- what a step answers, and what it leaves where it is not answered
module _ {D F : Type 0} (view : D → View) (x : Event) (r : Result Entry StepFault) (old new : Machine D F) (stays : is_restart x ≡ false) (goes : GoesUnder None old.parts x old.bank.records (view old.bank.disk) (view new.bank.disk)) (passes : Passes (view old.bank.disk) (view new.bank.disk)) where
  pub step-took : IfOk r (λ entry. IsAllowedStepOf view old x entry new) → OnOk r (KeepsBodiesOf view None old x new) → OnOk r (IsReady (view new.bank.disk) new.bank new.parts.shared)
      → IfOk r (λ entry. (S : State) → StandsFor S old → Takes S x entry (λ T. StandsFor T new) (view old.bank.disk) (view new.bank.disk))
  step-took = at_result r
    where
      at_result : (r : Result Entry StepFault) → IfOk r (λ entry. IsAllowedStepOf view old x entry new) → OnOk r (KeepsBodiesOf view None old x new) → OnOk r (IsReady (view new.bank.disk) new.bank new.parts.shared)
          → IfOk r (λ entry. (S : State) → StandsFor S old → Takes S x entry (λ T. StandsFor T new) (view old.bank.disk) (view new.bank.disk))
      at_result (Ok entry) ok bodies ready = λ S stands. step-takes view S x entry old new stays stands ok goes bodies ready passes
      at_result (Err fault) ok bodies ready = tt

  pub step-halted : IsSound (view new.bank.disk) → (IsErrOf r Memory → AsItWas old.parts new.parts) → IfErr r (λ fault. (fault ≡ Memory) ⊎ ((fault ≡ DiskFault) ⊎ LosesStore x (view old.bank.disk) fault))
      → IfErr r (λ fault. BankLeftAny true x fault old.bank new.bank (view old.bank.disk) (view new.bank.disk) new.parts.shared) → IfErr r (λ fault. (S : State) → StandsFor S old → Halts fault S (λ T. StandsFor T new) (view old.bank.disk) (view new.bank.disk) [])
  step-halted sound = at_result r
    where
      at_result : (r : Result Entry StepFault) → (IsErrOf r Memory → AsItWas old.parts new.parts) → IfErr r (λ fault. (fault ≡ Memory) ⊎ ((fault ≡ DiskFault) ⊎ LosesStore x (view old.bank.disk) fault))
          → IfErr r (λ fault. BankLeftAny true x fault old.bank new.bank (view old.bank.disk) (view new.bank.disk) new.parts.shared) → IfErr r (λ fault. (S : State) → StandsFor S old → Halts fault S (λ T. StandsFor T new) (view old.bank.disk) (view new.bank.disk) [])
      at_result (Ok entry) was err left = tt
      at_result (Err fault) was err left = λ S stands. halts-fault view S x (Err fault) old new stays stands sound goes passes was err left

-- of each fault
pub err-all : {A E : Type 0} (r : Result A E) (P : E → Type 0) → ((e : E) → P e) → IfErr r P
err-all (Ok a) P holds = tt
err-all (Err e) P holds = holds e

-- nothing was done yet, and it goes on
pub on-none : {D F : Type 0} (view : D → View) (S : State) (p : ℕ → Progress) (scripts : List Script) (far : List Far) (old : List Entry) (m : Machine D F) → IsMidway S p scripts far (λ T. StandsFor T m) → IsSound (view m.bank.disk) → IsReady (view m.bank.disk) m.bank m.parts.shared
    → AddsOn S p scripts far old old (λ T. StandsFor T m) (view m.bank.disk) (view m.bank.disk)
on-none view S p scripts far old m is sound ready =
    let v = view m.bank.disk in adds-none S p old (GoesOn S p scripts far (λ T. StandsFor T m) v v) (record { midway = is; left = leaves-none S v sound (λ k. ready-holds S m v is.stood ready k) })

-- nor was anything when a fault ended it
pub up-to-none : {D F : Type 0} (view : D → View) (S : State) (p : ℕ → Progress) (old : List Entry) (m : Machine D F) (fault : StepFault) → StandsFor S m → IsSound (view m.bank.disk) → IsReady (view m.bank.disk) m.bank m.parts.shared
    → AddsUpTo fault S p old old (λ T. StandsFor T m) (view m.bank.disk) (view m.bank.disk)
up-to-none view S p old m fault stands sound ready =
    let v = view m.bank.disk in adds-none S p old (Halts fault S (λ T. StandsFor T m) v v) (halts-none view S m fault stands sound ready)

-- the fault that is handed on
pub err-from : {A E : Type 0} (r : Result A E) (P : E → Type 0) (e : E) → IsErrAnd r (λ y. y ≡ e) → P e → IfErr r P
err-from (Ok a) P e is holds = absurd is
err-from (Err y) P e is holds = subst P (sym is) holds

pub passes-none : (v : View) → Passes v v
passes-none v = record { model = (λ k. k, λ k. k); faults = omega arith }

pub passes-on : (u v w : View) → Passes u v → Passes v w → Passes u w
passes-on u v w a b = record { model = (λ k. b.model.0 (a.model.0 k), λ k. a.model.1 (b.model.1 k)); faults = omega (arith, a.faults, b.faults) }

-- Runs, event by event.
use Rattle.std.proofs.Common.{◌≡◌, ◌⊎◌, [], ◌∷◌, ◌++◌, ◌&&◌, ◌∙◌, ℕ, Bool, true, false, List, None, Result, Some, append_assoc, ap, arith, inl, inr, length, refl, subst, sym}
use Rattle.std.specs.Prelude.{IfErr, IsErrOf}
use Rattle.std.proofs.lemmas.Bool.{and_from}
use Rattle.zn_io.specs.Disk.{View}
use Rattle.zn_io.specs.Streams.{Rose}
use Rattle.brand_hooks.specs.Brands.{Tabled}
use Rattle.commit_journal.specs.declared.records.Commit.{Commit}
use Rattle.zn_base.specs.Names.{Name}
use Rattle.zone_cases.specs.State.{State, bodies_of, stored}
use Rattle.zone_cases.specs.declared.events.Entry.{Entry}
use Rattle.zone_cases.specs.declared.events.Event.{Event}
use Rattle.zone_cases.specs.declared.events.Event.TheVariants.{Process, Restart, Session, System, Turn}
use Rattle.zone_disk.specs.Bank.{Account}
use Rattle.zone_machine.specs.Code.Cells.{Stands}
use Rattle.zone_machine.specs.Code.Openings.{StandsFor}
use Rattle.zone_machine.specs.Code.Records.{IsReady, Passes}
use Rattle.zone_machine.specs.Code.Restarts.{BankLeftAny, FindsAgain, IsAllowedStepOf, IsFittingStepOf, KeepsBodiesOf}
use Rattle.zone_machine.specs.Machine.Histories.{after, after_entry, asked, entry_at, history, is_history, only, replies, run}
use Rattle.zone_machine.specs.Machine.Pools.{allowed, fits}
use Rattle.zone_machine.specs.Machine.{one, opening}
use Rattle.zone_machine.specs.declared.faults.StepFault.{StepFault}
use Rattle.zone_machine.specs.declared.faults.StepFault.TheVariants.{BadGrant, DiskFault, Memory, NoStore, WouldRecord}
use Rattle.zone_machine.specs.declared.machine.Machine.{Machine}
use Rattle.zone_machine.specs.declared.machine.parts.Parts.{Parts}
use Rattle.zone_machine.specs.declared.machine.shared.Shared.{Shared}
use Rattle.zone_pools.specs.declared.grant.Grant.{Grant}
use Rattle.zone_views.proofs.Purge.{opening-agree, purge, run-asked}
use Rattle.zone_views.proofs.Runs.{legal-history}
use Rattle.zone_views.specs.Running.{HasRun, HasRunGiven, HasRunSome, HasRunSomeGiven, all_fit}

-- the state after one more entry
after-next : (S : State) (h : List Entry) (x : Entry) → after S (h ++ x ∷ []) ≡ after_entry (after S h) x
after-next S [] x = refl
after-next S (y ∷ h) x = after-next (after_entry S y) h x

-- one more event
history-next : (S : State) (es : List Event) (e : Event) → let T = after S (history S es) in history S (es ++ e ∷ []) ≡ history S es ++ entry_at T e (allowed T e) ∷ []
history-next S [] e = refl
history-next S (x ∷ es) e = ap (λ l. entry_at S x (allowed S x) ∷ l) (history-next (one S x (allowed S x)).state es e)

run-next : (S : State) (es : List Entry) (e : Entry) → let T = after S (run S (asked es)) in run S (asked (es ++ e ∷ [])) ≡ run S (asked es) ++ entry_at T e.event e.grant ∷ []
run-next S [] e = refl
run-next S (x ∷ es) e = ap (λ l. entry_at S x.event x.grant ∷ l) (run-next (one S x.event x.grant).state es e)

-- the grants of some entries and of one more fit
fit-next : (S : State) (es : List Entry) (e : Entry) → all_fit S (asked es) ≡ true → fits (after S (run S (asked es))) e.event e.grant ≡ true → all_fit S (asked (es ++ e ∷ [])) ≡ true
fit-next S [] e all fit = and_from _ _ fit refl
fit-next S (x ∷ es) e all fit = at_test (fits S x.event x.grant) (λ all. fit-next (one S x.event x.grant).state es e all fit) all
  where
    at_test : (b : Bool) → (all_fit (one S x.event x.grant).state (asked es) ≡ true → all_fit (one S x.event x.grant).state (asked (es ++ e ∷ [])) ≡ true)
        → (b && all_fit (one S x.event x.grant).state (asked es)) ≡ true → (b && all_fit (one S x.event x.grant).state (asked (es ++ e ∷ []))) ≡ true
    at_test true more all = more all
    at_test false more all = all

-- one that doesn't fit after some that do
one-misfit : (S : State) (es rest : List Entry) (e : Entry) → fits (after S (run S (asked es))) e.event e.grant ≡ false → all_fit S (asked (es ++ e ∷ rest)) ≡ false
one-misfit S [] rest e unfit = rw unfit refl
one-misfit S (x ∷ es) rest e unfit = at_test (fits S x.event x.grant) (one-misfit (one S x.event x.grant).state es rest e unfit)
  where
    at_test : (b : Bool) → all_fit (one S x.event x.grant).state (asked (es ++ e ∷ rest)) ≡ false → (b && all_fit (one S x.event x.grant).state (asked (es ++ e ∷ rest))) ≡ false
    at_test true more = more
    at_test false more = refl

-- where the disk keeps to its model, a restart finds the store again
finds : (e : Event) (v : View) (bodies : List (List ℕ)) (S : State) → v.Keeps → bodies_of S.commits ≡ bodies → FindsAgain e v bodies S
finds (Session n text) v bodies S keeps is = tt
finds (Turn z) v bodies S keeps is = tt
finds (Process z pid c) v bodies S keeps is = tt
finds (System what) v bodies S keeps is = tt
finds Restart v bodies S keeps is = (keeps, is)

-- the events so far were answered, and the machine stands for the state after them
pub record IsRunning {D F : Type 0} (S : State) (done : List Event) (h : List Entry) (m : Machine D F) : Type 0 where
  pub entries : h ≡ history S done
  pub stands : StandsFor (after S h) m

pub IsRunning-start : {D F : Type 0} (S : State) (m : Machine D F) → StandsFor S m → IsRunning S [] [] m
IsRunning-start S m h = record { entries = refl; stands = h }

pub HasRun-end : {D F : Type 0} (S : State) (es : List Event) (h : List Entry) (m : Machine D F) → IsRunning S es h m → HasRun S es h m
HasRun-end S es h m so = record { entries = so.entries; legal = rw so.entries (legal-history S es); stands = so.stands }

pub HasRunSome-now : {D F : Type 0} (S : State) (es done rest : List Event) (h : List Entry) (m : Machine D F) → es ≡ done ++ rest → IsRunning S done h m → HasRunSome S es m.parts
HasRunSome-now S es done rest h m all so = record { done = done; rest = rest; all = all; stands = subst (λ l. Stands (after S l) m.parts) so.entries so.stands.parts }

module _ {D F : Type 0} (view : D → View) (S : State) (m n : Machine D F) (h : List Entry) (x : Entry) (keeps : (view m.bank.disk).Keeps) where
  -- one more is answered
  pub IsRunning-next : (done : List Event) (e : Event) → IsAllowedStepOf view m e x n → KeepsBodiesOf view None m e n → IsRunning S done h m → IsRunning S (done ++ e ∷ []) (h ++ x ∷ []) n
  IsRunning-next done e step bodies so =
      let T : State = after S h in
      let found = finds e (view m.bank.disk) m.bank.records T keeps so.stands.bodies in
      let answers = step T so.stands.parts found in
      let after_it : StandsFor (one T e (allowed T e)).state n = record { parts = answers.stands; bodies = bodies T so.stands.parts so.stands.bodies found } in
      let left : after S (h ++ x ∷ []) ≡ (one T e (allowed T e)).state = after-next S h x ∙ ap (after_entry T) answers.told in
      record {
        entries = ap (λ y. h ++ y ∷ []) answers.told ∙ (ap (λ l. l ++ entry_at (after S l) e (allowed (after S l) e) ∷ []) so.entries ∙ sym (history-next S done e));
        stands = subst (λ T. StandsFor T n) (sym left) after_it;
      }

-- the same under stated grants, which fit so far
pub record IsRunningGiven {D F : Type 0} (S : State) (done h : List Entry) (m : Machine D F) : Type 0 where
  pub entries : h ≡ run S (asked done)
  pub fit : all_fit S (asked done) ≡ true
  pub stands : StandsFor (after S h) m

pub IsRunningGiven-start : {D F : Type 0} (S : State) (m : Machine D F) → StandsFor S m → IsRunningGiven S [] [] m
IsRunningGiven-start S m h = record { entries = refl; fit = refl; stands = h }

pub HasRunGiven-end : {D F : Type 0} (S : State) (es h : List Entry) (m : Machine D F) → IsRunningGiven S es h m → HasRunGiven S es h m
HasRunGiven-end S es h m so = record { entries = so.entries; fit = so.fit; stands = so.stands }

pub HasRunSomeGiven-now : {D F : Type 0} (S : State) (es done rest h : List Entry) (m : Machine D F) → es ≡ done ++ rest → IsRunningGiven S done h m → HasRunSomeGiven S es m.parts
HasRunSomeGiven-now S es done rest h m all so = record { done = done; rest = rest; all = all; stands = subst (λ l. Stands (after S l) m.parts) so.entries so.stands.parts }

-- nothing has changed since the last step
pub HasRunSomeGiven-still : {D F : Type 0} (S : State) (es done rest h : List Entry) (m : Machine D F) (p : Parts) → es ≡ done ++ rest → p ≡ m.parts → IsRunningGiven S done h m → HasRunSomeGiven S es p
HasRunSomeGiven-still S es done rest h m p all same so = subst (HasRunSomeGiven S es) (sym same) (HasRunSomeGiven-now S es done rest h m all so)

-- the next grant doesn't fit
pub misfit-now : {D F : Type 0} (S : State) (es done rest h : List Entry) (e : Entry) (event : Event) (grant : Grant) (m : Machine D F) → es ≡ done ++ e ∷ rest → event ≡ e.event → grant ≡ e.grant
    → IsRunningGiven S done h m → fits (after S h) event grant ≡ false → all_fit S (asked es) ≡ false
misfit-now S es done rest h e event grant m all is of so unfit =
    let unfit_at : fits (after S h) e.event e.grant ≡ false = subst (λ v. fits (after S h) v e.grant ≡ false) is (subst (λ g. fits (after S h) event g ≡ false) of unfit) in
    subst (λ l. all_fit S (asked l) ≡ false) (sym all) (one-misfit S done rest e (subst (λ l. fits (after S l) e.event e.grant ≡ false) so.entries unfit_at))

module _ {D F : Type 0} (view : D → View) (S : State) (m n : Machine D F) (h : List Entry) (x : Entry) (keeps : (view m.bank.disk).Keeps) where
  IsRunningGiven-next : (done : List Entry) (e : Entry) → IsFittingStepOf view m e.event e.grant x n → KeepsBodiesOf view (Some e.grant) m e.event n
      → IsRunningGiven S done h m → IsRunningGiven S (done ++ e ∷ []) (h ++ x ∷ []) n
  IsRunningGiven-next done e step bodies so =
      let T : State = after S h in
      let found = finds e.event (view m.bank.disk) m.bank.records T keeps so.stands.bodies in
      let both = step T so.stands.parts found in
      let answers = both.1 in
      let after_it : StandsFor (one T e.event e.grant).state n = record { parts = answers.stands; bodies = bodies T so.stands.parts so.stands.bodies found } in
      let left : after S (h ++ x ∷ []) ≡ (one T e.event e.grant).state = after-next S h x ∙ ap (after_entry T) answers.told in
      record {
        entries = ap (λ y. h ++ y ∷ []) answers.told ∙ (ap (λ l. l ++ entry_at (after S l) e.event e.grant ∷ []) so.entries ∙ sym (run-next S done e));
        fit = fit-next S done e so.fit (subst (λ l. fits (after S l) e.event e.grant ≡ true) so.entries both.0);
        stands = subst (λ T. StandsFor T n) (sym left) after_it;
      }

  pub IsRunningGiven-step : (done : List Entry) (e : Entry) (event : Event) (grant : Grant) → event ≡ e.event → grant ≡ e.grant → IsFittingStepOf view m event grant x n → KeepsBodiesOf view (Some grant) m event n
      → IsRunningGiven S done h m → IsRunningGiven S (done ++ e ∷ []) (h ++ x ∷ []) n
  IsRunningGiven-step done e event grant is of step bodies so =
      IsRunningGiven-next done e
      (subst (λ v. IsFittingStepOf view m v e.grant x n) is (subst (λ g. IsFittingStepOf view m event g x n) of step))
      (subst (λ v. KeepsBodiesOf view (Some e.grant) m v n) is (subst (λ g. KeepsBodiesOf view (Some g) m event n) of bodies)) so

-- what is known of the disk of a machine that has gone on
pub passes-on : (u v w : View) → Passes u v → Passes v w → Passes u w
passes-on u v w a b = record { model = (λ k. b.model.0 (a.model.0 k), λ k. a.model.1 (b.model.1 k)); faults = omega (arith, a.faults, b.faults) }

-- a disk fault comes only where the disk's count rose, in this step or before
rose-in : {D : Type 0} (e : Event) (a b : Account D) (v w : View) (s : Shared) → BankLeftAny true e DiskFault a b v w s → Rose v.faults w.faults
rose-in (Session n text) a b v w s left = left.0
rose-in (Turn z) a b v w s left = left.0
rose-in (Process z pid c) a b v w s left = left.0
rose-in (System what) a b v w s left = left.0
rose-in Restart a b v w s left = left.0

pub rose-after : {A D : Type 0} (r : Result A StepFault) (e : Event) (a b : Account D) (u v w : View) (s : Shared) → Passes u v → IsErrOf r DiskFault → IfErr r (λ fault. BankLeftAny true e fault a b v w s)
    → Rose u.faults w.faults
rose-after r e a b u v w s passes is left =
    let rose = rose-in e a b v w s (subst (λ r. IfErr r (λ fault. BankLeftAny true e fault a b v w s)) is left) in
    omega (arith, passes.faults, rose)

-- a grant that doesn't fit leaves the machine ready
ready-in : {D : Type 0} (e : Event) (a b : Account D) (v w : View) (s : Shared) → BankLeftAny true e BadGrant a b v w s → IsReady w b s
ready-in (Session n text) a b v w s left = left.1
ready-in (Turn z) a b v w s left = left.1
ready-in (Process z pid c) a b v w s left = left.1
ready-in (System what) a b v w s left = left.1
ready-in Restart a b v w s left = left.1

pub ready-after : {A D : Type 0} (r : Result A StepFault) (e : Event) (a b : Account D) (v w : View) (s : Shared) → IsErrOf r BadGrant → IfErr r (λ fault. BankLeftAny true e fault a b v w s) → IsReady w b s
ready-after r e a b v w s is left = ready-in e a b v w s (subst (λ r. IfErr r (λ fault. BankLeftAny true e fault a b v w s)) is left)

-- a step that may record never says that it would, and misses no store on a disk that keeps to its model
pub only-three : {D : Type 0} (fault : StepFault) (e : Event) (a b : Account D) (v w : View) (s : Shared) → v.Keeps → BankLeftAny true e fault a b v w s
    → (fault ≡ Memory) ⊎ ((fault ≡ DiskFault) ⊎ (fault ≡ BadGrant))
only-three Memory e a b v w s keeps left = inl refl
only-three DiskFault e a b v w s keeps left = inr (inl refl)
only-three BadGrant e a b v w s keeps left = inr (inr refl)
only-three WouldRecord (Session n text) a b v w s keeps left = absurd left
only-three WouldRecord (Turn z) a b v w s keeps left = absurd left
only-three WouldRecord (Process z pid c) a b v w s keeps left = absurd left
only-three WouldRecord (System what) a b v w s keeps left = absurd left
only-three WouldRecord Restart a b v w s keeps left = absurd left
only-three (NoStore lost) (Session n text) a b v w s keeps left = absurd left
only-three (NoStore lost) (Turn z) a b v w s keeps left = absurd left
only-three (NoStore lost) (Process z pid c) a b v w s keeps left = absurd left
only-three (NoStore lost) (System what) a b v w s keeps left = absurd left
only-three (NoStore lost) Restart a b v w s keeps left = absurd (left.0 keeps)

-- the events, where one more was taken from those that are left
pub all-next : {X : Type 0} (done left rest all : List X) (x : X) → done ++ left ≡ all → left ≡ x ∷ rest → done ++ x ∷ [] ++ rest ≡ all
all-next done left rest all x is steps = append_assoc done (x ∷ []) rest ∙ (ap (λ l. done ++ l) (sym steps) ∙ is)

pub nothing-left : {X : Type 0} (l : List X) (n : ℕ) → n ≡ length l → n ≡ 0 → l ≡ []
nothing-left [] n is none = refl
nothing-left (x ∷ l) n is none = absurd (omega (arith, is, none))

-- without other zones' entries a zone is answered what it was answered among them
pub purged-alike : (z : Name) (permits : State → Event → Grant → Bool) (brands : List Tabled) (commits others : List Commit) (h : List Entry)
    → is_history permits (opening brands commits) h ≡ true → stored z commits ≡ stored z others → replies z (run (opening brands others) (asked (only z h))) ≡ replies z h
purged-alike z permits brands commits others h is same =
    sym (subst (λ k. replies z k ≡ replies z (run (opening brands others) (asked (only z k)))) (run-asked permits (opening brands commits) h is)
    (purge z (asked h) (opening brands commits) (opening brands others) (opening-agree z brands commits others same)))

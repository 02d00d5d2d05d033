-- What a trace has recorded at each of its ends.
use Rattle.std.proofs.Common.{◌≡◌, ◌≤◌, ◌⊎◌, inl, inr, ◌++◌, ◌∷◌, [], ℕ, List, Option, Some, None, IfSome, length, Result, Ok, Err, refl, sym, subst, arith, true}
use Rattle.std.specs.Prelude.{IsErr, IsErrOf, IsOk}
use Rattle.std.specs.Option.{option_map}
use Rattle.std.proofs.lemmas.List.{append-nil}
use Rattle.zn_io.specs.Disk.{View}
use Rattle.zn_io.specs.Streams.{after_known}
use Rattle.brand_hooks.specs.Brands.{Tabled}
use Rattle.commit_journal.specs.declared.records.Commit.{Commit}
use Rattle.zone_machine.specs.Machine.{opening}
use Rattle.zone_machine.specs.Machine.Images.{Goes, IsStoreOf}
use Rattle.zone_cases.specs.State.{State}
use Rattle.zone_cases.specs.declared.events.Entry.{Entry}
use Rattle.zone_cases.specs.declared.events.Event.{Event}
use Rattle.zones_run.specs.Answering.{Fails, FailsLine, LeavesText}
use Rattle.zones_run.specs.Midway.{Follows, Knows, Left, none_put}
use Rattle.zones_run.specs.Scripts.{Ending, Says, entry_for, fits_due, said_by, state_for, unstated}
use Rattle.zones_run.specs.declared.due.Due.{Due}
use Rattle.input_lines.specs.Reading.{TakesLine}
use Rattle.zones_run.specs.Recording.{GoesSurely, HasNearlyTold, IsFront, Ran, RanAs}
use Rattle.zones_run.specs.Tracing.{entries_text, run_of}
use Rattle.zones_run.specs.declared.fault.RunFault.{RunFault}
use Rattle.zones_run.specs.declared.fault.RunFault.TheVariants.{Disk, Memory, Read, Write}
use Rattle.zones_run.specs.declared.outcome.Complaint.{Complaint}
use Rattle.zones_run.specs.declared.words.Mode.{Mode}
use Rattle.zones_run.specs.declared.words.Mode.TheVariants.{WithTurns}
use Rattle.zones_run.specs.declared.words.Telling.{Telling}
use Rattle.zones_run.proofs.Histories.{Suits, history-entry, suits_said}
use Rattle.zones_run.proofs.Keeping.{keeps_step, records_all, records_torn}
use Rattle.zones_run.proofs.TraceEnds.{EndsSo, all_entries, fails_with}
use Rattle.zones_run.proofs.TraceRuns.{begins_entry, begins_input, begins_turn}

abbrev pub ok_of : {T : Type 0} → T → Result T RunFault
ok_of x = Ok x

pub err_not_ok : {T E : Type 0} (r : Result T E) → IsErr r → IsOk r → ⊥
err_not_ok (Ok x) err ok = cc
err_not_ok (Err e) err ok = cc

-- and no fault ended it
pub never_failed : {T : Type 0} (x : T) → IsErrOf (ok_of x) Write ⊎ IsErrOf (ok_of x) Disk → ⊥
never_failed x (inl is) = cc
never_failed x (inr is) = cc

-- the replies of all that was answered were taken
pub nearly_all : (mode : Mode) (answered : List Entry) (held holds : Option (List ℕ)) → holds ≡ after_known held (entries_text mode answered) → HasNearlyTold mode answered held holds
nearly_all mode answered held holds text = record { told = answered; untold = []; few = omega arith; whole = sym (append-nil answered); taken = text }

-- with what was written since
ran_holds : (mode : Mode) (brands : List Tabled) (R : List Commit) (r : Result (Option Complaint) RunFault) (input held holds now : Option (List ℕ)) (v0 v : View) → now ≡ holds → RanAs mode brands R r input held holds v0 v → RanAs mode brands R r input held now v0 v
ran_holds mode brands R r input held holds now v0 v same ran = subst (λ (known : Option (List ℕ)). RanAs mode brands R r input held known v0 v) (sym same) ran

-- where standard output failed nothing is said of the replies
pub ran_writing : (mode : Mode) (brands : List Tabled) (R : List Commit) (r s : Result (Option Complaint) RunFault) (input held holds now : Option (List ℕ)) (v0 v : View) → r ≡ Err Write → (IsErrOf s Disk → ⊥) → RanAs mode brands R s input held holds v0 v → RanAs mode brands R r input held now v0 v
ran_writing mode brands R r s input held holds now v0 v is clear ran = subst (λ (t : Result (Option Complaint) RunFault). RanAs mode brands R t input held now v0 v) (sym is) (record {
  answered = ran.answered;
  under_way = ran.under_way;
  records = ran.records;
  settled = λ h. ran.settled clear;
  all = λ w. absurd (cc);
  replies = λ t. absurd (no_told t);
  nearly = λ t. absurd (cc);
})
  where
    no_told : IsErrOf (fails_with Write) Disk ⊎ (IsErrOf (fails_with Write) Read ⊎ IsOk (fails_with Write)) → ⊥
    no_told (inl h) = cc
    no_told (inr (inl h)) = cc
    no_told (inr (inr h)) = cc

module _ (mode : Mode) (to_put : State → List (ℕ × Event)) (brands : List Tabled) (R : List Commit) (stands : State → Type 0) (v0 v : View) (refused : Option ℕ) (n : ℕ) (held holds bytes input : Option (List ℕ)) (f : Follows mode to_put brands R stands (Left brands R v0 v) refused n held holds bytes input) (is : IsStoreOf v0 R) where
  -- in the midst of the input
  pub ran_part : (whole torn told nearly : Type 0) → (whole → ⊥) → Ran mode brands R whole torn told nearly input held holds v0 v
  ran_part whole torn told nearly not = record {
    answered = f.run.done;
    under_way = [];
    records = records_all mode brands R f.run.done v0 v (option_map (λ bs. (run_of mode brands R bs).entries) input) (f.kept is) f.legal (begins_input mode brands R refused (to_put f.run.state) n f.run.state f.run.done bytes input f.run.known);
    settled = λ clear. refl;
    all = λ w. absurd (not w);
    replies = λ t. f.run.text;
    nearly = λ t. nearly_all mode f.run.done held holds f.run.text;
  }

  -- where standard output failed
  pub ran_cut : (r : Result (Option Complaint) RunFault) (now : Option (List ℕ)) → r ≡ Err Write → RanAs mode brands R r input held now v0 v
  ran_cut r now failed = ran_writing mode brands R r (Err Write) input held holds now v0 v failed (λ h. cc) (ran_part _ _ _ _ (λ ok. cc))

  -- in an event in which the disk failed
  ran_torn : (w : View) (d : Due) → Suits mode d → fits_due f.run.state d ≡ true → IfSome (option_map (λ bs. (run_of mode brands R bs).entries) input) (IsFront (f.run.done ++ entry_for f.run.state d ∷ []))
      → Goes f.run.state.commits (state_for f.run.state d).commits v w → RanAs mode brands R (Err Disk) input held holds v0 w
  ran_torn w d suits fits begins goes =
      let entry : Entry = entry_for f.run.state d in
      record {
        answered = f.run.done;
        under_way = entry ∷ [];
        records = records_torn brands R f.run.done f.run.state entry f.reached mode v0 v w (option_map (λ bs. (run_of mode brands R bs).entries) input) goes (f.kept is) (history-entry mode (opening brands R) f.run.done f.run.state d suits fits f.reached f.legal) begins;
        settled = λ clear. absurd (clear refl);
        all = λ w. absurd (cc);
        replies = λ t. f.run.text;
        nearly = λ t. absurd (cc);
      }

  -- after an event for whose reply memory ran out
  ran_untold : (w : View) (d : Due) → Suits mode d → fits_due f.run.state d ≡ true → IfSome (option_map (λ bs. (run_of mode brands R bs).entries) input) (IsFront (f.run.done ++ entry_for f.run.state d ∷ []))
      → GoesSurely f.run.state.commits (state_for f.run.state d).commits v w → RanAs mode brands R (Err Memory) input held holds v0 w
  ran_untold w d suits fits begins goes =
      let entry : Entry = entry_for f.run.state d in
      record {
        answered = f.run.done ++ entry ∷ [];
        under_way = [];
        records = records_all mode brands R (f.run.done ++ entry ∷ []) v0 w (option_map (λ bs. (run_of mode brands R bs).entries) input) (keeps_step brands R f.run.done f.run.state entry f.reached v0 v w goes (f.kept is))
            (history-entry mode (opening brands R) f.run.done f.run.state d suits fits f.reached f.legal) begins;
        settled = λ clear. refl;
        all = λ w. absurd (cc);
        replies = λ t. absurd (no_told t);
        nearly = λ t. record { told = f.run.done; untold = entry ∷ []; few = omega arith; whole = refl; taken = f.run.text };
      }
    where
      no_told : IsErrOf (fails_with Memory) Disk ⊎ (IsErrOf (fails_with Memory) Read ⊎ IsOk (fails_with Memory)) → ⊥
      no_told (inl h) = cc
      no_told (inr (inl h)) = cc
      no_told (inr (inr h)) = cc

  ran_stayed : (fault : RunFault) (same : Type 0) (w : View) → same → (same → (P : View → Type 0) → P v → P w) → RanAs mode brands R (Err fault) input held holds v0 w
  ran_stayed fault same w left stay = stay left (λ u. RanAs mode brands R (Err fault) input held holds v0 u) (ran_part _ _ _ _ (λ ok. cc))

  -- at an event that could not be answered
  pub ran_event : (fault : RunFault) (same : Type 0) (w : View) (d : Due) → Suits mode d → (fits_due f.run.state d ≡ true → IfSome (option_map (λ bs. (run_of mode brands R bs).entries) input) (IsFront (f.run.done ++ entry_for f.run.state d ∷ [])))
      → Fails fault same f.run.state d v w → (same → (P : View → Type 0) → P v → P w) → RanAs mode brands R (Err fault) input held holds v0 w
  ran_event Disk same w d suits begins fails stay = ran_torn w d suits fails.0 (begins fails.0) fails.1
  ran_event Memory same w d suits begins (inl left) stay = ran_stayed Memory same w left stay
  ran_event Memory same w d suits begins (inr goes) stay = ran_untold w d suits goes.0 (begins goes.0) goes.1
  ran_event Read same w d suits begins left stay = ran_stayed Read same w left stay
  ran_event Write same w d suits begins left stay = ran_stayed Write same w left stay

module _ (mode : Mode) (brands : List Tabled) (R : List Commit) (stands : State → Type 0) (v0 v : View) (refused : Option ℕ) (n : ℕ) (held holds bytes input : Option (List ℕ)) (f : Follows mode none_put brands R stands (Left brands R v0 v) refused n held holds bytes input) (is : IsStoreOf v0 R) where
  -- at its end
  pub ran_whole : (whole torn told nearly : Type 0) (ending : Ending) → EndsSo mode f.run.state n ending bytes → Ran mode brands R whole torn told nearly input held holds v0 v
  ran_whole whole torn told nearly ending ended = record {
    answered = f.run.done;
    under_way = [];
    records = records_all mode brands R f.run.done v0 v (option_map (λ bs. (run_of mode brands R bs).entries) input) (f.kept is) f.legal (begins_input mode brands R refused [] n f.run.state f.run.done bytes input f.run.known);
    settled = λ clear. refl;
    all = λ w. all_entries mode brands R stands refused n held holds bytes input ending f.run ended;
    replies = λ t. f.run.text;
    nearly = λ t. nearly_all mode f.run.done held holds f.run.text;
  }

  -- at a line that could not be answered
  pub ran_failed : (fault : RunFault) (same : Type 0) (w : View) (line : List ℕ) (new : Option (List ℕ)) (said : Says) → TakesLine line bytes new → n ≤ 200000 → length line ≤ 4096 → said_by mode f.run.state.started line ≡ said
      → FailsLine fault same f.run.state said v w → (same → (P : View → Type 0) → P v → P w) → RanAs mode brands R (Err fault) input held holds v0 w
  ran_failed fault same w line new (Ok None) took h k says left stay = ran_stayed mode none_put brands R stands v0 v refused n held holds bytes input f is fault same w left stay
  ran_failed fault same w line new (Err bad) took h k says left stay = ran_stayed mode none_put brands R stands v0 v refused n held holds bytes input f is fault same w left stay
  ran_failed fault same w line new (Ok (Some d)) took h k says fails stay =
      ran_event mode none_put brands R stands v0 v refused n held holds bytes input f is fault same w d (suits_said mode f.run.state.started line d says)
      (λ fits. begins_entry mode brands R stands refused n held holds d line bytes new input f.run took h k says fits) fails stay

-- at a turn that was put in and could not be answered
pub ran_turn : (telling : Telling) (to_put : State → List (ℕ × Event)) (brands : List Tabled) (R : List Commit) (stands : State → Type 0) (v0 v w : View) (refused : Option ℕ) (m n : ℕ) (held holds bytes input : Option (List ℕ)) (fault : RunFault) (same : Type 0) (e : Event) (rest : List (ℕ × Event)) (f : Follows (WithTurns telling) to_put brands R stands (Left brands R v0 v) refused n held holds bytes input)
    → IsStoreOf v0 R → to_put f.run.state ≡ (m, e) ∷ rest → ((S : State) → stands S → Fails fault same S (unstated e) v w) → (same → (P : View → Type 0) → P v → P w) → RanAs (WithTurns telling) brands R (Err fault) input held holds v0 w
ran_turn telling to_put brands R stands v0 v w refused m n held holds bytes input fault same e rest f is next fails stay =
    ran_event (WithTurns telling) to_put brands R stands v0 v refused n held holds bytes input f is fault same w (unstated e) refl
    (λ fits. begins_turn (WithTurns telling) brands R refused m n f.run.state f.run.done e rest bytes input (subst (λ (l : List (ℕ × Event)). IfSome input (Knows (WithTurns telling) brands R refused l n f.run.state f.run.done bytes)) next f.run.known))
    (fails f.run.state f.run.stood) stay

-- with what was written and waits after a line that could not be answered
pub ran_left : (mode : Mode) (brands : List Tabled) (R : List Commit) (fault : RunFault) (input held holds now : Option (List ℕ)) (waiting left : List ℕ) (v0 v : View) → LeavesText fault holds now waiting left → RanAs mode brands R (Err fault) input held (after_known holds waiting) v0 v
    → RanAs mode brands R (Err fault) input held (after_known now left) v0 v
ran_left mode brands R Memory input held holds now waiting left v0 v text ran = ran_holds mode brands R (Err Memory) input held (after_known holds waiting) (after_known now left) v0 v text ran
ran_left mode brands R Disk input held holds now waiting left v0 v text ran = ran_holds mode brands R (Err Disk) input held (after_known holds waiting) (after_known now left) v0 v text.0 ran
ran_left mode brands R Write input held holds now waiting left v0 v text ran = ran_writing mode brands R (Err Write) (Err Write) input held (after_known holds waiting) (after_known now left) v0 v refl (λ h. cc) ran
ran_left mode brands R Read input held holds now waiting left v0 v text ran = absurd text

-- at a line outside the grammar, before which the disk stayed as it was
pub ran_same : (mode : Mode) (brands : List Tabled) (R : List Commit) (r : Result (Option Complaint) RunFault) (input held holds : Option (List ℕ)) (v0 v w : View) (same : Type 0) → same → (same → (P : View → Type 0) → P v → P w) → RanAs mode brands R r input held holds v0 v → RanAs mode brands R r input held holds v0 w
ran_same mode brands R r input held holds v0 v w same is stay ran = stay is (λ u. RanAs mode brands R r input held holds v0 u) ran

-- what waited at the end was written, or wasn't
pub ran_written : (mode : Mode) (brands : List Tabled) (R : List Commit) (r : Result (Option Complaint) RunFault) (input held holds now : Option (List ℕ)) (v0 v : View) → now ≡ holds → RanAs mode brands R r input held holds v0 v → RanAs mode brands R r input held now v0 v
ran_written mode brands R r input held holds now v0 v same ran = ran_holds mode brands R r input held holds now v0 v same ran

pub ran_unwritten : (mode : Mode) (brands : List Tabled) (R : List Commit) (r : Result (Option Complaint) RunFault) (input held holds now : Option (List ℕ)) (waiting : List ℕ) (v0 v : View) → (waiting ≡ [] → ⊥) → (IsErrOf r Write ⊎ IsErrOf r Disk → waiting ≡ []) → RanAs mode brands R r input held holds v0 v
    → RanAs mode brands R (Err Write) input held now v0 v
ran_unwritten mode brands R r input held holds now waiting v0 v some none ran = ran_writing mode brands R (Err Write) r input held holds now v0 v refl (λ h. some (none (inr h))) ran

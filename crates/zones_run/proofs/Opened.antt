-- What a command comes to over the store on its disk, where the machine was opened on it, and where it wasn't.
use Rattle.std.proofs.Common.{◌≡◌, ◌⊎◌, ◌++◌, inl, inr, ℕ, List, [], Option, Some, None, IfSome, Ok, Err, refl, sym, subst, arith}
use Rattle.std.specs.Option.{option_map}
use Rattle.std.proofs.lemmas.List.{append-nil}
use Rattle.zn_io.proofs.Moments.{joined, weaker}
use Rattle.zn_io.specs.Disk.{IsSound, Leaves, View}
use Rattle.zn_io.specs.Streams.{after_known}
use Rattle.brand_hooks.specs.Brands.{Tabled}
use Rattle.commit_journal.specs.Store.{OpensStore, OpensStoreOneWay}
use Rattle.commit_journal.specs.Stored.{stored}
use Rattle.commit_journal.specs.declared.fault.StoreFault.{StoreFault}
use Rattle.commit_journal.specs.declared.fault.StoreFault.TheVariants.{DiskFault, Memory as No_memory}
use Rattle.commit_journal.specs.declared.records.Commit.{Commit}
use Rattle.zone_machine.specs.Code.Openings.{StandsFor}
use Rattle.zone_machine.specs.Code.Records.{IsReady, Passes}
use Rattle.zone_machine.specs.Machine.{opening}
use Rattle.zone_machine.specs.Machine.Changes.{HoldsFront, changes}
use Rattle.zone_machine.specs.Machine.Images.{Holds, IsStoreOf}
use Rattle.zone_cases.specs.State.{bodies_of}
use Rattle.zone_cases.specs.declared.events.Entry.{Entry}
use Rattle.zone_machine.specs.declared.machine.Machine.{Machine}
use Rattle.zones_run.specs.Complaints.{complaint_output, complaint_text}
use Rattle.zones_run.specs.Opening.{Finds, Found}
use Rattle.zones_run.specs.Program.{AnswersOn, AnswersOver, RecordsOver, done_on}
use Rattle.zones_run.specs.Bulk.{bulk_mode, bulk_text}
use Rattle.zones_run.specs.Recording.{KeepsStore, Ran}
use Rattle.zones_run.specs.Run.{IsWhole, TellsLine, TellsText, fault_status}
use Rattle.zones_run.specs.Statuses.{status_write_fault}
use Rattle.zones_run.specs.Tracing.{run_of}
use Rattle.zones_run.specs.declared.fault.RunFault.{RunFault}
use Rattle.zones_run.specs.declared.words.Task.{Task}
use Rattle.zones_run.specs.declared.words.Task.TheVariants.{Bulk, Index, Run}
use Rattle.zones_run.specs.declared.words.Mode.{Mode}
use Rattle.zones_run.specs.declared.outcome.Complaint.TheVariants.{NotAStore}
use Rattle.zones_run.proofs.Answered.{ready_holds}
use Rattle.zones_run.proofs.Fronts.{after_known-nil}
use Rattle.zones_run.proofs.Keeping.{front-none}
use Rattle.zones_run.proofs.Telling.{Complained, if_some, line_failed, status_told, text_failed, text_nothing}
use Rattle.zones_run.proofs.TraceRecords.{nearly_all}
use Rattle.zones_run.proofs.TraceStarts.{no_read, no_replies, no_some, runs_none}

-- an image that stands for commits is no faulty store
pub holds_or_fault : OpensStoreOneWay → (R : List Commit) (image : List ℕ) (fault : StoreFault) → Holds R image → OpensStore image (Err fault) → ⊥
holds_or_fault one R image fault holds opens = let same = one image (Ok (bodies_of R, stored R)) (Err fault) holds opens in cc

-- what holds of each list of commits that the machine was opened on holds of what was found
pub opened : {D F : Type 0} (P : Found → Type 0) (brands : List Tabled) (v : View) (m : Machine D F) → P None → (v.Keeps → (R : List Commit) → StandsFor (opening brands R) m → P (Some (Ok R)))
    → (v.Keeps → (R : List Commit) → Holds R v.reads → StandsFor (opening brands R) m) → (v.Keeps → (R : List Commit) × Holds R v.reads) → OpensStoreOneWay
    → (found : Found) → Finds v found → P found
opened P brands v m none some stands opens one None finds = none
opened P brands v m none some stands opens one (Some (Ok R)) finds = some finds.0 R (stands finds.0 R finds.1)
opened P brands v m none some stands opens one (Some (Err fault)) finds = let o = opens finds.0 in absurd (holds_or_fault one o.0 v.reads fault o.1 finds.1)

-- a store of R is one on which the machine stands for its opening
pub opened_store : {D F : Type 0} (brands : List Tabled) (R : List Commit) (v : View) (m : Machine D F) → IsSound v → IsStoreOf v R → (v.Keeps → (R : List Commit) → Holds R v.reads → StandsFor (opening brands R) m)
    → StandsFor (opening brands R) m
opened_store brands R v m sound is stands = stands is.keeps R (is.now v.reads (sound.reads_now is.keeps))

pub still_store : {D F : Type 0} (brands : List Tabled) (R : List Commit) (v w : View) (m : Machine D F) → IsStoreOf v R → StandsFor (opening brands R) m → IsReady w m.bank m.parts.shared → Passes v w → IsStoreOf w R
still_store brands R v w m is stands ready passes = record { keeps = passes.model.0 is.keeps; now = ready_holds (opening brands R) m w stands ready (passes.model.0 is.keeps) }

front_any : (brands : List Tabled) (R : List Commit) (h : List Entry) (image : List ℕ) → Holds R image → HoldsFront (opening brands R) h image
front_any brands R h image holds = record { front = []; rest = changes (opening brands R) h; whole = refl; holds = subst (λ (l : List Commit). Holds l image) (sym (append-nil R)) holds }

-- what a trace has recorded since the disk was opened
ran_later : (mode : Mode) (brands : List Tabled) (R : List Commit) (whole torn told cut : Type 0) (input held holds : Option (List ℕ)) (u v w : View) → Leaves u v (Holds R) → Ran mode brands R whole torn told cut input held holds v w → Ran mode brands R whole torn told cut input held holds u w
ran_later mode brands R whole torn told cut input held holds u v w past ran =
    let h = ran.answered ++ ran.under_way in
    record {
      answered = ran.answered;
      under_way = ran.under_way;
      records = record {
        few = ran.records.few;
        permitted = ran.records.permitted;
        begins = ran.records.begins;
        any_moment = joined u v w (HoldsFront (opening brands R) h) (weaker u v (Holds R) (HoldsFront (opening brands R) h) (front_any brands R h) past) ran.records.any_moment;
        now = ran.records.now;
      };
      settled = ran.settled;
      all = ran.all;
      replies = ran.replies;
      nearly = ran.nearly;
    }

-- where the store was not opened nothing was recorded
pub ran_nothing : (mode : Mode) (brands : List Tabled) (R : List Commit) (whole torn told cut : Type 0) (input held : Option (List ℕ)) (v w : View) → IsSound w → Leaves v w (Holds R) → (whole → ⊥) → Ran mode brands R whole torn told cut input held held v w
ran_nothing mode brands R whole torn told cut input held v w sound past not =
    let nothing : held ≡ after_known held [] = sym (after_known-nil held) in
    record {
      answered = [];
      under_way = [];
      records = record {
        few = omega arith;
        permitted = refl;
        begins = if_some _ (option_map (λ bs. (run_of mode brands R bs).entries) input) (λ all. record { rest = all; whole = refl });
        any_moment = weaker v w (Holds R) (HoldsFront (opening brands R) []) (front-none brands R) past;
        now = λ image now. inl (subst (λ (l : List Commit). Holds l image) (sym (append-nil R)) (past.each image (sound.counts_now v.moment image past.later now)));
      };
      settled = λ clear. refl;
      all = λ is. absurd (not is);
      replies = λ t. nothing;
      nearly = λ t. nearly_all mode [] held held nothing;
    }

-- nothing was recorded of whatever was to be done
pub records_nothing : (task : Task) (brands : List Tabled) (R : List Commit) (status : ℕ) (input held : Option (List ℕ)) (v w : View) → IsSound w → Leaves v w (Holds R) → (IsWhole status → ⊥) → RecordsOver task brands R status input held held v w
records_nothing (Run mode) brands R status input held v w sound past not = ran_nothing mode brands R _ _ _ _ input held v w sound past not
records_nothing (Bulk zones) brands R status input held v w sound past not = ran_nothing bulk_mode brands R _ _ _ _ (Some (bulk_text zones)) None v w sound past not
records_nothing Index brands R status input held v w sound past not = record { any_moment = past; now = λ image now. past.each image (sound.counts_now v.moment image past.later now) }

-- and what was is recorded since the disk was opened
pub records_later : (task : Task) (brands : List Tabled) (R : List Commit) (status : ℕ) (input held holds : Option (List ℕ)) (u v w : View) → Leaves u v (Holds R) → RecordsOver task brands R status input held holds v w → RecordsOver task brands R status input held holds u w
records_later (Run mode) brands R status input held holds u v w past ran = ran_later mode brands R _ _ _ _ input held holds u v w past ran
records_later (Bulk zones) brands R status input held holds u v w past ran = ran_later bulk_mode brands R _ _ _ _ (Some (bulk_text zones)) None None u v w past ran
records_later Index brands R status input held holds u v w past kept = record { any_moment = joined u v w (Holds R) past kept.any_moment; now = kept.now }

-- a store that was only read
pub keeps_store : (R : List Commit) (v : View) → IsSound v → IsStoreOf v R → KeepsStore R v v
keeps_store R v sound is = record {
  any_moment = record {
    later = omega arith;
    each = λ image since. is.now image (sound.only_now image since);
    before = λ t image le since. inl since;
  };
  now = is.now;
}

-- and nothing was taken or written
answers_none : (task : Task) (brands : List Tabled) (R : List Commit) (status : ℕ) (input held : Option (List ℕ)) → AnswersOver task brands R status input input held held
answers_none (Run mode) brands R status input held = record {
  taken = runs_none mode brands R held input;
  some = λ s. no_replies mode brands R held input;
  failed = λ f. no_some mode brands R held input;
  read = λ r. no_read mode brands R held input;
}
answers_none Index brands R status input held = record { taken = refl; nothing = λ f. refl }
answers_none (Bulk zones) brands R status input held = record { taken = refl; nothing = λ f. refl }

pub answers_nothing : (task : Task) (brands : List Tabled) (status : ℕ) (input held : Option (List ℕ)) (found : Found) → AnswersOn task brands found status input input held held
answers_nothing task brands status input held None = tt
answers_nothing task brands status input held (Some (Ok R)) = answers_none task brands R status input held
answers_nothing task brands status input held (Some (Err fault)) = record { taken = refl; nothing = refl }

-- a fault ended the run
pub text_refused : (task : Task) (brands : List Tabled) (fault : RunFault) (status : ℕ) (input held : Option (List ℕ)) (found : Found) → status ≡ fault_status fault → (status ≡ status_write_fault → ⊥) → IfSome (done_on task brands found input) (λ o. TellsText o status held held)
text_refused task brands fault status input held found is not = if_some _ (done_on task brands found input) (λ o. text_failed o fault status held held is (λ f. absurd (not f)))

pub line_refused : (task : Task) (brands : List Tabled) (fault : RunFault) (status : ℕ) (input held holds : Option (List ℕ)) (before now : ℕ) (found : Found) → status ≡ fault_status fault → (status ≡ status_write_fault → ⊥) → IfSome (done_on task brands found input) (λ o. TellsLine o.err status held holds before now)
line_refused task brands fault status input held holds before now found is not = if_some _ (done_on task brands found input) (λ o. line_failed o.err fault status held holds before now is (λ f. absurd (not f)))

-- the disk is no store
pub text_no_store : (task : Task) (brands : List Tabled) (fault : StoreFault) (status : ℕ) (input held : Option (List ℕ)) (v : View) (found : Found) → Complained status (NotAStore fault) → (v.Keeps → OpensStore v.reads (Err fault)) → OpensStoreOneWay → Finds v found
    → IfSome (done_on task brands found input) (λ o. TellsText o status held held)
text_no_store task brands fault status input held v None is opens one finds = tt
text_no_store task brands fault status input held v (Some (Ok R)) is opens one finds = absurd (holds_or_fault one R v.reads fault finds.1 (opens finds.0))
text_no_store task brands fault status input held v (Some (Err other)) is opens one finds = text_nothing (complaint_output (NotAStore other)) status held refl (λ d. status_told status (NotAStore fault) is d)

pub line_no_store : (task : Task) (brands : List Tabled) (fault : StoreFault) (status : ℕ) (input held holds : Option (List ℕ)) (before now : ℕ) (v : View) (found : Found) → TellsLine (complaint_text (NotAStore fault)) status held holds before now → (v.Keeps → OpensStore v.reads (Err fault)) → OpensStoreOneWay → Finds v found
    → IfSome (done_on task brands found input) (λ o. TellsLine o.err status held holds before now)
line_no_store task brands fault status input held holds before now v None line opens one finds = tt
line_no_store task brands fault status input held holds before now v (Some (Ok R)) line opens one finds = absurd (holds_or_fault one R v.reads fault finds.1 (opens finds.0))
line_no_store task brands fault status input held holds before now v (Some (Err other)) line opens one finds =
    let both = one v.reads (Err fault) (Err other) (opens finds.0) finds.1 in
    let same : fault ≡ other = cc in
    subst (λ f. TellsLine (complaint_text (NotAStore f)) status held holds before now) same line

-- a fault other than memory and the disk's is what the disk's bytes come to
pub opens_refused : (fault : StoreFault) (v : View) → (v.Keeps → (fault ≡ No_memory) ⊎ ((fault ≡ DiskFault) ⊎ OpensStore v.reads (Err fault))) → (fault ≡ No_memory → ⊥) → (fault ≡ DiskFault → ⊥) → v.Keeps → OpensStore v.reads (Err fault)
opens_refused fault v refuses not_memory not_disk keeps = elim (refuses keeps) as (λ _. OpensStore v.reads (Err fault)) [
  | inl is ↦ absurd (not_memory is)
  | inr (inl is) ↦ absurd (not_disk is)
  | inr (inr opens) ↦ opens
]

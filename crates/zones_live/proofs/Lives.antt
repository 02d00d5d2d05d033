-- How a whole run is composed of its parts.
use Rattle.std.proofs.Common.{◌≡◌, ◌≤◌, ◌<◌, ◌⊎◌, ◌++◌, ◌∷◌, ◌∙◌, [], ℕ, Bool, List, None, Option, Some, true, false, ap, append-nil, arith, inl, inr, length, map, refl, subst, sym}
use Rattle.std.specs.Prelude.{◌≢◌, IfSome, slice_index_or}
use Rattle.zn_io.proofs.Moments.{joined, weaker}
use Rattle.zn_io.specs.Disk.{Leaves, View}
use Rattle.zn_io.specs.Streams.{Rose, TakesFront}
use Rattle.brand_hooks.specs.Brands.{Tabled}
use Rattle.commit_journal.specs.declared.records.Commit.{Commit}
use Rattle.daemon_threads.specs.Sessions.{HoldsSome, LeavesChanges, Lives, is_settled}
use Rattle.live_input.specs.Input.{Input, input_of}
use Rattle.live_input.specs.declared.reading.Ending.TheVariants.{End}
use Rattle.session_records.specs.Records.{IsRunPartial, IsRunRecord, Scripts}
use Rattle.zone_cases.specs.State.{State}
use Rattle.zone_cases.specs.declared.events.Declaration.{Declaration}
use Rattle.zone_cases.specs.declared.events.Entry.{Entry}
use Rattle.zone_machine.specs.Machine.{opening}
use Rattle.zone_machine.specs.Machine.Changes.{changes}
use Rattle.zone_machine.specs.Machine.Histories.{after}
use Rattle.zone_machine.specs.Machine.Images.{Holds, HoldsEither, IsStoreOf}
use Rattle.zone_machine.specs.declared.faults.StepFault.{StepFault}
use Rattle.zone_machine.specs.declared.faults.StepFault.TheVariants.{DiskFault, Memory}
use Rattle.zones_run.specs.Complaints.{complaint_output, complaint_status, complaint_text}
use Rattle.zones_run.specs.Output.{Output}
use Rattle.zones_run.specs.Recording.{KeepsStore}
use Rattle.zones_run.specs.Run.{HasFront, TellsLine, TellsText, disk_fault_line, fault_status, memory_line, run_fault_of}
use Rattle.zones_run.specs.Statuses.{status_disk_fault, status_grammar, status_limit, status_no_memory, status_read_fault}
use Rattle.zones_run.specs.declared.outcome.Complaint.{Complaint}
use Rattle.zones_run.specs.declared.fault.RunFault.{RunFault}
use Rattle.zones_run.specs.declared.fault.RunFault.TheVariants.{Disk, Memory as No_memory}
use Rattle.input_lines.specs.declared.lines.ReadFault.{ReadFault}
use Rattle.input_lines.specs.declared.lines.ReadFault.TheVariants.{Failed, Memory as No_room}
use Rattle.zones_run.proofs.Telling.{text_nothing}
use Rattle.zones_live.proofs.Declares.{changes-append, keeps-more}
use Rattle.zones_live.proofs.Written.{front-none}
use Rattle.zones_live.specs.Declaring.{Declared}
use Rattle.zones_live.specs.Living.{IsDone, LivesOn, LivesOnSome, RunsOn, TellsFaults, WroteComplaint, WrotePart, WroteRecord, ending_output}
use Rattle.zones_live.specs.Records.{record_text, told_record}
use Rattle.zones_live.specs.Sorting.{declared_in, typed_in}

holds-none : (R more : List Commit) (image : List ℕ) → Holds R image → HoldsSome R more image
holds-none R more image holds = record { front = []; rest = more; whole = refl; holds = subst (λ (l : List Commit). Holds l image) (sym (append-nil R)) holds }

-- nothing was changed
pub left-none : (settled : Bool) (S : State) (v w : View) → (v.Keeps → w.Keeps) → (v.Keeps → KeepsStore S.commits v w) → LeavesChanges settled S [] v w
left-none settled S v w model kept = record {
  perhaps = [];
  few = omega arith;
  none = λ is. refl;
  model = model;
  any_moment = λ k. weaker v w (Holds S.commits) (HoldsSome S.commits []) (holds-none S.commits []) (kept k).any_moment;
  now = λ k image now. inl (subst (λ (l : List Commit). Holds l image) (sym (append-nil S.commits)) ((kept k).now image now));
}

-- behind entries that changed nothing
pub left-behind : (settled : Bool) (S : State) (first h : List Entry) (v w : View) → changes S first ≡ [] → (after S first).commits ≡ S.commits → LeavesChanges settled (after S first) h v w → LeavesChanges settled S (first ++ h) v w
left-behind settled S first h v w none same b =
    let T = after S first in
    let is : changes S (first ++ h) ≡ changes T h = changes-append S first h ∙ ap (λ l. l ++ changes T h) none in
    record {
      perhaps = b.perhaps;
      few = b.few;
      none = b.none;
      model = b.model;
      any_moment = λ k. subst (λ (l : List Commit). Leaves v w (HoldsSome S.commits (l ++ b.perhaps))) (sym is) (subst (λ (l : List Commit). Leaves v w (HoldsSome l (changes T h ++ b.perhaps))) same (b.any_moment k));
      now = λ k image now. subst (λ (l : List Commit). HoldsEither (S.commits ++ l) (S.commits ++ (l ++ b.perhaps)) image) (sym is) (subst (λ (l : List Commit). HoldsEither (l ++ changes T h) (l ++ (changes T h ++ b.perhaps)) image) same (b.now k image now));
    }

-- since an earlier moment, from which on the store kept its commits
pub left-later : (settled : Bool) (S : State) (h : List Entry) (u v w : View) → (u.Keeps → v.Keeps) → (u.Keeps → KeepsStore S.commits u v) → LeavesChanges settled S h v w → LeavesChanges settled S h u w
left-later settled S h u v w model kept b =
    let more = changes S h ++ b.perhaps in
    record {
      perhaps = b.perhaps;
      few = b.few;
      none = b.none;
      model = λ k. b.model (model k);
      any_moment = λ k. joined u v w (HoldsSome S.commits more) (weaker u v (Holds S.commits) (HoldsSome S.commits more) (holds-none S.commits more) (kept k).any_moment) (b.any_moment (model k));
      now = λ k image now. b.now (model k) image now;
    }

settled-memory : (ended : Option StepFault) → IfSome ended (λ fault. (fault ≡ Memory) ⊎ (fault ≡ DiskFault)) → (ended ≡ Some DiskFault → ⊥) → is_settled ended ≡ true
settled-memory None only not = refl
settled-memory (Some Memory) only not = refl
settled-memory (Some fault) (inl is) not = ap (λ f. is_settled (Some f)) is
settled-memory (Some fault) (inr is) not = absurd (not (ap Some is))

module _ (brands : List Tabled) (R : List Commit) (what : List Declaration) (scripts : Scripts) (status : ℕ) (held holds told tells : Option (List ℕ)) (before now : ℕ) where
  -- a fault came before any session ran
  pub runs-nothing : (v w : View) → holds ≡ held → (status ≡ status_no_memory) ⊎ (status ≡ status_disk_fault) → (v.Keeps → w.Keeps) → (IsStoreOf v R → KeepsStore R v w) → RunsOn brands R what scripts status held holds told tells before now v w
  runs-nothing v w same is model kept = record {
    done = λ d. absurd (grind (arith, d, is));
    memory = λ m. part true;
    disk = λ d. part false;
    only = inr is;
  }
    where
      part : (settled : Bool) → WrotePart settled brands R what scripts held holds v w
      part settled = record { entries = []; part = inl refl; text = subst (λ (h : Option (List ℕ)). HasFront held h []) (sym same) (front-none held []); left = λ store. left-none settled (opening brands R) v w model (λ k. kept store) }

  -- sessions ran behind what was declared
  module _ (declared lived : List Entry) (ended : Option StepFault) (stands : State → Type 0) (v w : View) (d : Declared (opening brands R) what [] declared stands) (lives : Lives ended (after (opening brands R) d.first) scripts lived v w) where
    abbrev S : State
    S = opening brands R

    first-is : declared ++ lived ≡ d.first ++ lived
    first-is = ap (λ l. l ++ lived) d.whole

    record-of : ended ≡ None → IsRunRecord brands R what scripts (declared ++ lived)
    record-of none = record { first = d.first; rest = lived; whole = first-is; declares = d.declares; legal = d.legal; follows = lives.whole none }

    part-of : IsRunPartial brands R what scripts (declared ++ lived)
    part-of = record { first = d.first; rest = lived; whole = first-is; declares = d.declares; legal = d.legal; follows = lives.part }

    left-all : (settled : Bool) → is_settled ended ≡ settled → LeavesChanges settled S (declared ++ lived) v w
    left-all settled is =
        subst (λ (s : Bool). LeavesChanges s S (declared ++ lived) v w) is (subst (λ (h : List Entry). LeavesChanges (is_settled ended) S h v w) (sym first-is) (left-behind (is_settled ended) S d.first lived v w d.none d.same lives.left))

    pub runs-of : IfSome ended (λ fault. (fault ≡ Memory) ⊎ (fault ≡ DiskFault)) → IsDone status ⊎ ((status ≡ status_no_memory) ⊎ (status ≡ status_disk_fault)) → (IsDone status → ended ≡ None) → (ended ≡ None → TellsText (told_record (declared ++ lived)) status held holds)
        → (ended ≡ None → TellsLine (told_record (declared ++ lived)).err status told tells before now) → HasFront held holds (record_text (declared ++ lived)) → (status ≡ status_disk_fault → ended ≡ Some DiskFault) → (status ≡ status_no_memory → ended ≢ Some DiskFault)
        → RunsOn brands R what scripts status held holds told tells before now v w
    runs-of only statuses whole text line front disk settled = record {
      done = λ is. let none = whole is in record { entries = declared ++ lived; whole = record-of none; text = text none; line = line none; left = λ store. left-all true (ap is_settled none) };
      memory = λ is. record { entries = declared ++ lived; part = inr part-of; text = front; left = λ store. left-all true (settled-memory ended only (settled is)) };
      disk = λ is. record { entries = declared ++ lived; part = inr part-of; text = front; left = λ store. left-all false (ap is_settled (disk is)) };
      only = statuses;
    }

-- what is declared and typed is named by its equals
pub runs-as : (brands : List Tabled) (R : List Commit) (what what' : List Declaration) (scripts scripts' : Scripts) (status : ℕ) (held holds told tells : Option (List ℕ)) (before now : ℕ) (v w : View) → what ≡ what' → scripts ≡ scripts'
    → RunsOn brands R what scripts status held holds told tells before now v w → RunsOn brands R what' scripts' status held holds told tells before now v w
runs-as brands R what what' scripts scripts' status held holds told tells before now v w whats types run =
    subst (λ (s : Scripts). RunsOn brands R what' s status held holds told tells before now v w) types (subst (λ (d : List Declaration). RunsOn brands R d scripts status held holds told tells before now v w) whats run)

-- a whole input was run
pub lives-run : (brands : List Tabled) (R : List Commit) (input : Input) (status : ℕ) (held holds told tells : Option (List ℕ)) (before now : ℕ) (v w : View) → input.ending ≡ End
    → RunsOn brands R (declared_in input.events) (typed_in input.events) status held holds told tells before now v w → LivesOn brands R input status held holds told tells before now v w
lives-run brands R input status held holds told tells before now v w ends run = record {
  done = λ d. (ends, run.done d);
  ended = λ e. absurd (grind (arith, e, run.only));
  memory = run.memory;
  disk = run.disk;
  read = λ f. absurd (grind (arith, f, run.only));
  form = λ f. grind (arith, f, run.only);
  store = λ f. grind (arith, f, run.only);
}

-- what is known of an input is kept by some input
abbrev pub some-input : Option (List ℕ) → Input
some-input None = record { events = []; ending = End }
some-input (Some bytes) = input_of bytes

pub some-said : (bytes : Option (List ℕ)) → IfSome bytes (λ all. some-input bytes ≡ input_of all)
some-said None = tt
some-said (Some bytes) = refl

-- nothing was run
module _ (brands : List Tabled) (R : List Commit) (input : Input) (status : ℕ) (held told tells : Option (List ℕ)) (before now : ℕ) (v w : View) (model : v.Keeps → w.Keeps) (kept : IsStoreOf v R → KeepsStore R v w) where
  nothing-part : (settled : Bool) → WrotePart settled brands R (declared_in input.events) (typed_in input.events) held held v w
  nothing-part settled = record { entries = []; part = inl refl; text = front-none held []; left = λ store. left-none settled (opening brands R) v w model (λ k. kept store) }

  -- since a line ended the input
  pub lives-told : (complaint : Complaint) → complaint_output complaint ≡ ending_output input.ending → (complaint_status complaint ≡ status_grammar) ⊎ (complaint_status complaint ≡ status_limit) → (status ≡ complaint_status complaint) ⊎ (status ≡ status_no_memory)
      → (status ≢ status_no_memory → TakesFront told tells before now (complaint_text complaint)) → LivesOn brands R input status held held told tells before now v w
  lives-told complaint same late is front = record {
    done = λ d. absurd (grind (arith, d, late, is));
    ended = λ e. subst (λ (o : Output). WroteComplaint o R status held held told tells before now v w) same (record {
      text = text_nothing (complaint_output complaint) status held refl (λ d. grind (arith, d, is));
      line = record {
        tried = λ d. front (λ m. absurd (grind (arith, d, m)));
        whole = λ low. absurd (grind (arith, low, late, is));
        failed = λ f. absurd (grind (arith, f, late, is));
      };
      left = kept;
    });
    memory = λ m. nothing-part true;
    disk = λ d. nothing-part false;
    read = λ f. record { nothing = refl; left = kept };
    form = λ f. grind (arith, f, late, is);
    store = λ f. grind (arith, f, late, is);
  }

  -- since a fault came before
  pub lives-failed : (status ≡ status_read_fault) ⊎ ((status ≡ status_no_memory) ⊎ (status ≡ status_disk_fault)) → LivesOn brands R input status held held told tells before now v w
  lives-failed is = record {
    done = λ d. absurd (grind (arith, d, is));
    ended = λ e. absurd (grind (arith, e, is));
    memory = λ m. nothing-part true;
    disk = λ d. nothing-part false;
    read = λ f. record { nothing = refl; left = kept };
    form = λ f. grind (arith, f, is);
    store = λ f. grind (arith, f, is);
  }

-- the same since an earlier moment, from which on the store kept its commits
module _ (brands : List Tabled) (R : List Commit) (u v w : View) (model : u.Keeps → v.Keeps) (kept : IsStoreOf u R → KeepsStore R u v) where
  store-later : IsStoreOf u R → IsStoreOf v R
  store-later is = record { keeps = model is.keeps; now = (kept is).now }

  changes-later : (settled : Bool) (h : List Entry) → (IsStoreOf v R → LeavesChanges settled (opening brands R) h v w) → IsStoreOf u R → LeavesChanges settled (opening brands R) h u w
  changes-later settled h left is = left-later settled (opening brands R) h u v w model (λ k. kept is) (left (store-later is))

  keeps-later : (IsStoreOf v R → KeepsStore R v w) → IsStoreOf u R → KeepsStore R u w
  keeps-later left is = keeps-more R u v w (kept is) (left (store-later is))

  part-later : (settled : Bool) (what : List Declaration) (scripts : Scripts) (held holds : Option (List ℕ)) → WrotePart settled brands R what scripts held holds v w → WrotePart settled brands R what scripts held holds u w
  part-later settled what scripts held holds p = record { entries = p.entries; part = p.part; text = p.text; left = changes-later settled p.entries p.left }

  module _ (status : ℕ) (held holds told tells : Option (List ℕ)) (before now : ℕ) where
    record-later : (what : List Declaration) (scripts : Scripts) → WroteRecord brands R what scripts status held holds told tells before now v w → WroteRecord brands R what scripts status held holds told tells before now u w
    record-later what scripts r = record { entries = r.entries; whole = r.whole; text = r.text; line = r.line; left = changes-later true r.entries r.left }

    pub runs-later : (what : List Declaration) (scripts : Scripts) → RunsOn brands R what scripts status held holds told tells before now v w → RunsOn brands R what scripts status held holds told tells before now u w
    runs-later what scripts run = record {
      done = λ d. record-later what scripts (run.done d);
      memory = λ m. part-later true what scripts held holds (run.memory m);
      disk = λ d. part-later false what scripts held holds (run.disk d);
      only = run.only;
    }

    lives-later : (input : Input) → LivesOn brands R input status held holds told tells before now v w → LivesOn brands R input status held holds told tells before now u w
    lives-later input l = record {
      done = λ d. ((l.done d).0, record-later (declared_in input.events) (typed_in input.events) (l.done d).1);
      ended = λ e. let c = l.ended e in record { text = c.text; line = c.line; left = keeps-later c.left };
      memory = λ m. part-later true (declared_in input.events) (typed_in input.events) held holds (l.memory m);
      disk = λ d. part-later false (declared_in input.events) (typed_in input.events) held holds (l.disk d);
      read = λ f. let n = l.read f in record { nothing = n.nothing; left = keeps-later n.left };
      form = l.form;
      store = l.store;
    }

    pub some-later : (bytes : Option (List ℕ)) → LivesOnSome brands R bytes status held holds told tells before now v w → LivesOnSome brands R bytes status held holds told tells before now u w
    some-later bytes l = record { input = l.input; said = l.said; runs = lives-later l.input l.runs }

-- what holds of what is known
if-known : {A : Type 0} (P Q : A → Type 0) (o : Option A) → IfSome o P → ((a : A) → P a → Q a) → IfSome o Q
if-known P Q None holds lead = tt
if-known P Q (Some a) holds lead = lead a holds

pub if-always : {A : Type 0} (Q : A → Type 0) (o : Option A) → ((a : A) → Q a) → IfSome o Q
if-always Q None all = tt
if-always Q (Some a) all = all a

-- the run of a known input
pub lives-known : (brands : List Tabled) (R : List Commit) (bytes : Option (List ℕ)) (status : ℕ) (held holds told tells : Option (List ℕ)) (before now : ℕ) (v w : View)
    → LivesOnSome brands R bytes status held holds told tells before now v w → IfSome bytes (λ all. LivesOn brands R (input_of all) status held holds told tells before now v w)
lives-known brands R bytes status held holds told tells before now v w l =
    if-known _ _ bytes l.said (λ all is. subst (λ (i : Input). LivesOn brands R i status held holds told tells before now v w) is l.runs)

-- the words
pub one-word : {A : Type 0} (f : A → List ℕ) (words : List A) (a : A) → 1 ≤ length words → length words < 2 → a ≡ slice_index_or words 0 a → map f words ≡ f a ∷ []
one-word f [] a h k first = absurd (omega (arith, h))
one-word f (x ∷ []) a h k first = ap (λ y. f y ∷ []) (sym first)
one-word f (x ∷ y ∷ words) a h k first = absurd (omega (arith, k))

-- the status of a fault before sessions ran
pub status-either : (fault : RunFault) (status : ℕ) → (fault ≡ No_memory) ⊎ (fault ≡ Disk) → status ≡ fault_status fault → (status ≡ status_no_memory) ⊎ (status ≡ status_disk_fault)
status-either fault status (inl is) told = inl (told ∙ ap fault_status is)
status-either fault status (inr is) told = inr (told ∙ ap fault_status is)

pub status-reading : (fault : ReadFault) (status : ℕ) → status ≡ fault_status (run_fault_of fault) → (status ≡ status_read_fault) ⊎ (status ≡ status_no_memory)
status-reading No_room status told = inr told
status-reading Failed status told = inl told

module _ (status out_before out_now : ℕ) (told tells : Option (List ℕ)) (before now : ℕ) where
  -- what a fault is told as since an earlier moment
  pub faults-later : (u v w : View) → u.faults ≤ v.faults → TellsFaults status out_before out_now told tells before now v w → TellsFaults status out_before out_now told tells before now u w
  faults-later u v w later f = record { write = f.write; disk = λ is. let rose = f.disk is in omega (arith, later, rose); disk_line = f.disk_line; memory_line = f.memory_line }

  -- before sessions ran
  pub faults-failed : (fault : RunFault) (v w : View) → (status ≡ status_no_memory) ⊎ (status ≡ status_disk_fault) → (fault ≡ Disk → Rose v.faults w.faults) → (status ≡ status_disk_fault → (fault ≡ Disk) × TakesFront told tells before now disk_fault_line)
      → (status ≡ status_no_memory → (fault ≡ No_memory) × TakesFront told tells before now memory_line) → TellsFaults status out_before out_now told tells before now v w
  faults-failed fault v w either rose disk memory = record { write = λ is. absurd (grind (arith, is, either)); disk = λ is. rose (disk is).0; disk_line = λ is. (disk is).1; memory_line = λ is. (memory is).1 }

  -- and of reading
  pub faults-read : (v w : View) → (status ≡ status_read_fault) ⊎ (status ≡ status_no_memory) → (status ≡ status_no_memory → TakesFront told tells before now memory_line) → TellsFaults status out_before out_now told tells before now v w
  faults-read v w either memory = record { write = λ is. absurd (grind (arith, is, either)); disk = λ is. absurd (grind (arith, is, either)); disk_line = λ is. absurd (grind (arith, is, either)); memory_line = memory }

-- the status of a fault of reading
pub status-read : (fault : ReadFault) (status : ℕ) → status ≡ fault_status (run_fault_of fault) → (status ≡ status_read_fault) ⊎ ((status ≡ status_no_memory) ⊎ (status ≡ status_disk_fault))
status-read No_room status told = inr (inl told)
status-read Failed status told = inl told

-- What a run has written, by its status: from how its trace ended, and from the calls that end it.
use Rattle.std.proofs.Common.{◌≡◌, ◌≤◌, ◌⊎◌, inl, inr, ℕ, List, [], Option, Some, None, IfSome, Ok, Err, refl, ap, sym, subst, ◌∙◌, arith}
use Rattle.std.specs.Prelude.{IsErrOf, IsOk}
use Rattle.zn_io.specs.Disk.{View}
use Rattle.zn_io.specs.Streams.{TakesFront, after_known}
use Rattle.brand_hooks.specs.Brands.{Tabled}
use Rattle.commit_journal.specs.declared.fault.StoreFault.{StoreFault}
use Rattle.commit_journal.specs.declared.records.Commit.{Commit}
use Rattle.zones_run.specs.Complaints.{IsOfInput, complaint_status, complaint_text}
use Rattle.zones_run.specs.Output.{Output}
use Rattle.zones_run.specs.Program.{AnswersTrace}
use Rattle.zones_run.specs.Recording.{RanAs, RanBy}
use Rattle.zones_run.specs.Run.{HasFront, IsDecided, IsWhole, TakesFronts, TellsLine, TellsText, fault_status, write_fault_line}
use Rattle.zones_run.specs.Statuses.{status_disk_fault, status_no_memory, status_not_a_store, status_read_fault, status_refused, status_write_fault}
use Rattle.zones_run.specs.Tracing.{EndsAs, Tells, left_to_tell, traced}
use Rattle.zones_run.specs.declared.fault.RunFault.{RunFault}
use Rattle.zones_run.specs.declared.words.Mode.{Mode}
use Rattle.zones_run.specs.declared.fault.RunFault.TheVariants.{Disk, Memory, Read, Write}
use Rattle.zones_run.specs.declared.outcome.Complaint.{Complaint}
use Rattle.zones_run.specs.declared.outcome.Complaint.TheVariants.{BadGrant, End, FirstRefused, FirstRefusedEntry, Grammar, Limit, Line, NotAStore}
use Rattle.zones_run.proofs.Fronts.{after_known-nil, behind_nothing}
use Rattle.zones_run.proofs.TraceEnds.{ends_run, fails_with, lines_some, whole_front, whole_replies}
use Rattle.zones_run.proofs.TraceRecords.{nearly_all}

-- the line was written, or standard error failed, or memory ran out
abbrev pub Complained : ℕ → Complaint → Type 0
Complained status complaint = (status ≡ complaint_status complaint) ⊎ ((status ≡ status_write_fault) ⊎ (status ≡ status_no_memory))

pub status_told : (status : ℕ) (complaint : Complaint) → Complained status complaint → IsDecided status → status ≡ complaint_status complaint
status_told status complaint (inl same) decided = same
status_told status complaint (inr (inl failed)) decided = absurd (grind (arith, decided, failed))
status_told status complaint (inr (inr failed)) decided = absurd (grind (arith, decided, failed))

some_status : (complaint : Complaint) → status_refused ≤ complaint_status complaint
some_status (Line number refusal) = omega arith
some_status (End refusal) = omega arith
some_status (Grammar number fault) = omega arith
some_status (BadGrant number) = omega arith
some_status (FirstRefused number) = omega arith
some_status (FirstRefusedEntry number) = omega arith
some_status (Limit number) = omega arith
some_status (NotAStore fault) = omega arith

no_fault_status : (complaint : Complaint) → complaint_status complaint ≡ status_read_fault → ⊥
no_fault_status (Line number refusal) is = omega arith
no_fault_status (End refusal) is = omega arith
no_fault_status (Grammar number fault) is = omega arith
no_fault_status (BadGrant number) is = omega arith
no_fault_status (FirstRefused number) is = omega arith
no_fault_status (FirstRefusedEntry number) is = omega arith
no_fault_status (Limit number) is = omega arith
no_fault_status (NotAStore fault) is = omega arith

pub never_read : (status : ℕ) (complaint : Complaint) → Complained status complaint → status ≡ status_read_fault → ⊥
never_read status complaint (inl same) is = no_fault_status complaint (sym same ∙ is)
never_read status complaint (inr (inl failed)) is = omega arith
never_read status complaint (inr (inr failed)) is = omega arith

-- a complaint of the input is none of a store
input_status : (complaint : Complaint) → IsOfInput complaint → complaint_status complaint ≡ status_not_a_store → ⊥
input_status (Line number refusal) of is = omega (arith, is)
input_status (End refusal) of is = omega (arith, is)
input_status (Grammar number fault) of is = omega (arith, is)
input_status (BadGrant number) of is = omega (arith, is)
input_status (FirstRefused number) of is = omega (arith, is)
input_status (FirstRefusedEntry number) of is = omega (arith, is)
input_status (Limit number) of is = omega (arith, is)
input_status (NotAStore fault) of is = of

pub never_store : (status : ℕ) (complaint : Complaint) → Complained status complaint → IsOfInput complaint → status ≡ status_not_a_store → ⊥
never_store status complaint (inl same) of is = input_status complaint of (sym same ∙ is)
never_store status complaint (inr (inl failed)) of is = omega (arith, failed, is)
never_store status complaint (inr (inr failed)) of is = omega (arith, failed, is)

-- a trace over what is no store is never whole
pub never_whole : (status : ℕ) (fault : StoreFault) → Complained status (NotAStore fault) → IsWhole status → ⊥
never_whole status fault (inl same) whole = grind (arith, same, whole)
never_whole status fault (inr (inl failed)) whole = grind (arith, failed, whole)
never_whole status fault (inr (inr failed)) whole = grind (arith, failed, whole)

refused_told : (status : ℕ) (complaint : Complaint) → Complained status complaint → status ≤ status_refused → status ≡ status_refused
refused_told status complaint (inl same) low = omega (arith, same, low, some_status complaint)
refused_told status complaint (inr (inl failed)) low = absurd (omega (arith, failed, low))
refused_told status complaint (inr (inr failed)) low = absurd (omega (arith, failed, low))

-- standard error, where nothing was written, and where a complaint was
pub line_nothing : (held holds : Option (List ℕ)) (before now : ℕ) (status : ℕ) → holds ≡ held → (status ≡ status_write_fault → TakesFronts held holds before now [] write_fault_line) → TellsLine [] status held holds before now
line_nothing held holds before now status same failed = record {
  tried = λ d. record { count = 0; taken = same ∙ sym (after_known-nil held); whole = inr (omega arith) };
  whole = λ low. same ∙ sym (after_known-nil held);
  failed = failed;
}

pub line_complained : (status : ℕ) (complaint : Complaint) (held holds : Option (List ℕ)) (before now : ℕ) → Complained status complaint → (status ≡ status_refused → holds ≡ after_known held (complaint_text complaint)) → (IsDecided status → TakesFront held holds before now (complaint_text complaint))
    → (status ≡ status_write_fault → TakesFronts held holds before now (complaint_text complaint) write_fault_line) → TellsLine (complaint_text complaint) status held holds before now
line_complained status complaint held holds before now is refused tried failed = record {
  tried = tried;
  whole = λ low. refused (refused_told status complaint is low);
  failed = failed;
}

undecided_status : (fault : RunFault) (status : ℕ) → status ≡ fault_status fault → IsDecided status → ⊥
undecided_status Memory status is decided = grind (arith, is, decided)
undecided_status Read status is decided = grind (arith, is, decided)
undecided_status Write status is decided = grind (arith, is, decided)
undecided_status Disk status is decided = grind (arith, is, decided)

high_status : (fault : RunFault) (status : ℕ) → status ≡ fault_status fault → status ≤ status_refused → ⊥
high_status Memory status is low = omega (arith, is, low)
high_status Read status is low = omega (arith, is, low)
high_status Write status is low = omega (arith, is, low)
high_status Disk status is low = omega (arith, is, low)

-- and where a fault ended the run, before any line of its own
pub line_failed : (line : List ℕ) (fault : RunFault) (status : ℕ) (held holds : Option (List ℕ)) (before now : ℕ) → status ≡ fault_status fault → (status ≡ status_write_fault → TakesFront held holds before now write_fault_line) → TellsLine line status held holds before now
line_failed line fault status held holds before now is write = record {
  tried = λ d. absurd (undecided_status fault status is d);
  whole = λ low. absurd (high_status fault status is low);
  failed = λ f. behind_nothing held holds before now line write_fault_line (write f);
}

-- standard output, where a fault ended the run
pub text_failed : (o : Output) (fault : RunFault) (status : ℕ) (held holds : Option (List ℕ)) → status ≡ fault_status fault → (status ≡ status_write_fault → HasFront held holds o.out) → TellsText o status held holds
text_failed o fault status held holds is front = record { decided = λ d. absurd (undecided_status fault status is d); front = front }

-- where nothing was to be written
pub text_nothing : (o : Output) (status : ℕ) (held : Option (List ℕ)) → o.out ≡ [] → (IsDecided status → status ≡ o.status) → TellsText o status held held
text_nothing o status held none is = record {
  decided = λ d. record { status_is = is d; taken = sym (after_known-nil held) ∙ ap (after_known held) (sym none) };
  front = λ f. record { count = 0; taken = sym (after_known-nil held) };
}

pub if_some : {A : Type 0} (P : A → Type 0) (o : Option A) → ((a : A) → P a) → IfSome o P
if_some P None all = tt
if_some P (Some a) all = all a

-- the text of a trace that came to an end
pub text_told : (mode : Mode) (brands : List Tabled) (R : List Commit) (complaint : Option Complaint) (status : ℕ) (held holds input : Option (List ℕ)) → (IsDecided status → status ≡ (left_to_tell complaint).status) → IfSome input (λ bytes. Tells complaint held holds (traced mode brands R bytes))
    → IfSome input (λ bytes. TellsText (traced mode brands R bytes) status held holds)
text_told mode brands R complaint status held holds None is tells = tt
text_told mode brands R complaint status held holds (Some bytes) is tells = record {
  decided = λ d. record { status_is = is d ∙ ap (λ (o : Output). o.status) tells.rest; taken = tells.taken };
  front = λ f. whole_front mode brands R complaint held holds (Some bytes) tells;
}

pub line_told : (mode : Mode) (brands : List Tabled) (R : List Commit) (complaint : Option Complaint) (status : ℕ) (held holds input err_held err_holds : Option (List ℕ)) (before now : ℕ) → TellsLine (left_to_tell complaint).err status err_held err_holds before now → IfSome input (λ bytes. Tells complaint held holds (traced mode brands R bytes))
    → IfSome input (λ bytes. TellsLine (traced mode brands R bytes).err status err_held err_holds before now)
line_told mode brands R complaint status held holds None err_held err_holds before now line tells = tt
line_told mode brands R complaint status held holds (Some bytes) err_held err_holds before now line tells = subst (λ text. TellsLine text status err_held err_holds before now) (ap (λ (o : Output). o.err) tells.rest) line

-- the text of one that a fault ended
ends_front : (mode : Mode) (brands : List Tabled) (R : List Commit) (fault : RunFault) (status : ℕ) (held holds told left input : Option (List ℕ)) → status ≡ fault_status fault → EndsAs mode brands R (Err fault) input left held holds told → status ≡ status_write_fault → IfSome input (λ bytes. HasFront held holds (traced mode brands R bytes).out)
ends_front mode brands R Write status held holds told left input is ends f = ends.0
ends_front mode brands R Memory status held holds told left input is ends f = absurd (omega (arith, is, f))
ends_front mode brands R Read status held holds told left input is ends f = absurd (omega (arith, is, f))
ends_front mode brands R Disk status held holds told left input is ends f = absurd (omega (arith, is, f))

pub text_ended : (mode : Mode) (brands : List Tabled) (R : List Commit) (fault : RunFault) (status : ℕ) (held holds told left input : Option (List ℕ)) → status ≡ fault_status fault → EndsAs mode brands R (Err fault) input left held holds told → IfSome input (λ bytes. TellsText (traced mode brands R bytes) status held holds)
text_ended mode brands R fault status held holds told left None is ends = tt
text_ended mode brands R fault status held holds told left (Some bytes) is ends = text_failed (traced mode brands R bytes) fault status held holds is (ends_front mode brands R fault status held holds told left (Some bytes) is ends)

-- what a trace has taken and answered
pub answers_told : (mode : Mode) (brands : List Tabled) (R : List Commit) (complaint : Option Complaint) (status : ℕ) (held holds left input : Option (List ℕ)) → (status ≡ status_read_fault → ⊥) → EndsAs mode brands R (Ok complaint) input left held holds holds → AnswersTrace mode brands R status input left held holds
answers_told mode brands R complaint status held holds left input never ends = record {
  taken = ends_run mode brands R (Ok complaint) held holds holds left input ends;
  some = λ s. whole_replies mode brands R complaint held holds input ends.0;
  failed = λ f. lines_some mode brands R held holds left input ends.1;
  read = λ r. absurd (never r);
}

pub answers_failed : (mode : Mode) (brands : List Tabled) (R : List Commit) (fault : RunFault) (status : ℕ) (held holds left input : Option (List ℕ)) → status ≡ fault_status fault → EndsAs mode brands R (Err fault) input left held holds holds → AnswersTrace mode brands R status input left held holds
answers_failed mode brands R Memory status held holds left input is ends =
    record { taken = ends_run mode brands R (Err Memory) held holds holds left input ends; some = λ s. ends.0; failed = λ f. ends.1; read = λ r. absurd (omega (arith, is, r)) }
answers_failed mode brands R Disk status held holds left input is ends =
    record { taken = ends_run mode brands R (Err Disk) held holds holds left input ends; some = λ s. ends.0; failed = λ f. ends.1; read = λ r. absurd (omega (arith, is, r)) }
answers_failed mode brands R Read status held holds left input is ends =
    record { taken = ends_run mode brands R (Err Read) held holds holds left input ends; some = λ s. ends.0; failed = λ f. absurd (grind (arith, is, f)); read = λ r. ends.1 }
answers_failed mode brands R Write status held holds left input is ends =
    record { taken = ends_run mode brands R (Err Write) held holds holds left input ends; some = λ s. absurd (grind (arith, is, s)); failed = λ f. absurd (grind (arith, is, f)); read = λ r. absurd (omega (arith, is, r)) }

-- what it has recorded
pub ran_told : (mode : Mode) (brands : List Tabled) (R : List Commit) (complaint : Option Complaint) (status : ℕ) (input held holds : Option (List ℕ)) (v w : View) → RanAs mode brands R (Ok complaint) input held holds v w → RanBy mode brands R status input held holds v w
ran_told mode brands R complaint status input held holds v w ran = record {
  answered = ran.answered;
  under_way = ran.under_way;
  records = ran.records;
  settled = λ clear. ran.settled (λ h. cc);
  all = λ w. ran.all refl;
  replies = λ t. ran.replies (inr (inr refl));
  nearly = λ t. nearly_all mode ran.answered held holds (ran.replies (inr (inr refl)));
}

module _ (mode : Mode) (brands : List Tabled) (R : List Commit) (input held holds : Option (List ℕ)) (v w : View) where
  no_whole : (fault : RunFault) (status : ℕ) → status ≡ fault_status fault → IsWhole status → ⊥
  no_whole Disk status is whole = grind (arith, is, whole)
  no_whole Memory status is whole = grind (arith, is, whole)
  no_whole Read status is whole = grind (arith, is, whole)
  no_whole Write status is whole = grind (arith, is, whole)

  torn_status : (fault : RunFault) (status : ℕ) → status ≡ fault_status fault → IsErrOf (fails_with fault) Disk → status ≡ status_disk_fault
  torn_status Disk status is torn = is
  torn_status Memory status is torn = absurd (cc)
  torn_status Read status is torn = absurd (cc)
  torn_status Write status is torn = absurd (cc)

  told_fault : (fault : RunFault) (status : ℕ) → status ≡ fault_status fault → (status ≡ status_disk_fault) ⊎ ((status ≡ status_read_fault) ⊎ IsWhole status)
      → IsErrOf (fails_with fault) Disk ⊎ (IsErrOf (fails_with fault) Read ⊎ IsOk (fails_with fault))
  told_fault fault status is (inr (inr whole)) = absurd (no_whole fault status is whole)
  told_fault Disk status is (inl t) = inl refl
  told_fault Disk status is (inr (inl t)) = inl refl
  told_fault Read status is (inl t) = inr (inl refl)
  told_fault Read status is (inr (inl t)) = inr (inl refl)
  told_fault Memory status is (inl t) = absurd (omega (arith, is, t))
  told_fault Memory status is (inr (inl t)) = absurd (omega (arith, is, t))
  told_fault Write status is (inl t) = absurd (omega (arith, is, t))
  told_fault Write status is (inr (inl t)) = absurd (omega (arith, is, t))

  memory_fault : (fault : RunFault) (status : ℕ) → status ≡ fault_status fault → status ≡ status_no_memory → IsErrOf (fails_with fault) Memory
  memory_fault Memory status is m = refl
  memory_fault Disk status is m = absurd (omega (arith, is, m))
  memory_fault Read status is m = absurd (omega (arith, is, m))
  memory_fault Write status is m = absurd (omega (arith, is, m))

  pub ran_failed : (fault : RunFault) (status : ℕ) → status ≡ fault_status fault → RanAs mode brands R (Err fault) input held holds v w → RanBy mode brands R status input held holds v w
  ran_failed fault status is ran = record {
    answered = ran.answered;
    under_way = ran.under_way;
    records = ran.records;
    settled = λ clear. ran.settled (λ h. clear (torn_status fault status is h));
    all = λ whole. absurd (no_whole fault status is whole);
    replies = λ t. ran.replies (told_fault fault status is t);
    nearly = λ m. ran.nearly (memory_fault fault status is m);
  }

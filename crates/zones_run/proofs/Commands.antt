-- What each command comes to, as its words say.
use Rattle.std.proofs.Common.{◌≡◌, ◌⊎◌, inl, inr, ℕ, List, [], Option, Some, None, IfSome, refl, sym, subst, ◌∙◌, arith}
use Rattle.std.specs.Option.{option_map}
use Rattle.zn_io.specs.Disk.{View}
use Rattle.zn_io.specs.Streams.{TakesFront, after_known}
use Rattle.brand_hooks.specs.Brands.{Tabled}
use Rattle.commit_journal.specs.declared.records.Commit.{Commit}
use Rattle.zones_run.specs.Exporting.{exported}
use Rattle.zones_run.specs.Fixed.{help_text, usage_text, version_text}
use Rattle.zones_run.specs.Obeyed.{ObeysLines, ObeysRead}
use Rattle.zones_run.specs.Opening.{Found}
use Rattle.zones_run.specs.Output.{Output, written}
use Rattle.zones_run.specs.Program.{AnswersOn, AsksNothing, HasAnswered, HasRecorded, ObeysInput, RecordsOver, done_on, output_for}
use Rattle.zones_run.specs.Run.{HasFront, TakesFronts, TellsLine, TellsText, fault_status, run_fault_of, write_fault_line}
use Rattle.zones_run.specs.Statuses.{status_done, status_usage, status_write_fault}
use Rattle.input_lines.specs.declared.lines.ReadFault.{ReadFault}
use Rattle.input_lines.specs.declared.lines.ReadFault.TheVariants.{Failed, Memory as No_memory}
use Rattle.zones_run.specs.declared.outcome.Complaint.{Complaint}
use Rattle.zones_run.specs.declared.words.Command.{Command}
use Rattle.zones_run.specs.declared.words.Command.TheVariants.{Export, Help, OnStore, Version}
use Rattle.zones_run.specs.declared.words.Task.{Task}
use Rattle.zones_run.proofs.Fronts.{after_known-nil}
use Rattle.zones_run.proofs.Telling.{Complained, never_read}

-- what holds of the output of a command holds of the output of words that say it
pub if_mapped : {A B : Type 0} (f : A → B) (P : B → Type 0) (o : Option A) → IfSome o (λ a. P (f a)) → IfSome (option_map f o) P
if_mapped f P None h = tt
if_mapped f P (Some a) h = h

module _ (brands : List Tabled) (command : Option Command) (found : Found) (input : Option (List ℕ)) (P : Output → Type 0) where
  pub for_export : command ≡ Some Export → IfSome input (λ bytes. P (exported bytes)) → IfSome (output_for brands command found input) P
  for_export is holds = subst (λ (c : Option Command). IfSome (output_for brands c found input) P) (sym is) (if_mapped exported P input holds)

  pub for_store : (task : Task) → command ≡ Some (OnStore task) → IfSome (done_on task brands found input) P → IfSome (output_for brands command found input) P
  for_store task is holds = subst (λ (c : Option Command). IfSome (output_for brands c found input) P) (sym is) holds

  pub for_help : command ≡ Some Help → P (written help_text) → IfSome (output_for brands command found input) P
  for_help is holds = subst (λ (c : Option Command). IfSome (output_for brands c found input) P) (sym is) holds

  pub for_version : command ≡ Some Version → P (written version_text) → IfSome (output_for brands command found input) P
  for_version is holds = subst (λ (c : Option Command). IfSome (output_for brands c found input) P) (sym is) holds

  pub for_usage : command ≡ None → P (record { status = status_usage; out = []; err = usage_text }) → IfSome (output_for brands command found input) P
  for_usage is holds = subst (λ (c : Option Command). IfSome (output_for brands c found input) P) (sym is) holds

-- an output that is that of the whole input
pub by_outcome : (P : Output → Type 0) (o : Output) (input : Option (List ℕ)) → IfSome input (λ bytes. o ≡ exported bytes) → P o → IfSome input (λ bytes. P (exported bytes))
by_outcome P o None is holds = tt
by_outcome P o (Some bytes) is holds = subst P is holds

-- a text was written, or standard output failed
abbrev pub Written : ℕ → Type 0
Written status = (status ≡ status_done) ⊎ (status ≡ status_write_fault)

pub text_written : (text : List ℕ) (status : ℕ) (held holds : Option (List ℕ)) → Written status → (status ≡ status_done → holds ≡ after_known held text) → (status ≡ status_write_fault → HasFront held holds text) → TellsText (written text) status held holds
text_written text status held holds (inl is) all front = record { decided = λ d. record { status_is = is; taken = all is }; front = front }
text_written text status held holds (inr is) all front = record { decided = λ d. absurd (grind (arith, is, d)); front = front }

pub line_written : (status : ℕ) (held holds : Option (List ℕ)) (before now : ℕ) → Written status → (status ≡ status_done → holds ≡ held) → (status ≡ status_write_fault → TakesFronts held holds before now [] write_fault_line) → TellsLine [] status held holds before now
line_written status held holds before now (inl is) quiet failed = record {
  tried = λ d. record { count = 0; taken = quiet is ∙ sym (after_known-nil held); whole = inr (omega arith) };
  whole = λ low. quiet is ∙ sym (after_known-nil held);
  failed = failed;
}
line_written status held holds before now (inr is) quiet failed =
    record { tried = λ d. absurd (grind (arith, is, d)); whole = λ low. absurd (omega (arith, is, low)); failed = failed }

-- the words are no form of the command line
pub text_usage : (held : Option (List ℕ)) → TellsText (record { status = status_usage; out = []; err = usage_text }) status_usage held held
text_usage held = record { decided = λ d. record { status_is = refl; taken = sym (after_known-nil held) }; front = λ f. absurd (omega (arith, f)) }

pub line_usage : (held holds : Option (List ℕ)) (before now : ℕ) → TakesFront held holds before now usage_text → TellsLine usage_text status_usage held holds before now
line_usage held holds before now front = record { tried = λ d. front; whole = λ low. absurd (omega (arith, low)); failed = λ f. absurd (omega (arith, f)) }

-- a fault of reading is none of writing
pub never_write : (status : ℕ) (fault : ReadFault) → status ≡ fault_status (run_fault_of fault) → status ≡ status_write_fault → ⊥
never_write status Failed is f = omega (arith, is, f)
never_write status No_memory is f = omega (arith, is, f)

-- what each command has answered and recorded
module _ (brands : List Tabled) (command : Option Command) (found : Found) (status : ℕ) (input left held holds : Option (List ℕ)) where
  pub answers_export : command ≡ Some Export → ObeysInput status input left held holds → HasAnswered brands command found status input left held holds
  answers_export is obeys = subst (λ (c : Option Command). HasAnswered brands c found status input left held holds) (sym is) obeys

  pub answers_store : (task : Task) → command ≡ Some (OnStore task) → AnswersOn task brands found status input left held holds → HasAnswered brands command found status input left held holds
  answers_store task is answers = subst (λ (c : Option Command). HasAnswered brands c found status input left held holds) (sym is) answers

  pub answers_help : command ≡ Some Help → AsksNothing status input left held holds → HasAnswered brands command found status input left held holds
  answers_help is same = subst (λ (c : Option Command). HasAnswered brands c found status input left held holds) (sym is) same

  pub answers_version : command ≡ Some Version → AsksNothing status input left held holds → HasAnswered brands command found status input left held holds
  answers_version is same = subst (λ (c : Option Command). HasAnswered brands c found status input left held holds) (sym is) same

  pub answers_usage : command ≡ None → AsksNothing status input left held holds → HasAnswered brands command found status input left held holds
  answers_usage is same = subst (λ (c : Option Command). HasAnswered brands c found status input left held holds) (sym is) same

module _ (status : ℕ) (input left held holds : Option (List ℕ)) where
  pub asks_written : Written status → left ≡ input → AsksNothing status input left held holds
  asks_written (inl is) taken = record { taken = taken; nothing = λ f. absurd (grind (arith, is, f)) }
  asks_written (inr is) taken = record { taken = taken; nothing = λ f. absurd (grind (arith, is, f)) }

  pub obeys_written : Written status → IfSome input (λ _. ObeysLines input left) → ObeysInput status input left held holds
  obeys_written (inl is) taken = record { taken = taken; nothing = λ f. absurd (grind (arith, is, f)); read = λ r. absurd (omega (arith, is, r)) }
  obeys_written (inr is) taken = record { taken = taken; nothing = λ f. absurd (grind (arith, is, f)); read = λ r. absurd (omega (arith, is, r)) }

  pub obeys_complained : (complaint : Complaint) → Complained status complaint → holds ≡ held → IfSome input (λ _. ObeysLines input left) → ObeysInput status input left held holds
  obeys_complained complaint is same taken = record { taken = taken; nothing = λ f. same; read = λ r. absurd (never_read status complaint is r) }

  pub obeys_failed : (fault : ReadFault) → status ≡ fault_status (run_fault_of fault) → holds ≡ held → IfSome input (λ _. ObeysLines input left) → (fault ≡ Failed → IfSome input (λ _. ObeysRead input left)) → ObeysInput status input left held holds
  obeys_failed Failed is same taken read = record { taken = taken; nothing = λ f. same; read = λ r. read refl }
  obeys_failed No_memory is same taken read = record { taken = taken; nothing = λ f. same; read = λ r. absurd (omega (arith, is, r)) }

module _ (brands : List Tabled) (command : Option Command) (R : List Commit) (status : ℕ) (input held holds : Option (List ℕ)) (v w : View) where
  pub records_store : (task : Task) → command ≡ Some (OnStore task) → RecordsOver task brands R status input held holds v w → HasRecorded brands command R status input held holds v w
  records_store task is ran = subst (λ (c : Option Command). HasRecorded brands c R status input held holds v w) (sym is) ran

  pub records_export : command ≡ Some Export → HasRecorded brands command R status input held holds v w
  records_export is = subst (λ (c : Option Command). HasRecorded brands c R status input held holds v w) (sym is) tt

  pub records_help : command ≡ Some Help → HasRecorded brands command R status input held holds v w
  records_help is = subst (λ (c : Option Command). HasRecorded brands c R status input held holds v w) (sym is) tt

  pub records_version : command ≡ Some Version → HasRecorded brands command R status input held holds v w
  records_version is = subst (λ (c : Option Command). HasRecorded brands c R status input held holds v w) (sym is) tt

  pub records_usage : command ≡ None → HasRecorded brands command R status input held holds v w
  records_usage is = subst (λ (c : Option Command). HasRecorded brands c R status input held holds v w) (sym is) tt

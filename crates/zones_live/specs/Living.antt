-- What a run of live sessions comes to, over the store of some commits and a whole input.
use Rattle.std.specs.Prelude.{◌≡◌, ◌≢◌, ◌⊎◌, ◌∷◌, [], ℕ, Bool, true, false, Err, IfSome, List, Option, codes}
use Rattle.zn_io.specs.Disk.{View}
use Rattle.zn_io.specs.Streams.{Rose, TakesFront}
use Rattle.brand_hooks.specs.Brands.{Tabled}
use Rattle.commit_journal.specs.Store.{OpensStore}
use Rattle.commit_journal.specs.declared.fault.StoreFault.{StoreFault}
use Rattle.commit_journal.specs.declared.records.Commit.{Commit}
use Rattle.daemon_threads.specs.Sessions.{LeavesChanges}
use Rattle.live_input.specs.Input.{Input, input_of}
use Rattle.live_input.specs.declared.reading.Ending.{Ending}
use Rattle.live_input.specs.declared.reading.Ending.TheVariants.{End, Grammar as Bad_line, Limit as Past_limit}
use Rattle.session_records.specs.Records.{IsRunPartial, IsRunRecord, Scripts}
use Rattle.zone_cases.specs.declared.events.Declaration.{Declaration}
use Rattle.zone_cases.specs.declared.events.Entry.{Entry}
use Rattle.zone_machine.specs.Machine.{opening}
use Rattle.zone_machine.specs.Machine.Images.{Holds, IsStoreOf}
use Rattle.zones_live.specs.Records.{record_text, told_record}
use Rattle.zones_live.specs.Sorting.{declared_in, typed_in}
use Rattle.zones_run.specs.Complaints.{complaint_output, complaint_text}
use Rattle.zones_run.specs.Output.{Output, written}
use Rattle.zones_run.specs.Recording.{KeepsStore}
use Rattle.zones_run.specs.Run.{HasFront, TellsLine, TellsText, disk_fault_line, memory_line}
use Rattle.zones_run.specs.Statuses.{status_disk_fault, status_done, status_grammar, status_limit, status_no_memory, status_not_a_store, status_read_fault, status_refused, status_usage, status_write_fault}
use Rattle.zones_run.specs.declared.outcome.Complaint.TheVariants.{Grammar, Limit, NotAStore}

-- the words of the command
abbrev pub IsForm : List (List ℕ) → Type 0
IsForm words = words ≡ codes "live" ∷ []

-- the statuses of a run whose sessions came to their end
abbrev pub IsDone : ℕ → Type 0
IsDone status = (status ≡ status_done) ⊎ ((status ≡ status_refused) ⊎ (status ≡ status_write_fault))

-- the statuses of a run that wrote nothing on standard output, whatever the disk is
abbrev pub RunsNothing : ℕ → Type 0
RunsNothing status = (status ≡ status_usage) ⊎ ((status ≡ status_grammar) ⊎ ((status ≡ status_read_fault) ⊎ ((status ≡ status_not_a_store) ⊎ (status ≡ status_limit))))

-- a run that found no store on the disk, and told so
pub record FoundNone (v : View) (told tells : Option (List ℕ)) (before now : ℕ) : Type 0 where
  pub fault : StoreFault
  pub found : OpensStore v.reads (Err fault)
  pub line : TakesFront told tells before now (complaint_text (NotAStore fault))

-- a run that wrote a record of what is declared and typed, to the end or up to a fault of a sink; and where the disk was the store of
-- the commits, on it is what the record changed
pub record WroteRecord (brands : List Tabled) (R : List Commit) (declared : List Declaration) (scripts : Scripts) (status : ℕ) (held holds told tells : Option (List ℕ)) (before now : ℕ) (v w : View) : Type 0 where
  pub entries : List Entry
  pub whole : IsRunRecord brands R declared scripts entries
  pub text : TellsText (told_record entries) status held holds
  pub line : TellsLine (told_record entries).err status told tells before now
  pub left : IsStoreOf v R → LeavesChanges true (opening brands R) entries v w

-- a run that a fault ended: what was answered is a part of such a record, or nothing was; and a front of its text was written.
-- Where the disk failed, one more commit may have been under way
pub record WrotePart (settled : Bool) (brands : List Tabled) (R : List Commit) (declared : List Declaration) (scripts : Scripts) (held holds : Option (List ℕ)) (v w : View) : Type 0 where
  pub entries : List Entry
  pub part : (entries ≡ []) ⊎ IsRunPartial brands R declared scripts entries
  pub text : HasFront held holds (record_text entries)
  pub left : IsStoreOf v R → LeavesChanges settled (opening brands R) entries v w

-- a fault is told only where one came: by its status, and by its line on standard error
pub record TellsFaults (status : ℕ) (out_before out_now : ℕ) (told tells : Option (List ℕ)) (before now : ℕ) (v w : View) : Type 0 where
  pub write : status ≡ status_write_fault → Rose out_before out_now ⊎ Rose before now
  pub disk : status ≡ status_disk_fault → Rose v.faults w.faults
  pub disk_line : status ≡ status_disk_fault → TakesFront told tells before now disk_fault_line
  pub memory_line : status ≡ status_no_memory → TakesFront told tells before now memory_line

-- what is declared and typed was run, by the status
pub record RunsOn (brands : List Tabled) (R : List Commit) (declared : List Declaration) (scripts : Scripts) (status : ℕ) (held holds told tells : Option (List ℕ)) (before now : ℕ) (v w : View) : Type 0 where
  pub done : IsDone status → WroteRecord brands R declared scripts status held holds told tells before now v w
  pub memory : status ≡ status_no_memory → WrotePart true brands R declared scripts held holds v w
  pub disk : status ≡ status_disk_fault → WrotePart false brands R declared scripts held holds v w
  pub only : IsDone status ⊎ ((status ≡ status_no_memory) ⊎ (status ≡ status_disk_fault))

-- nothing was run
pub record WroteNothing (R : List Commit) (held holds : Option (List ℕ)) (v w : View) : Type 0 where
  pub nothing : holds ≡ held
  pub left : IsStoreOf v R → KeepsStore R v w

-- a run that a line of the input ended before anything was run
pub record WroteComplaint (o : Output) (R : List Commit) (status : ℕ) (held holds told tells : Option (List ℕ)) (before now : ℕ) (v w : View) : Type 0 where
  pub text : TellsText o status held holds
  pub line : TellsLine o.err status told tells before now
  pub left : IsStoreOf v R → KeepsStore R v w

-- what a line that ends an input is told as
abbrev pub ending_output : Ending → Output
ending_output End = written []
ending_output (Bad_line number fault) = complaint_output (Grammar number fault)
ending_output (Past_limit number) = complaint_output (Limit number)

-- the run of a whole input, over the store of some commits, by its status. The record is whole just where its input was read to its end;
-- where memory or the disk failed it is a part, and where the source failed or a line ended the input nothing was run
pub record LivesOn (brands : List Tabled) (R : List Commit) (input : Input) (status : ℕ) (held holds told tells : Option (List ℕ)) (before now : ℕ) (v w : View) : Type 0 where
  pub done : IsDone status → (input.ending ≡ End) × WroteRecord brands R (declared_in input.events) (typed_in input.events) status held holds told tells before now v w
  pub ended : (status ≡ status_grammar) ⊎ (status ≡ status_limit) → WroteComplaint (ending_output input.ending) R status held holds told tells before now v w
  pub memory : status ≡ status_no_memory → WrotePart true brands R (declared_in input.events) (typed_in input.events) held holds v w
  pub disk : status ≡ status_disk_fault → WrotePart false brands R (declared_in input.events) (typed_in input.events) held holds v w
  pub read : status ≡ status_read_fault → WroteNothing R held holds v w
  pub form : status ≢ status_usage
  pub store : status ≢ status_not_a_store

-- the run of an input of which perhaps nothing is known: of some input, and of just the known one where one is
pub record LivesOnSome (brands : List Tabled) (R : List Commit) (bytes : Option (List ℕ)) (status : ℕ) (held holds told tells : Option (List ℕ)) (before now : ℕ) (v w : View) : Type 0 where
  pub input : Input
  pub said : IfSome bytes (λ all. input ≡ input_of all)
  pub runs : LivesOn brands R input status held holds told tells before now v w

-- a run that opened no store, and wrote nothing on standard output
pub record OpenedNone (status : ℕ) (held holds : Option (List ℕ)) : Type 0 where
  pub nothing : holds ≡ held
  pub only : (status ≡ status_disk_fault) ⊎ ((status ≡ status_not_a_store) ⊎ (status ≡ status_no_memory))

-- the run of an input over the store of some commits or other, which are those that the disk reads as where it keeps to its model; or a
-- run that opened none
abbrev pub LivesOverSome : List Tabled → (bytes : Option (List ℕ)) → (status : ℕ) → (held holds told tells : Option (List ℕ)) → (before now : ℕ) → (v w : View) → Type 0
LivesOverSome brands bytes status held holds told tells before now v w =
    ((R : List Commit) × (v.Keeps → Holds R v.reads) × LivesOnSome brands R bytes status held holds told tells before now v w) ⊎ OpenedNone status held holds

-- What the program writes for its words, what is on its disk and its whole input, as far as these are known, with the brands
-- that there are.
use Rattle.std.specs.Prelude.{◌≡◌, ◌⊎◌, ℕ, List, [], false, Option, Some, None, IfSome, Ok, Err}
use Rattle.std.specs.Option.{option_map}
use Rattle.zn_io.specs.Disk.{View}
use Rattle.brand_hooks.specs.Brands.{Tabled}
use Rattle.index_file.specs.Index.{index_text}
use Rattle.zone_machine.specs.Machine.Indexed.{index_of}
use Rattle.commit_journal.specs.Store.{OpensStore}
use Rattle.commit_journal.specs.declared.fault.StoreFault.{StoreFault}
use Rattle.commit_journal.specs.declared.records.Commit.{Commit}
use Rattle.zones_run.specs.Complaints.{complaint_output}
use Rattle.zones_run.specs.Statuses.{status_disk_fault, status_no_memory, status_read_fault, status_usage}
use Rattle.zones_run.specs.declared.outcome.Complaint.TheVariants.{NotAStore}
use Rattle.zones_run.specs.declared.words.Command.{Command}
use Rattle.zones_run.specs.declared.words.Command.TheVariants.{Export, OnStore, Help, Version}
use Rattle.zones_run.specs.declared.words.Task.{Task}
use Rattle.zones_run.specs.declared.words.Task.TheVariants.{Bulk, Index, Run}
use Rattle.zones_run.specs.declared.words.Mode.{Mode}
use Rattle.zones_run.specs.Fixed.{help_text, usage_text, version_text}
use Rattle.zones_run.specs.Exporting.{exported}
use Rattle.zones_run.specs.Obeyed.{ObeysLines, ObeysRead}
use Rattle.zones_run.specs.Opening.{Found}
use Rattle.zones_run.specs.Output.{Output, written}
use Rattle.zones_run.specs.Bulk.{RanBulk, bulked}
use Rattle.zones_run.specs.Recording.{KeepsStore, RanBy}
use Rattle.zones_run.specs.Run.{IsWhole, TellsLine, TellsText}
use Rattle.zones_run.specs.Tracing.{AnswersRead, AnswersSome, HasReplies, RunsLines, run_of, traced}
use Rattle.zones_run.specs.Scripts.{has_restart}
use Rattle.zones_run.specs.Words.{command_of}

-- what a command comes to over the store of some commits and the whole input
abbrev pub done_over : Task → List Tabled → List Commit → Option (List ℕ) → Option Output
done_over (Run mode) brands R input = option_map (traced mode brands R) input
done_over Index brands R input = Some (written (index_text (index_of R)))
done_over (Bulk zones) brands R input = Some (bulked zones brands R)

-- over what was found on the disk
abbrev pub done_on : Task → List Tabled → Found → Option (List ℕ) → Option Output
done_on task brands None input = None
done_on task brands (Some (Ok R)) input = done_over task brands R input
done_on task brands (Some (Err fault)) input = Some (complaint_output (NotAStore fault))

abbrev pub output_for : List Tabled → Option Command → Found → Option (List ℕ) → Option Output
output_for brands (Some Export) found input = option_map exported input
output_for brands (Some (OnStore task)) found input = done_on task brands found input
output_for brands (Some Help) found input = Some (written help_text)
output_for brands (Some Version) found input = Some (written version_text)
output_for brands None found input = Some (record { status = status_usage; out = []; err = usage_text })

-- the output for some brands and words, as far as disk and input are known
abbrev pub output_of : List Tabled → List (List ℕ) → Found → Option (List ℕ) → Option Output
output_of brands words found input = output_for brands (command_of words) found input

-- words that ask for no input: the index, a large system, the help, the version, and what is no form of the command line
abbrev pub ReadsNothing : Option Command → Type 0
ReadsNothing (Some Export) = ⊥
ReadsNothing (Some (OnStore (Run mode))) = ⊥
ReadsNothing command = Unit {0}

-- words whose command leaves the disk alone
abbrev pub OpensNothing : Option Command → Type 0
OpensNothing (Some (OnStore task)) = ⊥
OpensNothing command = Unit {0}

-- no line of the input restarts the system, or none is read
abbrev pub RestartsNothing : Task → Option (List ℕ) → Type 0
RestartsNothing (Run mode) input = (bytes : List ℕ) × (input ≡ Some bytes) × (has_restart mode bytes ≡ false)
RestartsNothing task input = Unit {0}

-- each restart finds the store: the disk keeps to its model, or there is none
abbrev pub FindsStore : Task → View → Option (List ℕ) → Type 0
FindsStore task v input = v.Keeps ⊎ RestartsNothing task input

-- a command that asks for no input takes none. Where a fault ended it, it has written nothing
pub record AsksNothing (status : ℕ) (input left held holds : Option (List ℕ)) : Type 0 where
  pub taken : left ≡ input
  pub nothing : (status ≡ status_no_memory) ⊎ ((status ≡ status_disk_fault) ⊎ (status ≡ status_read_fault)) → holds ≡ held

-- what a trace has taken of its input, and which replies it has written where a fault ended it: where memory or the disk failed
-- those of the lines taken, but for some of the last turns that are put in, and where the source failed just those, with nothing
-- taken after the beginning of the next
pub record AnswersTrace (mode : Mode) (brands : List Tabled) (R : List Commit) (status : ℕ) (input left held holds : Option (List ℕ)) : Type 0 where
  pub taken : IfSome input (λ _. RunsLines mode brands R input left)
  pub some : (status ≡ status_no_memory) ⊎ ((status ≡ status_disk_fault) ⊎ (status ≡ status_read_fault)) → IfSome input (λ bytes. HasReplies mode held holds (run_of mode brands R bytes))
  pub failed : (status ≡ status_no_memory) ⊎ (status ≡ status_disk_fault) → IfSome input (λ _. AnswersSome mode brands R input left held holds)
  pub read : status ≡ status_read_fault → IfSome input (λ _. AnswersRead mode brands R input left held holds)

abbrev pub AnswersOver : Task → List Tabled → List Commit → ℕ → (input left held holds : Option (List ℕ)) → Type 0
AnswersOver (Run mode) brands R status input left held holds = AnswersTrace mode brands R status input left held holds
AnswersOver task brands R status input left held holds = AsksNothing status input left held holds

-- where the disk is no store, a command over it takes and writes nothing
pub record AnswersNothing (input left held holds : Option (List ℕ)) : Type 0 where
  pub taken : left ≡ input
  pub nothing : holds ≡ held

-- a command over the store of some commits: its status and both texts, what it has taken of its input, and what it has written where
-- a fault ended it
pub record DoneOver (task : Task) (brands : List Tabled) (R : List Commit) (status : ℕ) (input left held holds told tells : Option (List ℕ)) (before now : ℕ) : Type 0 where
  pub text : IfSome (done_over task brands R input) (λ o. TellsText o status held holds)
  pub line : IfSome (done_over task brands R input) (λ o. TellsLine o.err status told tells before now)
  pub answered : AnswersOver task brands R status input left held holds

-- one that was cut before its first line: it has taken and written nothing, and no status of a whole run
pub record DoneNothing (status : ℕ) (input left held holds : Option (List ℕ)) : Type 0 where
  pub answers : AnswersNothing input left held holds
  pub cut : IsWhole status → ⊥

-- one over the store of some commits or other, or one that was cut before its first line
abbrev pub DoneOverSome : Task → List Tabled → ℕ → (input left held holds told tells : Option (List ℕ)) → (before now : ℕ) → Type 0
DoneOverSome task brands status input left held holds told tells before now = ((R : List Commit) × DoneOver task brands R status input left held holds told tells before now) ⊎ DoneNothing status input left held holds

-- what `export` has taken: lines that it has obeyed. Where a fault ended it, it has written nothing
pub record ObeysInput (status : ℕ) (input left held holds : Option (List ℕ)) : Type 0 where
  pub taken : IfSome input (λ _. ObeysLines input left)
  pub nothing : (status ≡ status_no_memory) ⊎ ((status ≡ status_disk_fault) ⊎ (status ≡ status_read_fault)) → holds ≡ held
  pub read : status ≡ status_read_fault → IfSome input (λ _. ObeysRead input left)

abbrev pub AnswersOn : Task → List Tabled → Found → ℕ → (input left held holds : Option (List ℕ)) → Type 0
AnswersOn task brands None status input left held holds = Unit {0}
AnswersOn task brands (Some (Ok R)) status input left held holds = AnswersOver task brands R status input left held holds
AnswersOn task brands (Some (Err fault)) status input left held holds = AnswersNothing input left held holds

-- what a command has taken of its input, and what it has written where a fault ended it
abbrev pub HasAnswered : List Tabled → Option Command → Found → ℕ → (input left held holds : Option (List ℕ)) → Type 0
HasAnswered brands (Some Export) found status input left held holds = ObeysInput status input left held holds
HasAnswered brands (Some (OnStore task)) found status input left held holds = AnswersOn task brands found status input left held holds
HasAnswered brands command found status input left held holds = AsksNothing status input left held holds

-- what a command over a store of some commits has recorded
abbrev pub RecordsOver : Task → List Tabled → List Commit → ℕ → (input held holds : Option (List ℕ)) → (old new : View) → Type 0
RecordsOver (Run mode) brands R status input held holds old new = RanBy mode brands R status input held holds old new
RecordsOver Index brands R status input held holds old new = KeepsStore R old new
RecordsOver (Bulk zones) brands R status input held holds old new = RanBulk zones brands R (IsWhole status) (status ≡ status_disk_fault) old new

abbrev pub HasRecorded : List Tabled → Option Command → List Commit → ℕ → (input held holds : Option (List ℕ)) → (old new : View) → Type 0
HasRecorded brands (Some (OnStore task)) R status input held holds old new = RecordsOver task brands R status input held holds old new
HasRecorded brands command R status input held holds old new = Unit {0}

-- opening what the disk reads as comes to a fault
abbrev pub IsNoStore : View → Type 0
IsNoStore v = (fault : StoreFault) × OpensStore v.reads (Err fault)

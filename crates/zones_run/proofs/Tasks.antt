-- What each task comes to, where a command has it.
use Rattle.std.proofs.Common.{◌≡◌, ◌≤◌, ℕ, List, Option, IfSome, sym, subst}
use Rattle.zn_io.specs.Disk.{View}
use Rattle.brand_hooks.specs.Brands.{Tabled}
use Rattle.commit_journal.specs.declared.records.Commit.{Commit}
use Rattle.index_file.specs.Index.{index_text}
use Rattle.zone_machine.specs.Machine.Indexed.{index_of}
use Rattle.zones_run.specs.Answering.{FindsAlways}
use Rattle.zones_run.specs.Bulk.{RanBulk, bulked}
use Rattle.zones_run.specs.Output.{Output, written}
use Rattle.zones_run.specs.Program.{AnswersOver, AnswersTrace, AsksNothing, FindsStore, RecordsOver, done_over}
use Rattle.zones_run.specs.Recording.{KeepsStore, RanBy}
use Rattle.zones_run.specs.Run.{IsWhole}
use Rattle.zones_run.specs.Statuses.{status_disk_fault}
use Rattle.zones_run.specs.Tracing.{traced}
use Rattle.zones_run.specs.Words.{HasFewZones}
use Rattle.zones_run.specs.declared.words.Task.{Task}
use Rattle.zones_run.specs.declared.words.Task.TheVariants.{Bulk, Index, Run}
use Rattle.zones_run.specs.declared.words.Mode.{Mode}
use Rattle.zones_run.proofs.Commands.{if_mapped}

module _ (task : Task) (mode : Mode) (is : task ≡ Run mode) (brands : List Tabled) (R : List Commit) (status : ℕ) (input left held holds : Option (List ℕ)) where
  pub run_finds : (v : View) → FindsStore task v input → FindsAlways mode v input
  run_finds v finds = subst (λ (t : Task). FindsStore t v input) is finds

  pub run_done : (P : Output → Type 0) → IfSome input (λ bytes. P (traced mode brands R bytes)) → IfSome (done_over task brands R input) P
  run_done P holds = subst (λ (t : Task). IfSome (done_over t brands R input) P) (sym is) (if_mapped (traced mode brands R) P input holds)

  pub run_answers : AnswersTrace mode brands R status input left held holds → AnswersOver task brands R status input left held holds
  run_answers answers = subst (λ (t : Task). AnswersOver t brands R status input left held holds) (sym is) answers

  pub run_records : (v w : View) → RanBy mode brands R status input held holds v w → RecordsOver task brands R status input held holds v w
  run_records v w ran = subst (λ (t : Task). RecordsOver t brands R status input held holds v w) (sym is) ran

module _ (task : Task) (is : task ≡ Index) (brands : List Tabled) (R : List Commit) (status : ℕ) (input left held holds : Option (List ℕ)) where
  pub index_done : (P : Output → Type 0) → P (written (index_text (index_of R))) → IfSome (done_over task brands R input) P
  index_done P h = subst (λ (t : Task). IfSome (done_over t brands R input) P) (sym is) h

  pub index_answers : AsksNothing status input left held holds → AnswersOver task brands R status input left held holds
  index_answers asks = subst (λ (t : Task). AnswersOver t brands R status input left held holds) (sym is) asks

  pub index_records : (v w : View) → KeepsStore R v w → RecordsOver task brands R status input held holds v w
  index_records v w kept = subst (λ (t : Task). RecordsOver t brands R status input held holds v w) (sym is) kept

module _ (task : Task) (zones : ℕ) (is : task ≡ Bulk zones) (brands : List Tabled) (R : List Commit) (status : ℕ) (input left held holds : Option (List ℕ)) where
  pub bulk_few : HasFewZones task → zones ≤ 256
  bulk_few few = subst HasFewZones is few

  pub bulk_done : (P : Output → Type 0) → P (bulked zones brands R) → IfSome (done_over task brands R input) P
  bulk_done P h = subst (λ (t : Task). IfSome (done_over t brands R input) P) (sym is) h

  pub bulk_answers : AsksNothing status input left held holds → AnswersOver task brands R status input left held holds
  bulk_answers asks = subst (λ (t : Task). AnswersOver t brands R status input left held holds) (sym is) asks

  pub bulk_records : (v w : View) → RanBulk zones brands R (IsWhole status) (status ≡ status_disk_fault) v w → RecordsOver task brands R status input held holds v w
  bulk_records v w ran = subst (λ (t : Task). RecordsOver t brands R status input held holds v w) (sym is) ran

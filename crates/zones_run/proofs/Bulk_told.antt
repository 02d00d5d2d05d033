-- What `bulk` tells of the run of its script, and what the run has recorded.
use Rattle.std.proofs.Common.{◌≡◌, ◌≤◌, ◌+◌, ◌++◌, ◌==◌, ℕ, suc, Bool, true, false, cond, List, [], ◌∷◌, length, Option, Some, None, refl, ap, sym, subst, ◌∙◌, arith, codes}
use Rattle.std.specs.Prelude.{IsErrOf, IsOk, Result}
use Rattle.std.specs.Fmt.{decimal}
use Rattle.std.specs.List.{count_by}
use Rattle.std.proofs.lemmas.List.Sums.{sum_by-cons}
use Rattle.zn_io.specs.Disk.{IsSound, View}
use Rattle.brand_hooks.specs.Brands.{Tabled}
use Rattle.commit_journal.specs.declared.records.Commit.{Commit}
use Rattle.zone_cases.specs.declared.events.Entry.{Entry}
use Rattle.zone_machine.specs.Machine.{opening}
use Rattle.zone_machine.specs.Machine.Histories.{after}
use Rattle.zone_machine.specs.Machine.Images.{IsStoreOf}
use Rattle.zones_run.specs.Bulk.{RanBulk, bulk_mode, bulk_run, bulk_text, bulked, refusals, summary_text}
use Rattle.zones_run.specs.Fixed.{text_of_lines}
use Rattle.zones_run.specs.Output.{Output}
use Rattle.zones_run.specs.Recording.{Ran, RanAs}
use Rattle.zones_run.specs.Run.{IsWhole, fault_status}
use Rattle.zones_run.specs.Scripts.{Ending}
use Rattle.zones_run.specs.Statuses.{status_refused}
use Rattle.zones_run.specs.Tracing.{Tells, entries_text, is_refusal, left_to_tell, mark, told_ending, told_refusal, traced}
use Rattle.zones_run.specs.declared.fault.RunFault.{RunFault}
use Rattle.zones_run.specs.declared.fault.RunFault.TheVariants.{Disk, Memory, Read, Write}
use Rattle.zones_run.specs.declared.outcome.Complaint.{Complaint}
use Rattle.zones_run.specs.declared.words.Mode.{Mode}
use Rattle.zones_run.proofs.Bulk_lines.{bulk_ends}
use Rattle.zones_run.proofs.Opened.{keeps_store, ran_nothing}
use Rattle.zones_run.proofs.TraceEnds.{told-out}

-- there is a mark for each entry, and it is 1 where that is a refusal
pub marks_all : (es : List Entry) → length (entries_text bulk_mode es) ≡ length es
marks_all [] = refl
marks_all (e ∷ es) = ap suc (marks_all es)

is_marked : (refused : Bool) → ◌≡◌ {A = ℕ} (cond (cond refused 1 0 == 1) 1 0) (cond refused 1 0)
is_marked true = refl
is_marked false = refl

pub marks_refused : (es : List Entry) → count_by (λ m. m == 1) (entries_text bulk_mode es) ≡ refusals es
marks_refused [] = refl
marks_refused (e ∷ es) =
    let marks = entries_text bulk_mode es in
    sum_by-cons (λ (m : ℕ). cond (m == 1) 1 0) (mark e.reply.head) marks ∙ ap (λ k. k + count_by (λ m. m == 1) marks) (is_marked (is_refusal e.reply.head))
    ∙ ap (λ k. cond (is_refusal e.reply.head) 1 0 + k) (marks_refused es) ∙ sym (sum_by-cons (λ (x : Entry). cond (is_refusal x.reply.head) 1 0) e es)

-- the summary of equal counts
abbrev Counted : (n a b c d : ℕ) → List ℕ
Counted n a b c d =
    text_of_lines ((codes "zones " ++ decimal n) ∷ (codes "events " ++ decimal a) ∷ (codes "refused " ++ decimal b) ∷ (codes "running " ++ decimal c) ∷ (codes "installed " ++ decimal d) ∷ [])

pub same_counts : (n a b c d p q r s : ℕ) → a ≡ p → b ≡ q → c ≡ r → d ≡ s → Counted n a b c d ≡ Counted n p q r s
same_counts n a b c d p q r s first second third fourth =
    ap (λ x. Counted n x b c d) first ∙ ap (λ x. Counted n p x c d) second ∙ ap (λ x. Counted n p q x d) third ∙ ap (λ x. Counted n p q r x) fourth

-- the run tells just the marks of its entries, and its first refusal
with_text : (text other : List ℕ) (refused : Option ℕ) → record (record (told_refusal text refused) { out = [] }) { out = other } ≡ told_refusal other refused
with_text text other None = refl
with_text text other (Some number) = refl

low : (text : List ℕ) (refused : Option ℕ) → (told_refusal text refused).status ≤ status_refused
low text None = omega arith
low text (Some number) = omega arith

module _ (n : ℕ) (brands : List Tabled) (R : List Commit) (complaint : Option Complaint) (marks : List ℕ) (tells : Tells complaint (Some []) (Some marks) (traced bulk_mode brands R (bulk_text n))) where
  pub marks_are : marks ≡ entries_text bulk_mode (bulk_run n brands R).entries
  marks_are =
      let run = bulk_run n brands R in
      let whole : Some marks ≡ Some (entries_text bulk_mode run.entries) = tells.taken ∙ ap Some (told-out bulk_mode run.entries run.refused run.ending) in
      cc

  rest : n ≤ 256 → left_to_tell complaint ≡ record (told_refusal (entries_text bulk_mode (bulk_run n brands R).entries) (bulk_run n brands R).refused) { out = [] }
  rest few =
      let run = bulk_run n brands R in
      tells.rest ∙ ap (λ (ending : Ending). record (told_ending (entries_text bulk_mode run.entries) run.refused ending) { out = [] }) (bulk_ends n brands R few)

  pub told_so : n ≤ 256 → (text : List ℕ) → record (left_to_tell complaint) { out = text } ≡ told_refusal text (bulk_run n brands R).refused
  told_so few text =
      let run = bulk_run n brands R in
      ap (λ (o : Output). record o { out = text }) (rest few) ∙ with_text (entries_text bulk_mode run.entries) text run.refused

  pub is_low : n ≤ 256 → (left_to_tell complaint).status ≤ status_refused
  is_low few =
      let run = bulk_run n brands R in
      subst (λ (o : Output). o.status ≤ status_refused) (sym (rest few)) (low (entries_text bulk_mode run.entries) run.refused)

-- the same of a script and a sink that are equal to these
pub settled : (n : ℕ) (brands : List Tabled) (R : List Commit) (complaint : Option Complaint) (script first marks : List ℕ) → script ≡ bulk_text n → first ≡ [] → Tells complaint (Some first) (Some marks) (traced bulk_mode brands R script) → Tells complaint (Some []) (Some marks) (traced bulk_mode brands R (bulk_text n))
settled n brands R complaint script first marks is none tells =
    subst (λ text. Tells complaint (Some []) (Some marks) (traced bulk_mode brands R text)) is (subst (λ held. Tells complaint (Some held) (Some marks) (traced bulk_mode brands R script)) none tells)

pub bulked_low : (n : ℕ) (brands : List Tabled) (R : List Commit) → (bulked n brands R).status ≤ status_refused
bulked_low n brands R = let run = bulk_run n brands R in low (summary_text n run.entries (after (opening brands R) run.entries)) run.refused

-- what was recorded, where it isn't known what is told
pub untold : (mode : Mode) (brands : List Tabled) (R : List Commit) (whole torn told cut all broken : Type 0) (input held holds : Option (List ℕ)) (v w : View) → Ran mode brands R whole torn told cut input held holds v w → (all → whole) → (torn → broken) → Ran mode brands R all broken ⊥ ⊥ input None None v w
untold mode brands R whole torn told cut all broken input held holds v w ran wholly tears = record {
  answered = ran.answered;
  under_way = ran.under_way;
  records = ran.records;
  settled = λ clear. ran.settled (λ t. clear (tears t));
  all = λ a. ran.all (wholly a);
  replies = λ t. absurd t;
  nearly = λ c. absurd c;
}

-- so it was, by how the trace of the script ended
pub recorded_as : (n : ℕ) (brands : List Tabled) (R : List Commit) (r : Result (Option Complaint) RunFault) (all broken : Type 0) (script : List ℕ) (held holds : Option (List ℕ)) (v w : View) → script ≡ bulk_text n → RanAs bulk_mode brands R r (Some script) held holds v w → (all → IsOk r) → (IsErrOf r Disk → broken) → RanBulk n brands R all broken v w
recorded_as n brands R r all broken script held holds v w is ran wholly tears =
    subst (λ text. Ran bulk_mode brands R all broken ⊥ ⊥ (Some text) None None v w) is (untold bulk_mode brands R _ _ _ _ all broken (Some script) held holds v w ran wholly tears)

-- a fault ends no run whole
pub fault_not_whole : (fault : RunFault) (status : ℕ) → status ≡ fault_status fault → IsWhole status → ⊥
fault_not_whole Disk status is whole = grind (arith, is, whole)
fault_not_whole Memory status is whole = grind (arith, is, whole)
fault_not_whole Read status is whole = grind (arith, is, whole)
fault_not_whole Write status is whole = grind (arith, is, whole)

-- nothing was, where memory ran out for the script
pub nothing_ran : (n : ℕ) (brands : List Tabled) (R : List Commit) (all broken : Type 0) (v : View) → IsSound v → IsStoreOf v R → (all → ⊥) → RanBulk n brands R all broken v v
nothing_ran n brands R all broken v sound is never = ran_nothing bulk_mode brands R all broken ⊥ ⊥ (Some (bulk_text n)) None v v sound (keeps_store R v sound is).any_moment never

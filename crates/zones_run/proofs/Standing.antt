-- That the machine stands for the state that a run has come to, where the lines end.
use Rattle.std.proofs.Common.{ℕ, List, Option, Some, None, ap, subst, ◌∙◌, arith}
use Rattle.std.specs.Prelude.{IfOk}
use Rattle.brand_hooks.specs.Brands.{Tabled}
use Rattle.commit_journal.specs.declared.records.Commit.{Commit}
use Rattle.zone_cases.specs.State.{State}
use Rattle.zone_cases.specs.declared.events.Entry.{Entry}
use Rattle.zone_machine.specs.Machine.{opening}
use Rattle.zone_machine.specs.Machine.Histories.{after}
use Rattle.zones_run.specs.Answering.{ended_by}
use Rattle.zones_run.specs.Midway.{Follows, none_put}
use Rattle.zones_run.specs.Scripts.{Ending}
use Rattle.zones_run.specs.Tracing.{StandsPast}
use Rattle.zones_run.specs.declared.fault.Stop.{Stop}
use Rattle.zones_run.specs.declared.fault.Stop.TheVariants.{BadGrant, Fault, Grammar, NoStore}
use Rattle.zones_run.specs.declared.outcome.Complaint.{Complaint}
use Rattle.zones_run.specs.declared.words.Mode.{Mode}
use Rattle.zones_run.proofs.TraceEnds.{EndsSo, all_entries}

pub stands_past : (mode : Mode) (brands : List Tabled) (R : List Commit) (stands : State → Type 0) (left_by : List Entry → Type 0) (refused : Option ℕ) (n : ℕ) (held holds bytes input : Option (List ℕ)) (ending : Ending) (complaint : Option Complaint)
    (f : Follows mode none_put brands R stands left_by refused n held holds bytes input) → EndsSo mode f.run.state n ending bytes → StandsPast mode brands R stands complaint input
stands_past mode brands R stands left_by refused n held holds bytes None ending complaint f ended = λ low. tt
stands_past mode brands R stands left_by refused n held holds bytes (Some input) ending complaint f ended = λ low.
    subst stands (f.reached ∙ ap (after (opening brands R)) (all_entries mode brands R stands refused n held holds bytes (Some input) ending f.run ended)) f.run.stood

-- a line that ends the run is no end of the input
pub stands_stopped : (mode : Mode) (brands : List Tabled) (R : List Commit) (stands : State → Type 0) (stop : Stop) (number : ℕ) (input : Option (List ℕ)) → IfOk (ended_by stop number) (λ complaint. StandsPast mode brands R stands complaint input)
stands_stopped mode brands R stands (Fault fault) number input = tt
stands_stopped mode brands R stands (Grammar fault) number input = λ low. absurd (omega (arith, low))
stands_stopped mode brands R stands BadGrant number input = λ low. absurd (omega (arith, low))
stands_stopped mode brands R stands (NoStore fault) number input = λ low. absurd (omega (arith, low))

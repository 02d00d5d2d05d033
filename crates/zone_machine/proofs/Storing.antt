-- What a case stores is what comes to the store by it.
use Rattle.std.proofs.Common.{◌≡◌, ◌∷◌, [], ℕ, List, Option, Some, None, Result, Ok as Right, Err, IfOk, refl, ap, sym, ◌∙◌}
use Rattle.std.specs.Prelude.{IsSomeAnd}
use Rattle.zone_pools.specs.Asked.{A_pid, Asked}
use Rattle.zone_pools.specs.Decisions as decisions
use Rattle.zone_pools.specs.Decisions.{Ask, Just, asked_of, number_in}
use Rattle.zone_pools.specs.declared.grant.Grant.{Grant}
use Rattle.zone_pools.specs.declared.grant.Pool.{Pool}
use Rattle.commit_journal.specs.declared.records.Record as records
use Rattle.kernel_objects.specs.Processes.{process_of}
use Rattle.zoneadmd_steps.specs.Arrivals.{A_process, A_record, Arrival, Comes, New_claim, New_id, New_process, New_record, No_new_thing, arrived, in_kernel, in_store}
use Rattle.zoneadmd_steps.specs.Code.Cases.{IsJobCase, IsTurnOf, asked_for, comes_of, halt_begun, job_turn, object_edits, on_job, turn_decision_of, undo_with}
use Rattle.zoneadmd_steps.specs.Code.Desks.{as_desk, as_job}
use Rattle.zoneadmd_steps.specs.Desks as desks
use Rattle.zoneadmd_steps.specs.Objects.{Object_edit}
use Rattle.zoneadmd_steps.specs.Turns.{Turn_decision}
use Rattle.zoneadmd_steps.specs.declared.cases.JobCase.{JobCase}
use Rattle.zoneadmd_steps.specs.declared.cases.JobCase.TheVariants as jobs
use Rattle.zoneadmd_steps.specs.declared.cases.TurnCase.{TurnCase}
use Rattle.zoneadmd_steps.specs.declared.cases.TurnCase.TheVariants as turns
use Rattle.zoneadmd_steps.specs.declared.desks.Desk.{Desk}
use Rattle.zoneadmd_steps.specs.declared.desks.Job.{Job}
use Rattle.zoneadmd_steps.specs.declared.objects.changes.Came.{Came}
use Rattle.zoneadmd_steps.specs.declared.objects.changes.Came.TheVariants as came_type
use Rattle.zoneadmd_steps.specs.declared.requests.Request.{Request}
use Rattle.zone_machine.proofs.Case_asks.{came, came_is}
use Rattle.zone_cases.specs.Code.Cases.{IsCaseOf, decision_of, numbered_row}
use Rattle.zone_machine.specs.Code.Records.{HasNumber, HasNumberTurn, stored_by, stored_if, stored_turn}
use Rattle.zone_cases.specs.State.Decisions.{act_of, effects, turned}
use Rattle.zone_cases.specs.declared.cases.Case.{Case}
use Rattle.zone_cases.specs.declared.cases.Case.TheVariants as cases

-- what comes to the store by a decision under a grant
abbrev into_store : {E : Type 0} → decisions.Decision Comes E → Grant → Option Arrival
into_store d g = in_store (decisions.act_of arrived d g).came

asked-store : {E : Type 0} (c : Comes) (asked : List Asked) (denied : Pool → E) (given : ℕ → E) (g : Grant) → into_store (Ask c asked denied given) g ≡ in_store (came c (number_in g))
asked-store c asked denied given g = ap in_store (came_is c asked denied given g)

-- a record, a record that takes its number, and what is none
plain-record : (r : Result ℕ Pool) (row : Option records.Record) → in_store (came (A_record (λ n. row)) r) ≡ stored_if r row
plain-record (Right n) row = refl
plain-record (Err pool) row = refl

numbered-record : (r : Result ℕ Pool) (row : records.Record) → IfOk r (λ n. row.revision ≡ n) → in_store (came (A_record (λ n. Some (record row { revision = n }))) r) ≡ stored_if r (Some row)
numbered-record (Right n) row h = λ i. Some (New_record (Some (record row { revision = sym h i })))
numbered-record (Err pool) row h = refl

made-record : (r : Result ℕ Pool) (row : records.Record) (f : ℕ → records.Record) → IfOk r (λ n. f n ≡ row) → in_store (came (A_record (λ n. Some (f n))) r) ≡ stored_if r (Some row)
made-record (Right n) row f h = ap (λ r. Some (New_record (Some r))) h
made-record (Err pool) row f h = refl

no-record : (c : Comes) → ((n : ℕ) → in_store (Some (arrived c n)) ≡ None) → (r : Result ℕ Pool) → in_store (came c r) ≡ None
no-record c none (Right n) = none n
no-record c none (Err pool) = refl

-- the request under way
came-stored : (it : Came) (at : ℕ) (g : Grant) → HasNumberTurn (turns.GoOn (jobs.Ask it at)) g → in_store (came (comes_of it) (number_in g)) ≡ stored_turn (turns.GoOn (jobs.Ask it at)) g
came-stored (came_type.Process p args) at g h = no-record (comes_of (came_type.Process p args)) (λ n. refl) (number_in g)
came-stored came_type.Id at g h = no-record (comes_of came_type.Id) (λ n. refl) (number_in g)
came-stored (came_type.Claim c) at g h = no-record (comes_of (came_type.Claim c)) (λ n. refl) (number_in g)
came-stored (came_type.Source z) at g h = no-record (comes_of (came_type.Source z)) (λ n. refl) (number_in g)
came-stored (came_type.Record r owner) at g h = plain-record (number_in g) (Some r.value)
came-stored (came_type.Moved r owner new) at g h = numbered-record (number_in g) r.value h

undo-stored : (d : desks.Desk) (j : desks.Job) (edits : List Object_edit) (stage : desks.Stage) (g : Grant) → into_store (undo_with d j edits stage) g ≡ None
undo-stored d j edits (desks.Goes left) g = refl
undo-stored d j edits (desks.Fails outcome []) g = refl
undo-stored d j edits (desks.Fails outcome (s ∷ rest)) g = refl

job-stored : (d : desks.Desk) (j : Job) (c : JobCase) (g : Grant) → HasNumberTurn (turns.GoOn c) g → into_store (job_turn d j c) g ≡ stored_turn (turns.GoOn c) g
job-stored d j (jobs.Finish outcome) g h = refl
job-stored d j (jobs.Pass p) g h = refl
job-stored d j (jobs.Unmounts dir at) g h = refl
job-stored d j (jobs.Releases claim at) g h = refl
job-stored d j (jobs.Ask it at) g h = asked-store (comes_of it) (asked_for it) _ _ g ∙ came-stored it at g h
job-stored d j (jobs.Fail f) g h = refl
job-stored d j jobs.Stuck g h = refl
job-stored d j (jobs.Undo objects) g h = undo-stored d (as_job j) (object_edits objects) (as_job j).stage g

on-stored : (d : Desk) (o : Option Job) (c : JobCase) (g : Grant) → IsSomeAnd o (λ j. IsJobCase j c) → HasNumberTurn (turns.GoOn c) g → into_store (on_job d o c) g ≡ stored_turn (turns.GoOn c) g
on-stored d None c g of h = absurd of
on-stored d (Some j) c g of h = job-stored (as_desk d) j c g h

halt-stored : (d : Desk) (waiting : List (ℕ × Request)) (brand : Option ℕ) (g : Grant) → into_store (halt_begun d waiting brand) g ≡ None
halt-stored d [] brand g = refl
halt-stored d (first ∷ rest) brand g = refl

turn-stored : (d : Desk) (c : TurnCase) (g : Grant) → IsTurnOf d c → HasNumberTurn c g → into_store (turn_decision_of d c) g ≡ stored_turn c g
turn-stored d turns.Idle g of h = refl
turn-stored d (turns.Begin job) g of h = refl
turn-stored d (turns.BeginHalt brand) g of h = halt-stored d d.waiting.items brand g
turn-stored d (turns.Refuse ticket outcome) g of h = refl
turn-stored d (turns.Again job) g of h = refl
turn-stored d (turns.GoOn c) g of h = on-stored d d.job c g of h

turned-store : (d : Turn_decision) (g : Grant) → into_store (effects turned d) g ≡ into_store d g
turned-store (Just t) g = refl
turned-store (Ask c asked denied given) g = asked-store c asked _ _ g ∙ sym (asked-store c asked denied given g)

pub case-stored : (d : Desk) (case : Case) (g : Grant) → IsCaseOf d case → HasNumber case g → in_store (act_of (decision_of d case) g).came ≡ stored_by case g
case-stored d (cases.Says head) g of h = refl
case-stored d (cases.Tells body) g of h = refl
case-stored d (cases.Change edit m) g of h = refl
case-stored d (cases.Fork p m) g of h = asked-store (A_process (process_of (0, p.value))) (A_pid ∷ []) _ _ g ∙ no-record (A_process (process_of (0, p.value))) (λ n. refl) (number_in g)
case-stored d (cases.Write line m) g of h = refl
case-stored d (cases.Login l) g of h =
    asked-store (A_process (process_of (0, l.value.running))) (A_pid ∷ []) _ _ g ∙ no-record (A_process (process_of (0, l.value.running))) (λ n. refl) (number_in g)
case-stored d (cases.Enter e) g of h =
    asked-store (A_process (process_of (0, e.value.running))) (A_pid ∷ []) _ _ g ∙ no-record (A_process (process_of (0, e.value.running))) (λ n. refl) (number_in g)
case-stored d (cases.AtConsole c) g of h = refl
case-stored d (cases.Answers reply) g of h = refl
case-stored d (cases.Sit s) g of h = refl
case-stored d (cases.Commit c) g of h =
    asked-store (A_record (λ n. Some (numbered_row c.value.novelty c.value.owner c.value.row.value n))) (asked_of (decision_of d (cases.Commit c))) _ _ g
    ∙ made-record (number_in g) c.value.row.value (numbered_row c.value.novelty c.value.owner c.value.row.value) h
case-stored d (cases.Remove r) g of h = asked-store (A_record (λ n. None)) (asked_of (decision_of d (cases.Remove r))) _ _ g ∙ plain-record (number_in g) None
case-stored d (cases.Put request owner) g of h = refl
case-stored d (cases.Turn c) g of h = turned-store (turn_decision_of d c) g ∙ turn-stored d c g of h.1

-- what comes to the store comes to nothing else
pub store-alone : (came stored : Option Arrival) → in_store came ≡ stored → (stored ≡ None → ⊥) → in_kernel came ≡ None
store-alone None stored is some = absurd (some (sym is))
store-alone (Some (New_record row)) stored is some = refl
store-alone (Some (New_process p)) stored is some = absurd (some (sym is))
store-alone (Some (New_id i)) stored is some = absurd (some (sym is))
store-alone (Some (New_claim c)) stored is some = absurd (some (sym is))
store-alone (Some No_new_thing) stored is some = absurd (some (sym is))

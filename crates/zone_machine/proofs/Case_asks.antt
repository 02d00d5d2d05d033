-- What the code's cases ask goes with what comes, and a record is asked by its length.
use Rattle.std.proofs.Common.{◌≡◌, ◌∷◌, [], ℕ, List, drop, length, true, false, Bool, Option, Some, None, Result, Ok as Right, Err, refl}
use Rattle.std.proofs.lemmas.Bool.{and_from}
use Rattle.datalink_table.specs.Claims.{pool_of}
use Rattle.zone_pools.proofs.Owned_laws.{same_self}
use Rattle.zone_pools.proofs.Same_laws.{pool-Decides}
use Rattle.zone_pools.specs.Asked.{A_serial, Asked}
use Rattle.zone_pools.specs.Decisions as decisions
use Rattle.zone_pools.specs.Decisions.{Ask, Just, number_in}
use Rattle.zone_pools.specs.declared.grant.Grant.{Grant}
use Rattle.zone_pools.specs.declared.grant.Pool.{Pool}
use Rattle.commit_journal.specs.Bodies.{stored_text}
use Rattle.commit_journal.specs.declared.records.Record as records
use Rattle.zone_machine.proofs.Asking.{asks_rightly}
use Rattle.zoneadmd_steps.proofs.Of_turns.{is_asked_for}
use Rattle.zoneadmd_steps.specs.Arrivals.{A_record, Arrival, Comes, arrived}
use Rattle.zone_cases.specs.State.Decisions.{effects, turned}
use Rattle.zoneadmd_steps.specs.Code.Cases.{asked_for, comes_of, edits_under, halt_begun, job_turn, object_edits, on_job, shown_under, turn_decision_of, undo_with}
use Rattle.zn_base.specs.Names.{Name}
use Rattle.zone_cases.specs.Code.Cases.{decision_of, made}
use Rattle.zone_cases.specs.declared.cases.Committer.{Committer}
use Rattle.zone_cases.specs.declared.cases.Novelty.{Novelty}
use Rattle.zone_cases.specs.declared.cases.Novelty.TheVariants as novelty
use Rattle.zoneadmd_steps.specs.Desks as desks
use Rattle.zoneadmd_steps.specs.Code.Desks.{as_desk, as_job}
use Rattle.zoneadmd_steps.specs.Objects.{Object_edit}
use Rattle.zoneadmd_steps.specs.Turns.{Turn_decision, asking}
use Rattle.zone_cases.specs.declared.cases.Case.{Case}
use Rattle.zone_cases.specs.declared.cases.Case.TheVariants as cases
use Rattle.zoneadmd_steps.specs.declared.cases.JobCase.{JobCase}
use Rattle.zoneadmd_steps.specs.declared.cases.JobCase.TheVariants as jobs
use Rattle.zoneadmd_steps.specs.declared.cases.TurnCase.{TurnCase}
use Rattle.zoneadmd_steps.specs.declared.cases.TurnCase.TheVariants as turns
use Rattle.zoneadmd_steps.specs.declared.requests.Request.{Request}
use Rattle.zoneadmd_steps.specs.declared.requests.Step.{Step}
use Rattle.zoneadmd_steps.specs.declared.desks.Desk.{Desk}
use Rattle.zoneadmd_steps.specs.declared.desks.Job.{Job}
use Rattle.zoneadmd_steps.specs.declared.objects.changes.Came.{Came}
use Rattle.zoneadmd_steps.specs.declared.objects.changes.Came.TheVariants as came_type

-- what comes under a grant
abbrev pub came : Comes → Result ℕ Pool → Option Arrival
came c (Right n) = Some (arrived c n)
came c (Err pool) = None

pub came_is : {E : Type 0} (c : Comes) (asked : List Asked) (denied : Pool → E) (given : ℕ → E) (g : Grant) → (decisions.act_of arrived (Ask c asked denied given) g).came ≡ came c (number_in g)
came_is c asked denied given g = at_number (number_in g)
  where
    at_number : (r : Result ℕ Pool) → (decisions.granted arrived c denied given r).came ≡ came c r
    at_number (Right n) = refl
    at_number (Err pool) = refl

-- the length of a record is asked under each number
abbrev pub SizedBy : (ℕ → Option records.Record) → List Asked → Type 0
SizedBy row [] = Unit {0}
SizedBy row (A_serial size ∷ asked) = (n : ℕ) → length (stored_text (row n)) ≡ size n
SizedBy row (a ∷ asked) = SizedBy row asked

abbrev pub IsSizedFor : Comes → List Asked → Type 0
IsSizedFor (A_record row) asked = SizedBy row asked
IsSizedFor c asked = Unit {0}

-- what a decision asks goes with what comes
abbrev pub AsksWell : {E : Type 0} → decisions.Decision Comes E → Type 0
AsksWell (Just e) = Unit {0}
AsksWell (Ask c asked denied given) = (is_asked_for c asked ≡ true) × IsSizedFor c asked

pub asks-rightly : {E : Type 0} (d : decisions.Decision Comes E) → AsksWell d → asks_rightly d ≡ true
asks-rightly (Just e) h = refl
asks-rightly (Ask c asked denied given) h = h.0

-- what a case of the code asks goes with what comes
asks_turn : (d : Turn_decision) → AsksWell d → AsksWell (effects turned d)
asks_turn (Just t) h = h
asks_turn (Ask c asked denied given) h = h

asks_came : (d : desks.Desk) (j : desks.Job) (rest : List Step) (c : Came) → AsksWell (asking d j rest (comes_of c) (asked_for c) (edits_under c) (shown_under c))
asks_came d j rest (came_type.Process p args) = (refl, tt)
asks_came d j rest came_type.Id = (refl, tt)
asks_came d j rest (came_type.Claim c) = (and_from _ _ ((pool-Decides (pool_of c.kind) (pool_of c.kind)).1 refl) (same_self c.item), tt)
asks_came d j rest (came_type.Record r owner) = (refl, λ n. refl)
asks_came d j rest (came_type.Moved r owner new) = at_path new
  where
    at_path : (b : Bool) → (is_asked_for (comes_of (came_type.Moved r owner b)) (asked_for (came_type.Moved r owner b)) ≡ true) × IsSizedFor (comes_of (came_type.Moved r owner b)) (asked_for (came_type.Moved r owner b))
    at_path true = (refl, λ n. refl)
    at_path false = (refl, λ n. refl)
asks_came d j rest (came_type.Source source) = (refl, tt)

asks_undo : (d : desks.Desk) (j : desks.Job) (edits : List Object_edit) (stage : desks.Stage) → AsksWell (undo_with d j edits stage)
asks_undo d j edits (desks.Goes left) = tt
asks_undo d j edits (desks.Fails outcome []) = tt
asks_undo d j edits (desks.Fails outcome (s ∷ rest)) = tt

asks_job : (d : desks.Desk) (j : Job) (c : JobCase) → AsksWell (job_turn d j c)
asks_job d j (jobs.Finish outcome) = tt
asks_job d j (jobs.Pass p) = tt
asks_job d j (jobs.Unmounts dir next) = tt
asks_job d j (jobs.Releases claim next) = tt
asks_job d j (jobs.Ask it next) = asks_came d (as_job j) (drop next j.steps) it
asks_job d j (jobs.Fail f) = tt
asks_job d j jobs.Stuck = tt
asks_job d j (jobs.Undo objects) = asks_undo d (as_job j) (object_edits objects) (as_job j).stage

asks_on : (d : Desk) (o : Option Job) (c : JobCase) → AsksWell (on_job d o c)
asks_on d None c = tt
asks_on d (Some j) c = asks_job (as_desk d) j c

asks_first : (d : Desk) (waiting : List (ℕ × Request)) (brand : Option ℕ) → AsksWell (halt_begun d waiting brand)
asks_first d [] brand = tt
asks_first d (first ∷ rest) brand = tt

asks_turn_case : (d : Desk) (c : TurnCase) → AsksWell (turn_decision_of d c)
asks_turn_case d turns.Idle = tt
asks_turn_case d (turns.Begin job) = tt
asks_turn_case d (turns.BeginHalt brand) = asks_first d d.waiting.items brand
asks_turn_case d (turns.Refuse ticket outcome) = tt
asks_turn_case d (turns.Again job) = tt
asks_turn_case d (turns.GoOn c) = asks_on d d.job c

-- a commit, by what is new in it
pub asks_made : (new : Novelty) (z : Name) (row : records.Record) (told : List (List ℕ)) (c : Committer) → AsksWell (made new z row told c)
asks_made novelty.Zone z row told c = (refl, λ n. refl)
asks_made novelty.Path z row told c = (refl, λ n. refl)
asks_made novelty.Nothing z row told c = (refl, λ n. refl)

pub asks_case : (d : Desk) (c : Case) → AsksWell (decision_of d c)
asks_case d (cases.Says head) = tt
asks_case d (cases.Tells body) = tt
asks_case d (cases.Change edit m) = tt
asks_case d (cases.Fork p m) = (refl, tt)
asks_case d (cases.Write line m) = tt
asks_case d (cases.Login l) = (refl, tt)
asks_case d (cases.Enter e) = (refl, tt)
asks_case d (cases.AtConsole c) = tt
asks_case d (cases.Answers reply) = tt
asks_case d (cases.Sit s) = tt
asks_case d (cases.Commit c) = asks_made c.value.novelty c.value.owner c.value.row.value c.value.told c.value.committer
asks_case d (cases.Remove r) = (refl, λ n. refl)
asks_case d (cases.Put kind owner) = tt
asks_case d (cases.Turn c) = asks_turn (turn_decision_of d c) (asks_turn_case d c)

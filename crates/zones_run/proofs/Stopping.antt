-- Why a line ended a trace, by what its call answered.
use Rattle.std.proofs.Common.{◌≡◌, ◌≤◌, ◌⊎◌, inl, inr, ℕ, List, [], ◌∷◌, length, Option, Some, None, Result, Ok, Err, refl, ap, subst}
use Rattle.std.specs.Option.{option_map}
use Rattle.std.specs.Prelude.{IfOk, IfSome, IsErrAnd, IsErrOf}
use Rattle.zones_run.specs.Complaints.{IsOfInput}
use Rattle.zn_io.specs.Disk.{View}
use Rattle.zn_io.specs.Streams.{after_known}
use Rattle.zn_base.specs.Lines.{lines_of}
use Rattle.brand_hooks.specs.Brands.{Tabled}
use Rattle.commit_journal.specs.declared.records.Commit.{Commit}
use Rattle.zone_machine.specs.Machine.Images.{IsStoreOf}
use Rattle.zone_cases.specs.State.{State}
use Rattle.zones_run.specs.Answering.{LeavesText, MayStop, Misfits, RestartsWell, Stops, StopsText, ended_by}
use Rattle.zones_run.specs.Midway.{Follows, Left, RunsOn, none_put}
use Rattle.input_lines.specs.Reading.{TakesLine}
use Rattle.zones_run.specs.Recording.{RanAs}
use Rattle.zones_run.specs.Run.{run_fault_of}
use Rattle.input_lines.specs.Taking.{TakesPiece}
use Rattle.zones_run.specs.Scripts.{At_fault, At_misfit, Restarts, Says, said_by}
use Rattle.zones_run.specs.Tracing.{EndsAs, HasWritten}
use Rattle.zones_run.specs.declared.fault.RunFault.{RunFault}
use Rattle.zones_run.specs.declared.fault.RunFault.TheVariants.{Disk, Memory, Read, Write}
use Rattle.input_lines.specs.declared.lines.ReadFault.{ReadFault}
use Rattle.input_lines.specs.declared.lines.ReadFault.TheVariants.{Failed, Memory as No_memory}
use Rattle.zones_run.specs.declared.outcome.Complaint.{Complaint}
use Rattle.zones_run.specs.declared.outcome.Complaint.TheVariants.{BadGrant as Bad_grant, Grammar as Bad_line}
use Rattle.zones_run.specs.declared.words.Mode.{Mode}
use Rattle.zones_run.specs.declared.fault.Stop.{Stop}
use Rattle.zones_run.specs.declared.fault.Stop.TheVariants.{BadGrant, Fault, Grammar, NoStore}
use Rattle.zones_run.proofs.TraceEnds.{EndsSo, answers_lines, at_fault, at_misfit, ends_failed, fails_with, tells_fault, tells_misfit}
use Rattle.zones_run.proofs.TraceRecords.{ran_failed, ran_left, ran_same, ran_whole, ran_written}
use Rattle.zones_run.proofs.TraceRuns.{runs_told}

-- nothing waits where standard output or the disk failed
pub none_left : (fault : RunFault) (holds now : Option (List ℕ)) (waiting left : List ℕ) → LeavesText fault holds now waiting left → IsErrOf (fails_with fault) Write ⊎ IsErrOf (fails_with fault) Disk → left ≡ []
none_left Write holds now waiting left text failed = text.1
none_left Disk holds now waiting left text failed = text.1
none_left Read holds now waiting left text failed = absurd text
none_left Memory holds now waiting left text (inl failed) = absurd (cc)
none_left Memory holds now waiting left text (inr failed) = absurd (cc)

pub none_stopped : (stop : Stop) (number : ℕ) (holds now : Option (List ℕ)) (waiting left : List ℕ) → StopsText stop holds now waiting left → IsErrOf (ended_by stop number) Write ⊎ IsErrOf (ended_by stop number) Disk → left ≡ []
none_stopped (Fault fault) number holds now waiting left text failed = none_left fault holds now waiting left text failed
none_stopped (Grammar fault) number holds now waiting left text (inl failed) = absurd (cc)
none_stopped (Grammar fault) number holds now waiting left text (inr failed) = absurd (cc)
none_stopped BadGrant number holds now waiting left text (inl failed) = absurd (cc)
none_stopped BadGrant number holds now waiting left text (inr failed) = absurd (cc)
none_stopped (NoStore fault) number holds now waiting left text (inl failed) = absurd (cc)
none_stopped (NoStore fault) number holds now waiting left text (inr failed) = absurd (cc)

-- a fault that ends the trace came in the line
pub stopped_by : (stop : Stop) (number : ℕ) (fault : RunFault) → IsErrOf (ended_by stop number) fault → stop ≡ Fault fault
stopped_by (Fault found) number fault is = let same : found ≡ fault = cc in ap Fault same
stopped_by (Grammar found) number fault is = absurd (cc)
stopped_by BadGrant number fault is = absurd (cc)
stopped_by (NoStore found) number fault is = absurd (cc)

pub never_reads : (stop : Stop) (number : ℕ) (holds now : Option (List ℕ)) (waiting left : List ℕ) → StopsText stop holds now waiting left → IsErrOf (ended_by stop number) Read → ⊥
never_reads stop number holds now waiting left text is = subst (λ s. StopsText s holds now waiting left) (stopped_by stop number Read is) text

-- a restart that finds no store fits
lost_store : (S : State) (said : Says) (v : View) → Restarts S said → RestartsWell S said v → v.Keeps
lost_store S (Ok None) v lost well = absurd lost
lost_store S (Ok (Some d)) v lost well = well lost.0 lost.1
lost_store S (Err fault) v lost well = absurd lost

-- at a line whose grant doesn't fit
misfit_ends : (mode : Mode) (S : State) (n : ℕ) (line : List ℕ) (bytes : Option (List ℕ)) (new : Option (List (List ℕ))) → option_map lines_of bytes ≡ option_map (λ ls. line ∷ ls) new → n ≤ 200000 → length line ≤ 4096 → (said : Says) → said_by mode S.started line ≡ said → Misfits S said → EndsSo mode S n (At_misfit n) bytes
misfit_ends mode S n line bytes new is h k (Ok (Some d)) says unfit = at_misfit mode S n line d bytes new is h k says unfit
misfit_ends mode S n line bytes new is h k (Ok None) says unfit = absurd unfit
misfit_ends mode S n line bytes new is h k (Err fault) says unfit = absurd unfit

-- how the trace ends
pub ends_stopped : (mode : Mode) (brands : List Tabled) (R : List Commit) (stands : State → Type 0) (stop : Stop) (refused : Option ℕ) (n : ℕ) (held holds now old left input : Option (List ℕ)) (waiting now_waiting : List ℕ) (line : List ℕ) (new : Option (List (List ℕ))) (same : Type 0) (v w : View)
    → RunsOn mode none_put brands R stands refused n held (after_known holds waiting) old input → HasWritten held holds → StopsText stop holds now waiting now_waiting → TakesPiece old left → option_map lines_of old ≡ option_map (λ ls. line ∷ ls) new → n ≤ 200000 → length line ≤ 4096
    → ((S : State) → stands S → Stops stop same S (said_by mode S.started line) v w) → MayStop stop v → ((run : RunsOn mode none_put brands R stands refused n held (after_known holds waiting) old input) → RestartsWell run.state (said_by mode run.state.started line) v) → EndsAs mode brands R (ended_by stop n) input left held now (after_known now now_waiting)
ends_stopped mode brands R stands (Fault fault) refused n held holds now old left input waiting now_waiting line new same v w run written text piece is h k stops may well =
    ends_failed mode brands R stands fault refused n held holds now old left input waiting now_waiting run written text piece
ends_stopped mode brands R stands (NoStore fault) refused n held holds now old left input waiting now_waiting line new same v w run written text piece is h k stops may well = absurd (may (lost_store run.state (said_by mode run.state.started line) v (stops run.state run.stood) (well run)))
ends_stopped mode brands R stands BadGrant refused n held holds now old left input waiting now_waiting line new same v w run written text piece is h k stops may well =
    let told = runs_told mode none_put brands R stands refused n held (after_known holds waiting) (after_known now now_waiting) old input text run in
    (tells_misfit mode brands R stands refused n held (after_known now now_waiting) old input told (λ S stood. misfit_ends mode S n line old new is h k (said_by mode S.started line) refl (stops S stood).0), answers_lines mode brands R stands refused n held (after_known now now_waiting) old left input told piece)
ends_stopped mode brands R stands (Grammar fault) refused n held holds now old left input waiting now_waiting line new same v w run written text piece is h k stops may well =
    let told = runs_told mode none_put brands R stands refused n held (after_known holds waiting) (after_known now now_waiting) old input text run in
    (tells_fault mode brands R stands refused n held (after_known now now_waiting) line fault old new input told is h k (λ S stood. (stops S stood).0), answers_lines mode brands R stands refused n held (after_known now now_waiting) old left input told piece)

-- and what it has recorded
pub ran_stopped : (mode : Mode) (brands : List Tabled) (R : List Commit) (stands : State → Type 0) (v0 v w : View) (stop : Stop) (refused : Option ℕ) (n : ℕ) (held holds now old new input : Option (List ℕ)) (waiting left : List ℕ) (line : List ℕ) (lines : Option (List (List ℕ))) (same : Type 0)
    → Follows mode none_put brands R stands (Left brands R v0 v) refused n held (after_known holds waiting) old input → IsStoreOf v0 R → StopsText stop holds now waiting left → TakesLine line old new → option_map lines_of old ≡ option_map (λ ls. line ∷ ls) lines → n ≤ 200000 → length line ≤ 4096
    → ((S : State) → stands S → Stops stop same S (said_by mode S.started line) v w) → MayStop stop v → (same → (P : View → Type 0) → P v → P w) → RanAs mode brands R (ended_by stop n) input held (after_known now left) v0 w
ran_stopped mode brands R stands v0 v w (NoStore fault) refused n held holds now old new input waiting left line lines same f is text took eq h k stops may stay = absurd (may (f.kept is).keeps)
ran_stopped mode brands R stands v0 v w (Fault fault) refused n held holds now old new input waiting left line lines same f is text took eq h k stops may stay =
    ran_left mode brands R fault input held holds now waiting left v0 w text
    (ran_failed mode brands R stands v0 v refused n held (after_known holds waiting) old input f is fault same w line new (said_by mode f.run.state.started line) took h k refl (stops f.run.state f.run.stood) stay)
ran_stopped mode brands R stands v0 v w BadGrant refused n held holds now old new input waiting left line lines same f is text took eq h k stops may stay =
    let misfit = stops f.run.state f.run.stood in
    ran_same mode brands R (Ok (Some (Bad_grant n))) input held (after_known now left) v0 v w same misfit.1 stay
    (ran_written mode brands R (Ok (Some (Bad_grant n))) input held (after_known holds waiting) (after_known now left) v0 v text
    (ran_whole mode brands R stands v0 v refused n held (after_known holds waiting) old input f is _ _ _ _ (At_misfit n) (misfit_ends mode f.run.state n line old lines eq h k (said_by mode f.run.state.started line) refl misfit.0)))
ran_stopped mode brands R stands v0 v w (Grammar fault) refused n held holds now old new input waiting left line lines same f is text took eq h k stops may stay =
    let outside = stops f.run.state f.run.stood in
    ran_same mode brands R (Ok (Some (Bad_line n fault))) input held (after_known now left) v0 v w same outside.1 stay
    (ran_written mode brands R (Ok (Some (Bad_line n fault))) input held (after_known holds waiting) (after_known now left) v0 v text
    (ran_whole mode brands R stands v0 v refused n held (after_known holds waiting) old input f is _ _ _ _ (At_fault n fault) (at_fault mode f.run.state n line fault old lines eq h k outside.0)))

-- a fault of reading that ends a trace is the source's or memory's
pub only_reading : (r : Result (Option Complaint) RunFault) (fault : ReadFault) → IsErrAnd r (λ e. e ≡ run_fault_of fault) → IsErrOf r Write ⊎ IsErrOf r Disk → ⊥
only_reading (Ok x) fault said failed = absurd said
only_reading (Err e) Failed said (inl failed) = let is : e ≡ Read = said in cc
only_reading (Err e) Failed said (inr failed) = let is : e ≡ Read = said in cc
only_reading (Err e) No_memory said (inl failed) = let is : e ≡ Memory = said in cc
only_reading (Err e) No_memory said (inr failed) = let is : e ≡ Memory = said in cc

pub source_failed : (r : Result (Option Complaint) RunFault) (fault : ReadFault) → IsErrAnd r (λ e. e ≡ run_fault_of fault) → IsErrOf r Read → fault ≡ Failed
source_failed (Ok x) fault said is = absurd (cc)
source_failed (Err e) Failed said is = refl
source_failed (Err e) No_memory said is = let read : e ≡ Read = cc in absurd (cc)

-- where the disk keeps to its model, a line ends a trace with a complaint of the input alone
pub kind_stopped : (stop : Stop) (number : ℕ) (v : View) → MayStop stop v → v.Keeps → IfOk (ended_by stop number) (λ complaint. IfSome complaint IsOfInput)
kind_stopped (Fault fault) number v may keeps = tt
kind_stopped (Grammar fault) number v may keeps = tt
kind_stopped BadGrant number v may keeps = tt
kind_stopped (NoStore fault) number v may keeps = absurd (may keeps)

-- What `trace`, `script`, `purge` and `given` write for the whole of their input: its lines are read, their events, with the turns that
-- are put in, make a history of the zone machine from the commits of its store on, with the brands that there are, and the history's
-- replies are printed.
use Rattle.std.specs.Prelude.{All, ◌++◌, ℕ, List, [], ◌∷◌, ◌≡◌, ◌≤◌, map, take, Bool, true, false, Option, Some, None, IfSome, Result, Ok, Err, if◌then◌else◌}
use Rattle.std.specs.List.{flat_map}
use Rattle.zn_io.specs.Streams.{after_known}
use Rattle.brand_hooks.specs.Brands.{Tabled}
use Rattle.commit_journal.specs.declared.records.Commit.{Commit}
use Rattle.trace_text.specs.Lines.{given_text}
use Rattle.trace_text.specs.Replies.{reply_text}
use Rattle.zone_cases.specs.State.{State}
use Rattle.zone_machine.specs.Machine.Histories.{after, concerns}
use Rattle.zone_machine.specs.Machine.{opening}
use Rattle.zoneadmd_steps.specs.declared.requests.Outcome.{Outcome}
use Rattle.zoneadmd_steps.specs.declared.requests.Outcome.TheVariants.{Done}
use Rattle.zoneadmd_steps.specs.declared.requests.TurnReply.{TurnReply}
use Rattle.zoneadmd_steps.specs.declared.requests.TurnReply.TheVariants.{Failed, Finished, Stuck}
use Rattle.zone_cases.specs.declared.events.Entry.{Entry}
use Rattle.zone_cases.specs.declared.replies.Head.{Head}
use Rattle.zone_cases.specs.declared.replies.Head.TheVariants.{Refused, Turned}
use Rattle.zones_run.specs.Scripting.{is_turn, puts_in, with_turns}
use Rattle.zones_run.specs.Scripts.{At_end, At_fault, At_misfit, Ending, Past_limit, Script, entries_from, script_of}
use Rattle.zones_run.specs.declared.due.Due.{Due}
use Rattle.zones_run.specs.declared.words.Mode.{Mode}
use Rattle.zones_run.specs.declared.words.Mode.TheVariants.{Purged, WithTurns}
use Rattle.zones_run.specs.declared.words.Telling.TheVariants.{Marks}
use Rattle.zones_run.specs.declared.fault.RunFault.{RunFault}
use Rattle.zones_run.specs.declared.fault.RunFault.TheVariants.{Read, Write}
use Rattle.input_lines.specs.Taking.{TakesLines, TakesNoMore}
use Rattle.zones_run.specs.Complaints.{complaint_output, limit_at}
use Rattle.zones_run.specs.declared.outcome.Complaint.{Complaint}
use Rattle.zones_run.specs.declared.outcome.Complaint.TheVariants.{BadGrant, FirstRefused, Grammar as Bad_line}
use Rattle.zones_run.specs.Output.{Output, written}
use Rattle.zones_run.specs.Run.{HasFront}
use Rattle.zones_run.specs.Statuses.{status_refused}

-- a refusal: `err`, `failed`, `finished` other than `ok`, or `stuck`
abbrev pub is_refused_outcome : Outcome → Bool
is_refused_outcome Done = false
is_refused_outcome outcome = true

abbrev pub is_refused_turn : TurnReply → Bool
is_refused_turn (Failed place outcome) = true
is_refused_turn (Finished ticket outcome) = is_refused_outcome outcome
is_refused_turn Stuck = true
is_refused_turn turn = false

abbrev pub is_refusal : Head → Bool
is_refusal (Refused refusal) = true
is_refusal (Turned turn) = is_refused_turn turn
is_refusal head = false

-- its mark: 1 where it is one, and else 0
abbrev pub mark : Head → ℕ
mark head = if is_refusal head then 1 else 0

-- the number of the first line whose entry is a refusal
abbrev pub first_refused : List (ℕ × Due) → List Entry → Option ℕ
first_refused (e ∷ events) (entry ∷ entries) =
    if is_refusal entry.reply.head then Some e.0 else first_refused events entries
first_refused events entries = None

-- a run: its entries in order, the number of the first line that is refused, and how the lines end
pub record Run : Type 0 where
  pub entries : List Entry
  pub refused : Option ℕ
  pub ending : Ending

-- a script's run, by the entries of its events
abbrev pub run_by : Script → List Entry → Run
run_by script entries = record { entries = entries; refused = first_refused script.events entries; ending = script.ending }

-- the entries are those of the events, from a machine of some brands whose store has some commits
abbrev pub script_run : List Tabled → List Commit → Script → Run
script_run brands R script = run_by script (entries_from (opening brands R) (map (λ e. e.1) script.events))

-- the run of a whole input
abbrev pub run_of : Mode → List Tabled → List Commit → List ℕ → Run
run_of mode brands R bytes = script_run brands R (with_turns mode (opening brands R) (script_of mode bytes))

-- what is told of an entry: its reply; or, where all other zones are purged, the line of an event of the zone or of the whole
-- system, and nothing of any other; or its mark
abbrev pub entry_text : Mode → Entry → List ℕ
entry_text (Purged zone) entry = if concerns zone entry.subject then given_text entry.grant entry.event ++ 10 ∷ [] else []
entry_text (WithTurns Marks) entry = mark entry.reply.head ∷ []
entry_text mode entry = reply_text entry.subject entry.reply

abbrev pub entries_text : Mode → List Entry → List ℕ
entries_text mode entries = flat_map (entry_text mode) entries

-- at the end of the input the first refusal is reported
abbrev pub told_refusal : List ℕ → Option ℕ → Output
told_refusal text None = written text
told_refusal text (Some number) = record (complaint_output (FirstRefused number)) { out = text }

abbrev pub told_ending : List ℕ → Option ℕ → Ending → Output
told_ending text refused At_end = told_refusal text refused
told_ending text refused (At_fault number fault) = record (complaint_output (Bad_line number fault)) { out = text }
told_ending text refused (At_misfit number) = record (complaint_output (BadGrant number)) { out = text }
told_ending text refused (Past_limit number) = record (limit_at number) { out = text }

-- the output of a run
abbrev pub told : Mode → Run → Output
told mode run = told_ending (entries_text mode run.entries) run.refused run.ending

-- `trace`, and `script`, over the whole input
abbrev pub traced : Mode → List Tabled → List Commit → List ℕ → Output
traced mode brands R bytes = told mode (run_of mode brands R bytes)

-- what a trace still has to report at its end
abbrev pub left_to_tell : Option Complaint → Output
left_to_tell None = written []
left_to_tell (Some complaint) = complaint_output complaint

-- what was written, and what is left to report, are an output
pub record Tells (complaint : Option Complaint) (held holds : Option (List ℕ)) (output : Output) : Type 0 where
  pub rest : left_to_tell complaint ≡ record output { out = [] }
  pub taken : holds ≡ after_known held output.out

-- at the end of its lines a machine has come to the state after the entries of the run
abbrev pub StandsPast : Mode → List Tabled → List Commit → (stands : State → Type 0) → Option Complaint → (input : Option (List ℕ)) → Type 0
StandsPast mode brands R stands complaint input =
    (left_to_tell complaint).status ≤ status_refused → IfSome input (λ bytes. stands (after (opening brands R) (run_of mode brands R bytes).entries))

-- some whole replies of a run were taken, from the first one on
pub record HasReplies (mode : Mode) (held holds : Option (List ℕ)) (run : Run) : Type 0 where
  pub count : ℕ
  pub taken : holds ≡ after_known held (entries_text mode (take count run.entries))

-- `trace` has taken lines that don't end it, the beginning of one more, and at most one piece
abbrev pub RunsLines : Mode → List Tabled → List Commit → (input left : Option (List ℕ)) → Type 0
RunsLines mode brands R input left = TakesLines (λ bytes. (run_of mode brands R bytes).ending ≡ At_end) input left

-- and has written the replies of just those lines
pub record AnswersLines (mode : Mode) (brands : List Tabled) (R : List Commit) (input left held holds : Option (List ℕ)) : Type 0 where
  pub runs : RunsLines mode brands R input left
  pub text : holds ≡ after_known held (entries_text mode (run_of mode brands R runs.lines).entries)

-- or, where a fault came in a turn that was put in, but for those of the last turns that are put in after these lines
pub record AnswersSome (mode : Mode) (brands : List Tabled) (R : List Commit) (input left held holds : Option (List ℕ)) : Type 0 where
  pub runs : RunsLines mode brands R input left
  pub told : List Entry
  pub untold : List Entry
  pub whole : (run_of mode brands R runs.lines).entries ≡ told ++ untold
  pub are_turns : All (λ (e : Entry). is_turn e.event ≡ true) untold
  pub alone : puts_in mode ≡ false → untold ≡ []
  pub text : holds ≡ after_known held (entries_text mode told)

-- the same where the source failed
abbrev pub AnswersRead : Mode → List Tabled → List Commit → (input left held holds : Option (List ℕ)) → Type 0
AnswersRead mode brands R input left held holds = (answers : AnswersLines mode brands R input left held holds) × TakesNoMore answers.runs

-- how a trace ends, as far as its input is known: what standard output has taken of the text of the whole input, or the
-- replies of which lines. `told` is what standard output has, and then what waits to be written
abbrev pub EndsAs : Mode → List Tabled → List Commit → Result (Option Complaint) RunFault → (input left held holds told : Option (List ℕ)) → Type 0
EndsAs mode brands R (Ok complaint) input left held holds told =
    IfSome input (λ bytes. Tells complaint held told (traced mode brands R bytes)) × IfSome input (λ _. AnswersLines mode brands R input left held told)
EndsAs mode brands R (Err Write) input left held holds told =
    IfSome input (λ bytes. HasFront held holds (traced mode brands R bytes).out) × IfSome input (λ _. RunsLines mode brands R input left)
EndsAs mode brands R (Err Read) input left held holds told =
    IfSome input (λ bytes. HasReplies mode held told (run_of mode brands R bytes)) × IfSome input (λ _. AnswersRead mode brands R input left held told)
EndsAs mode brands R (Err fault) input left held holds told =
    IfSome input (λ bytes. HasReplies mode held told (run_of mode brands R bytes)) × IfSome input (λ _. AnswersSome mode brands R input left held told)

-- nothing but more bytes was taken
abbrev pub HasWritten : (held holds : Option (List ℕ)) → Type 0
HasWritten held holds = (written : List ℕ) × (holds ≡ after_known held written)

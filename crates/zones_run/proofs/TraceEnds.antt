-- How a trace ends, and what standard output has taken then.
use Rattle.std.proofs.Common.{◌≡◌, ◌+◌, ◌≤◌, ◌<◌, ◌||◌, ◌++◌, ◌⊎◌, inl, inr, ℕ, Bool, true, false, cond, nat_lt, List, [], ◌∷◌, All, length, map, take, drop, Option, Some, None, IfSome, Result, Ok, Err, refl, ap, sym, subst, ◌∙◌, arith, append_assoc}
use Rattle.std.specs.Prelude.{IsErrAnd, IsErrOf, nat_le}
use Rattle.std.specs.Io.KnownBytes.{IsAtEnd}
use Rattle.std.specs.Option.{option_map}
use Rattle.std.proofs.lemmas.Bool.Decides.{nat_tests}
use Rattle.std.proofs.lemmas.Grind.{flat_map-append}
use Rattle.std.proofs.lemmas.List.{append-nil, append_cancel_left, take-append-drop, take-append-le, take_all}
use Rattle.std.proofs.Math.Seq.{take-append-add, take-append_seam, take-length}
use Rattle.zn_io.specs.Streams.{after_known, before_known}
use Rattle.brand_hooks.specs.Brands.{Tabled}
use Rattle.commit_journal.specs.declared.records.Commit.{Commit}
use Rattle.trace_text.specs.declared.fault.LineFault.{LineFault}
use Rattle.zone_machine.specs.Machine.{opening}
use Rattle.std.proofs.lemmas.List.Elements.{All-nil}
use Rattle.zone_cases.specs.declared.events.Event.{Event}
use Rattle.zone_pools.specs.Pools.{or_else}
use Rattle.zone_cases.specs.State.{State}
use Rattle.zone_cases.specs.declared.events.Entry.{Entry}
use Rattle.zn_base.specs.Lines.{is_newline, lines_of, with_first}
use Rattle.input_lines.specs.Reading.{FirstIsLong}
use Rattle.input_lines.specs.Taking.{BeginsLine, TakesPiece}
use Rattle.zones_run.specs.Run.{HasFront, run_fault_of}
use Rattle.zones_run.specs.Answering.{LeavesText}
use Rattle.zones_run.specs.Tracing.{AnswersLines, AnswersRead, AnswersSome, EndsAs, HasReplies, HasWritten, Run, RunsLines, Tells, entry_text, left_to_tell, entries_text, run_of, told, told_refusal, traced}
use Rattle.zones_run.specs.Scripts.{At_end, At_fault, At_misfit, Ending, Past_limit, ends, entries_from, fits_due, said_by, script_from}
use Rattle.zones_run.specs.declared.due.Due.{Due}
use Rattle.zones_run.specs.Midway.{Knows, RunsOn, lines_from, none_put, run_on, run_onto, with_script}
use Rattle.zones_run.specs.Scripting.{all_unstated, is_turn, with_turns}
use Rattle.zones_run.specs.declared.words.Mode.{Mode}
use Rattle.zones_run.specs.declared.words.Mode.TheVariants.{WithTurns}
use Rattle.zones_run.specs.declared.words.Telling.{Telling}
use Rattle.zones_run.specs.declared.outcome.Complaint.{Complaint}
use Rattle.zones_run.specs.declared.outcome.Complaint.TheVariants.{BadGrant, Grammar as Bad_line, Limit}
use Rattle.zones_run.specs.declared.fault.RunFault.TheVariants.{Disk, Memory, Read, Write}
use Rattle.zones_run.specs.declared.fault.RunFault.{RunFault}
use Rattle.input_lines.specs.declared.lines.ReadFault.{ReadFault}
use Rattle.input_lines.specs.declared.lines.ReadFault.TheVariants.{Failed, Memory as No_memory}
use Rattle.input_lines.proofs.Begins.{takes_known}
use Rattle.zones_run.proofs.Fronts.{after_known-append, after_known-nil}
use Rattle.zones_run.proofs.TraceRuns.{known_run, runs_told}
use Rattle.zones_run.proofs.Traces.{from_first_line, line_said, misfits_line, or_else-None, script_line}

-- a fault ended it
abbrev pub fails_with : RunFault → Result (Option Complaint) RunFault
fails_with fault = Err fault

abbrev ended_run : List Entry → Option ℕ → Ending → Run
ended_run done refused ending = record { entries = done; refused = refused; ending = ending }

-- with no event to come the run is what it has come to
no_more : (mode : Mode) (done : List Entry) (refused : Option ℕ) (n : ℕ) (S : State) (lines : List (List ℕ)) (ending : Ending) → lines_from mode n S lines ≡ ends ending → run_on mode done refused n S lines ≡ ended_run done refused ending
no_more mode done refused n S lines ending is =
    ap (with_script done refused S) is ∙ ap (λ entries. ended_run entries (or_else refused None) ending) (append-nil done) ∙ ap (λ first. ended_run done first ending) (or_else-None refused)

-- every ending has the text of its entries
pub told-out : (mode : Mode) (done : List Entry) (refused : Option ℕ) (ending : Ending) → (told mode (ended_run done refused ending)).out ≡ entries_text mode done
told-out mode done None At_end = refl
told-out mode done (Some n) At_end = refl
told-out mode done refused (At_fault n fault) = refl
told-out mode done refused (At_misfit n) = refl
told-out mode done refused (Past_limit n) = refl

-- the lines of the bytes to come end so, before any event
abbrev pub EndsSo : Mode → State → ℕ → Ending → Option (List ℕ) → Type 0
EndsSo mode S n ending bytes = IfSome bytes (λ bs. lines_from mode n S (lines_of bs) ≡ ends ending)

-- the run has ended so
pub tells_ending : (mode : Mode) (brands : List Tabled) (R : List Commit) (stands : State → Type 0) (refused : Option ℕ) (n : ℕ) (held holds bytes input : Option (List ℕ)) (ending : Ending) (complaint : Option Complaint)
    → RunsOn mode none_put brands R stands refused n held holds bytes input → ((S : State) → stands S → EndsSo mode S n ending bytes) → ((done : List Entry) → left_to_tell complaint ≡ record (told mode (ended_run done refused ending)) { out = [] })
    → IfSome input (λ bs. Tells complaint held holds (traced mode brands R bs))
tells_ending mode brands R stands refused n held holds bytes None ending complaint run ended is = tt
tells_ending mode brands R stands refused n held holds bytes (Some input) ending complaint run ended is =
    let known = run.known in
    let here : lines_from mode n run.state (lines_of known.to_come) ≡ ends ending = subst (EndsSo mode run.state n ending) known.here (ended run.state run.stood) in
    let whole : run_of mode brands R input ≡ ended_run run.done refused ending = known_run mode brands R refused [] n run.state run.done bytes input known ∙ no_more mode run.done refused n run.state (lines_of known.to_come) ending here in
    subst (λ r. Tells complaint held holds (told mode r)) (sym whole) (record {
      rest = is run.done;
      taken = run.text ∙ ap (after_known held) (sym (told-out mode run.done refused ending));
    })

-- so all entries are those that it has answered
pub all_entries : (mode : Mode) (brands : List Tabled) (R : List Commit) (stands : State → Type 0) (refused : Option ℕ) (n : ℕ) (held holds bytes input : Option (List ℕ)) (ending : Ending) (run : RunsOn mode none_put brands R stands refused n held holds bytes input) → EndsSo mode run.state n ending bytes
    → IfSome input (λ bs. run.done ≡ (run_of mode brands R bs).entries)
all_entries mode brands R stands refused n held holds bytes None ending run ended = tt
all_entries mode brands R stands refused n held holds bytes (Some input) ending run ended =
    let known = run.known in
    let here : lines_from mode n run.state (lines_of known.to_come) ≡ ends ending = subst (EndsSo mode run.state n ending) known.here ended in
    sym (ap (λ (r : Run). r.entries) (known_run mode brands R refused [] n run.state run.done bytes input known ∙ no_more mode run.done refused n run.state (lines_of known.to_come) ending here))

-- the five ways in which lines end
put_nothing : (mode : Mode) (S : State) (n : ℕ) (lines : List (List ℕ)) (ending : Ending) → script_from mode S.started n lines ≡ ends ending → lines_from mode n S lines ≡ ends ending
put_nothing mode S n lines ending is = ap (with_turns mode S) is

pub at_end : (mode : Mode) (S : State) (n : ℕ) (bytes : Option (List ℕ)) → IfSome (option_map lines_of bytes) (λ ls. ls ≡ []) → EndsSo mode S n At_end bytes
at_end mode S n None h = tt
at_end mode S n (Some bs) h = put_nothing mode S n (lines_of bs) At_end (ap (script_from mode S.started n) h)

past_limit : (n m : ℕ) → 4096 < m → (nat_lt 200000 n || nat_lt 4096 m) ≡ true
past_limit n m h = grind (arith, nat_tests)

first_long : (mode : Mode) (started : Bool) (n : ℕ) (lines : List (List ℕ)) → FirstIsLong lines → script_from mode started n lines ≡ ends (Past_limit n)
first_long mode started n [] h = absurd h
first_long mode started n (line ∷ ls) h = ap (λ v. cond v (ends (Past_limit n)) (line_said mode started n ls (said_by mode started line))) (past_limit n (length line) h)

pub at_long : (mode : Mode) (S : State) (n : ℕ) (bytes : Option (List ℕ)) → IfSome (option_map lines_of bytes) FirstIsLong → EndsSo mode S n (Past_limit n) bytes
at_long mode S n None h = tt
at_long mode S n (Some bs) h = put_nothing mode S n (lines_of bs) (Past_limit n) (first_long mode S.started n (lines_of bs) h)

pub at_fault : (mode : Mode) (S : State) (n : ℕ) (line : List ℕ) (fault : LineFault) (bytes : Option (List ℕ)) (new : Option (List (List ℕ))) → option_map lines_of bytes ≡ option_map (λ ls. line ∷ ls) new → n ≤ 200000 → length line ≤ 4096 → said_by mode S.started line ≡ Err fault → EndsSo mode S n (At_fault n fault) bytes
at_fault mode S n line fault None new is h k e = tt
at_fault mode S n line fault (Some bs) None is h k e = absurd (cc)
at_fault mode S n line fault (Some bs) (Some ls) is h k e =
    let first : lines_of bs ≡ line ∷ ls = cc in
    put_nothing mode S n (lines_of bs) (At_fault n fault) (ap (script_from mode S.started n) first ∙ script_line mode S.started n line ls h k ∙ ap (line_said mode S.started n ls) e)

pub at_misfit : (mode : Mode) (S : State) (n : ℕ) (line : List ℕ) (d : Due) (bytes : Option (List ℕ)) (new : Option (List (List ℕ))) → option_map lines_of bytes ≡ option_map (λ ls. line ∷ ls) new → n ≤ 200000 → length line ≤ 4096 → said_by mode S.started line ≡ Ok (Some d) → fits_due S d ≡ false → EndsSo mode S n (At_misfit n) bytes
at_misfit mode S n line d None new is h k e unfit = tt
at_misfit mode S n line d (Some bs) None is h k e unfit = absurd (cc)
at_misfit mode S n line d (Some bs) (Some ls) is h k e unfit =
    let first : lines_of bs ≡ line ∷ ls = cc in
    ap (lines_from mode n S) first ∙ misfits_line mode S n d line ls h k e unfit

past_last : (mode : Mode) (started : Bool) (b : ℕ) (bytes : List ℕ) → script_from mode started 200001 (lines_of (b ∷ bytes)) ≡ ends (Past_limit 200001)
past_last mode started b bytes =
    elim (is_newline b) as (λ v. script_from mode started 200001 (cond v ([] ∷ lines_of bytes) (with_first b (lines_of bytes))) ≡ ends (Past_limit 200001)) [
      | true ↦ refl
      | false ↦ elim (lines_of bytes) as (λ lines. script_from mode started 200001 (with_first b lines) ≡ ends (Past_limit 200001)) [
        | [] ↦ refl
        | line ∷ lines ↦ refl
      ]
    ]

pub at_last : (mode : Mode) (S : State) (ahead : List ℕ) (left : Option (List ℕ)) → 0 < length ahead → EndsSo mode S 200001 (Past_limit 200001) (before_known ahead left)
at_last mode S [] left some = absurd (omega arith)
at_last mode S (b ∷ ahead) None some = tt
at_last mode S (b ∷ ahead) (Some left) some = put_nothing mode S 200001 (lines_of (b ∷ (ahead ++ left))) (Past_limit 200001) (past_last mode S.started b (ahead ++ left))

-- before the input has ended, some whole replies were written
pub has_replies : (mode : Mode) (to_put : State → List (ℕ × Event)) (brands : List Tabled) (R : List Commit) (stands : State → Type 0) (refused : Option ℕ) (n : ℕ) (held holds bytes input : Option (List ℕ)) → RunsOn mode to_put brands R stands refused n held holds bytes input → IfSome input (λ bs. HasReplies mode held holds (run_of mode brands R bs))
has_replies mode to_put brands R stands refused n held holds bytes None run = tt
has_replies mode to_put brands R stands refused n held holds bytes (Some input) run =
    let is = known_run mode brands R refused (to_put run.state) n run.state run.done bytes input run.known in
    subst (HasReplies mode held holds) (sym is) (record {
      count = length run.done;
      taken = run.text ∙ ap (λ entries. after_known held (entries_text mode entries)) (sym (take-append_seam run.done _));
    })

-- the run over the lines taken has come to its entries, and goes on
so_far : (mode : Mode) (brands : List Tabled) (R : List Commit) (refused : Option ℕ) (to_put : List (ℕ × Event)) (n : ℕ) (S : State) (done : List Entry) (bytes : Option (List ℕ)) (input : List ℕ) (known : Knows mode brands R refused to_put n S done bytes input) → run_of mode brands R known.past ≡ run_onto mode done refused to_put n S []
so_far mode brands R refused to_put n S done bytes input known =
    from_first_line mode brands R known.past ∙ ap (run_on mode [] None 1 (opening brands R)) (sym (append-nil (lines_of known.past))) ∙ known.leads []

-- lines were taken, the beginning of one more, and a piece
abbrev takes : (mode : Mode) (brands : List Tabled) (R : List Commit) (refused : Option ℕ) (to_put : List (ℕ × Event)) (n : ℕ) (S : State) (done : List Entry) (bytes left : Option (List ℕ)) (input : List ℕ) → Knows mode brands R refused to_put n S done bytes input → TakesPiece bytes left → RunsLines mode brands R (Some input) left
takes mode brands R refused to_put n S done bytes left input known piece = record {
  lines = known.past;
  to_come = known.to_come;
  whole = known.fresh;
  going = ap (λ r. r.ending) (so_far mode brands R refused to_put n S done bytes input known);
  all = ap Some known.all;
  taken = takes_known bytes left known.to_come known.here piece;
}

pub runs_lines : (mode : Mode) (to_put : State → List (ℕ × Event)) (brands : List Tabled) (R : List Commit) (stands : State → Type 0) (refused : Option ℕ) (n : ℕ) (held holds bytes left input : Option (List ℕ)) → RunsOn mode to_put brands R stands refused n held holds bytes input → TakesPiece bytes left → IfSome input (λ _. RunsLines mode brands R input left)
runs_lines mode to_put brands R stands refused n held holds bytes left None run piece = tt
runs_lines mode to_put brands R stands refused n held holds bytes left (Some input) run piece = takes mode brands R refused (to_put run.state) n run.state run.done bytes left input run.known piece

-- and the lines were answered
abbrev answers : (mode : Mode) (brands : List Tabled) (R : List Commit) (stands : State → Type 0) (refused : Option ℕ) (n : ℕ) (held holds bytes left : Option (List ℕ)) (input : List ℕ) → RunsOn mode none_put brands R stands refused n held holds bytes (Some input) → TakesPiece bytes left → AnswersLines mode brands R (Some input) left held holds
answers mode brands R stands refused n held holds bytes left input run piece =
    let known = run.known in
    let entries : (run_of mode brands R known.past).entries ≡ run.done = ap (λ r. r.entries) (so_far mode brands R refused [] n run.state run.done bytes input known) ∙ append-nil run.done in
    record {
      runs = takes mode brands R refused [] n run.state run.done bytes left input known piece;
      text = run.text ∙ ap (λ entries. after_known held (entries_text mode entries)) (sym entries);
    }

pub answers_lines : (mode : Mode) (brands : List Tabled) (R : List Commit) (stands : State → Type 0) (refused : Option ℕ) (n : ℕ) (held holds bytes left input : Option (List ℕ)) → RunsOn mode none_put brands R stands refused n held holds bytes input → TakesPiece bytes left → IfSome input (λ _. AnswersLines mode brands R input left held holds)
answers_lines mode brands R stands refused n held holds bytes left None run piece = tt
answers_lines mode brands R stands refused n held holds bytes left (Some input) run piece = answers mode brands R stands refused n held holds bytes left input run piece

-- where the source failed
pub answers_read : (mode : Mode) (brands : List Tabled) (R : List Commit) (stands : State → Type 0) (refused : Option ℕ) (n : ℕ) (held holds bytes left input : Option (List ℕ)) → RunsOn mode none_put brands R stands refused n held holds bytes input → BeginsLine bytes left → IfSome input (λ _. AnswersRead mode brands R input left held holds)
answers_read mode brands R stands refused n held holds bytes left None run begins = tt
answers_read mode brands R stands refused n held holds bytes left (Some input) run begins =
    (answers mode brands R stands refused n held holds bytes left input run begins.0, begins.1)

-- all that is told is some of it
some_of : (mode : Mode) (brands : List Tabled) (R : List Commit) (held holds left : Option (List ℕ)) (input : Option (List ℕ)) → AnswersLines mode brands R input left held holds → AnswersSome mode brands R input left held holds
some_of mode brands R held holds left input lines = record {
  runs = lines.runs;
  told = (run_of mode brands R lines.runs.lines).entries;
  untold = [];
  whole = sym (append-nil (run_of mode brands R lines.runs.lines).entries);
  are_turns = All-nil (λ (x : Entry). is_turn x.event ≡ true);
  alone = λ is. refl;
  text = lines.text;
}

pub lines_some : (mode : Mode) (brands : List Tabled) (R : List Commit) (held holds left input : Option (List ℕ)) → IfSome input (λ _. AnswersLines mode brands R input left held holds) → IfSome input (λ _. AnswersSome mode brands R input left held holds)
lines_some mode brands R held holds left None lines = tt
lines_some mode brands R held holds left (Some input) lines = some_of mode brands R held holds left (Some input) lines

-- turns that were put in were answered, and others weren't
pub answers_some : (telling : Telling) (to_put : State → List (ℕ × Event)) (brands : List Tabled) (R : List Commit) (stands : State → Type 0) (refused : Option ℕ) (n : ℕ) (held holds bytes left input : Option (List ℕ)) (run : RunsOn (WithTurns telling) to_put brands R stands refused n held holds bytes input)
    → All (λ (x : Entry). is_turn x.event ≡ true) (entries_from run.state (map (λ (e : ℕ × Due). e.1) (all_unstated (to_put run.state) ++ []))) → TakesPiece bytes left → IfSome input (λ _. AnswersSome (WithTurns telling) brands R input left held holds)
answers_some telling to_put brands R stands refused n held holds bytes left None run are piece = tt
answers_some telling to_put brands R stands refused n held holds bytes left (Some input) run are piece =
    let known = run.known in
    record {
      runs = takes (WithTurns telling) brands R refused (to_put run.state) n run.state run.done bytes left input known piece;
      told = run.done;
      untold = entries_from run.state (map (λ (e : ℕ × Due). e.1) (all_unstated (to_put run.state) ++ []));
      whole = ap (λ (r : Run). r.entries) (so_far (WithTurns telling) brands R refused (to_put run.state) n run.state run.done bytes input known);
      are_turns = are;
      alone = λ is. absurd (cc);
      text = run.text;
    }

-- how a trace ended, where a call before it did
pub ends_writing : (mode : Mode) (brands : List Tabled) (R : List Commit) (r : Result (Option Complaint) RunFault) (held holds told left input : Option (List ℕ)) → r ≡ Err Write → IfSome input (λ bs. HasFront held holds (traced mode brands R bs).out) → IfSome input (λ _. RunsLines mode brands R input left)
    → EndsAs mode brands R r input left held holds told
ends_writing mode brands R r held holds told left input is front runs = rw is (front, runs)

pub ends_reading : (mode : Mode) (brands : List Tabled) (R : List Commit) (r : Result (Option Complaint) RunFault) (fault : ReadFault) (held holds told left input : Option (List ℕ)) → IsErrAnd r (λ e. e ≡ run_fault_of fault) → IfSome input (λ bs. HasReplies mode held told (run_of mode brands R bs))
    → IfSome input (λ _. AnswersLines mode brands R input left held told) → (fault ≡ Failed → IfSome input (λ _. AnswersRead mode brands R input left held told)) → EndsAs mode brands R r input left held holds told
ends_reading mode brands R (Ok x) fault held holds told left input is replies lines read = absurd is
ends_reading mode brands R (Err e) Failed held holds told left input is replies lines read = rw is (replies, read refl)
ends_reading mode brands R (Err e) No_memory held holds told left input is replies lines read = rw is (replies, lines_some mode brands R held told left input lines)

-- what was taken, however a trace ended
pub lines_run : (mode : Mode) (brands : List Tabled) (R : List Commit) (held holds left input : Option (List ℕ)) → IfSome input (λ _. AnswersLines mode brands R input left held holds) → IfSome input (λ _. RunsLines mode brands R input left)
lines_run mode brands R held holds left None answered = tt
lines_run mode brands R held holds left (Some input) answered = answered.runs

some_run : (mode : Mode) (brands : List Tabled) (R : List Commit) (held holds left input : Option (List ℕ)) → IfSome input (λ _. AnswersSome mode brands R input left held holds) → IfSome input (λ _. RunsLines mode brands R input left)
some_run mode brands R held holds left None answered = tt
some_run mode brands R held holds left (Some input) answered = answered.runs

read_run : (mode : Mode) (brands : List Tabled) (R : List Commit) (held holds left input : Option (List ℕ)) → IfSome input (λ _. AnswersRead mode brands R input left held holds) → IfSome input (λ _. RunsLines mode brands R input left)
read_run mode brands R held holds left None answered = tt
read_run mode brands R held holds left (Some input) answered = answered.0.runs

pub ends_run : (mode : Mode) (brands : List Tabled) (R : List Commit) (r : Result (Option Complaint) RunFault) (held holds told left input : Option (List ℕ)) → EndsAs mode brands R r input left held holds told → IfSome input (λ _. RunsLines mode brands R input left)
ends_run mode brands R (Ok x) held holds told left input ended = lines_run mode brands R held told left input ended.1
ends_run mode brands R (Err Write) held holds told left input ended = ended.1
ends_run mode brands R (Err Read) held holds told left input ended = read_run mode brands R held told left input ended.1
ends_run mode brands R (Err Memory) held holds told left input ended = some_run mode brands R held told left input ended.1
ends_run mode brands R (Err Disk) held holds told left input ended = some_run mode brands R held told left input ended.1

-- a front of a text in the midst of a longer one
front_within : (held between holds : Option (List ℕ)) (before text more : List ℕ) (count : ℕ) → between ≡ after_known held before → holds ≡ after_known between (take count text) → HasFront held holds (before ++ (text ++ more))
front_within held between holds before text more count b t =
    let all : holds ≡ after_known held (before ++ take count text) = t ∙ ap (λ known. after_known known (take count text)) b ∙ after_known-append held before (take count text) in
    elim (nat_le count (length text)) as (λ v. nat_le count (length text) ≡ v → HasFront held holds (before ++ (text ++ more))) [
      | true ↦ λ e.
          let short : count ≤ length text = grind (arith, nat_tests) in
          record { count = length before + count; taken = all ∙ ap (after_known held) (sym (take-append-add before (text ++ more) count ∙ ap (λ bytes. before ++ bytes) (take-append-le count text more short))) }
      | false ↦ λ e.
          let long : length text ≤ count = grind (arith, nat_tests) in
          record {
            count = length before + length text;
            taken = all ∙ ap (λ bytes. after_known held (before ++ bytes)) (take_all count text long)
                ∙ ap (after_known held) (sym (take-append-add before (text ++ more) (length text) ∙ ap (λ bytes. before ++ bytes) (take-append_seam text more)));
          }
    ] refl

-- what waited was not written whole: a front of the whole text was taken
pub flushed_front : (mode : Mode) (brands : List Tabled) (R : List Commit) (held holds now input : Option (List ℕ)) (waiting : List ℕ) → HasWritten held holds → IfSome input (λ bs. HasReplies mode held (after_known holds waiting) (run_of mode brands R bs)) → HasFront holds now waiting
    → IfSome input (λ bs. HasFront held now (traced mode brands R bs).out)
flushed_front mode brands R held holds now None waiting written replies front = tt
flushed_front mode brands R None holds now (Some bytes) waiting written replies front =
    record { count = 0; taken = front.taken ∙ ap (λ known. after_known known (take front.count waiting)) written.1 }
flushed_front mode brands R (Some begun) holds now (Some bytes) waiting written replies front =
    let run = run_of mode brands R bytes in
    let more = entries_text mode (drop replies.count run.entries) in
    let known : Some ((begun ++ written.0) ++ waiting) ≡ Some (begun ++ entries_text mode (take replies.count run.entries)) = sym (ap (λ known. after_known known waiting) written.1) ∙ replies.taken in
    let joined : written.0 ++ waiting ≡ entries_text mode (take replies.count run.entries) = append_cancel_left begun _ _ (sym (append_assoc begun written.0 waiting) ∙ cc) in
    let whole : (traced mode brands R bytes).out ≡ written.0 ++ (waiting ++ more) =
    told-out mode run.entries run.refused run.ending ∙ ap (entries_text mode) (sym (take-append-drop replies.count run.entries))
    ∙ flat_map-append (entry_text mode) (take replies.count run.entries) (drop replies.count run.entries) ∙ ap (λ text. text ++ more) (sym joined) ∙ append_assoc written.0 waiting more in
    subst (HasFront (Some begun) now) (sym whole) (front_within (Some begun) holds now written.0 waiting more front.count written.1 front.taken)

-- more and more was written
pub nothing_written : (known : Option (List ℕ)) → HasWritten known known
nothing_written known = ([], sym (after_known-nil known))

pub written_front : (held holds : Option (List ℕ)) (text : List ℕ) → HasFront held holds text → HasWritten held holds
written_front held holds text front = (take front.count text, front.taken)

pub written_on : (held between holds : Option (List ℕ)) → HasWritten held between → HasWritten between holds → HasWritten held holds
written_on held between holds first second = (first.0 ++ second.0, second.1 ∙ ap (λ known. after_known known second.0) first.1 ∙ after_known-append held first.0 second.0)

-- nothing waits
pub nothing_waits : (known : Option (List ℕ)) (waiting : List ℕ) → waiting ≡ [] → after_known known waiting ≡ known
nothing_waits known waiting none = rw none (after_known-nil known)

-- a byte ahead, after all the lines that there may be
pub tells_last : (mode : Mode) (brands : List Tabled) (R : List Commit) (stands : State → Type 0) (refused : Option ℕ) (n : ℕ) (held holds bytes : Option (List ℕ)) (ahead : List ℕ) (left input : Option (List ℕ))
    → RunsOn mode none_put brands R stands refused n held holds bytes input → n ≡ 200001 → bytes ≡ before_known ahead left → 0 < length ahead → IfSome input (λ bs. Tells (Some (Limit 200001)) held holds (traced mode brands R bs))
tells_last mode brands R stands refused n held holds bytes ahead left input run last same some =
    let here : RunsOn mode none_put brands R stands refused 200001 held holds bytes input = subst (λ m. RunsOn mode none_put brands R stands refused m held holds bytes input) last run in
    tells_ending mode brands R stands refused 200001 held holds bytes input (Past_limit 200001) (Some (Limit 200001)) here
    (λ S _. subst (EndsSo mode S 200001 (Past_limit 200001)) (sym same) (at_last mode S ahead left some)) (λ done. refl)

-- at an ending all replies were written, and the whole text
pub whole_replies : (mode : Mode) (brands : List Tabled) (R : List Commit) (complaint : Option Complaint) (held holds : Option (List ℕ)) (input : Option (List ℕ)) → IfSome input (λ bytes. Tells complaint held holds (traced mode brands R bytes)) → IfSome input (λ bytes. HasReplies mode held holds (run_of mode brands R bytes))
whole_replies mode brands R complaint held holds None tells = tt
whole_replies mode brands R complaint held holds (Some bytes) tells =
    let run = run_of mode brands R bytes in
    record {
      count = length run.entries;
      taken = tells.taken ∙ ap (after_known held) (told-out mode run.entries run.refused run.ending) ∙ ap (λ entries. after_known held (entries_text mode entries)) (sym (take-length run.entries));
    }

pub whole_front : (mode : Mode) (brands : List Tabled) (R : List Commit) (complaint : Option Complaint) (held holds : Option (List ℕ)) (input : Option (List ℕ)) → IfSome input (λ bytes. Tells complaint held holds (traced mode brands R bytes)) → IfSome input (λ bytes. HasFront held holds (traced mode brands R bytes).out)
whole_front mode brands R complaint held holds None tells = tt
whole_front mode brands R complaint held holds (Some bytes) tells =
    record { count = length (traced mode brands R bytes).out; taken = tells.taken ∙ ap (after_known held) (sym (take-length (traced mode brands R bytes).out)) }

refusal_alone : (text : List ℕ) (refused : Option ℕ) → record (told_refusal [] refused) { out = [] } ≡ record (told_refusal text refused) { out = [] }
refusal_alone text None = refl
refusal_alone text (Some n) = refl

-- the end of the input
pub tells_end : (mode : Mode) (brands : List Tabled) (R : List Commit) (stands : State → Type 0) (refused : Option ℕ) (n : ℕ) (held holds bytes input : Option (List ℕ)) (complaint : Option Complaint)
    → RunsOn mode none_put brands R stands refused n held holds bytes input → IfSome (option_map lines_of bytes) (λ ls. ls ≡ []) → left_to_tell complaint ≡ record (told_refusal [] refused) { out = [] } → IfSome input (λ bs. Tells complaint held holds (traced mode brands R bs))
tells_end mode brands R stands refused n held holds bytes input complaint run none is =
    tells_ending mode brands R stands refused n held holds bytes input At_end complaint run (λ S _. at_end mode S n bytes none) (λ done. is ∙ refusal_alone (entries_text mode done) refused)

nothing_ahead : (ahead : List ℕ) (left : Option (List ℕ)) → ahead ≡ [] → IsAtEnd left → IfSome (option_map lines_of (before_known ahead left)) (λ ls. ls ≡ [])
nothing_ahead ahead None none end = tt
nothing_ahead ahead (Some bs) none end = rw (none, end) refl

-- nothing is ahead, after all the lines that there may be
pub tells_last_end : (mode : Mode) (brands : List Tabled) (R : List Commit) (stands : State → Type 0) (refused : Option ℕ) (n : ℕ) (held holds bytes : Option (List ℕ)) (ahead : List ℕ) (left input : Option (List ℕ)) (complaint : Option Complaint)
    → RunsOn mode none_put brands R stands refused n held holds bytes input → bytes ≡ before_known ahead left → ahead ≡ [] → IsAtEnd left → left_to_tell complaint ≡ record (told_refusal [] refused) { out = [] } → IfSome input (λ bs. Tells complaint held holds (traced mode brands R bs))
tells_last_end mode brands R stands refused n held holds bytes ahead left input complaint run same none end is =
    tells_end mode brands R stands refused n held holds bytes input complaint run (subst (λ known. IfSome (option_map lines_of known) (λ ls. ls ≡ [])) (sym same) (nothing_ahead ahead left none end)) is

pub last_long : (mode : Mode) (S : State) (n : ℕ) (bytes : Option (List ℕ)) (ahead : List ℕ) (left : Option (List ℕ)) → n ≡ 200001 → bytes ≡ before_known ahead left → 0 < length ahead → EndsSo mode S n (Past_limit 200001) bytes
last_long mode S n bytes ahead left last same some = subst (λ m. EndsSo mode S m (Past_limit 200001) bytes) (sym last) (subst (EndsSo mode S 200001 (Past_limit 200001)) (sym same) (at_last mode S ahead left some))

pub last_end : (mode : Mode) (S : State) (n : ℕ) (bytes : Option (List ℕ)) (ahead : List ℕ) (left : Option (List ℕ)) → bytes ≡ before_known ahead left → ahead ≡ [] → IsAtEnd left → EndsSo mode S n At_end bytes
last_end mode S n bytes ahead left same none end = at_end mode S n bytes (subst (λ known. IfSome (option_map lines_of known) (λ ls. ls ≡ [])) (sym same) (nothing_ahead ahead left none end))

-- a line that is too long
pub tells_long : (mode : Mode) (brands : List Tabled) (R : List Commit) (stands : State → Type 0) (refused : Option ℕ) (n : ℕ) (held holds bytes input : Option (List ℕ)) → RunsOn mode none_put brands R stands refused n held holds bytes input → IfSome (option_map lines_of bytes) FirstIsLong → IfSome input (λ bs. Tells (Some (Limit n)) held holds (traced mode brands R bs))
tells_long mode brands R stands refused n held holds bytes input run long = tells_ending mode brands R stands refused n held holds bytes input (Past_limit n) (Some (Limit n)) run (λ S _. at_long mode S n bytes long) (λ done. refl)

-- a line outside the grammar
pub tells_fault : (mode : Mode) (brands : List Tabled) (R : List Commit) (stands : State → Type 0) (refused : Option ℕ) (n : ℕ) (held holds : Option (List ℕ)) (line : List ℕ) (fault : LineFault) (bytes : Option (List ℕ)) (new : Option (List (List ℕ))) (input : Option (List ℕ))
    → RunsOn mode none_put brands R stands refused n held holds bytes input → option_map lines_of bytes ≡ option_map (λ ls. line ∷ ls) new → n ≤ 200000 → length line ≤ 4096 → ((S : State) → stands S → said_by mode S.started line ≡ Err fault)
    → IfSome input (λ bs. Tells (Some (Bad_line n fault)) held holds (traced mode brands R bs))
tells_fault mode brands R stands refused n held holds line fault bytes new input run is h k says =
    tells_ending mode brands R stands refused n held holds bytes input (At_fault n fault) (Some (Bad_line n fault)) run (λ S stood. at_fault mode S n line fault bytes new is h k (says S stood)) (λ done. refl)

-- a line whose grant doesn't fit
pub tells_misfit : (mode : Mode) (brands : List Tabled) (R : List Commit) (stands : State → Type 0) (refused : Option ℕ) (n : ℕ) (held holds : Option (List ℕ)) (bytes input : Option (List ℕ))
    → RunsOn mode none_put brands R stands refused n held holds bytes input → ((S : State) → stands S → EndsSo mode S n (At_misfit n) bytes) → IfSome input (λ bs. Tells (Some (BadGrant n)) held holds (traced mode brands R bs))
tells_misfit mode brands R stands refused n held holds bytes input run ends = tells_ending mode brands R stands refused n held holds bytes input (At_misfit n) (Some (BadGrant n)) run ends (λ done. refl)

-- what waited when the trace ended was written, or wasn't
pub ends_written : (mode : Mode) (brands : List Tabled) (R : List Commit) (r : Result (Option Complaint) RunFault) (held holds now left input : Option (List ℕ)) (waiting : List ℕ) → now ≡ after_known holds waiting → (IsErrOf r Write ⊎ IsErrOf r Disk → waiting ≡ [])
    → EndsAs mode brands R r input left held holds (after_known holds waiting) → EndsAs mode brands R r input left held now now
ends_written mode brands R (Ok complaint) held holds now left input waiting is none ended = subst (λ told. EndsAs mode brands R (Ok complaint) input left held told told) (sym is) ended
ends_written mode brands R (Err Read) held holds now left input waiting is none ended = subst (λ told. EndsAs mode brands R (Err Read) input left held told told) (sym is) ended
ends_written mode brands R (Err Memory) held holds now left input waiting is none ended = subst (λ told. EndsAs mode brands R (Err Memory) input left held told told) (sym is) ended
ends_written mode brands R (Err Disk) held holds now left input waiting is none ended = subst (λ told. EndsAs mode brands R (Err Disk) input left held told told) (sym is) ended
ends_written mode brands R (Err Write) held holds now left input waiting is none ended =
    subst (λ told. EndsAs mode brands R (Err Write) input left held told told) (sym (is ∙ nothing_waits holds waiting (none (inl refl)))) ended

pub ends_unwritten : (mode : Mode) (brands : List Tabled) (R : List Commit) (r : Result (Option Complaint) RunFault) (held holds now left input : Option (List ℕ)) (waiting : List ℕ) → HasWritten held holds → HasFront holds now waiting → (waiting ≡ [] → ⊥) → (IsErrOf r Write ⊎ IsErrOf r Disk → waiting ≡ [])
    → EndsAs mode brands R r input left held holds (after_known holds waiting) → EndsAs mode brands R (Err Write) input left held now now
ends_unwritten mode brands R (Ok complaint) held holds now left input waiting written front some none ended =
    (flushed_front mode brands R held holds now input waiting written (whole_replies mode brands R complaint held (after_known holds waiting) input ended.0) front, lines_run mode brands R held (after_known holds waiting) left input ended.1)
ends_unwritten mode brands R (Err Read) held holds now left input waiting written front some none ended =
    (flushed_front mode brands R held holds now input waiting written ended.0 front, read_run mode brands R held (after_known holds waiting) left input ended.1)
ends_unwritten mode brands R (Err Memory) held holds now left input waiting written front some none ended =
    (flushed_front mode brands R held holds now input waiting written ended.0 front, some_run mode brands R held (after_known holds waiting) left input ended.1)
ends_unwritten mode brands R (Err Disk) held holds now left input waiting written front some none ended = absurd (some (none (inr refl)))
ends_unwritten mode brands R (Err Write) held holds now left input waiting written front some none ended = absurd (some (none (inl refl)))

-- a fault of an event or of its line ended the trace
pub ends_failed : (mode : Mode) (brands : List Tabled) (R : List Commit) (stands : State → Type 0) (fault : RunFault) (refused : Option ℕ) (n : ℕ) (held holds now old left input : Option (List ℕ)) (waiting now_waiting : List ℕ)
    → RunsOn mode none_put brands R stands refused n held (after_known holds waiting) old input → HasWritten held holds → LeavesText fault holds now waiting now_waiting → TakesPiece old left → EndsAs mode brands R (Err fault) input left held now (after_known now now_waiting)
ends_failed mode brands R stands Write refused n held holds now old left input waiting now_waiting run written text piece =
    (flushed_front mode brands R held holds now input waiting written (has_replies mode none_put brands R stands refused n held (after_known holds waiting) old input run) text.0, runs_lines mode none_put brands R stands refused n held (after_known holds waiting) old left input run piece)
ends_failed mode brands R stands Disk refused n held holds now old left input waiting now_waiting run written text piece =
    let told = runs_told mode none_put brands R stands refused n held (after_known holds waiting) (after_known now now_waiting) old input text.0 run in
    (has_replies mode none_put brands R stands refused n held (after_known now now_waiting) old input told, lines_some mode brands R held (after_known now now_waiting) left input (answers_lines mode brands R stands refused n held (after_known now now_waiting) old left input told piece))
ends_failed mode brands R stands Memory refused n held holds now old left input waiting now_waiting run written text piece =
    let told = runs_told mode none_put brands R stands refused n held (after_known holds waiting) (after_known now now_waiting) old input text run in
    (has_replies mode none_put brands R stands refused n held (after_known now now_waiting) old input told, lines_some mode brands R held (after_known now now_waiting) left input (answers_lines mode brands R stands refused n held (after_known now now_waiting) old left input told piece))
ends_failed mode brands R stands Read refused n held holds now old left input waiting now_waiting run written text piece = absurd text

-- or a fault of a turn that was put in
pub ends_midway : (telling : Telling) (to_put : State → List (ℕ × Event)) (brands : List Tabled) (R : List Commit) (stands : State → Type 0) (fault : RunFault) (refused : Option ℕ) (n : ℕ) (held holds now old left input : Option (List ℕ)) (waiting now_waiting : List ℕ)
    → (run : RunsOn (WithTurns telling) to_put brands R stands refused n held (after_known holds waiting) old input) → All (λ (x : Entry). is_turn x.event ≡ true) (entries_from run.state (map (λ (e : ℕ × Due). e.1) (all_unstated (to_put run.state) ++ [])))
    → HasWritten held holds → LeavesText fault holds now waiting now_waiting → TakesPiece old left → EndsAs (WithTurns telling) brands R (Err fault) input left held now (after_known now now_waiting)
ends_midway telling to_put brands R stands Write refused n held holds now old left input waiting now_waiting run are written text piece =
    (flushed_front (WithTurns telling) brands R held holds now input waiting written (has_replies (WithTurns telling) to_put brands R stands refused n held (after_known holds waiting) old input run) text.0, runs_lines (WithTurns telling) to_put brands R stands refused n held (after_known holds waiting) old left input run piece)
ends_midway telling to_put brands R stands Disk refused n held holds now old left input waiting now_waiting run are written text piece =
    subst (λ known. IfSome input (λ bs. HasReplies (WithTurns telling) held known (run_of (WithTurns telling) brands R bs)) × IfSome input (λ _. AnswersSome (WithTurns telling) brands R input left held known)) (sym text.0)
    (has_replies (WithTurns telling) to_put brands R stands refused n held (after_known holds waiting) old input run, answers_some telling to_put brands R stands refused n held (after_known holds waiting) old left input run are piece)
ends_midway telling to_put brands R stands Memory refused n held holds now old left input waiting now_waiting run are written text piece =
    subst (λ known. IfSome input (λ bs. HasReplies (WithTurns telling) held known (run_of (WithTurns telling) brands R bs)) × IfSome input (λ _. AnswersSome (WithTurns telling) brands R input left held known)) (sym text)
    (has_replies (WithTurns telling) to_put brands R stands refused n held (after_known holds waiting) old input run, answers_some telling to_put brands R stands refused n held (after_known holds waiting) old left input run are piece)
ends_midway telling to_put brands R stands Read refused n held holds now old left input waiting now_waiting run are written text piece = absurd text

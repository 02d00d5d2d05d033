-- The run of a trace, one line further.
use Rattle.std.proofs.Common.{◌≡◌, ◌+◌, ◌≤◌, ◌||◌, ◌++◌, ℕ, Bool, true, false, cond, nat_lt, List, [], ◌∷◌, length, map, Option, Some, None, Ok, refl, ap, sym, ◌∙◌, arith, append_assoc}
use Rattle.std.proofs.Math.Bool.{or-false}
use Rattle.std.proofs.lemmas.Bool.Decides.{nat_tests}
use Rattle.brand_hooks.specs.Brands.{Tabled}
use Rattle.commit_journal.specs.declared.records.Commit.{Commit}
use Rattle.zone_pools.specs.Pools.{or_else}
use Rattle.zone_cases.specs.State.{State}
use Rattle.zone_cases.specs.declared.events.Entry.{Entry}
use Rattle.zone_cases.specs.declared.events.Event.{Event}
use Rattle.zone_machine.specs.Machine.{opening}
use Rattle.zn_base.specs.Lines.{lines_of}
use Rattle.zones_run.specs.Midway.{lines_from, run_on, run_onto, with_script}
use Rattle.zones_run.specs.Scripting.{entry_in, numbered, opened, state_after, state_past, turns_after, with_events, with_turns}
use Rattle.zones_run.specs.Scripts.{At_misfit, Past_limit, Says, Script, counts, counts_event, ends, entries_from, entry_for, fits_due, said_by, script_from, state_for, unstated, with_due, with_line}
use Rattle.zones_run.specs.Tracing.{Run, first_refused, is_refusal, run_of}
use Rattle.zones_run.specs.declared.due.Due.{Due}
use Rattle.zones_run.specs.declared.words.Mode.{Mode}
use Rattle.zones_run.proofs.Putting.{started_past, unnumbered}

-- the run of a whole input has come to nothing before its first line
pub from_first_line : (mode : Mode) (brands : List Tabled) (R : List Commit) (bytes : List ℕ) → run_of mode brands R bytes ≡ run_on mode [] None 1 (opening brands R) (lines_of bytes)
from_first_line mode brands R bytes = refl

within : (n m : ℕ) → n ≤ 200000 → m ≤ 4096 → (nat_lt 200000 n || nat_lt 4096 m) ≡ false
within n m h k = grind (arith, nat_tests)

-- a line and those after it, by what it says
abbrev pub line_said : Mode → (started : Bool) → ℕ → List (List ℕ) → Says → Script
line_said mode started n lines said = with_line n said (script_from mode (started || counts said) (n + 1) lines)

-- the script of a line within the limits and those after it
pub script_line : (mode : Mode) (started : Bool) (n : ℕ) (line : List ℕ) (lines : List (List ℕ)) → n ≤ 200000 → length line ≤ 4096 → script_from mode started n (line ∷ lines) ≡ line_said mode started n lines (said_by mode started line)
script_line mode started n line lines h k =
    ap (λ v. cond v (ends (Past_limit n)) (line_said mode started n lines (said_by mode started line))) (within n (length line) h k)

-- a line that is no event changes nothing
pub skips_line : (mode : Mode) (done : List Entry) (refused : Option ℕ) (n : ℕ) (S : State) (line : List ℕ) (lines : List (List ℕ)) → n ≤ 200000 → length line ≤ 4096 → said_by mode S.started line ≡ Ok None → run_on mode done refused n S (line ∷ lines) ≡ run_on mode done refused (n + 1) S lines
skips_line mode done refused n S line lines h k e =
    ap (λ script. with_script done refused S (with_turns mode S script)) (script_line mode S.started n line lines h k ∙ ap (line_said mode S.started n lines) e ∙ ap (λ started. script_from mode started (n + 1) lines) (or-false S.started))

pub or_else-None : (o : Option ℕ) → or_else o None ≡ o
or_else-None None = refl
or_else-None (Some n) = refl

or_else-assoc : (a b c : Option ℕ) → or_else a (or_else b c) ≡ or_else (or_else a b) c
or_else-assoc None b c = refl
or_else-assoc (Some a) b c = refl

-- what an entry says of the first refusal
abbrev pub refused_at_line : ℕ → Entry → Option ℕ
refused_at_line n entry = cond (is_refusal entry.reply.head) (Some n) None

first_refused-cons : (n : ℕ) (d : Due) (events : List (ℕ × Due)) (entry : Entry) (entries : List Entry) → first_refused ((n, d) ∷ events) (entry ∷ entries) ≡ or_else (refused_at_line n entry) (first_refused events entries)
first_refused-cons n d events entry entries =
    elim (is_refusal entry.reply.head) as (λ b. cond b (Some n) (first_refused events entries) ≡ or_else (cond b (Some n) None) (first_refused events entries)) [ true ↦ refl | false ↦ refl ]

-- an event is answered, and the run goes on in the state after it
pub answers_event : (done : List Entry) (refused : Option ℕ) (S : State) (n : ℕ) (d : Due) (script : Script)
    → with_script done refused S (with_due (n, d) script) ≡ with_script (done ++ entry_for S d ∷ []) (or_else refused (refused_at_line n (entry_for S d))) (state_for S d) script
answers_event done refused S n d script =
    let entry = entry_for S d in
    let after = entries_from (state_for S d) (map (λ (x : ℕ × Due). x.1) script.events) in
    let make : List Entry → Option ℕ → Run = λ entries first. record { entries = entries; refused = first; ending = script.ending } in
    ap (λ entries. make entries (or_else refused (first_refused ((n, d) ∷ script.events) (entry ∷ after)))) (sym (append_assoc done (entry ∷ []) after))
    ∙ ap (make ((done ++ entry ∷ []) ++ after)) (ap (or_else refused) (first_refused-cons n d script.events entry after) ∙ or_else-assoc refused (refused_at_line n entry) (first_refused script.events after))

-- a turn that is put in is answered
pub answers_turn : (mode : Mode) (done : List Entry) (refused : Option ℕ) (m n : ℕ) (S : State) (e : Event) (to_put : List (ℕ × Event)) (lines : List (List ℕ))
    → run_onto mode done refused ((m, e) ∷ to_put) n S lines ≡ run_onto mode (done ++ entry_in S e ∷ []) (or_else refused (refused_at_line m (entry_in S e))) to_put n (state_after S e) lines
answers_turn mode done refused m n S e to_put lines =
    answers_event done refused S m (unstated e) (with_events to_put (lines_from mode n (state_past (state_after S e) (map (λ (x : ℕ × Event). x.1) to_put)) lines))

-- a line is, whose grant fits where it is stated, and the turns after it are put in
pub answers_line : (mode : Mode) (done : List Entry) (refused : Option ℕ) (n : ℕ) (S : State) (d : Due) (line : List ℕ) (lines : List (List ℕ)) → n ≤ 200000 → length line ≤ 4096 → said_by mode S.started line ≡ Ok (Some d) → fits_due S d ≡ true
    → run_on mode done refused n S (line ∷ lines)
    ≡ run_onto mode (done ++ entry_for S d ∷ []) (or_else refused (refused_at_line n (entry_for S d))) (numbered n (turns_after mode (opened (entry_for S d)) (state_for S d))) (n + 1) (state_for S d) lines
answers_line mode done refused n S d line lines h k is fits =
    let entry = entry_for S d in
    let T = state_for S d in
    let more = turns_after mode (opened entry) T in
    let onto : Script → Run = λ script. with_script (done ++ entry ∷ []) (or_else refused (refused_at_line n entry)) T (with_events (numbered n more) script) in
    let after : Script = with_turns mode (state_past T more) (script_from mode (S.started || counts_event d.event) (n + 1) lines) in
    ap (λ script. with_script done refused S (with_turns mode S script)) (script_line mode S.started n line lines h k ∙ ap (line_said mode S.started n lines) is)
    ∙ ap (λ b. with_script done refused S (cond b (with_due (n, d) (with_events (numbered n more) after)) (ends (At_misfit n)))) fits
    ∙ answers_event done refused S n d (with_events (numbered n more) after)
    ∙ ap (λ started. onto (with_turns mode (state_past T more) (script_from mode started (n + 1) lines))) (sym (started_past mode S d))
    ∙ ap (λ (U : State). onto (lines_from mode (n + 1) U lines)) (ap (state_past T) (sym (unnumbered n more)))

-- one whose grant doesn't fit ends the run
pub misfits_line : (mode : Mode) (S : State) (n : ℕ) (d : Due) (line : List ℕ) (lines : List (List ℕ)) → n ≤ 200000 → length line ≤ 4096 → said_by mode S.started line ≡ Ok (Some d) → fits_due S d ≡ false → lines_from mode n S (line ∷ lines) ≡ ends (At_misfit n)
misfits_line mode S n d line lines h k is unfit =
    let T = state_for S d in
    let more = turns_after mode (opened (entry_for S d)) T in
    let after : Script = with_turns mode (state_past T more) (script_from mode (S.started || counts_event d.event) (n + 1) lines) in
    ap (with_turns mode S) (script_line mode S.started n line lines h k ∙ ap (line_said mode S.started n lines) is)
    ∙ ap (λ b. cond b (with_due (n, d) (with_events (numbered n more) after)) (ends (At_misfit n))) unfit

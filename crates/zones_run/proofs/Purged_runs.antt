-- What `purge` keeps of a trace, run by `given`.
use Rattle.std.proofs.Common.{◌≡◌, ◌≤◌, ◌+◌, ◌++◌, ◌||◌, ◌&&◌, ℕ, suc, Bool, true, false, cond, List, [], ◌∷◌, All, length, map, Option, Some, None, Ok, Err, refl, ap, sym, subst, ◌∙◌, arith, append_assoc}
use Rattle.std.proofs.lemmas.Bool.{true≢false}
use Rattle.std.proofs.Math.Bool.{or-false}
use Rattle.std.proofs.lemmas.Bool.Decides.{nat_tests}
use Rattle.std.proofs.lemmas.List.Elements.{All-head, All-tail}
use Rattle.std.specs.Prelude.{IsTrue, filter}
use Rattle.std.specs.List.{flat_map, list_all}
use Rattle.brand_hooks.specs.Brands.{Tabled}
use Rattle.commit_journal.specs.declared.records.Commit.{Commit}
use Rattle.grant_text.specs.Text.{is_grant}
use Rattle.trace_text.specs.Given.{IsRight, given_of, is_late}
use Rattle.trace_text.specs.Lines.{Said, event_of, given_text}
use Rattle.trace_text.specs.Replies.{reply_text}
use Rattle.zn_base.specs.Lines.{is_newline, lines_of}
use Rattle.zn_base.specs.Names.{Name}
use Rattle.zn_base.specs.Text.{is_text_byte}
use Rattle.zone_cases.specs.State.{State}
use Rattle.zone_cases.specs.declared.events.Entry.{Entry}
use Rattle.zone_cases.specs.declared.events.Event.{Event}
use Rattle.zone_cases.specs.declared.events.Event.TheVariants.{Process as Call_of, Restart, Session, System, Turn}
use Rattle.zone_machine.specs.Machine.{one, opening}
use Rattle.zone_machine.specs.Machine.Histories.{after_entry, asked, is_allowed, concerns, entry_at, is_history, is_legal, is_told, only, run}
use Rattle.zone_machine.specs.Machine.Pools.{fits}
use Rattle.zone_pools.specs.declared.grant.Grant.{Grant}
use Rattle.zone_pools.specs.declared.grant.Grant.TheVariants.{Denied, Nothing, Number, Yes}
use Rattle.zone_views.specs.Numbers.{is_small}
use Rattle.input_lines.specs.Lines.{has_newline}
use Rattle.zones_run.specs.Output.{is_past_limit}
use Rattle.zones_run.specs.Purged.{PurgedRunsAsGiven, RunsAsKept, StandsIn}
use Rattle.zones_run.specs.Scripting.{put_in, with_turns}
use Rattle.zones_run.specs.Scripts.{At_end, At_fault, At_misfit, Ending, Past_limit, Says, Script, counts, counts_event, due_given, due_said, ends, entries_from, script_from, script_of, state_for, with_due, with_line}
use Rattle.zones_run.specs.Statuses.{status_refused}
use Rattle.zones_run.specs.Tracing.{Run, entries_text, run_of, script_run, told, told_ending, traced}
use Rattle.zones_run.specs.declared.due.Due.{Due}
use Rattle.zones_run.specs.declared.words.Mode.TheVariants.{Purged, Replies, Stated}
use Rattle.trace_text.proofs.Fair.{events_right}
use Rattle.trace_text.proofs.Printable.{given_printable}
use Rattle.trace_text.proofs.Read_back.{given_again}
use Rattle.zone_views.proofs.Kept_entries.{again}
use Rattle.zone_views.proofs.Kept_grants.{kept-fits}
use Rattle.zone_views.proofs.Numbered.{legal-fits}
use Rattle.zone_views.proofs.Purge.{opening-agree, run-asked}
use Rattle.zone_views.proofs.Small_numbers.{small-legal}
use Rattle.input_lines.proofs.Cuts.{cut_at}
use Rattle.zones_run.proofs.Permitted.{entries_permitted, lines_are_events}
use Rattle.zones_run.proofs.TraceEnds.{told-out}
use Rattle.zones_run.proofs.Traces.{line_said, script_line}

-- `purge` runs what `trace` runs
script_same : (zone : Name) (started : Bool) (n : ℕ) (lines : List (List ℕ)) → script_from (Purged zone) started n lines ≡ script_from Replies started n lines
script_same zone started n [] = refl
script_same zone started n (line ∷ lines) =
    let said = due_said (event_of started line) in
    ap (λ more. cond (is_past_limit n line) (ends (Past_limit n)) (with_line n said more)) (script_same zone (started || counts said) (n + 1) lines)

run_same : (zone : Name) (brands : List Tabled) (R : List Commit) (bytes : List ℕ) → run_of (Purged zone) brands R bytes ≡ run_of Replies brands R bytes
run_same zone brands R bytes =
    ap (script_run brands R) (lines_are_events (Purged zone) (opening brands R) bytes refl refl ∙ script_same zone false 1 (lines_of bytes) ∙ sym (lines_are_events Replies (opening brands R) bytes refl refl))

-- the line of an entry that is kept
abbrev line_of : Entry → List ℕ
line_of e = given_text e.grant e.event

abbrev text_of : List Entry → List ℕ
text_of es = flat_map (λ (e : Entry). line_of e ++ 10 ∷ []) es

kept_text : (zone : Name) (es : List Entry) → entries_text (Purged zone) es ≡ text_of (only zone es)
kept_text zone [] = refl
kept_text zone (e ∷ es) =
    let rest = filter (λ (x : Entry). concerns zone x.subject) es in
    elim (concerns zone e.subject) as (λ b. cond b (line_of e ++ 10 ∷ []) [] ++ entries_text (Purged zone) es ≡ text_of (cond b (e ∷ rest) rest)) [
      | true ↦ ap (λ text. (line_of e ++ 10 ∷ []) ++ text) (kept_text zone es)
      | false ↦ kept_text zone es
    ]

-- printable bytes have no newline
no_newline : (b : ℕ) → is_text_byte b ≡ true → is_newline b ≡ false
no_newline b h = grind (arith, nat_tests, h)

pub clean : (bytes : List ℕ) → list_all is_text_byte bytes ≡ true → has_newline bytes ≡ false
clean [] h = refl
clean (b ∷ bytes) h = both (is_text_byte b) (list_all is_text_byte bytes) h (no_newline b) (clean bytes)
  where
    both : (x y : Bool) → (x && y) ≡ true → (x ≡ true → is_newline b ≡ false) → (y ≡ true → has_newline bytes ≡ false) → (is_newline b || has_newline bytes) ≡ false
    both true true h here there = rw (here refl) (there refl)
    both true false h here there = absurd (true≢false (sym h))
    both false y h here there = absurd (true≢false (sym h))

-- what an entry of a trace is, for its line to be read again: its event is one that a line can say, and no declaration that comes late
pub record Fine (started : Bool) (e : Entry) : Type 0 where
  pub right : IsRight e.event
  pub timely : is_late started e.event ≡ false

abbrev AreFine : (started : Bool) → List Entry → Type 0
AreFine started [] = Unit {0}
AreFine started (e ∷ es) = Fine started e × AreFine (started || counts_event e.event) es

right_of : (started : Bool) (line : List ℕ) (e : Event) (entry : Entry) → entry.event ≡ e → event_of started line ≡ Ok (Some e) → Fine started entry
right_of started line e entry same is =
    let both = events_right started line e is in
    record { right = subst IsRight (sym same) both.0; timely = ap (is_late started) same ∙ both.1 }

-- each event of a trace's lines is such
abbrev ScriptFine : (started : Bool) → List (ℕ × Due) → Type 0
ScriptFine started events = (S : State) → AreFine started (entries_from S (map (λ (x : ℕ × Due). x.1) events))

fine_said : (started : Bool) (n : ℕ) (line : List ℕ) (said : Said) (more : Script) → event_of started line ≡ said → ScriptFine (started || counts (due_said said)) more.events → ScriptFine started (with_line n (due_said said) more).events
fine_said started n line (Ok (Some e)) more is rest = λ S. (right_of started line e _ refl is, rest _)
fine_said started n line (Ok None) more is rest = λ S. subst (λ b. AreFine b (entries_from S (map (λ (x : ℕ × Due). x.1) more.events))) (or-false started) (rest S)
fine_said started n line (Err fault) more is rest = λ S. tt

fine_script : (started : Bool) (n : ℕ) (lines : List (List ℕ)) → ScriptFine started (script_from Replies started n lines).events
fine_script started n [] = λ S. tt
fine_script started n (line ∷ lines) =
    let said = event_of started line in
    at_limit (is_past_limit n line) (with_line n (due_said said) (script_from Replies (started || counts (due_said said)) (n + 1) lines))
    (fine_said started n line said (script_from Replies (started || counts (due_said said)) (n + 1) lines) refl (fine_script (started || counts (due_said said)) (n + 1) lines))
  where
    at_limit : (b : Bool) (script : Script) → ScriptFine started script.events → ScriptFine started (cond b (ends (Past_limit n)) script).events
    at_limit true script fine = λ S. tt
    at_limit false script fine = fine

-- and so are the entries that are kept, before which no more have come
late_less : (a b : Bool) (e : Event) → (b ≡ true → a ≡ true) → is_late a e ≡ false → is_late b e ≡ false
late_less a true (System what) less timely = absurd (true≢false (sym (less refl) ∙ timely))
late_less a false (System what) less timely = refl
late_less a b (Session n text) less timely = refl
late_less a b (Turn z) less timely = refl
late_less a b (Call_of z pid c) less timely = refl
late_less a b Restart less timely = refl

or_less : (a b c : Bool) → (b ≡ true → a ≡ true) → (b || c) ≡ true → (a || c) ≡ true
or_less true b c less h = refl
or_less false true c less h = absurd (true≢false (sym (less refl)))
or_less false false c less h = h

or_skip : (a b c : Bool) → (b ≡ true → a ≡ true) → b ≡ true → (a || c) ≡ true
or_skip a b c less h = ap (λ x. x || c) (less h)

fine_kept : (zone : Name) (a b : Bool) (es : List Entry) → (b ≡ true → a ≡ true) → AreFine a es → AreFine b (only zone es)
fine_kept zone a b [] less fine = tt
fine_kept zone a b (e ∷ es) less fine =
    let c = counts_event e.event in
    by_subject (concerns zone e.subject) (filter (λ (x : Entry). concerns zone x.subject) es)
    (fine_kept zone (a || c) (b || c) es (or_less a b c less) fine.1) (fine_kept zone (a || c) b es (or_skip a b c less) fine.1)
  where
    by_subject : (k : Bool) (rest : List Entry) → AreFine (b || counts_event e.event) rest → AreFine b rest → AreFine b (cond k (e ∷ rest) rest)
    by_subject true rest with_it without = (record { right = fine.0.right; timely = late_less a b e.event less fine.0.timely }, with_it)
    by_subject false rest with_it without = without

-- a filter keeps what holds of each
small_kept : (zone : Name) (es : List Entry) → list_all (λ (e : Entry). is_small e.grant) es ≡ true → list_all (λ (e : Entry). is_small e.grant) (only zone es) ≡ true
small_kept zone [] h = h
small_kept zone (e ∷ es) h =
    by_test (is_small e.grant) (list_all (λ (e : Entry). is_small e.grant) es) h (concerns zone e.subject) (filter (λ (x : Entry). concerns zone x.subject) es) refl (small_kept zone es)
  where
    by_test : (x y : Bool) → (x && y) ≡ true → (k : Bool) (rest : List Entry) → is_small e.grant ≡ x → (y ≡ true → list_all (λ (e : Entry). is_small e.grant) rest ≡ true) → list_all (λ (e : Entry). is_small e.grant) (cond k (e ∷ rest) rest) ≡ true
    by_test true y h true rest is there = rw is (there h)
    by_test true y h false rest is there = there h
    by_test false y h k rest is there = absurd (true≢false (sym h))

fewer_kept : (zone : Name) (es : List Entry) → length (only zone es) ≤ length es
fewer_kept zone [] = omega arith
fewer_kept zone (e ∷ es) =
    let rest = filter (λ (x : Entry). concerns zone x.subject) es in
    let less : length rest ≤ length es = fewer_kept zone es in
    elim (concerns zone e.subject) as (λ b. length (cond b (e ∷ rest) rest) ≤ suc (length es)) [ true ↦ omega (arith, less) | false ↦ omega (arith, less) ]

-- a script has as many events as lines at most, and no more than 200,000
few_events : (started : Bool) (n : ℕ) (lines : List (List ℕ)) → n ≤ 200001 → n + length (script_from Replies started n lines).events ≤ 200001
few_events started n [] h = omega (arith, h)
few_events started n (line ∷ lines) h =
    let said = event_of started line in
    by_limit (is_past_limit n line) refl (due_said said) (script_from Replies (started || counts (due_said said)) (n + 1) lines) (few_events (started || counts (due_said said)) (n + 1) lines)
  where
    within : is_past_limit n line ≡ false → n ≤ 200000
    within is = grind (arith, nat_tests, is)

    one_line : (said : Says) (more : Script) → n + 1 + length more.events ≤ 200001 → n + length (with_line n said more).events ≤ 200001
    one_line (Ok (Some d)) more few = omega (arith, few)
    one_line (Ok None) more few = omega (arith, few)
    one_line (Err fault) more few = omega (arith, few)

    by_limit : (b : Bool) → is_past_limit n line ≡ b → (said : Says) (more : Script) → (n + 1 ≤ 200001 → n + 1 + length more.events ≤ 200001) → n + length (cond b (ends (Past_limit n)) (with_line n said more)).events ≤ 200001
    by_limit true is said more few = omega (arith, h)
    by_limit false is said more few =
        let low = within is in
        one_line said more (few (omega (arith, low)))

as_many : (S : State) (ds : List Due) → length (entries_from S ds) ≡ length ds
as_many S [] = refl
as_many S (d ∷ ds) = ap suc (as_many (state_for S d) ds)

as_many_events : (events : List (ℕ × Due)) → length (map (λ (x : ℕ × Due). x.1) events) ≡ length events
as_many_events [] = refl
as_many_events (e ∷ events) = ap suc (as_many_events events)

-- the lines of the entries that are kept
abbrev Printed : List Entry → Type 0
Printed es = All (λ (e : Entry). has_newline (line_of e) ≡ false) es

small_grant : (g : Grant) → is_small g ≡ true → IsTrue (is_grant g)
small_grant (Number n) h = h
small_grant Nothing h = refl
small_grant Yes h = refl
small_grant (Denied pool) h = refl

-- what is read of each: its line is printed, within the limit, and says its event and its grant
pub record Again (started : Bool) (e : Entry) : Type 0 where
  pub clean : has_newline (line_of e) ≡ false
  pub read : given_of started (line_of e) ≡ Ok (Some (e.grant, e.event))

abbrev AreAgain : (started : Bool) → List Entry → Type 0
AreAgain started [] = Unit {0}
AreAgain started (e ∷ es) = Again started e × AreAgain (started || counts_event e.event) es

are_again : (started : Bool) (es : List Entry) → AreFine started es → list_all (λ (e : Entry). is_small e.grant) es ≡ true → AreAgain started es
are_again started [] fine small = tt
are_again started (e ∷ es) fine small = by_test (is_small e.grant) (list_all (λ (e : Entry). is_small e.grant) es) small refl refl (are_again (started || counts_event e.event) es fine.1)
  where
    by_test : (x y : Bool) → (x && y) ≡ true → is_small e.grant ≡ x → list_all (λ (e : Entry). is_small e.grant) es ≡ y → (list_all (λ (e : Entry). is_small e.grant) es ≡ true → AreAgain (started || counts_event e.event) es) → Again started e × AreAgain (started || counts_event e.event) es
    by_test true y h is more rest =
        let grant = small_grant e.grant is in
        (record { clean = clean (line_of e) (given_printable e.grant e.event grant fine.0.right); read = given_again started e.grant e.event grant fine.0.right fine.0.timely }, rest (more ∙ h))
    by_test false y h is more rest = absurd (true≢false (sym h))

cut_lines : (started : Bool) (es : List Entry) → AreAgain started es → lines_of (text_of es) ≡ map line_of es
cut_lines started [] again = refl
cut_lines started (e ∷ es) again =
    ap lines_of (append_assoc (line_of e) (10 ∷ []) (text_of es)) ∙ cut_at (line_of e) (text_of es) again.0.clean ∙ ap (λ lines. line_of e ∷ lines) (cut_lines (started || counts_event e.event) es again.1)

-- the script that they are
abbrev due_of : Entry → Due
due_of e = record { event = e.event; stated = Some e.grant }

abbrev dues : ℕ → List Entry → List (ℕ × Due)
dues n [] = []
dues n (e ∷ es) = (n, due_of e) ∷ dues (n + 1) es

abbrev whole : ℕ → List Entry → Script
whole n es = record { events = dues n es; ending = At_end }

stated_script : (started : Bool) (n : ℕ) (es : List Entry) → AreAgain started es → All (λ (line : List ℕ). length line ≤ 4096) (map line_of es) → n + length es ≤ 200001 → script_from Stated started n (map line_of es) ≡ whole n es
stated_script started n [] again short few = refl
stated_script started n (e ∷ es) again short few =
    let rest = script_from Stated (started || counts_event e.event) (n + 1) (map line_of es) in
    script_line Stated started n (line_of e) (map line_of es) (omega (arith, few)) (All-head (λ (line : List ℕ). length line ≤ 4096) (line_of e) (map line_of es) short)
    ∙ ap (line_said Stated started n (map line_of es)) (ap due_given again.0.read)
    ∙ ap (with_due (n, due_of e)) (stated_script (started || counts_event e.event) (n + 1) es again.1 (All-tail (λ (line : List ℕ). length line ≤ 4096) (line_of e) (map line_of es) short) (omega (arith, few)))

-- each grant fits, so none cuts it
put_whole : (n : ℕ) (S : State) (es : List Entry) → is_history fits S es ≡ true → put_in Stated S (dues n es) At_end ≡ whole n es
put_whole n S [] h = refl
put_whole n S (e ∷ es) h =
    by_test (is_told S e) (fits S e.event e.grant) (is_history fits (after_entry S e) es) h refl (λ more. put_whole (n + 1) (after_entry S e) es more)
  where
    by_test : (x y k : Bool) → ((x && y) && k) ≡ true → fits S e.event e.grant ≡ y → (k ≡ true → put_in Stated (after_entry S e) (dues (n + 1) es) At_end ≡ whole (n + 1) es)
        → cond (fits S e.event e.grant) (with_due (n, due_of e) (put_in Stated (after_entry S e) (dues (n + 1) es) At_end)) (ends (At_misfit n)) ≡ whole n (e ∷ es)
    by_test true true k h is rest = ap (λ b. cond b (with_due (n, due_of e) (put_in Stated (after_entry S e) (dues (n + 1) es) At_end)) (ends (At_misfit n))) is ∙ ap (with_due (n, due_of e)) (rest h)
    by_test true false k h is rest = absurd (true≢false (sym h))
    by_test false y k h is rest = absurd (true≢false (sym h))

entries_run : (n : ℕ) (S : State) (es : List Entry) → entries_from S (map (λ (x : ℕ × Due). x.1) (dues n es)) ≡ run S (asked es)
entries_run n S [] = refl
entries_run n S (e ∷ es) = ap (λ l. entry_at S e.event e.grant ∷ l) (entries_run (n + 1) (one S e.event e.grant).state es)

-- the replies of what is kept
text_same : (es : List Entry) → entries_text Stated es ≡ flat_map (λ (e : Entry). reply_text e.subject e.reply) es
text_same es = refl

-- a status of 0 or 1 is that of lines which come to their end
low_status : (text : List ℕ) (refused : Option ℕ) (ending : Ending) → (told_ending text refused ending).status ≤ status_refused → ending ≡ At_end
low_status text refused At_end low = refl
low_status text refused (At_fault n fault) low = absurd (omega (arith, low))
low_status text refused (At_misfit n) low = absurd (omega (arith, low))
low_status text refused (Past_limit n) low = absurd (omega (arith, low))

end_status : (text : List ℕ) (refused : Option ℕ) → (told_ending text refused At_end).status ≤ status_refused
end_status text None = omega arith
end_status text (Some n) = omega arith

-- the grants of a legal history fit, also without the entries that aren't kept; and those that are stay what they are
fits_kept : (zone : Name) (brands : List Tabled) (R others : List Commit) (h : List Entry) → is_history fits (opening brands R) h ≡ true → StandsIn zone others R → is_history fits (opening brands others) (only zone h) ≡ true
fits_kept zone brands R others h is stands =
    kept-fits zone (opening brands R) (opening brands others) h (record { agree = opening-agree zone brands R others stands.same; zones = stands.few; records = stands.shorter; bytes = stands.smaller }) is

stay_kept : (zone : Name) (brands : List Tabled) (R others : List Commit) (h : List Entry) → is_legal (opening brands R) h ≡ true → StandsIn zone others R → run (opening brands others) (asked (only zone h)) ≡ only zone h
stay_kept zone brands R others h is stands =
    subst (λ k. run (opening brands others) (asked (only zone k)) ≡ only zone k) (run-asked is_allowed (opening brands R) h is) (again zone (asked h) (opening brands R) (opening brands others) (opening-agree zone brands R others stands.same))

pub purged_runs : PurgedRunsAsGiven
purged_runs brands R others zone bytes low short stands =
    let traced_run = run_of Replies brands R bytes in
    let h = traced_run.entries in
    let kept = only zone h in
    let S = opening brands others in
    let script = script_of Replies bytes in
    let same = run_same zone brands R bytes in
    let plain : with_turns Replies (opening brands R) script ≡ script = lines_are_events Replies (opening brands R) bytes refl refl in
    let entries_plain : h ≡ entries_from (opening brands R) (map (λ (x : ℕ × Due). x.1) script.events) = ap (λ (s : Script). entries_from (opening brands R) (map (λ (x : ℕ × Due). x.1) s.events)) plain in
    let legal : is_legal (opening brands R) h ≡ true = entries_permitted Replies brands R bytes in
    let fitting = legal-fits brands R h legal in
    let text : (traced (Purged zone) brands R bytes).out ≡ text_of kept =
    ap (λ (r : Run). (told (Purged zone) r).out) same ∙ told-out (Purged zone) h traced_run.refused traced_run.ending ∙ kept_text zone h in
    let fine : AreFine false h = subst (AreFine false) (sym entries_plain) (fine_script false 1 (lines_of bytes) (opening brands R)) in
    let again = are_again false kept (fine_kept zone false false h (λ b. b) fine) (small_kept zone h (small-legal (opening brands R) h legal)) in
    let lines : lines_of (text_of kept) ≡ map line_of kept = cut_lines false kept again in
    let few : 1 + length kept ≤ 200001 =
    (let less = fewer_kept zone h in
    let most = few_events false 1 (lines_of bytes) (omega arith) in
    let count : length h ≡ length script.events = ap length entries_plain ∙ as_many (opening brands R) (map (λ (x : ℕ × Due). x.1) script.events) ∙ as_many_events script.events in
    omega (arith, less, most, count)) in
    let read : script_of Stated (text_of kept) ≡ whole 1 kept =
    ap (script_from Stated false 1) lines ∙ stated_script false 1 kept again (subst (All (λ (line : List ℕ). length line ≤ 4096)) (ap lines_of text ∙ lines) short) few in
    let put : with_turns Stated S (script_of Stated (text_of kept)) ≡ whole 1 kept = ap (with_turns Stated S) read ∙ put_whole 1 S kept (fits_kept zone brands R others h fitting stands) in
    let entries : (run_of Stated brands others (text_of kept)).entries ≡ kept =
    ap (λ (s : Script). entries_from S (map (λ (x : ℕ × Due). x.1) s.events)) put ∙ entries_run 1 S kept ∙ stay_kept zone brands R others h legal stands in
    let ending : (run_of Stated brands others (text_of kept)).ending ≡ At_end = ap (λ (s : Script). s.ending) put in
    let given_run = run_of Stated brands others (text_of kept) in
    subst (λ t. RunsAsKept zone brands others t traced_run) (sym text) (record {
      ending = ending;
      entries = entries;
      replies = told-out Stated given_run.entries given_run.refused given_run.ending ∙ ap (entries_text Stated) entries;
      status = subst (λ e. (told_ending (entries_text Stated given_run.entries) given_run.refused e).status ≤ status_refused) (sym ending) (end_status (entries_text Stated given_run.entries) given_run.refused);
    })

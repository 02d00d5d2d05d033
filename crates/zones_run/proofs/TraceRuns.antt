-- What a machine, standard output and the bytes to come amount to, in the midst of a trace.
use Rattle.std.proofs.Common.{◌≡◌, ◌+◌, ◌≤◌, ◌<◌, ◌++◌, ◌⊎◌, ◌||◌, ℕ, zero, suc, Bool, true, false, cond, List, [], ◌∷◌, length, map, Option, Some, None, IfSome, Ok, Err, refl, ap, sym, subst, inl, inr, ◌∙◌, arith, append_assoc}
use Rattle.std.proofs.Math.Bool.{or-true}
use Rattle.std.proofs.lemmas.Bool.{false≢true, true≢false}
use Rattle.std.specs.List.{list_any}
use Rattle.std.specs.Option.{option_map}
use Rattle.std.specs.Io.KnownBytes.{IsAtEnd}
use Rattle.std.proofs.lemmas.List.{append-nil}
use Rattle.zn_io.specs.Streams.{after_known, before_known}
use Rattle.brand_hooks.specs.Brands.{Tabled}
use Rattle.commit_journal.specs.declared.records.Commit.{Commit}
use Rattle.zn_io.specs.Disk.{View}
use Rattle.zone_machine.specs.Machine.Histories.{after, after_entry}
use Rattle.zone_cases.specs.Events.{is_restart}
use Rattle.zone_machine.specs.Machine.{opening}
use Rattle.zone_pools.specs.Pools.{or_else}
use Rattle.zone_cases.specs.State.{State}
use Rattle.zone_cases.specs.declared.events.Entry.{Entry}
use Rattle.zone_cases.specs.declared.events.Event.{Event}
use Rattle.zone_cases.specs.declared.events.Event.TheVariants.{Turn}
use Rattle.zone_cases.specs.declared.events.Answer.{Answer}
use Rattle.zone_machine.specs.Code.Decided.{entry_by}
use Rattle.zn_base.specs.Lines.{is_newline, lines_of, with_first}
use Rattle.input_lines.specs.Lines.{AreWhole, has_newline}
use Rattle.input_lines.specs.Reading.{TakesLine}
use Rattle.zones_run.specs.Answering.{FindsAlways, IsAnswered, RestartsWell, RestartsWellAt, TakesEvent, refused_with, taken_by}
use Rattle.zones_run.specs.Midway.{Follows, Knows, RunsOn, lines_from, none_put, puts_after, puts_until, run_on, run_onto}
use Rattle.zones_run.specs.Recording.{GoesSurely, IsFront}
use Rattle.zones_run.specs.Scripting.{entry_in, is_last, numbered, opened, puts_in, state_after, state_past, turns_after, turns_until, with_events, with_turns}
use Rattle.zones_run.specs.Scripts.{Says, entries_from, entry_for, fits_due, has_restart, said_by, script_of, state_for, unstated}
use Rattle.zones_run.specs.Tracing.{Run, entries_text, entry_text, is_refusal, run_of}
use Rattle.zones_run.specs.declared.due.Due.{Due}
use Rattle.zones_run.specs.declared.turns.Opened.{Opened}
use Rattle.zones_run.specs.declared.turns.Taken.{Taken as Told}
use Rattle.zones_run.specs.declared.words.Mode.{Mode}
use Rattle.zones_run.specs.declared.words.Mode.TheVariants.{Purged, Replies, Stated, WithTurns}
use Rattle.zones_run.specs.declared.words.Telling.{Telling}
use Rattle.input_lines.proofs.Cuts.{cut_at, cut_whole}
use Rattle.zones_run.proofs.Fronts.{after_known-append, after_known-nil}
use Rattle.zones_run.proofs.Histories.{after-push, history-entry, suits_said}
use Rattle.zones_run.proofs.Putting.{none_after, put_rests}
use Rattle.zones_run.proofs.Traces.{answers_line, answers_turn, from_first_line, or_else-None, refused_at_line, skips_line}

-- at the start
pub runs_from_start : (mode : Mode) (brands : List Tabled) (R : List Commit) (stands : State → Type 0) (held input : Option (List ℕ)) → stands (opening brands R) → RunsOn mode none_put brands R stands None 1 held held (before_known [] input) input
runs_from_start mode brands R stands held input stood = record {
  state = opening brands R;
  stood = stood;
  done = [];
  text = sym (after_known-nil held);
  known = at_input input;
}
  where
    at_input : (input : Option (List ℕ)) → IfSome input (Knows mode brands R None [] 1 (opening brands R) [] (before_known [] input))
    at_input None = tt
    at_input (Some bytes) = record { past = []; to_come = bytes; here = refl; all = refl; fresh = inl (inl refl); leads = λ lines. refl }

-- what was reported in another way
pub runs_told : (mode : Mode) (to_put : State → List (ℕ × Event)) (brands : List Tabled) (R : List Commit) (stands : State → Type 0) (refused : Option ℕ) (n : ℕ) (held holds now_holds bytes input : Option (List ℕ)) → now_holds ≡ holds → RunsOn mode to_put brands R stands refused n held holds bytes input → RunsOn mode to_put brands R stands refused n held now_holds bytes input
runs_told mode to_put brands R stands refused n held holds now_holds bytes input same run = subst (λ known. RunsOn mode to_put brands R stands refused n held known bytes input) (sym same) run

-- lines that end in a newline are followed by those of the bytes after them
lines_of-onto : (front bytes : List ℕ) → lines_of ((front ++ 10 ∷ []) ++ bytes) ≡ lines_of (front ++ 10 ∷ []) ++ lines_of bytes
lines_of-onto [] bytes = refl
lines_of-onto (b ∷ front) bytes =
    elim (is_newline b) as (λ v. cond v ([] ∷ lines_of ((front ++ 10 ∷ []) ++ bytes)) (with_first b (lines_of ((front ++ 10 ∷ []) ++ bytes))) ≡ cond v ([] ∷ lines_of (front ++ 10 ∷ [])) (with_first b (lines_of (front ++ 10 ∷ []))) ++ lines_of bytes) [
      | true ↦ ap (λ lines. [] ∷ lines) (lines_of-onto front bytes)
      | false ↦ ap (with_first b) (lines_of-onto front bytes) ∙ joined (lines_of (front ++ 10 ∷ [])) (some_line front)
    ]
  where
    some_line : (front : List ℕ) → 0 < length (lines_of (front ++ 10 ∷ []))
    some_line [] = omega arith
    some_line (c ∷ front) = elim (is_newline c) as (λ v. 0 < length (cond v ([] ∷ lines_of (front ++ 10 ∷ [])) (with_first c (lines_of (front ++ 10 ∷ []))))) [
      | true ↦ omega arith
      | false ↦ elim (lines_of (front ++ 10 ∷ [])) as (λ lines. 0 < length (with_first c lines)) [ [] ↦ omega arith | line ∷ lines ↦ omega arith ]
    ]

    joined : (lines : List (List ℕ)) → 0 < length lines → with_first b (lines ++ lines_of bytes) ≡ with_first b lines ++ lines_of bytes
    joined [] h = absurd (omega arith)
    joined (line ∷ lines) h = refl

lines_of-append : (past bytes : List ℕ) → AreWhole past → lines_of (past ++ bytes) ≡ lines_of past ++ lines_of bytes
lines_of-append past bytes (inl none) = rw none refl
lines_of-append past bytes (inr whole) = rw whole.1 (lines_of-onto whole.0 bytes)

-- one piece of the bytes to come is taken as a line
pub record Taken (past line to_come : List ℕ) (new : Option (List ℕ)) : Type 0 where
  pub now_past : List ℕ
  pub now_to_come : List ℕ
  pub here : new ≡ Some now_to_come
  pub all : past ++ to_come ≡ now_past ++ now_to_come
  pub fresh : AreWhole now_past ⊎ (now_to_come ≡ [])
  pub lines : lines_of now_past ≡ lines_of past ++ line ∷ []

takes_whole : (past line to_come : List ℕ) (new : Option (List ℕ)) → AreWhole past → has_newline line ≡ false → Some to_come ≡ before_known (line ++ 10 ∷ []) new → Taken past line to_come new
takes_whole past line to_come None whole clean is = absurd (cc)
takes_whole past line to_come (Some rest) whole clean is =
    let come : to_come ≡ (line ++ 10 ∷ []) ++ rest = cc in
    record {
      now_past = past ++ (line ++ 10 ∷ []);
      now_to_come = rest;
      here = refl;
      all = ap (λ bytes. past ++ bytes) come ∙ sym (append_assoc past (line ++ 10 ∷ []) rest);
      fresh = inl (inr (past ++ line, sym (append_assoc past line (10 ∷ []))));
      lines = lines_of-append past (line ++ 10 ∷ []) whole ∙ ap (λ lines. lines_of past ++ lines) (cut_at line [] clean);
    }

takes_last : (past line to_come : List ℕ) (new : Option (List ℕ)) → AreWhole past → has_newline line ≡ false → Some to_come ≡ before_known line new → 0 < length line → IsAtEnd new → Taken past line to_come new
takes_last past line to_come None whole clean is some end = absurd (cc)
takes_last past line to_come (Some rest) whole clean is some end =
    let come : to_come ≡ line ++ rest = cc in
    record {
      now_past = past ++ line;
      now_to_come = rest;
      here = refl;
      all = ap (λ bytes. past ++ bytes) come ∙ sym (append_assoc past line rest);
      fresh = inr end;
      lines = lines_of-append past line whole ∙ ap (λ lines. lines_of past ++ lines) (cut_whole line clean some);
    }

nothing_left : (line rest : List ℕ) → [] ≡ (line ++ 10 ∷ []) ++ rest → ⊥
nothing_left [] rest e = cc
nothing_left (b ∷ line) rest e = cc

none_to_take : (past line to_come : List ℕ) (new : Option (List ℕ)) → to_come ≡ [] → Some to_come ≡ before_known (line ++ 10 ∷ []) new → ⊥
none_to_take past line to_come None none is = cc
none_to_take past line to_come (Some rest) none is = let e : [] ≡ (line ++ 10 ∷ []) ++ rest = cc in nothing_left line rest e

none_to_end : (line to_come : List ℕ) (new : Option (List ℕ)) → to_come ≡ [] → Some to_come ≡ before_known line new → 0 < length line → ⊥
none_to_end [] to_come new none is some = omega arith
none_to_end (b ∷ line) to_come None none is some = cc
none_to_end (b ∷ line) to_come (Some rest) none is some = cc

pub takes : (past line to_come : List ℕ) (new : Option (List ℕ)) → AreWhole past ⊎ (to_come ≡ []) → TakesLine line (Some to_come) new → Taken past line to_come new
takes past line to_come new (inl whole) took = elim took.ended as (λ _. Taken past line to_come new) [
  | inl newline ↦ takes_whole past line to_come new whole took.clean newline
  | inr last ↦ takes_last past line to_come new whole took.clean last.0 last.1 last.2
]
takes past line to_come new (inr none) took = elim took.ended as (λ _. Taken past line to_come new) [
  | inl newline ↦ absurd (none_to_take past line to_come new none newline)
  | inr last ↦ absurd (none_to_end line to_come new none last.0 last.1)
]

-- a line is taken, and the run goes on after it with the turns that are put in
one_line : (mode : Mode) (brands : List Tabled) (R : List Commit) (done now_done : List Entry) (refused now : Option ℕ) (n : ℕ) (S T : State) (to_put : List (ℕ × Event)) (line : List ℕ) (old new : Option (List ℕ)) (input : List ℕ)
    → ((lines : List (List ℕ)) → run_on mode done refused n S (line ∷ lines) ≡ run_onto mode now_done now to_put (n + 1) T lines) → Knows mode brands R refused [] n S done old input → TakesLine line old new → Knows mode brands R now to_put (n + 1) T now_done new input
one_line mode brands R done now_done refused now n S T to_put line old new input step known took =
    let taken = takes known.past line known.to_come new known.fresh (subst (λ bytes. TakesLine line bytes new) known.here took) in
    record {
      past = taken.now_past;
      to_come = taken.now_to_come;
      here = taken.here;
      all = known.all ∙ taken.all;
      fresh = taken.fresh;
      leads = λ lines. ap (λ front. run_on mode [] None 1 (opening brands R) (front ++ lines)) taken.lines
          ∙ ap (run_on mode [] None 1 (opening brands R)) (append_assoc (lines_of known.past) (line ∷ []) lines) ∙ known.leads (line ∷ lines) ∙ step lines;
    }

for_input : (mode : Mode) (brands : List Tabled) (R : List Commit) (done now_done : List Entry) (refused now : Option ℕ) (n : ℕ) (S T : State) (to_put : List (ℕ × Event)) (line : List ℕ) (old new input : Option (List ℕ))
    → ((lines : List (List ℕ)) → run_on mode done refused n S (line ∷ lines) ≡ run_onto mode now_done now to_put (n + 1) T lines) → TakesLine line old new → IfSome input (Knows mode brands R refused [] n S done old) → IfSome input (Knows mode brands R now to_put (n + 1) T now_done new)
for_input mode brands R done now_done refused now n S T to_put line old new None step took known = tt
for_input mode brands R done now_done refused now n S T to_put line old new (Some input) step took known = one_line mode brands R done now_done refused now n S T to_put line old new input step known took

-- a turn that is put in is answered, and the run goes on after it
one_turn : (mode : Mode) (brands : List Tabled) (R : List Commit) (done : List Entry) (refused now : Option ℕ) (m n : ℕ) (S : State) (e : Event) (to_put : List (ℕ × Event)) (bytes : Option (List ℕ)) (input : List ℕ) → or_else refused (refused_at_line m (entry_in S e)) ≡ now
    → Knows mode brands R refused ((m, e) ∷ to_put) n S done bytes input → Knows mode brands R now to_put n (state_after S e) (done ++ entry_in S e ∷ []) bytes input
one_turn mode brands R done refused now m n S e to_put bytes input told known = record {
  past = known.past;
  to_come = known.to_come;
  here = known.here;
  all = known.all;
  fresh = known.fresh;
  leads = λ lines. known.leads lines ∙ answers_turn mode done refused m n S e to_put lines ∙ ap (λ r. run_onto mode (done ++ entry_in S e ∷ []) r to_put n (state_after S e) lines) told;
}

turn_known : (mode : Mode) (brands : List Tabled) (R : List Commit) (done : List Entry) (refused now : Option ℕ) (m n : ℕ) (S : State) (e : Event) (to_put : List (ℕ × Event)) (bytes input : Option (List ℕ)) → or_else refused (refused_at_line m (entry_in S e)) ≡ now
    → IfSome input (Knows mode brands R refused ((m, e) ∷ to_put) n S done bytes) → IfSome input (Knows mode brands R now to_put n (state_after S e) (done ++ entry_in S e ∷ []) bytes)
turn_known mode brands R done refused now m n S e to_put bytes None told known = tt
turn_known mode brands R done refused now m n S e to_put bytes (Some input) told known = one_turn mode brands R done refused now m n S e to_put bytes input told known

-- a line that is no event
pub runs_past : (mode : Mode) (brands : List Tabled) (R : List Commit) (stands : State → Type 0) (refused : Option ℕ) (n : ℕ) (held holds : Option (List ℕ)) (line : List ℕ) (old new input : Option (List ℕ))
    → (run : RunsOn mode none_put brands R stands refused n held holds old input) → TakesLine line old new → n ≤ 200000 → length line ≤ 4096 → said_by mode run.state.started line ≡ Ok None → IfSome input (Knows mode brands R refused [] (n + 1) run.state run.done new)
runs_past mode brands R stands refused n held holds line old new input run took h k e =
    for_input mode brands R run.done run.done refused refused n run.state run.state [] line old new input (λ lines. skips_line mode run.done refused n run.state line lines h k e) took run.known

entries_text-push : (mode : Mode) (done : List Entry) (entry : Entry) → entries_text mode (done ++ entry ∷ []) ≡ entries_text mode done ++ entry_text mode entry
entries_text-push mode [] entry = append-nil (entry_text mode entry)
entries_text-push mode (d ∷ done) entry = ap (λ text. entry_text mode d ++ text) (entries_text-push mode done entry) ∙ sym (append_assoc (entry_text mode d) (entries_text mode done) (entry_text mode entry))

pub refused_as : (refused : Option ℕ) (n : ℕ) (entry : Entry) → or_else refused (refused_at_line n entry) ≡ refused_with refused n entry.reply.head
refused_as refused n entry = elim (is_refusal entry.reply.head) as (λ b. or_else refused (cond b (Some n) None) ≡ cond b (or_else refused (Some n)) refused) [ true ↦ refl | false ↦ or_else-None refused ]

-- what was written after one entry more
text-push : (mode : Mode) (done : List Entry) (entry : Entry) (held holds now_holds : Option (List ℕ)) → holds ≡ after_known held (entries_text mode done) → now_holds ≡ after_known holds (entry_text mode entry) → now_holds ≡ after_known held (entries_text mode (done ++ entry ∷ []))
text-push mode done entry held holds now_holds text more =
    more ∙ ap (λ known. after_known known (entry_text mode entry)) text ∙ after_known-append held (entries_text mode done) (entry_text mode entry) ∙ ap (after_known held) (sym (entries_text-push mode done entry))

-- the event that a line was read as is answered
pub takes_answered : (mode : Mode) (S : State) (now_stands : State → Type 0) (same : Type 0) (v w : View) (started : Bool) (line : List ℕ) (d : Due) (a : Answer) (n : ℕ) (refused : Option ℕ) (taken : Told) (holds now_holds : Option (List ℕ))
    → started ≡ S.started → said_by mode started line ≡ Ok (Some d) → (RestartsWellAt S d v → IsAnswered mode S d a now_stands v w holds now_holds) → taken ≡ taken_by refused n (entry_by d.event a)
    → RestartsWell S (said_by mode S.started line) v → TakesEvent mode S (said_by mode S.started line) now_stands same v w n refused taken holds now_holds
takes_answered mode S now_stands same v w started line d a n refused taken holds now_holds is says answered so well =
    let said : said_by mode S.started line ≡ Ok (Some d) = sym (ap (λ b. said_by mode b line) is) ∙ says in
    let answer = answered (subst (λ s. RestartsWell S s v) said well) in
    subst (λ s. TakesEvent mode S s now_stands same v w n refused taken holds now_holds) (sym said) (a, answer, so ∙ ap (taken_by refused n) answer.told)

-- a line that was read as no event
pub takes_nothing : (mode : Mode) (S : State) (now_stands : State → Type 0) (same : Type 0) (v w : View) (started : Bool) (line : List ℕ) (n : ℕ) (refused : Option ℕ) (taken : Told) (holds : Option (List ℕ))
    → started ≡ S.started → said_by mode started line ≡ Ok None → now_stands S → same → taken ≡ record { refused = refused; opened = None } → TakesEvent mode S (said_by mode S.started line) now_stands same v w n refused taken holds holds
takes_nothing mode S now_stands same v w started line n refused taken holds is says stood left so =
    subst (λ said. TakesEvent mode S said now_stands same v w n refused taken holds holds) (sym says ∙ ap (λ b. said_by mode b line) is) (stood, so, refl, left)

-- the run of the input is the run over the bytes to come, from here on
pub known_run : (mode : Mode) (brands : List Tabled) (R : List Commit) (refused : Option ℕ) (to_put : List (ℕ × Event)) (n : ℕ) (S : State) (done : List Entry) (bytes : Option (List ℕ)) (input : List ℕ) (known : Knows mode brands R refused to_put n S done bytes input) → run_of mode brands R input ≡ run_onto mode done refused to_put n S (lines_of known.to_come)
known_run mode brands R refused to_put n S done bytes input known =
    from_first_line mode brands R input ∙ ap (λ bytes. run_on mode [] None 1 (opening brands R) (lines_of bytes)) known.all ∙ ap (run_on mode [] None 1 (opening brands R)) (joined known.fresh) ∙ known.leads (lines_of known.to_come)
  where
    joined : AreWhole known.past ⊎ (known.to_come ≡ []) → lines_of (known.past ++ known.to_come) ≡ lines_of known.past ++ lines_of known.to_come
    joined (inl whole) = lines_of-append known.past known.to_come whole
    joined (inr none) = rw none (ap lines_of (append-nil known.past) ∙ sym (append-nil (lines_of known.past)))

pub follows_from_start : (mode : Mode) (brands : List Tabled) (R : List Commit) (stands : State → Type 0) (left_by : List Entry → Type 0) (held input : Option (List ℕ)) → stands (opening brands R) → left_by [] → Follows mode none_put brands R stands left_by None 1 held held (before_known [] input) input
unfolding runs_from_start
follows_from_start mode brands R stands left_by held input stood kept = record { run = runs_from_start mode brands R stands held input stood; reached = refl; legal = refl; kept = kept }

pub follows_told : (mode : Mode) (to_put : State → List (ℕ × Event)) (brands : List Tabled) (R : List Commit) (stands : State → Type 0) (left_by : List Entry → Type 0) (refused : Option ℕ) (n : ℕ) (held holds now_holds bytes input : Option (List ℕ)) → now_holds ≡ holds → Follows mode to_put brands R stands left_by refused n held holds bytes input → Follows mode to_put brands R stands left_by refused n held now_holds bytes input
follows_told mode to_put brands R stands left_by refused n held holds now_holds bytes input same run = subst (λ known. Follows mode to_put brands R stands left_by refused n held known bytes input) (sym same) run

-- no turns follow a line that is no event
nothing_after : (mode : Mode) (n : ℕ) (S : State) → puts_after mode None n S ≡ []
nothing_after mode n S = ap (numbered n) (none_after mode S)

-- a line that was taken, whatever it says
follows_said : (mode : Mode) (brands : List Tabled) (R : List Commit) (same : Type 0) (stands now_stands : State → Type 0) (left_by now_left : List Entry → Type 0) (v w : View) (refused : Option ℕ) (taken : Told) (n : ℕ) (held holds now_holds : Option (List ℕ)) (line : List ℕ) (old new input : Option (List ℕ)) (f : Follows mode none_put brands R stands left_by refused n held holds old input) (said : Says)
    → said_by mode f.run.state.started line ≡ said → TakesEvent mode f.run.state said now_stands same v w n refused taken holds now_holds → TakesLine line old new → n ≤ 200000 → length line ≤ 4096
    → (same → (h : List Entry) → left_by h → now_left h)
    → ((S : State) (entry : Entry) (h : List Entry) → S ≡ after (opening brands R) h → GoesSurely S.commits (after_entry S entry).commits v w → left_by h → now_left (h ++ entry ∷ []))
    → Follows mode (puts_after mode taken.opened n) brands R now_stands now_left taken.refused (n + 1) held now_holds new input
follows_said mode brands R same stands now_stands left_by now_left v w refused taken n held holds now_holds line old new input f (Ok None) says took line_took h k stays steps =
    let past = runs_past mode brands R stands refused n held holds line old new input f.run line_took h k says in
    subst (λ (t : Told). Follows mode (puts_after mode t.opened n) brands R now_stands now_left t.refused (n + 1) held now_holds new input) (sym took.1)
    (subst (λ known. Follows mode (puts_after mode None n) brands R now_stands now_left refused (n + 1) held known new input) (sym took.2) (record {
      run = record { state = f.run.state; stood = took.0; done = f.run.done; text = f.run.text; known = subst (λ (l : List (ℕ × Event)). IfSome input (Knows mode brands R refused l (n + 1) f.run.state f.run.done new)) (sym (nothing_after mode n f.run.state)) past };
      reached = f.reached;
      legal = f.legal;
      kept = stays took.3 f.run.done f.kept;
    }))
follows_said mode brands R same stands now_stands left_by now_left v w refused taken n held holds now_holds line old new input f (Ok (Some d)) says took line_took h k stays steps =
    let S = f.run.state in
    let entry : Entry = entry_for S d in
    let by = taken_by refused n entry in
    let answered : IsAnswered mode S d took.0 now_stands v w holds now_holds = took.1 in
    subst (λ (t : Told). Follows mode (puts_after mode t.opened n) brands R now_stands now_left t.refused (n + 1) held now_holds new input) (sym took.2) (record {
      run = record {
        state = state_for S d;
        stood = answered.stands;
        done = f.run.done ++ entry ∷ [];
        text = text-push mode f.run.done entry held holds now_holds f.run.text answered.text;
        known = for_input mode brands R f.run.done (f.run.done ++ entry ∷ []) refused by.refused n S (state_for S d) (puts_after mode (opened entry) n (state_for S d)) line old new input
            (λ lines. answers_line mode f.run.done refused n S d line lines h k says answered.fits ∙ ap (λ r. run_onto mode (f.run.done ++ entry ∷ []) r (puts_after mode (opened entry) n (state_for S d)) (n + 1) (state_for S d) lines) (refused_as refused n entry)) line_took f.run.known;
      };
      reached = ap (λ (T : State). after_entry T entry) f.reached ∙ sym (after-push (opening brands R) f.run.done entry);
      legal = history-entry mode (opening brands R) f.run.done S d (suits_said mode S.started line d says) answered.fits f.reached f.legal;
      kept = steps S entry f.run.done f.reached answered.goes f.kept;
    })
follows_said mode brands R same stands now_stands left_by now_left v w refused taken n held holds now_holds line old new input f (Err fault) says took line_took h k stays steps = absurd took

-- the turns to be put in once one more was answered
abbrev pub puts_rest : Bool → ℕ → Opened → ℕ → State → List (ℕ × Event)
puts_rest last more o m S = numbered m (cond last [] (turns_until more o S))

-- a turn that is put in
pub follows_turn : (telling : Telling) (brands : List Tabled) (R : List Commit) (stands now_stands : State → Type 0) (left_by now_left : List Entry → Type 0) (v w : View) (refused now : Option ℕ) (m n more : ℕ) (o : Opened) (a : Answer) (last : Bool) (held holds now_holds bytes input : Option (List ℕ))
    → Follows (WithTurns telling) (puts_until (suc more) o m) brands R stands left_by refused n held holds bytes input → ((S : State) → stands S → IsAnswered (WithTurns telling) S (unstated (Turn o.zone)) a now_stands v w holds now_holds)
    → now ≡ refused_with refused m a.reply.head → last ≡ is_last o.ticket a.reply.head
    → ((S : State) (entry : Entry) (h : List Entry) → S ≡ after (opening brands R) h → GoesSurely S.commits (after_entry S entry).commits v w → left_by h → now_left (h ++ entry ∷ []))
    → Follows (WithTurns telling) (puts_rest last more o m) brands R now_stands now_left now n held now_holds bytes input
unfolding turns_until
follows_turn telling brands R stands now_stands left_by now_left v w refused now m n more o a last held holds now_holds bytes input f answers so ends steps =
    let S = f.run.state in
    let e = Turn o.zone in
    let entry : Entry = entry_in S e in
    let answered = answers S f.run.stood in
    let here : last ≡ is_last o.ticket entry.reply.head = ends ∙ ap (λ (x : Entry). is_last o.ticket x.reply.head) answered.told in
    let told : or_else refused (refused_at_line m entry) ≡ now = refused_as refused m entry ∙ sym (so ∙ ap (λ (x : Entry). refused_with refused m x.reply.head) answered.told) in
    subst (λ b. Follows (WithTurns telling) (puts_rest b more o m) brands R now_stands now_left now n held now_holds bytes input) (sym here) (record {
      run = record {
        state = state_after S e;
        stood = answered.stands;
        done = f.run.done ++ entry ∷ [];
        text = text-push (WithTurns telling) f.run.done entry held holds now_holds f.run.text answered.text;
        known = turn_known (WithTurns telling) brands R f.run.done refused now m n S e (puts_rest (is_last o.ticket entry.reply.head) more o m (state_after S e)) bytes input told f.run.known;
      };
      reached = ap (λ (T : State). after_entry T entry) f.reached ∙ sym (after-push (opening brands R) f.run.done entry);
      legal = history-entry (WithTurns telling) (opening brands R) f.run.done S (unstated e) refl refl f.reached f.legal;
      kept = steps S entry f.run.done f.reached answered.goes f.kept;
    })

-- where none are put in, or none are left, the run goes on with the lines
pub follows_none : (mode : Mode) (said : Option Opened) (brands : List Tabled) (R : List Commit) (stands : State → Type 0) (left_by : List Entry → Type 0) (refused : Option ℕ) (m n : ℕ) (held holds bytes input : Option (List ℕ)) → (puts_in mode ≡ false) ⊎ (said ≡ None)
    → Follows mode (puts_after mode said m) brands R stands left_by refused n held holds bytes input → Follows mode none_put brands R stands left_by refused n held holds bytes input
follows_none Replies said brands R stands left_by refused m n held holds bytes input h f = f
follows_none (Purged zone) said brands R stands left_by refused m n held holds bytes input h f = f
follows_none Stated said brands R stands left_by refused m n held holds bytes input h f = f
follows_none (WithTurns telling) None brands R stands left_by refused m n held holds bytes input h f = f
follows_none (WithTurns telling) (Some o) brands R stands left_by refused m n held holds bytes input (inl h) f = absurd (true≢false h)
follows_none (WithTurns telling) (Some o) brands R stands left_by refused m n held holds bytes input (inr h) f = absurd (cc)

pub follows_all : (telling : Telling) (brands : List Tabled) (R : List Commit) (stands : State → Type 0) (left_by : List Entry → Type 0) (refused : Option ℕ) (m n : ℕ) (o : Opened) (held holds bytes input : Option (List ℕ)) → Follows (WithTurns telling) (puts_until zero o m) brands R stands left_by refused n held holds bytes input
    → Follows (WithTurns telling) none_put brands R stands left_by refused n held holds bytes input
unfolding turns_until
follows_all telling brands R stands left_by refused m n o held holds bytes input f = f

-- some number of turns that is more than none
pub follows_some : (telling : Telling) (k more : ℕ) (o : Opened) (brands : List Tabled) (R : List Commit) (stands : State → Type 0) (left_by : List Entry → Type 0) (refused : Option ℕ) (m n : ℕ) (held holds bytes input : Option (List ℕ)) → k ≡ more
    → Follows (WithTurns telling) (puts_until k o m) brands R stands left_by refused n held holds bytes input → Follows (WithTurns telling) (puts_until more o m) brands R stands left_by refused n held holds bytes input
follows_some telling k more o brands R stands left_by refused m n held holds bytes input same f = subst (λ j. Follows (WithTurns telling) (puts_until j o m) brands R stands left_by refused n held holds bytes input) same f

-- the entries of a run are the first ones of the whole input's
pub begins_input : (mode : Mode) (brands : List Tabled) (R : List Commit) (refused : Option ℕ) (to_put : List (ℕ × Event)) (n : ℕ) (S : State) (done : List Entry) (bytes input : Option (List ℕ)) → IfSome input (Knows mode brands R refused to_put n S done bytes) → IfSome (option_map (λ bs. (run_of mode brands R bs).entries) input) (IsFront done)
begins_input mode brands R refused to_put n S done bytes None known = tt
begins_input mode brands R refused to_put n S done bytes (Some input) known = record {
  rest = entries_from S (map (λ (e : ℕ × Due). e.1) (with_events to_put (lines_from mode n (state_past S (map (λ (e : ℕ × Event). e.1) to_put)) (lines_of known.to_come))).events);
  whole = ap (λ (r : Run). r.entries) (known_run mode brands R refused to_put n S done bytes input known);
}

-- and so they are with the entry of one line more
pub begins_entry : (mode : Mode) (brands : List Tabled) (R : List Commit) (stands : State → Type 0) (refused : Option ℕ) (n : ℕ) (held holds : Option (List ℕ)) (d : Due) (line : List ℕ) (old new input : Option (List ℕ)) (run : RunsOn mode none_put brands R stands refused n held holds old input)
    → TakesLine line old new → n ≤ 200000 → length line ≤ 4096 → said_by mode run.state.started line ≡ Ok (Some d) → fits_due run.state d ≡ true → IfSome (option_map (λ bs. (run_of mode brands R bs).entries) input) (IsFront (run.done ++ entry_for run.state d ∷ []))
begins_entry mode brands R stands refused n held holds d line old new input run took h k says fits =
    let S = run.state in
    let entry : Entry = entry_for S d in
    let to_put = numbered n (turns_after mode (opened entry) (state_for S d)) in
    begins_input mode brands R (or_else refused (refused_at_line n entry)) to_put (n + 1) (state_for S d) (run.done ++ entry ∷ []) new input
    (for_input mode brands R run.done (run.done ++ entry ∷ []) refused (or_else refused (refused_at_line n entry)) n S (state_for S d) to_put line old new input (λ lines. answers_line mode run.done refused n S d line lines h k says fits) took run.known)

-- or with that of a turn more
pub begins_turn : (mode : Mode) (brands : List Tabled) (R : List Commit) (refused : Option ℕ) (m n : ℕ) (S : State) (done : List Entry) (e : Event) (to_put : List (ℕ × Event)) (bytes input : Option (List ℕ))
    → IfSome input (Knows mode brands R refused ((m, e) ∷ to_put) n S done bytes) → IfSome (option_map (λ bs. (run_of mode brands R bs).entries) input) (IsFront (done ++ entry_in S e ∷ []))
begins_turn mode brands R refused m n S done e to_put bytes input known =
    begins_input mode brands R (or_else refused (refused_at_line m (entry_in S e))) to_put n (state_after S e) (done ++ entry_in S e ∷ []) bytes input
    (turn_known mode brands R done refused (or_else refused (refused_at_line m (entry_in S e))) m n S e to_put bytes input refl known)

-- the entries of events are of those events
told_events : (S : State) (ds : List Due) → list_any (λ (x : Entry). is_restart x.event) (entries_from S ds) ≡ list_any (λ (d : Due). is_restart d.event) ds
told_events S [] = refl
told_events S (d ∷ ds) = ap (λ b. is_restart d.event || b) (told_events (state_for S d) ds)

script_events : (es : List (ℕ × Due)) → list_any (λ (d : Due). is_restart d.event) (map (λ (e : ℕ × Due). e.1) es) ≡ list_any (λ (e : ℕ × Due). is_restart e.1.event) es
script_events [] = refl
script_events (e ∷ es) = ap (λ b. is_restart e.1.event || b) (script_events es)

last_any : (done : List Entry) (entry : Entry) (rest : List Entry) → is_restart entry.event ≡ true → list_any (λ (x : Entry). is_restart x.event) ((done ++ entry ∷ []) ++ rest) ≡ true
last_any [] entry rest h = rw h refl
last_any (d ∷ done) entry rest h = rw (last_any done entry rest h) (or-true (is_restart d.event))

-- a line that is read as a restart under a grant that fits is one of the input's
pub restart_told : (mode : Mode) (brands : List Tabled) (R : List Commit) (stands : State → Type 0) (refused : Option ℕ) (n : ℕ) (held holds : Option (List ℕ)) (d : Due) (line : List ℕ) (old new : Option (List ℕ)) (bytes : List ℕ) (run : RunsOn mode none_put brands R stands refused n held holds old (Some bytes))
    → TakesLine line old new → n ≤ 200000 → length line ≤ 4096 → said_by mode run.state.started line ≡ Ok (Some d) → is_restart d.event ≡ true → fits_due run.state d ≡ true → has_restart mode bytes ≡ true
restart_told mode brands R stands refused n held holds d line old new bytes run took h k says is fits =
    let entry : Entry = entry_for run.state d in
    let front : IsFront (run.done ++ entry ∷ []) (run_of mode brands R bytes).entries = begins_entry mode brands R stands refused n held holds d line old new (Some bytes) run took h k says fits in
    let told = ap (list_any (λ (x : Entry). is_restart x.event)) front.whole ∙ last_any run.done entry front.rest is in
    let script = script_of mode bytes in
    let events = (with_turns mode (opening brands R) script).events in
    put_rests mode (opening brands R) script.events script.ending (sym (script_events events) ∙ (sym (told_events (opening brands R) (map (λ (e : ℕ × Due). e.1) events)) ∙ told))

-- so it finds the store, where each restart of the input does
well_said : (mode : Mode) (brands : List Tabled) (R : List Commit) (stands : State → Type 0) (refused : Option ℕ) (n : ℕ) (held holds : Option (List ℕ)) (line : List ℕ) (old new input : Option (List ℕ)) (v0 v : View) → FindsAlways mode v0 input → (v0.Keeps → v.Keeps)
    → (run : RunsOn mode none_put brands R stands refused n held holds old input) → TakesLine line old new → n ≤ 200000 → length line ≤ 4096 → (said : Says) → said_by mode run.state.started line ≡ said → RestartsWell run.state said v
well_said mode brands R stands refused n held holds line old new input v0 v finds keeps run took h k (Ok None) says = tt
well_said mode brands R stands refused n held holds line old new input v0 v finds keeps run took h k (Err fault) says = tt
well_said mode brands R stands refused n held holds line old new input v0 v (inl kept) keeps run took h k (Ok (Some d)) says = λ is fits. keeps kept
well_said mode brands R stands refused n held holds line old new None v0 v (inr known) keeps run took h k (Ok (Some d)) says = absurd (cc)
well_said mode brands R stands refused n held holds line old new (Some input) v0 v (inr known) keeps run took h k (Ok (Some d)) says =
    let same : input ≡ known.0 = cc in
    λ is fits. absurd (false≢true (sym known.2 ∙ (ap (has_restart mode) (sym same) ∙ restart_told mode brands R stands refused n held holds d line old new input run took h k says is fits)))

pub restarts_well : (mode : Mode) (brands : List Tabled) (R : List Commit) (stands : State → Type 0) (refused : Option ℕ) (n : ℕ) (held holds : Option (List ℕ)) (line : List ℕ) (old new input : Option (List ℕ)) (v0 v : View) → FindsAlways mode v0 input → (v0.Keeps → v.Keeps)
    → (run : RunsOn mode none_put brands R stands refused n held holds old input) → TakesLine line old new → n ≤ 200000 → length line ≤ 4096 → RestartsWell run.state (said_by mode run.state.started line) v
restarts_well mode brands R stands refused n held holds line old new input v0 v finds keeps run took h k =
    well_said mode brands R stands refused n held holds line old new input v0 v finds keeps run took h k (said_by mode run.state.started line) refl

-- what it says depends on whether an event has come, which the machine's state tells; it may restart the system where each restart
-- of the input finds the store
pub follows_line : (mode : Mode) (brands : List Tabled) (R : List Commit) (same : Type 0) (stands now_stands : State → Type 0) (left_by now_left : List Entry → Type 0) (v w : View) (refused : Option ℕ) (taken : Told) (n : ℕ) (held holds now_holds : Option (List ℕ)) (line : List ℕ) (old new input : Option (List ℕ))
    → (v0 : View) → FindsAlways mode v0 input → (v0.Keeps → v.Keeps) → Follows mode none_put brands R stands left_by refused n held holds old input → ((S : State) → stands S → RestartsWell S (said_by mode S.started line) v → TakesEvent mode S (said_by mode S.started line) now_stands same v w n refused taken holds now_holds) → TakesLine line old new → n ≤ 200000 → length line ≤ 4096
    → (same → (h : List Entry) → left_by h → now_left h)
    → ((S : State) (entry : Entry) (h : List Entry) → S ≡ after (opening brands R) h → GoesSurely S.commits (after_entry S entry).commits v w → left_by h → now_left (h ++ entry ∷ []))
    → Follows mode (puts_after mode taken.opened n) brands R now_stands now_left taken.refused (n + 1) held now_holds new input
follows_line mode brands R same stands now_stands left_by now_left v w refused taken n held holds now_holds line old new input v0 finds keeps f took line_took h k stays steps =
    follows_said mode brands R same stands now_stands left_by now_left v w refused taken n held holds now_holds line old new input f (said_by mode f.run.state.started line) refl
    (took f.run.state f.run.stood (restarts_well mode brands R stands refused n held holds line old new input v0 v finds keeps f.run line_took h k)) line_took h k stays steps

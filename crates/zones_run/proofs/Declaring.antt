-- Where an event that counts has come, no line declares anything.
use Rattle.std.proofs.Common.{◌≡◌, ◌+◌, ◌++◌, ℕ, Bool, true, false, true≢false, cond, List, [], ◌∷◌, map, All, Option, Some, None, Result, Ok, Err, refl, ap, sym, ◌∙◌}
use Rattle.std.specs.Prelude.{bytes_eq, codes}
use Rattle.std.proofs.lemmas.List.Elements.{All-cons, All-nil}
use Rattle.process_calls.specs.declared.call.Call.{Call}
use Rattle.process_calls.specs.declared.call.CallFault.{CallFault}
use Rattle.process_calls.specs.Calls.{call_of, pid_in}
use Rattle.zn_base.specs.Decimals.{decimal_of}
use Rattle.zn_base.specs.Lines.{lines_of}
use Rattle.zn_base.specs.Names.{Name, name_of}
use Rattle.zn_base.specs.declared.name.NameFault.{NameFault}
use Rattle.trace_text.specs.Declarations.{is_declaration}
use Rattle.trace_text.specs.declared.fault.LineFault.TheVariants.{BadWord, GrantForm}
use Rattle.trace_text.specs.Lines.{Said, begins_with, is_no_event, called, declaration_by, declared, event_by, event_of, first_word, after_word, item_at, item_by, pid_by, process_by, process_of, restart_by, session_of, turn_by, turn_of, typed_by, types_unless, with_words}
use Rattle.datalink_table.specs.declared.claims.ClaimKind.TheVariants.{Address, Dataset, Link}
use Rattle.zone_cases.specs.declared.events.Declaration.{Declaration}
use Rattle.zone_cases.specs.declared.events.Declaration.TheVariants.{Device, Item}
use Rattle.zone_cases.specs.declared.events.TheConstants.{SESSION_MAX}
use Rattle.zone_cases.specs.declared.events.Event.{Event}
use Rattle.zone_cases.specs.declared.events.Event.TheVariants.{System}
use Rattle.zones_run.specs.Declarations.{DeclaresFirst}
use Rattle.zones_run.specs.Output.{is_past_limit}
use Rattle.trace_text.specs.Given.{Given, behind, given_by, stated}
use Rattle.zone_pools.specs.declared.grant.Grant.{Grant}
use Rattle.zones_run.specs.Scripts.{Past_limit, Says, Script, counts, counts_event, due_given, due_said, ends, said_by, script_from, with_line}
use Rattle.zones_run.specs.declared.words.Mode.{Mode}
use Rattle.zones_run.specs.declared.words.Mode.TheVariants.{Purged, Replies, Stated, WithTurns}

-- a line says no declaration
abbrev Undeclared : Said → Type 0
Undeclared (Ok (Some e)) = counts_event e ≡ true
Undeclared (Ok None) = Unit {0}
Undeclared (Err fault) = Unit {0}

by_test : (b : Bool) (x y : Said) → Undeclared x → Undeclared y → Undeclared (cond b x y)
by_test true x y h k = h
by_test false x y h k = k

by_words : (end : ℕ) (said : List ℕ → Said) (more : Option (List ℕ)) → ((words : List ℕ) → Undeclared (said words)) → Undeclared (with_words end said more)
by_words end said None h = tt
by_words end said (Some words) h = h words

typed : (bad : Option ℕ) (number place : ℕ) (text : List ℕ) → Undeclared (types_unless bad number place text)
typed (Some bad) number place text = tt
typed None number place text = refl

by_session : (number : Option ℕ) (place : ℕ) (text : List ℕ) → Undeclared (typed_by number place text)
by_session None place text = tt
by_session (Some number) place text = typed _ number place text

by_turn : (r : Result Name NameFault) (place : ℕ) (more : Option (List ℕ)) → Undeclared (turn_by r place more)
by_turn (Err fault) place more = tt
by_turn (Ok name) place None = refl
by_turn (Ok name) place (Some more) = tt

by_call : (zone : Name) (pid place : ℕ) (r : Result Call CallFault) → Undeclared (called zone pid place r)
by_call zone pid place (Ok call) = refl
by_call zone pid place (Err fault) = tt

by_pid : (pid : Option ℕ) (zone : Name) (place end : ℕ) (more : Option (List ℕ)) → Undeclared (pid_by pid zone place end more)
by_pid None zone place end more = tt
by_pid (Some pid) zone place end more = by_words end _ more (λ text. by_call zone pid (end + 1) (call_of text))

by_process : (r : Result Name NameFault) (end : ℕ) (more : Option (List ℕ)) → Undeclared (process_by r end more)
by_process (Err fault) end more = tt
by_process (Ok zone) end more = by_words end _ more (λ words. by_pid (pid_in (first_word words)) zone (end + 1) _ (after_word words))

by_declared : (what : Declaration) (place : ℕ) (more : Option (List ℕ)) → Undeclared (declared true what place more)
by_declared what place (Some more) = tt
by_declared what place None = tt

by_item : (what : Declaration) (place end : ℕ) (more : Option (List ℕ)) → Undeclared (item_by true what place end more)
by_item what place end more = by_test (is_declaration what) (declared true what (end + 1) more) (Err (BadWord place)) (by_declared what (end + 1) more) tt

by_kind : (what : List ℕ → Declaration) (end : ℕ) (more : Option (List ℕ)) → Undeclared (with_words end (item_at true what (end + 1)) more)
by_kind what end more = by_words end _ more (λ words. by_item (what (first_word words)) (end + 1) _ (after_word words))

by_declaration : (word : List ℕ) (end : ℕ) (more : Option (List ℕ)) → Undeclared (declaration_by true word end more)
by_declaration word end more =
    by_test (bytes_eq word (codes "link")) _ _ (by_kind (Item Link) end more) (by_test (bytes_eq word (codes "address")) _ _ (by_kind (Item Address) end more)
    (by_test (bytes_eq word (codes "dataset")) _ _ (by_kind (Item Dataset) end more) (by_test (bytes_eq word (codes "device")) _ _ (by_kind Device end more) tt)))

by_restart : (more : Option (List ℕ)) → Undeclared (restart_by more)
by_restart None = refl
by_restart (Some words) = tt

by_tag : (tag : List ℕ) (more : Option (List ℕ)) → Undeclared (event_by true tag more)
by_tag tag more =
    by_test (bytes_eq tag (codes "S")) _ _ (by_words 1 session_of more (λ words. by_session (decimal_of SESSION_MAX (first_word words)) _ _))
    (by_test (bytes_eq tag (codes "D")) _ _ (by_words 1 turn_of more (λ words. by_turn (name_of (first_word words)) _ (after_word words)))
    (by_test (bytes_eq tag (codes "P")) _ _ (by_words 1 process_of more (λ words. by_process (name_of (first_word words)) _ (after_word words)))
    (by_test (bytes_eq tag (codes "Y")) _ _ (by_words 1 _ more (λ words. by_declaration (first_word words) _ (after_word words)))
    (by_test (bytes_eq tag (codes "R")) _ _ (by_restart more) tt))))

undeclared : (line : List ℕ) → Undeclared (event_of true line)
undeclared line = by_test (is_no_event line) (Ok None) _ tt (by_test (begins_with 64 line) (Err GrantForm) _ tt (by_tag (first_word line) (after_word line)))

-- the same of what is due
abbrev UndeclaredDue : Says → Type 0
UndeclaredDue (Ok (Some d)) = counts_event d.event ≡ true
UndeclaredDue (Ok None) = Unit {0}
UndeclaredDue (Err fault) = Unit {0}

by_said : (said : Said) → Undeclared said → UndeclaredDue (due_said said)
by_said (Ok (Some e)) un = un
by_said (Ok None) un = tt
by_said (Err fault) un = tt

by_behind : (grant : Grant) (place : ℕ) (said : Said) → Undeclared said → UndeclaredDue (due_given (behind grant place said))
by_behind grant place (Ok (Some e)) un = un
by_behind grant place (Ok None) un = tt
by_behind grant place (Err fault) un = tt

by_split : (split : Option (Grant × List ℕ)) → UndeclaredDue (due_given (given_by true split))
by_split None = tt
by_split (Some split) = by_behind split.0 _ (event_of true split.1) (undeclared split.1)

by_blank : (b : Bool) (given : Given) → UndeclaredDue (due_given given) → UndeclaredDue (due_given (cond b (Ok None) given))
by_blank true given un = tt
by_blank false given un = un

undeclared_due : (mode : Mode) (line : List ℕ) → UndeclaredDue (said_by mode true line)
undeclared_due Replies line = by_said (event_of true line) (undeclared line)
undeclared_due (WithTurns telling) line = by_said (event_of true line) (undeclared line)
undeclared_due (Purged zone) line = by_said (event_of true line) (undeclared line)
undeclared_due Stated line = by_blank (is_no_event line) (given_by true (stated line)) (by_split (stated line))

-- the events of a script
abbrev events : Script → List Event
events script = map (λ e. e.1.event) script.events

-- none of some events is a declaration
abbrev DeclareNothing : List Event → Type 0
DeclareNothing es = (before after : List Event) (what : Declaration) → es ≡ before ++ System what ∷ after → ⊥

-- only declarations stand before a declaration
abbrev DeclareFirst : List Event → Type 0
DeclareFirst es = (before after : List Event) (what : Declaration) → es ≡ before ++ System what ∷ after → All (λ e. counts_event e ≡ false) before

nothing-nil : DeclareNothing []
nothing-nil [] after what is = cc
nothing-nil (b ∷ before) after what is = cc

nothing-cons : (e : Event) (es : List Event) → counts_event e ≡ true → DeclareNothing es → DeclareNothing (e ∷ es)
nothing-cons e es count none [] after what is = let same : e ≡ System what = cc in true≢false (sym count ∙ ap counts_event same)
nothing-cons e es count none (b ∷ before) after what is = none before after what (cc)

first-nil : DeclareFirst []
first-nil before after what is = absurd (nothing-nil before after what is)

first-cons : (e : Event) (b : Bool) (es : Bool → List Event) → counts_event e ≡ b → DeclareNothing (es true) → DeclareFirst (es false) → DeclareFirst (e ∷ es b)
first-cons e b es count none first [] after what is = All-nil (λ e. counts_event e ≡ false)
first-cons e true es count none first (x ∷ before) after what is = absurd (none before after what (cc))
first-cons e false es count none first (x ∷ before) after what is = let same : x ≡ e = cc in All-cons (λ e. counts_event e ≡ false) x before (ap counts_event same ∙ count) (first before after what (cc))

nothing_said : (n : ℕ) (said : Says) (more : Script) → UndeclaredDue said → DeclareNothing (events more) → DeclareNothing (events (with_line n said more))
nothing_said n (Err fault) more un none = nothing-nil
nothing_said n (Ok None) more un none = none
nothing_said n (Ok (Some d)) more un none = nothing-cons d.event (events more) un none

first_said : (n : ℕ) (said : Says) (more : Bool → Script) → DeclareNothing (events (more true)) → DeclareFirst (events (more false)) → DeclareFirst (events (with_line n said (more (counts said))))
first_said n (Err fault) more none first = first-nil
first_said n (Ok None) more none first = first
first_said n (Ok (Some d)) more none first = first-cons d.event (counts_event d.event) (λ b. events (more b)) refl none first

module _ (mode : Mode) where
  -- the script of lines where an event that counts has come, and where none has
  nothing_declared : (n : ℕ) (lines : List (List ℕ)) → DeclareNothing (events (script_from mode true n lines))
  nothing_declared n [] = nothing-nil
  nothing_declared n (line ∷ lines) = at_limit (is_past_limit n line) (nothing_said n (said_by mode true line) (script_from mode true (n + 1) lines) (undeclared_due mode line) (nothing_declared (n + 1) lines))
    where
      at_limit : (b : Bool) → DeclareNothing (events (with_line n (said_by mode true line) (script_from mode true (n + 1) lines))) → DeclareNothing (events (cond b (ends (Past_limit n)) (with_line n (said_by mode true line) (script_from mode true (n + 1) lines))))
      at_limit true none = nothing-nil
      at_limit false none = none

  declared_first : (n : ℕ) (lines : List (List ℕ)) → DeclareFirst (events (script_from mode false n lines))
  declared_first n [] = first-nil
  declared_first n (line ∷ lines) = at_limit (is_past_limit n line) (first_said n (said_by mode false line) (λ b. script_from mode b (n + 1) lines) (nothing_declared (n + 1) lines) (declared_first (n + 1) lines))
    where
      said : Says
      said = said_by mode false line

      at_limit : (b : Bool) → DeclareFirst (events (with_line n said (script_from mode (counts said) (n + 1) lines))) → DeclareFirst (events (cond b (ends (Past_limit n)) (with_line n said (script_from mode (counts said) (n + 1) lines))))
      at_limit true first = first-nil
      at_limit false first = first

pub declares-first : DeclaresFirst
declares-first mode bytes = declared_first mode 1 (lines_of bytes)

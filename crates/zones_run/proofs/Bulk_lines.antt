-- The script that `bulk` makes is read whole: each of its lines is typed by session 1, so it comes to its end, and none restarts the
-- system.
use Rattle.std.proofs.Common.{◌≡◌, ◌≤◌, ◌+◌, ◌*◌, ◌++◌, ◌||◌, ◌==◌, ◌%◌, ℕ, zero, suc, Bool, true, false, cond, List, [], ◌∷◌, length, Some, Ok, refl, ap, sym, subst, ◌∙◌, inr, arith, append_assoc, codes, replicate}
use Rattle.std.specs.Fmt.{decimal}
use Rattle.std.specs.List.{list_all, list_any}
use Rattle.std.proofs.lemmas.Bool.{and_from}
use Rattle.std.proofs.lemmas.Bool.Decides.{nat_tests}
use Rattle.std.proofs.lemmas.Fmt.{decimal_digit, length-decimal-le}
use Rattle.std.proofs.lemmas.List.{length-append, length-replicate}
use Rattle.std.proofs.lemmas.List.Folds.{list_all-append}
use Rattle.std.specs.Char.{is_ascii_digit}
use Rattle.brand_hooks.specs.Brands.{Tabled}
use Rattle.commit_journal.specs.declared.records.Commit.{Commit}
use Rattle.grant_text.proofs.Numbers.{digits}
use Rattle.export_read.proofs.Printable.{all_in}
use Rattle.trace_text.specs.Lines.{event_of}
use Rattle.trace_text.proofs.Printed.{session_again}
use Rattle.zn_base.specs.Lines.{lines_of}
use Rattle.zn_base.specs.Text.{is_text_byte}
use Rattle.zn_io.specs.Disk.{View}
use Rattle.zone_cases.specs.Events.{is_restart}
use Rattle.zone_cases.specs.State.{State}
use Rattle.zone_cases.specs.declared.events.Event.TheVariants.{Session}
use Rattle.zone_machine.specs.Machine.{opening}
use Rattle.zones_run.specs.Answering.{FindsAlways}
use Rattle.zones_run.specs.Bulk.{BulkComesToItsEnd, bulk_lines, bulk_mode, bulk_run, bulk_text, call_line, halt_lines, lines_for, numbered}
use Rattle.zones_run.specs.Fixed.{text_of_lines}
use Rattle.input_lines.specs.Lines.{has_newline}
use Rattle.zones_run.specs.Scripting.{numbered as numbered_events, opened, put_in, state_past, turns_after, with_events}
use Rattle.zones_run.specs.Scripts.{At_end, At_misfit, Ending, Script, due_said, ends, entry_for, fits_due, fits_stated, script_from, script_of, state_for, unstated, with_due}
use Rattle.zones_run.specs.declared.due.Due.{Due}
use Rattle.input_lines.proofs.Cuts.{cut_at}
use Rattle.zones_run.proofs.Permitted.{AllSuit, all_suit}
use Rattle.zones_run.proofs.Purged_runs.{clean}
use Rattle.zones_run.proofs.Traces.{line_said, script_line}

-- session 1 types a text that begins with a `z`, and it is printable and within the limit
pub record IsTyped (line : List ℕ) : Type 0 where
  pub rest : List ℕ
  pub is : line ≡ codes "S 1 z" ++ rest
  pub printable : list_all is_text_byte rest ≡ true
  pub short : length line ≤ 4096

abbrev AreTyped : List (List ℕ) → Type 0
AreTyped [] = Unit {0}
AreTyped (line ∷ lines) = IsTyped line × AreTyped lines

both_typed : (lines more : List (List ℕ)) → AreTyped lines → AreTyped more → AreTyped (lines ++ more)
both_typed [] more are others = others
both_typed (line ∷ lines) more are others = (are.0, both_typed lines more are.1 others)

same_typed : (count : ℕ) (line : List ℕ) → IsTyped line → AreTyped (replicate count line)
same_typed zero line is = tt
same_typed (suc count) line is = (is, same_typed count line is)

-- text with a number in it
printed : (xs ys : List ℕ) → list_all is_text_byte xs ≡ true → list_all is_text_byte ys ≡ true → list_all is_text_byte (xs ++ ys) ≡ true
printed xs ys h k = list_all-append is_text_byte xs ys ∙ and_from _ _ h k

digit : (b : ℕ) → is_ascii_digit b ≡ true → is_text_byte b ≡ true
digit b h = grind (arith, nat_tests)

number : (n : ℕ) → n ≤ 256 → list_all is_text_byte (decimal n) ≡ true
number n few = all_in is_ascii_digit is_text_byte (decimal n) digit (digits n (omega (arith, few)))

number_short : (n : ℕ) → n ≤ 256 → length (decimal n) ≤ 3
number_short n few = length-decimal-le 3 n (omega arith) (omega (arith, few)) (omega (arith, few))

line_typed : (n : ℕ) → n ≤ 256 → (before after : List ℕ) → list_all is_text_byte before ≡ true → list_all is_text_byte after ≡ true → length before + length after ≤ 4000 → IsTyped (codes "S 1 z" ++ numbered before n after)
line_typed n few before after h k fits = record {
  rest = numbered before n after;
  is = refl;
  printable = printed before (decimal n ++ after) h (printed (decimal n) after (number n few) k);
  short =
      let first : length (numbered before n after) ≡ length before + length (decimal n ++ after) = length-append before (decimal n ++ after) in
      let second : length (decimal n ++ after) ≡ length (decimal n) + length after = length-append (decimal n) after in
      omega (arith, fits, first, second, number_short n few);
}

made_typed : (n : ℕ) → n ≤ 256 → IsTyped (numbered (codes "S 1 zonecfg -z b") n (numbered (codes " create -b; set zonepath=/zones/b") n (codes "; set brand=ipkg")))
made_typed n few =
    let after = numbered (codes " create -b; set zonepath=/zones/b") n (codes "; set brand=ipkg") in
    let long : length after ≡ 33 + length (decimal n ++ codes "; set brand=ipkg") = length-append (codes " create -b; set zonepath=/zones/b") (decimal n ++ codes "; set brand=ipkg") in
    let longer : length (decimal n ++ codes "; set brand=ipkg") ≡ length (decimal n) + 16 = length-append (decimal n) (codes "; set brand=ipkg") in
    line_typed n few (codes "onecfg -z b") after refl (printed (codes " create -b; set zonepath=/zones/b") (decimal n ++ codes "; set brand=ipkg") refl (printed (decimal n) (codes "; set brand=ipkg") (number n few) refl))
    (omega (arith, long, longer, number_short n few))

halt_typed : (n : ℕ) → n ≤ 256 → AreTyped (halt_lines n)
halt_typed n few = elim (n % 2 == 0) as (λ b. AreTyped (cond b (numbered (codes "S 1 zoneadm -z b") n (codes " halt") ∷ []) [])) [
  | true ↦ (line_typed n few (codes "oneadm -z b") (codes " halt") refl refl (omega arith), tt)
  | false ↦ tt
]

lines_typed : (n : ℕ) → n ≤ 256 → AreTyped (lines_for n)
unfolding lines_for
lines_typed n few =
    let calls = same_typed 50 (call_line n) (line_typed n few (codes "login b") (codes " true") refl refl (omega arith)) in (
      made_typed n few,
      (
        line_typed n few (codes "oneadm -z b") (codes " install") refl refl (omega arith),
        (
          line_typed n few (codes "oneadm -z b") (codes " boot") refl refl (omega arith),
          (line_typed n few (codes "login b") (codes " ps") refl refl (omega arith), both_typed (replicate 50 (call_line n)) (halt_lines n) calls (halt_typed n few)),
        ),
      ),
    )

bulk_typed : (n : ℕ) → n ≤ 256 → AreTyped (bulk_lines n)
unfolding bulk_lines
bulk_typed zero few = tt
bulk_typed (suc n) few = both_typed (bulk_lines n) (lines_for (suc n)) (bulk_typed n (omega (arith, few))) (lines_typed (suc n) few)

-- there are 55 for each zone at most
halt_few : (n : ℕ) → length (halt_lines n) ≤ 1
halt_few n = elim (n % 2 == 0) as (λ b. length (cond b (numbered (codes "S 1 zoneadm -z b") n (codes " halt") ∷ []) []) ≤ 1) [ true ↦ omega arith | false ↦ omega arith ]

lines_few : (n : ℕ) → length (lines_for n) ≤ 55
unfolding lines_for
lines_few n =
    let calls : length (replicate 50 (call_line n) ++ halt_lines n) ≡ 50 + length (halt_lines n) = length-append (replicate 50 (call_line n)) (halt_lines n) ∙ ap (λ k. k + length (halt_lines n)) (length-replicate 50 (call_line n)) in
    omega (arith, calls, halt_few n)

bulk_few : (n : ℕ) → length (bulk_lines n) ≤ 55 * n
unfolding bulk_lines
bulk_few zero = omega arith
bulk_few (suc n) =
    let more : length (bulk_lines n ++ lines_for (suc n)) ≡ length (bulk_lines n) + length (lines_for (suc n)) = length-append (bulk_lines n) (lines_for (suc n)) in
    omega (arith, more, bulk_few n, lines_few (suc n))

-- what such a line says
says : (started : Bool) (line : List ℕ) (is : IsTyped line) → event_of started line ≡ Ok (Some (Session 1 (122 ∷ is.rest)))
says started line is =
    ap (event_of started) (is.is ∙ ap (λ d. codes "S " ++ (d ++ 32 ∷ 122 ∷ is.rest)) (sym (decimal_digit 1 (omega arith))))
    ∙ session_again started 1 (122 ∷ is.rest) is.printable (omega arith) (omega arith)

-- so its lines are cut where they were put together
typed_clean : (line : List ℕ) → IsTyped line → has_newline line ≡ false
typed_clean line is = ap has_newline is.is ∙ clean is.rest is.printable

cut_typed : (lines : List (List ℕ)) → AreTyped lines → lines_of (text_of_lines lines) ≡ lines
cut_typed [] are = refl
cut_typed (line ∷ lines) are =
    ap lines_of (append_assoc line (10 ∷ []) (text_of_lines lines)) ∙ cut_at line (text_of_lines lines) (typed_clean line are.0) ∙ ap (λ more. line ∷ more) (cut_typed lines are.1)

-- and they make a script that comes to its end, with no restart
pub record IsPlain (script : Script) : Type 0 where
  pub ending : script.ending ≡ At_end
  pub rests : list_any (λ (e : ℕ × Due). is_restart e.1.event) script.events ≡ false

plain_script : (started : Bool) (n : ℕ) (lines : List (List ℕ)) → AreTyped lines → n + length lines ≤ 200001 → IsPlain (script_from bulk_mode started n lines)
plain_script started n [] are few = record { ending = refl; rests = refl }
plain_script started n (line ∷ lines) are few =
    let d : Due = unstated (Session 1 (122 ∷ are.0.rest)) in
    let more = script_from bulk_mode (started || true) (n + 1) lines in
    let rest : IsPlain more = plain_script (started || true) (n + 1) lines are.1 (omega (arith, few)) in
    let is : script_from bulk_mode started n (line ∷ lines) ≡ with_due (n, d) more =
    script_line bulk_mode started n line lines (omega (arith, few)) are.0.short ∙ ap (line_said bulk_mode started n lines) (ap due_said (says started line are.0)) in
    subst IsPlain (sym is) (record { ending = rest.ending; rests = rest.rests })

plain_bulk : (n : ℕ) → n ≤ 256 → IsPlain (script_of bulk_mode (bulk_text n))
plain_bulk n few =
    let are = bulk_typed n few in
    subst (λ lines. IsPlain (script_from bulk_mode false 1 lines)) (sym (cut_typed (bulk_lines n) are)) (plain_script false 1 (bulk_lines n) are (omega (arith, few, bulk_few n)))

-- also with the turns that are put in
put_ending : (S : State) (events : List (ℕ × Due)) (ending : Ending) → AllSuit bulk_mode events → (put_in bulk_mode S events ending).ending ≡ ending
put_ending S [] ending suit = refl
put_ending S (e ∷ events) ending suit =
    let T = state_for S e.1 in
    let more = turns_after bulk_mode (opened (entry_for S e.1)) T in
    let rest = put_in bulk_mode (state_past T more) events ending in
    let fits : fits_due S e.1 ≡ true = ap (λ stated. fits_stated stated S e.1.event) suit.0 in
    ap (λ b. (cond b (with_due e (with_events (numbered_events e.0 more) rest)) (ends (At_misfit e.0))).ending) fits ∙ put_ending (state_past T more) events ending suit.1

pub bulk_ends : (n : ℕ) (brands : List Tabled) (R : List Commit) → n ≤ 256 → (bulk_run n brands R).ending ≡ At_end
bulk_ends n brands R few =
    let script = script_of bulk_mode (bulk_text n) in
    put_ending (opening brands R) script.events script.ending (all_suit bulk_mode false 1 (lines_of (bulk_text n))) ∙ (plain_bulk n few).ending

pub bulk_whole : BulkComesToItsEnd
bulk_whole n brands R few = (bulk_ends n brands R few, (plain_bulk n few).rests)

-- so whatever the disk is, it finds the store
pub bulk_finds : (n : ℕ) (v : View) → n ≤ 256 → FindsAlways bulk_mode v (Some (bulk_text n))
bulk_finds n v few = inr (bulk_text n, refl, (plain_bulk n few).rests)

-- A line that is printed is read as its event.
use Rattle.std.proofs.Common.{◌≡◌, ◌+◌, ◌≤◌, ℕ, Bool, true, false, zero, suc, not, ◌&&◌, nat_eq, nat_lt, List, [], ◌∷◌, ◌++◌, length, Option, Some, None, Ok, IsTrue, refl, ap, ◌∙◌, arith, append-nil, codes}
use Rattle.std.specs.Prelude.{◌==◌, position, unwrap_or}
use Rattle.std.specs.Fmt.{decimal, digits}
use Rattle.std.specs.List.{list_all, position_or_len}
use Rattle.std.proofs.lemmas.Bool.{and_parts}
use Rattle.std.proofs.lemmas.Bool.Decides.{nat_tests}
use Rattle.zn_base.specs.Cuts.{cut_after, cut_to, lacks}
use Rattle.zn_base.specs.Decimals.{decimal_of}
use Rattle.zn_base.specs.Names.{is_name, name_of}
use Rattle.zn_base.specs.Text.{is_text_byte}
use Rattle.zn_base.proofs.First_byte.{after_first, before_first}
use Rattle.zn_base.proofs.Read_back.{name_lacks, name_of_name, path_lacks}
use Rattle.process_calls.specs.declared.call.Call.{Call}
use Rattle.process_calls.specs.Calls.{call_text, greatest_pid, is_call, pid_in}
use Rattle.process_calls.proofs.Again.{call_again}
use Rattle.process_calls.proofs.Numbers.{pid_again, pid_lacks}
use Rattle.datalink_table.specs.declared.claims.ClaimKind.TheVariants.{Address, Dataset, Link}
use Rattle.zone_cases.specs.declared.events.Declaration.{Declaration}
use Rattle.zone_cases.specs.declared.events.Declaration.TheVariants.{Device, Item}
use Rattle.zone_cases.specs.declared.events.Event.TheVariants.{Process, Restart, Session, System, Turn}
use Rattle.trace_text.proofs.Items.{item_lacks}
use Rattle.trace_text.specs.Declarations.{declaration_text, is_declaration}
use Rattle.trace_text.specs.Given.{EventReadBack}
use Rattle.trace_text.specs.Lines.{Said, after_word, declaration_by, declaration_of, item_at, pid_by, event_by, event_of, first_word, line_text, pid_at, process_by, process_of, session_of, turn_of, typed_text, types, types_unless}

-- bytes without a byte are cut nowhere
none_reached : (c : ℕ) (xs : List ℕ) → lacks c xs ≡ true → position_or_len (λ b. b == c) xs ≡ length xs
none_reached c [] f = refl
none_reached c (x ∷ xs) f =
    let parts = and_parts (not (x == c)) (lacks c xs) f in
    rw (parts.0, none_reached c xs parts.1) (omega arith)

position_none : (p : ℕ → Bool) (xs : List ℕ) → position_or_len p xs ≡ length xs → position p xs ≡ None
position_none p xs none =
    let outside : nat_lt (length xs) (length xs) ≡ false = grind (arith, nat_tests) in
    rw (none, outside) refl

none_found : (c : ℕ) (xs : List ℕ) → lacks c xs ≡ true → position (λ b. b == c) xs ≡ None
none_found c xs f = position_none (λ b. b == c) xs (none_reached c xs f)

word_alone : (xs : List ℕ) → lacks 32 xs ≡ true → first_word xs ≡ xs
word_alone xs f = ap (λ at. cut_to at xs) (none_found 32 xs f)

nothing_after : (xs : List ℕ) → lacks 32 xs ≡ true → after_word xs ≡ None
nothing_after xs f = ap (λ at. cut_after at xs) (none_found 32 xs f)

-- the numbers of sessions are read as they are printed, and have no space
reads : ℕ → Bool
unfolding decimal_of
reads n = nat_eq (unwrap_or (decimal_of 64 (decimal n)) 0) n && lacks 32 (decimal n)

all_read : ℕ → Bool
all_read zero = true
all_read (suc n) = reads (suc n) && all_read n

reads_up_to : (most n : ℕ) → all_read most ≡ true → 1 ≤ n → n ≤ most → reads n ≡ true
unfolding reads all_read
reads_up_to zero n all some few = absurd (omega (arith, some, few))
reads_up_to (suc most) n all some few =
    let parts = and_parts (reads (suc most)) (all_read most) all in
    elim (nat_eq n (suc most)) as (λ v. nat_eq n (suc most) ≡ v → reads n ≡ true) [
      | true ↦ λ e. let same : n ≡ suc most = grind (arith, nat_tests) in rw same parts.0
      | false ↦ λ e. let less : n ≤ most = grind (arith, nat_tests) in reads_up_to most n parts.1 some less
    ] refl

all_sessions : all_read 64 ≡ true
unfolding all_read decimal_of digits reads
all_sessions = refl

some_number : (found : Option ℕ) (n : ℕ) → 1 ≤ n → nat_eq (unwrap_or found 0) n ≡ true → found ≡ Some n
some_number None n some same = absurd (grind (arith, nat_tests))
some_number (Some m) n some same = let is : m ≡ n = grind (arith, nat_tests) in ap Some is

number_again : (n : ℕ) → 1 ≤ n → n ≤ 64 → (decimal_of 64 (decimal n) ≡ Some n) × (lacks 32 (decimal n) ≡ true)
unfolding reads
number_again n some few =
    let parts = and_parts (nat_eq (unwrap_or (decimal_of 64 (decimal n)) 0) n) (lacks 32 (decimal n)) (reads_up_to 64 n all_sessions some few) in
    (some_number (decimal_of 64 (decimal n)) n some parts.0, parts.1)

-- printable bytes have none that isn't
no_bad : (text : List ℕ) → list_all is_text_byte text ≡ true → position (λ b. not (is_text_byte b)) text ≡ None
no_bad text is = position_none (λ b. not (is_text_byte b)) text (each text is)
  where
    each : (bytes : List ℕ) → list_all is_text_byte bytes ≡ true → position_or_len (λ b. not (is_text_byte b)) bytes ≡ length bytes
    each [] h = refl
    each (b ∷ bytes) h =
        let parts = and_parts (is_text_byte b) (list_all is_text_byte bytes) h in
        rw (parts.0, each bytes parts.1) (omega arith)

typed_again : (n place : ℕ) (text : List ℕ) → list_all is_text_byte text ≡ true → types n place text ≡ Ok (Some (Session n text))
typed_again n place text is = ap (λ bad. types_unless bad n place text) (no_bad text is)

-- what follows the tag
by_tag : (started : Bool) (tag : ℕ) (rest : List ℕ) (said : Said) → (tag == 32) ≡ false → event_by started (tag ∷ []) (Some rest) ≡ said → event_by started (first_word (tag ∷ 32 ∷ rest)) (after_word (tag ∷ 32 ∷ rest)) ≡ said
by_tag started tag rest said other is =
    let alone : lacks 32 (tag ∷ []) ≡ true = rw other refl in
    rw (before_first 32 (tag ∷ 32 ∷ rest) (tag ∷ []) rest alone refl, after_first 32 (tag ∷ 32 ∷ rest) (tag ∷ []) rest alone refl) is

session_words : (n : ℕ) (text : List ℕ) → 1 ≤ n → n ≤ 64 → list_all is_text_byte text ≡ true → session_of (decimal n ++ typed_text text) ≡ Ok (Some (Session n text))
session_words n [] some few is =
    let number = number_again n some few in
    rw (append-nil (decimal n), word_alone (decimal n) number.1, nothing_after (decimal n) number.1, number.0) (typed_again n (length (decimal n) + 3) [] is)
session_words n (b ∷ text) some few is =
    let number = number_again n some few in
    let words = decimal n ++ 32 ∷ b ∷ text in
    rw (before_first 32 words (decimal n) (b ∷ text) number.1 refl, after_first 32 words (decimal n) (b ∷ text) number.1 refl, number.0) (typed_again n (length (decimal n) + 3) (b ∷ text) is)

pub session_again : (started : Bool) (n : ℕ) (text : List ℕ) → list_all is_text_byte text ≡ true → 1 ≤ n → n ≤ 64 → event_of started (line_text (Session n text)) ≡ Ok (Some (Session n text))
session_again started n text is some few = by_tag started 83 (decimal n ++ typed_text text) (Ok (Some (Session n text))) refl (session_words n text some few is)

turn_words : (zone : List ℕ) → IsTrue (is_name zone) → turn_of zone ≡ Ok (Some (Turn zone))
turn_words zone is =
    let alone = name_lacks 32 refl zone is in
    rw (word_alone zone alone, nothing_after zone alone, (name_of_name zone is).0) refl

pub turn_again : (started : Bool) (zone : List ℕ) → IsTrue (is_name zone) → event_of started (line_text (Turn zone)) ≡ Ok (Some (Turn zone))
turn_again started zone is = by_tag started 68 zone (Ok (Some (Turn zone))) refl (turn_words zone is)

-- by a process's first word, and what follows its space
pid_of_word : (zone : List ℕ) (place : ℕ) (words word rest : List ℕ) → first_word words ≡ word → after_word words ≡ Some rest → pid_at zone place words ≡ pid_by (pid_in word) zone place (place + length word) (Some rest)
pid_of_word zone place words word rest first after = rw (first, after) refl

process_of_word : (words word rest : List ℕ) → first_word words ≡ word → after_word words ≡ Some rest → process_of words ≡ process_by (name_of word) (2 + length word) (Some rest)
process_of_word words word rest first after = rw (first, after) refl

pid_words : (zone : List ℕ) (pid place : ℕ) (call : Call) → pid ≤ greatest_pid → IsTrue (is_call call) → pid_at zone place (decimal pid ++ 32 ∷ call_text call) ≡ Ok (Some (Process zone pid call))
pid_words zone pid place call few right =
    let words = decimal pid ++ 32 ∷ call_text call in
    let alone = pid_lacks pid few in
    pid_of_word zone place words (decimal pid) (call_text call) (before_first 32 words (decimal pid) (call_text call) alone refl) (after_first 32 words (decimal pid) (call_text call) alone refl)
    ∙ (rw (pid_again pid few, call_again call right) refl)

process_words : (zone : List ℕ) (pid : ℕ) (call : Call) → IsTrue (is_name zone) → pid ≤ greatest_pid → IsTrue (is_call call) → process_of (zone ++ 32 ∷ (decimal pid ++ 32 ∷ call_text call)) ≡ Ok (Some (Process zone pid call))
process_words zone pid call is few right =
    let rest = decimal pid ++ 32 ∷ call_text call in
    let words = zone ++ 32 ∷ rest in
    let alone = name_lacks 32 refl zone is in
    process_of_word words zone rest (before_first 32 words zone rest alone refl) (after_first 32 words zone rest alone refl)
    ∙ (rw (name_of_name zone is).0 (pid_words zone pid (2 + length zone + 1) call few right))

pub process_again : (started : Bool) (zone : List ℕ) (pid : ℕ) (call : Call) → IsTrue (is_name zone) → pid ≤ greatest_pid → IsTrue (is_call call) → event_of started (line_text (Process zone pid call)) ≡ Ok (Some (Process zone pid call))
process_again started zone pid call is few right =
    by_tag started 80 (zone ++ 32 ∷ (decimal pid ++ 32 ∷ call_text call)) (Ok (Some (Process zone pid call))) refl (process_words zone pid call is few right)

-- what is declared, as an item alone after its word
item_again : (what : List ℕ → Declaration) (place : ℕ) (item : List ℕ) → is_declaration (what item) ≡ true → lacks 32 item ≡ true → item_at false what place item ≡ Ok (Some (System (what item)))
item_again what place item right alone = rw (word_alone item alone, nothing_after item alone, right) refl

by_kind : (word item : List ℕ) (said : Said) → lacks 32 word ≡ true → declaration_by false word (2 + length word) (Some item) ≡ said → declaration_of false (word ++ 32 ∷ item) ≡ said
by_kind word item said alone is =
    let words = word ++ 32 ∷ item in
    rw (before_first 32 words word item alone refl, after_first 32 words word item alone refl) is

declaration_again : (what : Declaration) → IsTrue (is_declaration what) → declaration_of false (declaration_text what) ≡ Ok (Some (System what))
declaration_again (Item Link name) right = by_kind (codes "link") name _ refl (item_again (Item Link) 7 name right (item_lacks Link name right))
declaration_again (Item Address address) right = by_kind (codes "address") address _ refl (item_again (Item Address) 10 address right (item_lacks Address address right))
declaration_again (Item Dataset name) right = by_kind (codes "dataset") name _ refl (item_again (Item Dataset) 10 name right (item_lacks Dataset name right))
declaration_again (Device path) right = by_kind (codes "device") path _ refl (item_again Device 9 path right (path_lacks 32 refl path right))

pub system_again : (what : Declaration) → IsTrue (is_declaration what) → event_of false (line_text (System what)) ≡ Ok (Some (System what))
system_again what right = by_tag false 89 (declaration_text what) (Ok (Some (System what))) refl (declaration_again what right)

pub restart_again : (started : Bool) → event_of started (line_text Restart) ≡ Ok (Some Restart)
restart_again started = refl

-- any event that a line can say, where it comes in time
pub event_again : EventReadBack
event_again started (Session n text) right time = session_again started n text right.texts right.may.0 right.may.1
event_again started (Turn zone) right time = turn_again started zone right.texts
event_again started (Process zone pid call) right time = process_again started zone pid call right.texts right.may.0 right.may.1
event_again started (System what) right time = ap (λ s. event_of s (line_text (System what))) time ∙ system_again what right.may
event_again started Restart right time = restart_again started

-- What is printed of an event and a grant is printable.
use Rattle.std.proofs.Common.{◌≡◌, ◌≤◌, ◌∙◌, ◌+◌, ℕ, Bool, true, false, cond, not, ◌&&◌, nat_lt, List, [], ◌∷◌, ◌++◌, length, Option, Some, None, IsTrue, refl, ap, arith}
use Rattle.std.specs.Prelude.{is_ok, nat_le, position}
use Rattle.std.specs.Char.{is_ascii_digit, is_ascii_graphic}
use Rattle.std.specs.Fmt.{decimal}
use Rattle.std.specs.List.{list_all, position_or_len}
use Rattle.std.proofs.lemmas.Bool.{and_from, and_parts, leb-true, ltb-true}
use Rattle.std.proofs.lemmas.Bool.Decides.{nat_tests}
use Rattle.std.proofs.lemmas.List.Folds.{list_all-append}
use Rattle.zn_base.specs.Lines.{is_newline, lines_of, newline, with_first}
use Rattle.zn_base.specs.Names.{is_letter_or_digit, is_name, is_name_byte}
use Rattle.zn_base.specs.Path.{is_path}
use Rattle.zn_base.specs.Text.{is_text, is_text_byte, text_unless}
use Rattle.zn_base.proofs.Read_back.{is_path_byte, name_of_name, path_of_path}
use Rattle.kernel_objects.specs.declared.objects.Signal.TheVariants.{Kill as KillSignal, Term, Zero}
use Rattle.priv_sets.specs.Table.{name_of, privileges}
use Rattle.priv_sets.proofs.Names.{name_bytes}
use Rattle.priv_sets.proofs.Rows.{length_of_privileges}
use Rattle.process_calls.specs.declared.call.Call.{Call}
use Rattle.process_calls.specs.declared.call.Call.TheVariants.{Bootargs, Cons, Datasets, Devices, Drop, Exec, Exit, False, Fork, Kill, Links, Mount, Mounts, Privs, Ps, Read, True, Umount, Write, Zonename}
use Rattle.process_calls.specs.declared.call.MountCall.{MountCall}
use Rattle.process_calls.specs.Calls.{call_text, greatest_pid, is_call, is_fstype, is_mount, is_process_name, is_run, is_special, mount_text, read_only_text}
use Rattle.process_calls.proofs.Named.{special_run}
use Rattle.grant_text.specs.Text.{grant_text, greatest_number, is_grant, pool_word}
use Rattle.grant_text.proofs.Numbers.{digits}
use Rattle.zone_pools.specs.declared.grant.Grant.{Grant}
use Rattle.zone_pools.specs.declared.grant.Grant.TheVariants.{Denied, Nothing, Number, Yes}
use Rattle.zone_pools.specs.declared.grant.Pool.{Pool}
use Rattle.zone_pools.specs.declared.grant.Pool.TheVariants.{Pids, Zids, Zones, Paths, Store, Links, Addresses, Datasets, Source}
use Rattle.export_read.proofs.Printable.{all_in}
use Rattle.zone_cases.specs.declared.events.Declaration.{Declaration}
use Rattle.zone_cases.specs.declared.events.Declaration.TheVariants.{Device, Item}
use Rattle.zone_cases.specs.declared.events.Event.TheVariants.{Process, Restart, Session, System, Turn}
use Rattle.datalink_table.specs.declared.claims.ClaimKind.TheVariants.{Address, Dataset, Link}
use Rattle.trace_text.proofs.Items.{item_printable}
use Rattle.trace_text.specs.Declarations.{declaration_text, is_declaration}
use Rattle.trace_text.specs.Given.{GivenAreCut, GivenArePrintable, LinesAreCut, LinesArePrintable}
use Rattle.trace_text.specs.Lines.{given_text, line_text, typed_text}

abbrev pub IsPrinted : List ℕ → Type 0
IsPrinted bytes = list_all is_text_byte bytes ≡ true

both : (xs ys : List ℕ) → IsPrinted xs → IsPrinted ys → IsPrinted (xs ++ ys)
both xs ys h k = list_all-append is_text_byte xs ys ∙ and_from _ _ h k

-- a text is printable
reached_all : (bytes : List ℕ) → length bytes ≤ position_or_len (λ b. not (is_text_byte b)) bytes → IsPrinted bytes
reached_all [] h = refl
reached_all (b ∷ bytes) h =
    elim (is_text_byte b) as (λ v. length (b ∷ bytes) ≤ cond (not (not v)) (1 + position_or_len (λ b. not (is_text_byte b)) bytes) 0 → (v && list_all is_text_byte bytes) ≡ true) [
      | true ↦ λ g. reached_all bytes (omega arith)
      | false ↦ λ g. absurd (omega arith)
    ] h

pub none_bad : (bytes : List ℕ) → position (λ b. not (is_text_byte b)) bytes ≡ None → IsPrinted bytes
none_bad bytes h = reached_all bytes (elim (nat_lt (position_or_len (λ b. not (is_text_byte b)) bytes) (length bytes)) as (λ v. nat_lt (position_or_len (λ b. not (is_text_byte b)) bytes) (length bytes) ≡ v → cond v (Some (position_or_len (λ b. not (is_text_byte b)) bytes)) None ≡ None → length bytes ≤ position_or_len (λ b. not (is_text_byte b)) bytes) [
  | true ↦ λ e g. absurd (cc)
  | false ↦ λ e g. grind (arith, nat_tests)
] refl h)

pub text_printable : (text : List ℕ) → IsTrue (is_text text) → IsPrinted text
text_printable text is = none_bad text (at_bad (position (λ b. not (is_text_byte b)) text) is)
  where
    at_bad : (found : Option ℕ) → is_ok (text_unless found text) ≡ true → found ≡ None
    at_bad None h = refl
    at_bad (Some place) h = absurd (cc)

-- bytes of these classes are printable
name_byte : (b : ℕ) → is_name_byte b ≡ true → is_text_byte b ≡ true
name_byte b h = grind (arith, nat_tests)

letter : (b : ℕ) → is_letter_or_digit b ≡ true → is_text_byte b ≡ true
letter b h = grind (arith, nat_tests)

graphic : (b : ℕ) → is_ascii_graphic b ≡ true → is_text_byte b ≡ true
graphic b h = grind (arith, nat_tests)

digit : (b : ℕ) → is_ascii_digit b ≡ true → is_text_byte b ≡ true
digit b h = grind (arith, nat_tests)

path_byte : (b : ℕ) → is_path_byte b ≡ true → is_text_byte b ≡ true
path_byte b h = grind (arith, nat_tests)

run_printable : (class : ℕ → Bool) (most : ℕ) (word : List ℕ) → ((b : ℕ) → class b ≡ true → is_text_byte b ≡ true) → is_run class most word ≡ true → IsPrinted word
run_printable class most word within h =
    all_in class is_text_byte word within (and_parts (nat_le 1 (length word) && nat_le (length word) most) (list_all class word) h).1

name_printable : (name : List ℕ) → IsTrue (is_name name) → IsPrinted name
name_printable name is = all_in is_name_byte is_text_byte name name_byte (name_of_name name is).1

path_printable : (path : List ℕ) → is_path path ≡ true → IsPrinted path
path_printable path is = all_in is_path_byte is_text_byte path path_byte (path_of_path path is).1

number_printable : (n : ℕ) → n ≤ greatest_number → IsPrinted (decimal n)
number_printable n few = all_in is_ascii_digit is_text_byte (decimal n) digit (digits n few)

process_printable : (name : List ℕ) → is_process_name name ≡ true → IsPrinted name
process_printable name is = run_printable is_name_byte 16 name name_byte is

-- calls
read_only_printable : (b : Bool) → IsPrinted (read_only_text b)
read_only_printable true = refl
read_only_printable false = refl

mount_printable : (mount : MountCall) → is_mount mount ≡ true → IsPrinted (mount_text mount)
mount_printable mount is =
    let all = and_parts (is_fstype mount.fstype && is_special mount.fstype mount.special) (is_path mount.dir) is in
    let parts = and_parts (is_fstype mount.fstype) (is_special mount.fstype mount.special) all.0 in
    both mount.fstype _ (run_printable is_letter_or_digit 15 mount.fstype letter parts.0)
    (both mount.special _ (run_printable is_ascii_graphic 4200 mount.special graphic (special_run mount.fstype mount.special parts.1))
    (both mount.dir (read_only_text mount.read_only) (path_printable mount.dir all.1) (read_only_printable mount.read_only)))

call_printable : (call : Call) → IsTrue (is_call call) → IsPrinted (call_text call)
call_printable (Fork name) right = process_printable name right
call_printable (Exec name) right = process_printable name right
call_printable Exit right = refl
call_printable (Kill Zero pid) right = number_printable pid (leb-true pid greatest_pid right)
call_printable (Kill KillSignal pid) right = number_printable pid (leb-true pid greatest_pid right)
call_printable (Kill Term pid) right = number_printable pid (leb-true pid greatest_pid right)
call_printable Ps right = refl
call_printable Privs right = refl
call_printable (Drop number) right =
    all_in is_name_byte is_text_byte (name_of number) name_byte (name_bytes number (let below = ltb-true number (length privileges) right in omega (arith, length_of_privileges)))
call_printable (Mount mount) right = mount_printable mount right
call_printable (Umount dir) right = path_printable dir right
call_printable (Read path) right = path_printable path right
call_printable (Write path) right = path_printable path right
call_printable Mounts right = refl
call_printable Links right = refl
call_printable Datasets right = refl
call_printable Devices right = refl
call_printable Zonename right = refl
call_printable Bootargs right = refl
call_printable (Cons text) right = text_printable text right
call_printable True right = refl
call_printable False right = refl

-- events
typed_printable : (text : List ℕ) → IsPrinted text → IsPrinted (typed_text text)
typed_printable [] is = refl
typed_printable (b ∷ text) is = is

declaration_printable : (what : Declaration) → IsTrue (is_declaration what) → IsPrinted (declaration_text what)
declaration_printable (Item Link name) right = item_printable Link name right
declaration_printable (Item Address address) right = item_printable Address address right
declaration_printable (Item Dataset name) right = item_printable Dataset name right
declaration_printable (Device path) right = path_printable path right

pub line_printable : LinesArePrintable
line_printable (Session number text) right =
    both (decimal number) (typed_text text) (number_printable number (let few : number ≤ 64 = right.may.1 in omega (arith, few))) (typed_printable text right.texts)
line_printable (Turn zone) right = name_printable zone right.texts
line_printable (Process zone pid call) right =
    both zone _ (name_printable zone right.texts) (both (decimal pid) _ (number_printable pid right.may.0) (call_printable call right.may.1))
line_printable (System what) right = declaration_printable what right.may
line_printable Restart right = refl

pool_printable : (pool : Pool) → IsPrinted (pool_word pool)
pool_printable Pids = refl
pool_printable Zids = refl
pool_printable Zones = refl
pool_printable Paths = refl
pool_printable Store = refl
pool_printable Links = refl
pool_printable Addresses = refl
pool_printable Datasets = refl
pool_printable Source = refl

grant_printable : (grant : Grant) → IsTrue (is_grant grant) → IsPrinted (grant_text grant)
grant_printable Nothing right = refl
grant_printable (Number n) right = number_printable n (leb-true n greatest_number right)
grant_printable Yes right = refl
grant_printable (Denied pool) right = pool_printable pool

pub given_printable : GivenArePrintable
given_printable grant event is right = both (grant_text grant) (32 ∷ line_text event) (grant_printable grant is) (line_printable event right)

-- printable bytes are cut nowhere, and a newline behind them ends their line
not_newline : (b : ℕ) → is_text_byte b ≡ true → is_newline b ≡ false
not_newline b h = grind (arith, nat_tests)

cut_behind : (line more : List ℕ) → IsPrinted line → lines_of (line ++ newline ∷ more) ≡ line ∷ lines_of more
cut_behind [] more is = refl
cut_behind (b ∷ line) more is =
    let parts = and_parts (is_text_byte b) (list_all is_text_byte line) is in
    rw (not_newline b parts.0) (ap (with_first b) (cut_behind line more parts.1))

pub line_cut : LinesAreCut
line_cut event more right = cut_behind (line_text event) more (line_printable event right)

pub given_cut : GivenAreCut
given_cut grant event more is right = cut_behind (given_text grant event) more (given_printable grant event is right)

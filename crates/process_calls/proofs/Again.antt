-- A call that is written is read as the call.
use Rattle.std.proofs.Common.{◌≡◌, ◌<◌, ◌≤◌, ℕ, Bool, true, false, not, ◌&&◌, List, [], ◌∷◌, ◌++◌, length, codes, Ok, IsTrue, refl, ap, ◌∙◌, arith}
use Rattle.std.specs.Prelude.{◌==◌}
use Rattle.std.specs.Char.{is_ascii_graphic}
use Rattle.std.specs.Fmt.{decimal}
use Rattle.std.specs.List.{slice_split}
use Rattle.std.proofs.lemmas.Bool.{and_parts, leb-true, ltb-true}
use Rattle.std.proofs.lemmas.Bool.Decides.{nat_tests}
use Rattle.std.proofs.lemmas.List.{append-nil}
use Rattle.zn_base.specs.Cuts.{lacks}
use Rattle.zn_base.specs.Names.{is_letter_or_digit, is_name_byte}
use Rattle.zn_base.specs.Path.{is_path}
use Rattle.zn_base.specs.Text.{is_text}
use Rattle.zn_base.proofs.First_byte.{lacks_by}
use Rattle.kernel_objects.specs.declared.objects.Signal.{Signal}
use Rattle.kernel_objects.specs.declared.objects.Signal.TheVariants.{Kill as KillSignal, Term, Zero}
use Rattle.priv_sets.specs.Table.{name_of, privileges}
use Rattle.priv_sets.proofs.Names.{name_bytes, number_of_name}
use Rattle.priv_sets.proofs.Rows.{length_of_privileges}
use Rattle.process_calls.specs.declared.call.Call.{Call}
use Rattle.process_calls.specs.declared.call.Call.TheVariants.{Bootargs, Cons, Datasets, Devices, Drop, Exec, Exit, False, Fork, Kill, Links, Mount, Mounts, Privs, Ps, Read, True, Umount, Write, Zonename}
use Rattle.process_calls.specs.declared.call.MountCall.{MountCall}
use Rattle.process_calls.specs.Calls.{call_of, call_of_words, call_text, cons_read, greatest_pid, is_call, is_fstype, is_mount, is_process_name, is_special, read_only_by, read_only_text}
use Rattle.process_calls.specs.Words.{is_space, placed, words_from}
use Rattle.process_calls.proofs.Named.{run_lacks, special_run}
use Rattle.process_calls.proofs.Numbers.{pid_again, pid_lacks}
use Rattle.process_calls.proofs.Paths.{path_lacks}
use Rattle.process_calls.proofs.Rests.{cons_of, text_again}

-- bytes without a space are one word
one_word : (bytes : List ℕ) → lacks 32 bytes ≡ true → slice_split is_space bytes ≡ bytes ∷ []
one_word [] h = refl
one_word (b ∷ bytes) h =
    let parts = and_parts (not (b == 32)) (lacks 32 bytes) h in
    let other : (b == 32) ≡ false = grind (arith, nat_tests) in
    rw (other, one_word bytes parts.1) refl

-- and before a space they are the first
first_word : (bytes rest : List ℕ) → lacks 32 bytes ≡ true → slice_split is_space (bytes ++ 32 ∷ rest) ≡ bytes ∷ slice_split is_space rest
first_word [] rest h = refl
first_word (b ∷ bytes) rest h =
    let parts = and_parts (not (b == 32)) (lacks 32 bytes) h in
    let other : (b == 32) ≡ false = grind (arith, nat_tests) in
    rw (other, first_word bytes rest parts.1) refl

name_lacks : (name : List ℕ) → is_process_name name ≡ true → lacks 32 name ≡ true
name_lacks name right = run_lacks is_name_byte 16 name refl right

fork_again : (name : List ℕ) → is_process_name name ≡ true → call_of (call_text (Fork name)) ≡ Ok (Fork name)
unfolding call_of words_from
fork_again name right = rw (one_word name (name_lacks name right), right) refl

exec_again : (name : List ℕ) → is_process_name name ≡ true → call_of (call_text (Exec name)) ≡ Ok (Exec name)
unfolding call_of words_from
exec_again name right = rw (one_word name (name_lacks name right), right) refl

kill_again : (signal : Signal) (pid : ℕ) → pid ≤ greatest_pid → call_of (call_text (Kill signal pid)) ≡ Ok (Kill signal pid)
unfolding call_of words_from
kill_again Zero pid few = rw (one_word (decimal pid) (pid_lacks pid few), pid_again pid few) refl
kill_again KillSignal pid few = rw (one_word (decimal pid) (pid_lacks pid few), pid_again pid few) refl
kill_again Term pid few = rw (one_word (decimal pid) (pid_lacks pid few), pid_again pid few) refl

drop_again : (number : ℕ) → number < 40 → call_of (call_text (Drop number)) ≡ Ok (Drop number)
unfolding call_of words_from
drop_again number below = rw (one_word (name_of number) (lacks_by is_name_byte 32 refl (name_of number) (name_bytes number below)), number_of_name number below) refl

umount_again : (dir : List ℕ) → is_path dir ≡ true → call_of (call_text (Umount dir)) ≡ Ok (Umount dir)
unfolding call_of words_from
umount_again dir right = rw (one_word dir (path_lacks dir right), right) refl

read_again : (path : List ℕ) → is_path path ≡ true → call_of (call_text (Read path)) ≡ Ok (Read path)
unfolding call_of words_from
read_again path right = rw (one_word path (path_lacks path right), right) refl

write_again : (path : List ℕ) → is_path path ≡ true → call_of (call_text (Write path)) ≡ Ok (Write path)
unfolding call_of words_from
write_again path right = rw (one_word path (path_lacks path right), right) refl

cons_again : (text : List ℕ) → is_text text ≡ true → call_of (call_text (Cons text)) ≡ Ok (Cons text)
unfolding call_of words_from
cons_again text right = cons_of (length (call_text (Cons text))) 5 text ∙ ap (cons_read 5) (text_again text right)

-- the words of a mount
option_words : Bool → List (List ℕ)
option_words true = codes "ro" ∷ []
option_words false = []

mount_words : (read_only : Bool) (fstype special dir : List ℕ) → lacks 32 fstype ≡ true → lacks 32 special ≡ true → lacks 32 dir ≡ true
    → slice_split is_space (call_text (Mount (record { fstype = fstype; special = special; dir = dir; read_only = read_only }))) ≡ codes "mount" ∷ fstype ∷ special ∷ dir ∷ option_words read_only
unfolding option_words
mount_words read_only fstype special dir f s d =
    ap (λ ws. codes "mount" ∷ ws) (first_word fstype _ f ∙ ap (λ ws. fstype ∷ ws) (first_word special _ s ∙ ap (λ ws. special ∷ ws) (last_words read_only)))
  where
    last_words : (read_only : Bool) → slice_split is_space (dir ++ read_only_text read_only) ≡ dir ∷ option_words read_only
    last_words true = first_word dir (codes "ro") d
    last_words false = ap (slice_split is_space) (append-nil dir) ∙ one_word dir d

option_again : (end place : ℕ) (read_only : Bool) → read_only_by end (placed place (option_words read_only)) ≡ Ok read_only
unfolding option_words
option_again end place true = refl
option_again end place false = refl

mount_again : (mount : MountCall) → is_mount mount ≡ true → call_of (call_text (Mount mount)) ≡ Ok (Mount mount)
unfolding call_of words_from
mount_again mount right =
    let all = and_parts (is_fstype mount.fstype && is_special mount.fstype mount.special) (is_path mount.dir) right in
    let both = and_parts (is_fstype mount.fstype) (is_special mount.fstype mount.special) all.0 in
    let words = mount_words mount.read_only mount.fstype mount.special mount.dir (run_lacks is_letter_or_digit 15 mount.fstype refl both.0)
    (run_lacks is_ascii_graphic 4200 mount.special refl (special_run mount.fstype mount.special both.1)) (path_lacks mount.dir all.1) in
    let end : ℕ = length (call_text (Mount mount)) in
    ap (λ ws. call_of_words end (placed 0 ws)) words ∙ rw (both.0, both.1, all.1, option_again end _ mount.read_only) refl

pub call_again : (call : Call) → IsTrue (is_call call) → call_of (call_text call) ≡ Ok call
unfolding call_of words_from
call_again (Fork name) right = fork_again name right
call_again (Exec name) right = exec_again name right
call_again (Kill signal pid) right = kill_again signal pid (leb-true pid greatest_pid right)
call_again (Drop number) right = drop_again number (let below = ltb-true number (length privileges) right in omega (arith, length_of_privileges))
call_again (Mount mount) right = mount_again mount right
call_again (Umount dir) right = umount_again dir right
call_again (Read path) right = read_again path right
call_again (Write path) right = write_again path right
call_again Exit right = refl
call_again Ps right = refl
call_again Privs right = refl
call_again Mounts right = refl
call_again Links right = refl
call_again Datasets right = refl
call_again Devices right = refl
call_again Zonename right = refl
call_again Bootargs right = refl
call_again (Cons text) right = cons_again text right
call_again True right = refl
call_again False right = refl

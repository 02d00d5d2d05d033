-- What a line asks for that is a text has contents that requests may have.
use Rattle.std.proofs.Common.{◌≡◌, ◌≤◌, ◌+◌, ◌&&◌, ◌∷◌, ◌∙◌, [], ℕ, suc, zero, drop, length-drop, Bool, true, false, not, filter, List, Option, Some, None, length, length-append, refl, ap, subst, arith}
use Rattle.std.specs.Prelude.{IfSome, bytes_eq, codes, unwrap_or, if◌then◌else◌}
use Rattle.std.specs.Bool.{IsTrue}
use Rattle.std.specs.Option.{option_map, option_or}
use Rattle.std.specs.List.{list_all, onto_first, slice_split}
use Rattle.std.proofs.lemmas.Bool.{and_from, and_parts}
use Rattle.std.proofs.lemmas.List.Folds.{list_all-append}
use Rattle.loopback_mounts.proofs.Rests.{of_text, to_text}
use Rattle.process_calls.specs.Calls.{pid_in, signal_in}
use Rattle.zn_base.specs.Path.{is_path}
use Rattle.zn_base.specs.Text.{is_text, is_text_byte}
use Rattle.zone_pools.specs.Firsts.{is_nil}
use Rattle.zone_cases.specs.Code.Lines.{IsRight}
use Rattle.zone_cases.specs.Session.Lines.{Ask, Clone, Command, Console, Help, Hold, Kill, List_one, List_zones, Login, Release, Unknown, Verify, after_word, are_args, args_text, at_end, attended_by, command_by, command_of, dir_words, entered_command, escape_words, form_word, from_word, general_command, general_subcommand, is_escape_option, is_space, joined, kill_command, line_of, list_one_command, list_zones_command, move_path, named, next_word, options_word, past_spaces, past_word, request_command, request_word, subcommand, tool_command, uninstall_command, words, zlogin_command, zone_command, zonecfg_command, ◌>>=◌}
use Rattle.zoneadmd_steps.specs.declared.requests.Request.{Request}
use Rattle.zoneadmd_steps.specs.declared.requests.Request.TheVariants as request

-- the bytes of some words, and one for each
abbrev weight : List (List ℕ) → ℕ
weight [] = 0
weight (word ∷ more) = suc (length word + weight more)

-- words of a text
record Kept (ws : List (List ℕ)) : Type 0 where
  bytes : list_all (list_all is_text_byte) ws ≡ true
  short : weight ws ≤ 4201

kept_rest : (word : List ℕ) (more : List (List ℕ)) → Kept (word ∷ more) → Kept more
kept_rest word more h = record { bytes = (and_parts (list_all is_text_byte word) (list_all (list_all is_text_byte) more) h.bytes).1; short = let s = h.short in omega (arith, s) }

-- the parts of a text between its spaces
parts_bytes : (text : List ℕ) → list_all is_text_byte text ≡ true → list_all (list_all is_text_byte) (slice_split is_space text) ≡ true
parts_bytes [] h = refl
parts_bytes (b ∷ text) h = at_byte (parts_bytes text both.1) (is_space b) refl
  where
    both : (is_text_byte b ≡ true) × (list_all is_text_byte text ≡ true)
    both = and_parts (is_text_byte b) (list_all is_text_byte text) h

    onto : (parts : List (List ℕ)) → list_all (list_all is_text_byte) parts ≡ true → list_all (list_all is_text_byte) (onto_first b parts) ≡ true
    onto [] k = simp both.0
    onto (part ∷ parts) k = simp both.0 k

    at_byte : list_all (list_all is_text_byte) (slice_split is_space text) ≡ true → (s : Bool) → is_space b ≡ s → list_all (list_all is_text_byte) (slice_split is_space (b ∷ text)) ≡ true
    at_byte ih true e = simp e ih
    at_byte ih false e = simp e (onto (slice_split is_space text) ih)

parts_weight : (text : List ℕ) → weight (slice_split is_space text) ≡ suc (length text)
parts_weight [] = refl
parts_weight (b ∷ text) = at_byte (parts_weight text) (is_space b) refl
  where
    onto : (parts : List (List ℕ)) → weight parts ≡ suc (length text) → weight (onto_first b parts) ≡ suc (suc (length text))
    onto [] k = absurd (omega (arith, k))
    onto (part ∷ parts) k = omega (arith, k)

    at_byte : weight (slice_split is_space text) ≡ suc (length text) → (s : Bool) → is_space b ≡ s → weight (slice_split is_space (b ∷ text)) ≡ suc (suc (length text))
    at_byte ih true e = simp e (omega (arith, ih))
    at_byte ih false e = simp e (onto (slice_split is_space text) ih)

-- those that are something
some_bytes : (ps : List (List ℕ)) → list_all (list_all is_text_byte) ps ≡ true → list_all (list_all is_text_byte) (filter (λ word. not (is_nil word)) ps) ≡ true
some_bytes [] h = refl
some_bytes (p ∷ ps) h = at_test (some_bytes ps both.1) (is_nil p) refl
  where
    both : (list_all is_text_byte p ≡ true) × (list_all (list_all is_text_byte) ps ≡ true)
    both = and_parts (list_all is_text_byte p) (list_all (list_all is_text_byte) ps) h

    at_test : list_all (list_all is_text_byte) (filter (λ word. not (is_nil word)) ps) ≡ true → (b : Bool) → is_nil p ≡ b → list_all (list_all is_text_byte) (filter (λ word. not (is_nil word)) (p ∷ ps)) ≡ true
    at_test ih true e = simp e ih
    at_test ih false e = simp (e, both.0) ih

some_weight : (ps : List (List ℕ)) → weight (filter (λ word. not (is_nil word)) ps) ≤ weight ps
some_weight [] = omega arith
some_weight (p ∷ ps) = at_test (some_weight ps) (is_nil p) refl
  where
    at_test : weight (filter (λ word. not (is_nil word)) ps) ≤ weight ps → (b : Bool) → is_nil p ≡ b → weight (filter (λ word. not (is_nil word)) (p ∷ ps)) ≤ suc (length p + weight ps)
    at_test ih true e = simp e (omega arith)
    at_test ih false e = simp e (omega arith)

kept_words : (text : List ℕ) → is_text text ≡ true → Kept (words text)
kept_words text h =
    let printable = of_text text h in
    record {
      bytes = some_bytes (slice_split is_space text) (parts_bytes text printable.bytes);
      short = let s = printable.short in let all = parts_weight text in let some = some_weight (slice_split is_space text) in omega (arith, s, all, some);
    }

short_text : (text : List ℕ) → is_text text ≡ true → length text ≤ 4200
short_text text h = (of_text text h).short

-- with a space between two they are a text
joined_bytes : (ws : List (List ℕ)) → list_all (list_all is_text_byte) ws ≡ true → list_all is_text_byte (joined ws) ≡ true
joined_bytes [] h = refl
joined_bytes (word ∷ []) h = (and_parts (list_all is_text_byte word) true h).0
joined_bytes (word ∷ other ∷ more) h =
    let both = and_parts (list_all is_text_byte word) (list_all (list_all is_text_byte) (other ∷ more)) h in
    list_all-append is_text_byte word (32 ∷ joined (other ∷ more)) ∙ and_from _ _ both.0 (joined_bytes (other ∷ more) both.1)

joined_short : (word : List ℕ) (more : List (List ℕ)) → suc (length (joined (word ∷ more))) ≤ weight (word ∷ more)
joined_short word [] = omega arith
joined_short word (other ∷ more) =
    let ih = joined_short other more in
    let whole = length-append word (32 ∷ joined (other ∷ more)) in
    omega (arith, ih, whole)

joined_text : (ws : List (List ℕ)) → Kept ws → is_text (joined ws) ≡ true
joined_text [] h = refl
joined_text (word ∷ more) h =
    to_text (joined (word ∷ more)) (record { bytes = joined_bytes (word ∷ more) h.bytes; short = let s = h.short in let j = joined_short word more in omega (arith, s, j) })

kept_after : (wanted : List ℕ) (ws rest : List (List ℕ)) → Kept ws → after_word wanted ws ≡ Some rest → Kept rest
kept_after wanted [] rest h e = absurd (cc)
kept_after wanted (word ∷ more) rest h e = at_test (bytes_eq word wanted) e
  where
    at_test : (b : Bool) → (if b then Some more else None) ≡ Some rest → Kept rest
    at_test true e = subst Kept (same e) (kept_rest word more h)
      where
        same : Some more ≡ Some rest → more ≡ rest
        same e = cc
    at_test false e = absurd (cc)

kept_next : (ws : List (List ℕ)) (r : List ℕ × List (List ℕ)) → Kept ws → next_word ws ≡ Some r → Kept r.1
kept_next [] r h e = absurd (cc)
kept_next (word ∷ more) r h e = subst Kept (same e) (kept_rest word more h)
  where
    same : Some (word, more) ≡ Some r → more ≡ r.1
    same e = ap (λ o. (unwrap_or o r).1) e

-- a command of each kind
abbrev Right : Option Command → Type 0
Right o = IfSome o IsRight

then_right : {A : Type 0} (o : Option A) (f : A → Option Command) → ((x : A) → o ≡ Some x → Right (f x)) → Right (o >>= f)
then_right None f h = tt
then_right (Some x) f h = h x refl

end_right : (c : Command) (ws : List (List ℕ)) → IsRight c → Right (at_end c ws)
end_right c [] h = h
end_right c (word ∷ more) h = tt

either_right : (b : Bool) (o p : Option Command) → Right o → Right p → Right (if b then o else p)
either_right true o p h k = h
either_right false o p h k = k

args_right : (f : List ℕ → Request) (ws : List (List ℕ)) → ((args : List ℕ) → is_text args ≡ true → IsRight (Ask (f args))) → Kept ws → Right (option_map (λ args. Ask (f args)) (args_text ws))
args_right f [] ok h = ok [] refl
args_right f (word ∷ more) ok h = at_test (bytes_eq word (codes "--") && are_args true true true more)
  where
    at_test : (b : Bool) → Right (option_map (λ args. Ask (f args)) (if b then Some (joined more) else None))
    at_test true = ok (joined more) (joined_text more (kept_rest word more h))
    at_test false = tt

uninstall_right : (ws : List (List ℕ)) → Right (uninstall_command ws)
uninstall_right [] = tt
uninstall_right (word ∷ more) = either_right (bytes_eq word (codes "-F")) _ None (end_right (Ask request.Uninstall) more tt) tt

path_right : (word path : List ℕ) → move_path word ≡ Some path → is_path path ≡ true
path_right word path e = at_test (is_path word) refl (not (bytes_eq word (codes "/"))) e
  where
    same : Some word ≡ Some path → word ≡ path
    same e = cc

    at_test : (b : Bool) → is_path word ≡ b → (c : Bool) → (if b && c then Some word else None) ≡ Some path → is_path path ≡ true
    at_test true h true e = subst (λ p. is_path p ≡ true) (same e) h
    at_test true h false e = absurd (cc)
    at_test false h c e = absurd (cc)

plain_right : (word : List ℕ) (r : Request) (ws : List (List ℕ)) → request_word word ≡ Some r → Right (at_end (Ask r) ws)
plain_right word r ws e = end_right (Ask r) ws (at_install (bytes_eq word (codes "install")) e)
  where
    same : {a b : Request} → Some a ≡ Some b → a ≡ b
    same e = cc

    at_halt : (b : Bool) → (if b then Some request.Halt else None) ≡ Some r → IsRight (Ask r)
    at_halt true e = subst (λ r. IsRight (Ask r)) (same e) tt
    at_halt false e = absurd (cc)

    at_ready : (b : Bool) → (if b then Some request.Ready else if bytes_eq word (codes "halt") then Some request.Halt else None) ≡ Some r → IsRight (Ask r)
    at_ready true e = subst (λ r. IsRight (Ask r)) (same e) tt
    at_ready false e = at_halt (bytes_eq word (codes "halt")) e

    at_detach : (b : Bool) → (if b then Some request.Detach else if bytes_eq word (codes "ready") then Some request.Ready else if bytes_eq word (codes "halt") then Some request.Halt else None) ≡ Some r → IsRight (Ask r)
    at_detach true e = subst (λ r. IsRight (Ask r)) (same e) tt
    at_detach false e = at_ready (bytes_eq word (codes "ready")) e

    at_attach : (b : Bool) → (if b then Some request.Attach else if bytes_eq word (codes "detach") then Some request.Detach else if bytes_eq word (codes "ready") then Some request.Ready else if bytes_eq word (codes "halt") then Some request.Halt else None) ≡ Some r → IsRight (Ask r)
    at_attach true e = subst (λ r. IsRight (Ask r)) (same e) tt
    at_attach false e = at_detach (bytes_eq word (codes "detach")) e

    at_install : (b : Bool) → (if b then Some request.Install else if bytes_eq word (codes "attach") then Some request.Attach else if bytes_eq word (codes "detach") then Some request.Detach else if bytes_eq word (codes "ready") then Some request.Ready else if bytes_eq word (codes "halt") then Some request.Halt else None) ≡ Some r → IsRight (Ask r)
    at_install true e = subst (λ r. IsRight (Ask r)) (same e) tt
    at_install false e = at_attach (bytes_eq word (codes "attach")) e

request_right : (word : List ℕ) (ws : List (List ℕ)) → Kept ws → Right (request_command word ws)
request_right word ws h =
    either_right (bytes_eq word (codes "boot")) _ _ (args_right request.Boot ws (λ args ok. ok) h)
    (either_right (bytes_eq word (codes "reboot")) _ _ (args_right request.Reboot ws (λ args ok. ok) h)
    (either_right (bytes_eq word (codes "uninstall")) _ _ (uninstall_right ws)
    (either_right (bytes_eq word (codes "mark")) _ _ (then_right (after_word (codes "incomplete") ws) _ (λ ws e. end_right (Ask request.Mark) ws tt))
    (either_right (bytes_eq word (codes "move")) _ _ (then_right (next_word ws) _ (λ r e. then_right (move_path r.0) _ (λ path e. end_right (Ask (request.Move path)) r.1 (path_right r.0 path e))))
    (either_right (bytes_eq word (codes "clone")) _ _ (then_right (next_word ws) _ (λ r e. end_right (Clone r.0) r.1 tt))
    (then_right (request_word word) _ (λ asked e. plain_right word asked ws e)))))))

-- what stands from some word on is no longer than the whole
drop_short : (n : ℕ) (text : List ℕ) → length text ≤ 4200 → length (drop n text) ≤ 4200
drop_short n text h = simp length-drop (omega (arith, h))

from_short : (n : ℕ) (text : List ℕ) → length text ≤ 4200 → length (from_word n text) ≤ 4200
from_short zero text h = drop_short _ text h
from_short (suc n) text h = from_short n (past_word text) (drop_short _ (past_spaces text) (drop_short _ text h))

zonecfg_right : (text : List ℕ) (ws : List (List ℕ)) → length text ≤ 4200 → Right (Some (zonecfg_command text ws))
zonecfg_right text [] h = tt
zonecfg_right text (word ∷ more) h = h

list_one_right : (ws : List (List ℕ)) → Right (list_one_command ws)
list_one_right [] = tt
list_one_right (word ∷ more) = then_right (form_word word) _ (λ form e. end_right (List_one form) more tt)

subcommand_right : (word : List ℕ) (ws : List (List ℕ)) → Kept ws → Right (subcommand word ws)
subcommand_right word ws h =
    either_right (bytes_eq word (codes "help")) _ _ (end_right Help ws tt)
    (either_right (bytes_eq word (codes "verify")) _ _ (end_right Verify ws tt)
    (either_right (bytes_eq word (codes "list")) _ _ (list_one_right ws) (request_right word ws h)))

dirs_right : (f : List ℕ → Command) (o : Option (List ℕ)) → ((dir : List ℕ) → IsRight (f dir)) → Right (option_map f o)
dirs_right f None ok = tt
dirs_right f (Some dir) ok = ok dir

tool_right : (text tool : List ℕ) (ws : List (List ℕ)) → length text ≤ 4200 → Kept ws → Right (tool_command text tool ws)
tool_right text tool ws short h =
    either_right (bytes_eq tool (codes "zonecfg")) _ _ (zonecfg_right text ws short)
    (either_right (bytes_eq tool (codes "zoneadm")) _ _ (then_right (next_word ws) _ (λ r e. subcommand_right r.0 r.1 (kept_next ws r h e)))
    (either_right (bytes_eq tool (codes "fhold")) _ _ (dirs_right Hold (dir_words ws) (λ dir. tt))
    (either_right (bytes_eq tool (codes "frelease")) _ None (dirs_right Release (dir_words ws) (λ dir. tt)) tt)))

zone_right : (text : List ℕ) (ws : List (List ℕ)) → length text ≤ 4200 → Kept ws → Right (zone_command text ws)
zone_right text ws short h =
    then_right (next_word ws) _ (λ tool e. let h = kept_next ws tool h e in
    then_right (after_word (codes "-z") tool.1) _ (λ ws e. let h = kept_after (codes "-z") tool.1 ws h e in
    then_right (next_word ws) _ (λ zone e. tool_right (from_word 3 text) tool.0 zone.1 (from_short 3 text short) (kept_next ws zone h e))))

list_zones_right : (ws : List (List ℕ)) → Right (list_zones_command ws)
list_zones_right [] = tt
list_zones_right (word ∷ more) = then_right (options_word word) _ (λ options e. end_right (List_zones options) more tt)

general_subcommand_right : (word : List ℕ) (ws : List (List ℕ)) → Right (general_subcommand word ws)
general_subcommand_right word ws =
    either_right (bytes_eq word (codes "help")) _ _ (end_right Help ws tt)
    (either_right (bytes_eq word (codes "list")) _ None (list_zones_right ws) tt)

general_right : (ws : List (List ℕ)) → Right (general_command ws)
general_right ws =
    then_right (after_word (codes "zoneadm") ws) _ (λ ws e. then_right (next_word ws) _ (λ r e. general_subcommand_right r.0 r.1))

or_right : (o p : Option Command) → Right o → Right p → Right (option_or o p)
or_right None p h k = k
or_right (Some c) p h k = h

kill_right : (ws : List (List ℕ)) → Right (kill_command ws)
kill_right ws =
    then_right (next_word ws) _ (λ r e. then_right (signal_in r.0) _ (λ signal e. then_right (next_word r.1) _ (λ r e. then_right (pid_in r.0) _ (λ pid e. end_right (Kill signal pid) r.1 tt))))

named_right : (c : Command) (ws : List (List ℕ)) → IsRight c → Right (named c ws)
named_right c ws h = then_right (next_word ws) _ (λ name e. end_right c name.1 h)

attended_right : (escape : Option ℕ) (word : List ℕ) (more : List (List ℕ)) → Right (attended_by escape word more)
attended_right escape word more = either_right (bytes_eq word (codes "-C")) _ _ (named_right (Console escape) more tt) (end_right (Login escape) more tt)

entered_right : (text : List ℕ) (ws : List (List ℕ)) → Right (Some (entered_command text ws))
entered_right text [] = tt
entered_right text (word ∷ more) = tt

zlogin_right : (text : List ℕ) (ws : List (List ℕ)) → Right (zlogin_command text ws)
zlogin_right text ws =
    then_right (next_word ws) _ (λ word e.
    either_right (bytes_eq word.0 (codes "-C")) _ _ (then_right (escape_words word.1) _ (λ escape e. named_right (Console escape.0) escape.1 tt))
    (either_right (is_escape_option word.0) _ _ (then_right (escape_words (word.0 ∷ word.1)) _ (λ escape e. then_right (next_word escape.1) _ (λ r e. attended_right escape.0 r.0 r.1)))
    (entered_right (from_word 2 text) word.1)))

command_right : (text : List ℕ) (ws : List (List ℕ)) → length text ≤ 4200 → Kept ws → IsRight (command_of text ws)
command_right text [] short h = tt
command_right text (word ∷ more) short h =
    at_answer (command_by text word more)
    (either_right (bytes_eq word (codes "kill")) _ _ (kill_right more)
    (either_right (bytes_eq word (codes "zlogin")) _ _ (zlogin_right text more) (or_right (general_command (word ∷ more)) _ (general_right (word ∷ more)) (zone_right text (word ∷ more) short h))))
  where
    at_answer : (o : Option Command) → Right o → IsRight (unwrap_or o Unknown)
    at_answer None h = tt
    at_answer (Some c) h = h

pub right_line : (text : List ℕ) → IsTrue (is_text text) → IsRight (line_of text).command
unfolding line_of
right_line text h = command_right text (words text) (short_text text h) (kept_words text h)

pub short_line : (text : List ℕ) → IsTrue (is_text text) → length text ≤ 4200
short_line text h = short_text text h

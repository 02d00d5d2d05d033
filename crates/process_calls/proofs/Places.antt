-- The place of a fault lies in the text, or at its end.
use Rattle.std.proofs.Common.{◌≡◌, ◌+◌, ◌≤◌, ℕ, Bool, true, false, List, [], ◌∷◌, length, Option, Some, None, Result, Ok, Err, codes, ap, refl, arith, length-append}
use Rattle.std.specs.Prelude.{bytes_eq, if◌then◌else◌}
use Rattle.std.specs.List.{join_with_byte, slice_split}
use Rattle.std.proofs.lemmas.List.Splits.{join_with_byte-slice_split}
use Rattle.priv_sets.specs.Table.{number_of}
use Rattle.process_calls.specs.declared.call.Call.{Call}
use Rattle.process_calls.specs.declared.call.Call.TheVariants.{Drop, Exec, Fork, Kill, Read, Umount, Write}
use Rattle.process_calls.specs.declared.call.CallFault.{CallFault}
use Rattle.process_calls.specs.Calls.{Said, bare_call, call_of, call_of_words, cons_by, is_fstype, is_special, kill_by, made, mount_by, name_in, path_in, pid_in, read_only_by, ro_in, signal_in, spaced, taken}
use Rattle.process_calls.proofs.Rests.{bytes_of_placed, text_within}
use Rattle.process_calls.specs.Words.{IsWithin, Word, ◌>>=◌, is_space, last, next, no_more, placed, said_at, words_from}

-- words that begin in a text or at its end
AreWithin : ℕ → List Word → Type 0
AreWithin end [] = Unit {0}
AreWithin end (word ∷ words) = (word.place ≤ end) × AreWithin end words

placed_within : (place end : ℕ) (parts : List (List ℕ)) → place + length (join_with_byte 32 parts) ≤ end → AreWithin end (placed place parts)
unfolding AreWithin
placed_within place end [] h = tt
placed_within place end (word ∷ []) h = (omega arith, tt)
placed_within place end (word ∷ next ∷ parts) h =
    (omega arith, placed_within (place + length word + 1) end (next ∷ parts) (omega (arith, length-append word (32 ∷ join_with_byte 32 (next ∷ parts)))))

-- what a result's words and its fault are
IsRight : {A : Type 0} → ℕ → (A → Type 0) → Result A CallFault → Type 0
IsRight end P (Ok a) = P a
IsRight end P (Err fault) = IsWithin end fault

then_within : {A B : Type 0} (end : ℕ) (P : A → Type 0) (Q : B → Type 0) (r : Result A CallFault) (f : A → Result B CallFault)
    → IsRight end P r → ((a : A) → P a → IsRight end Q (f a)) → IsRight end Q (r >>= f)
unfolding IsRight
then_within end P Q (Ok a) f h g = g a h
then_within end P Q (Err fault) f h g = h

AfterWithin : {A : Type 0} → ℕ → A × List Word → Type 0
AfterWithin end r = AreWithin end r.1

Any : {A : Type 0} → A → Type 0
Any a = Unit {0}

said_within : {A : Type 0} (end place : ℕ) (said : Option A) (words : List Word) → place ≤ end → AreWithin end words → IsRight end (AfterWithin end) (said_at said place words)
unfolding IsRight AfterWithin
said_within end place (Some a) words h g = g
said_within end place None words h g = h

next_within : {A : Type 0} (read : List ℕ → Option A) (end : ℕ) (words : List Word) → AreWithin end words → IsRight end (AfterWithin end) (next read end words)
unfolding IsRight AreWithin
next_within read end [] h = omega arith
next_within read end (word ∷ words) h = said_within end word.place (read word.bytes) words h.0 h.1

no_more_within : {A : Type 0} (a : A) (end : ℕ) (words : List Word) → AreWithin end words → IsRight end Any (no_more a words)
unfolding IsRight AreWithin Any
no_more_within a end [] h = tt
no_more_within a end (word ∷ words) h = h.0

last_within : {A : Type 0} (read : List ℕ → Option A) (end : ℕ) (words : List Word) → AreWithin end words → IsRight end Any (last read end words)
unfolding AfterWithin
last_within read end words h =
    then_within end (AfterWithin end) Any (next read end words) (λ w. no_more w.0 w.1) (next_within read end words h) (λ r g. no_more_within r.0 end r.1 g)

made_within : {A : Type 0} (read : List ℕ → Option A) (make : A → Call) (end : ℕ) (words : List Word) → AreWithin end words → IsRight end Any (made read make end words)
unfolding IsRight Any
made_within read make end words h = then_within end Any Any (last read end words) (λ a. Ok (make a)) (last_within read end words h) (λ a g. tt)

kill_within : (end : ℕ) (words : List Word) → AreWithin end words → IsRight end Any (kill_by end words)
unfolding AfterWithin
kill_within end words h =
    then_within end (AfterWithin end) Any (next signal_in end words) (λ signal. made pid_in (Kill signal.0) end signal.1) (next_within signal_in end words h)
    (λ signal g. made_within pid_in (Kill signal.0) end signal.1 g)

read_only_within : (end : ℕ) (words : List Word) → AreWithin end words → IsRight end Any (read_only_by end words)
unfolding IsRight Any
read_only_within end [] h = tt
read_only_within end (word ∷ words) h = last_within ro_in end (word ∷ words) h

mount_within : (end : ℕ) (words : List Word) → AreWithin end words → IsRight end Any (mount_by end words)
unfolding IsRight AfterWithin Any
mount_within end words h =
    then_within end (AfterWithin end) Any (next (taken is_fstype) end words) _ (next_within (taken is_fstype) end words h) (λ fstype g.
    then_within end (AfterWithin end) Any (next (taken (is_special fstype.0)) end fstype.1) _ (next_within (taken (is_special fstype.0)) end fstype.1 g) (λ special g.
    then_within end (AfterWithin end) Any (next path_in end special.1) _ (next_within path_in end special.1 g) (λ dir g.
    then_within end Any Any (read_only_by end dir.1) _ (read_only_within end dir.1 g) (λ read_only g. tt))))

-- some words, with a space between two, fit behind the place of the first
Fits : ℕ → List Word → Type 0
Fits end [] = Unit {0}
Fits end (word ∷ words) = word.place + length (spaced (word ∷ words)) ≤ end

placed_fits : (place end : ℕ) (parts : List (List ℕ)) → place + length (join_with_byte 32 parts) ≤ end → Fits end (placed place parts)
unfolding Fits
placed_fits place end [] h = tt
placed_fits place end (word ∷ more) h = rw (bytes_of_placed (place + length word + 1) more) h

rest_fits : (place end : ℕ) (word : List ℕ) (more : List (List ℕ)) → place + length (join_with_byte 32 (word ∷ more)) ≤ end → Fits end (placed (place + length word + 1) more)
unfolding Fits
rest_fits place end word [] h = tt
rest_fits place end word (next ∷ more) h =
    placed_fits (place + length word + 1) end (next ∷ more) (omega (arith, h, length-append word (32 ∷ join_with_byte 32 (next ∷ more))))

cons_within : (end : ℕ) (words : List Word) → Fits end words → IsRight end Any (cons_by end words)
unfolding IsRight Fits Any
cons_within end [] h = omega arith
cons_within end (word ∷ words) h = at_said (cons_by end (word ∷ words)) refl
  where
    at_said : (said : Said) → cons_by end (word ∷ words) ≡ said → IsRight end Any said
    at_said (Ok call) e = tt
    at_said (Err fault) e = text_within word.place end (spaced (word ∷ words)) h fault e

if_within : {A : Type 0} (end : ℕ) (P : A → Type 0) (b : Bool) (r s : Result A CallFault) → IsRight end P r → IsRight end P s → IsRight end P (if b then r else s)
if_within end P true r s h g = h
if_within end P false r s h g = g

words_within : (end : ℕ) (parts : List (List ℕ)) → length (join_with_byte 32 parts) ≤ end → AreWithin end (placed 0 parts) → IsRight end Any (call_of_words end (placed 0 parts))
unfolding IsRight AreWithin
words_within end [] fits h = omega arith
words_within end (word ∷ more) fits h =
    let first : Word = record { place = 0; bytes = word } in
    let words : List Word = placed (0 + length word + 1) more in
    if_within end Any (bytes_eq first.bytes (codes "fork")) _ _ (made_within name_in Fork end words h.1)
    (if_within end Any (bytes_eq first.bytes (codes "exec")) _ _ (made_within name_in Exec end words h.1)
    (if_within end Any (bytes_eq first.bytes (codes "kill")) _ _ (kill_within end words h.1)
    (if_within end Any (bytes_eq first.bytes (codes "drop")) _ _ (made_within number_of Drop end words h.1)
    (if_within end Any (bytes_eq first.bytes (codes "mount")) _ _ (mount_within end words h.1)
    (if_within end Any (bytes_eq first.bytes (codes "umount")) _ _ (made_within path_in Umount end words h.1)
    (if_within end Any (bytes_eq first.bytes (codes "read")) _ _ (made_within path_in Read end words h.1)
    (if_within end Any (bytes_eq first.bytes (codes "write")) _ _ (made_within path_in Write end words h.1)
    (if_within end Any (bytes_eq first.bytes (codes "cons")) _ _ (cons_within end words (rest_fits 0 end word more (omega (arith, fits))))
    (last_within bare_call end (first ∷ words) h)))))))))

call_within : (text : List ℕ) → IsRight (length text) Any (call_of text)
unfolding call_of words_from
call_within text =
    let whole = ap length (join_with_byte-slice_split 32 text) in
    words_within (length text) (slice_split is_space text) (omega (arith, whole)) (placed_within 0 (length text) (slice_split is_space text) (omega (arith, whole)))

pub place_within : (text : List ℕ) (fault : CallFault) → call_of text ≡ Err fault → IsWithin (length text) fault
unfolding IsRight
place_within text fault h = rw h at (call_within text)

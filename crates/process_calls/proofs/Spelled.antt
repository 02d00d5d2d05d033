-- A call that is read is right, and its text is the one that is written of it.
use Rattle.std.proofs.Common.{◌≡◌, ◌⊎◌, ◌∙◌, ◌+◌, ℕ, Bool, true, false, List, [], ◌∷◌, ◌++◌, length, Option, Some, None, Result, Ok, Err, codes, inl, inr, refl, sym, ap, subst}
use Rattle.std.specs.Prelude.{bytes_eq, if◌then◌else◌}
use Rattle.std.specs.List.{join_with_byte, slice_split}
use Rattle.std.proofs.lemmas.Bool.{and_from, le-leb, lt-ltb}
use Rattle.std.proofs.lemmas.List.{append-nil}
use Rattle.std.proofs.lemmas.List.Splits.{join_with_byte-slice_split}
use Rattle.std.proofs.lemmas.Slice.Eq.{bytes_eq-Decides}
use Rattle.zn_base.specs.Path.{is_path}
use Rattle.kernel_objects.specs.declared.objects.Signal.{Signal}
use Rattle.kernel_objects.specs.declared.objects.Signal.TheVariants.{Kill as KillSignal, Term, Zero}
use Rattle.priv_sets.specs.Table.{number_of, privileges}
use Rattle.priv_sets.proofs.Names.{name_of_number, number_inside}
use Rattle.process_calls.specs.declared.call.Call.{Call}
use Rattle.process_calls.specs.declared.call.Call.TheVariants.{Bootargs, Cons, Datasets, Devices, Drop, Exec, Exit, False, Fork, Kill, Links, Mount, Mounts, Privs, Ps, Read, True, Umount, Write, Zonename}
use Rattle.process_calls.specs.declared.call.CallFault.{CallFault}
use Rattle.process_calls.specs.declared.call.MountCall.{MountCall}
use Rattle.process_calls.specs.Calls.{Said, bare_call, call_of, call_of_words, call_text, cons_by, greatest_pid, is_call, is_fstype, is_process_name, is_special, kill_by, made, mount_by, name_in, path_in, pid_in, read_only_by, read_only_text, ro_in, signal_in, signal_text, taken}
use Rattle.process_calls.specs.Words.{Word, ◌>>=◌, is_space, last, next, no_more, placed, said_at, words_from}
use Rattle.process_calls.proofs.Numbers.{pid_written}
use Rattle.process_calls.proofs.Rests.{bytes_of_placed, text_read}

-- which way a test went
pick : {A : Type 0} (b : Bool) (x y z : A) → (if b then x else y) ≡ z → ((b ≡ true) × (x ≡ z)) ⊎ ((b ≡ false) × (y ≡ z))
pick true x y z h = inl (refl, h)
pick false x y z h = inr (refl, h)

-- what is done with a result came of it
then_is : {A B : Type 0} (r : Result A CallFault) (f : A → Result B CallFault) (b : B) → (r >>= f) ≡ Ok b → (a : A) × (r ≡ Ok a) × (f a ≡ Ok b)
then_is (Ok a) f b h = (a, refl, h)
then_is (Err e) f b h = absurd (cc)

-- what is done with a word that was read, and with the words after it
after_next : {A B : Type 0} (read : List ℕ → Option A) (end place : ℕ) (parts : List (List ℕ)) (f : A × List Word → Result B CallFault) (b : B) (P : List (List ℕ) → Type 0)
    → ((word : List ℕ) (more : List (List ℕ)) (a : A) → read word ≡ Some a → f (a, placed (place + length word + 1) more) ≡ Ok b → P (word ∷ more))
    → (next read end (placed place parts) >>= f) ≡ Ok b → P parts
after_next read end place [] f b P holds h = absurd (cc)
after_next {A} read end place (word ∷ more) f b P holds h = at_read (read word) refl h
  where
    at_read : (o : Option A) → read word ≡ o → (said_at o place (placed (place + length word + 1) more) >>= f) ≡ Ok b → P (word ∷ more)
    at_read None e g = absurd (cc)
    at_read (Some a) e g = holds word more a e g

no_more_is : {A : Type 0} (b a : A) (place : ℕ) (parts : List (List ℕ)) → no_more b (placed place parts) ≡ Ok a → (parts ≡ []) × (b ≡ a)
no_more_is b a place [] h = (refl, cc)
no_more_is b a place (word ∷ more) h = absurd (cc)

record LastWord {A : Type 0} (read : List ℕ → Option A) (parts : List (List ℕ)) (a : A) : Type 0 where
  word : List ℕ
  parts_are : parts ≡ word ∷ []
  reads : read word ≡ Some a

last_is : {A : Type 0} (read : List ℕ → Option A) (end place : ℕ) (parts : List (List ℕ)) (a : A) → last read end (placed place parts) ≡ Ok a → LastWord read parts a
last_is read end place parts a =
    after_next read end place parts (λ w. no_more w.0 w.1) a (λ ws. LastWord read ws a) (λ word more b reads h.
    let none = no_more_is b a (place + length word + 1) more h in
    record { word = word; parts_are = ap (λ ws. word ∷ ws) none.0; reads = reads ∙ ap Some none.1 })

-- a text is a right call, as it is written
pub record Spells (text : List ℕ) (call : Call) : Type 0 where
  pub right : is_call call ≡ true
  pub text_is : call_text call ≡ text

taken_is : (test : List ℕ → Bool) (word a : List ℕ) → taken test word ≡ Some a → (test a ≡ true) × (a ≡ word)
taken_is test word a h =
    elim (pick (test word) (Some word) None (Some a) h) [
      | inl p ↦ let same : word ≡ a = cc in (ap test (sym same) ∙ p.0, sym same)
      | inr p ↦ absurd (cc)
    ]

signalled : (word : List ℕ) (signal : Signal) → signal_in word ≡ Some signal → signal_text signal ≡ word
signalled word signal h =
    elim (pick (bytes_eq word (codes "0")) (Some Zero) (if bytes_eq word (codes "9") then Some KillSignal else if bytes_eq word (codes "15") then Some Term else None) (Some signal) h) [
      | inl p ↦ let is : Zero ≡ signal = cc in ap signal_text (sym is) ∙ sym ((bytes_eq-Decides word (codes "0")).0 p.0)
      | inr p ↦ elim (pick (bytes_eq word (codes "9")) (Some KillSignal) (if bytes_eq word (codes "15") then Some Term else None) (Some signal) p.1) [
        | inl q ↦ let is : KillSignal ≡ signal = cc in ap signal_text (sym is) ∙ sym ((bytes_eq-Decides word (codes "9")).0 q.0)
        | inr q ↦ elim (pick (bytes_eq word (codes "15")) (Some Term) None (Some signal) q.1) [
          | inl r ↦ let is : Term ≡ signal = cc in ap signal_text (sym is) ∙ sym ((bytes_eq-Decides word (codes "15")).0 r.0)
          | inr r ↦ absurd (cc)
        ]
      ]
    ]

-- a call that is made of one word more
with_last : {A : Type 0} (read : List ℕ → Option A) (make : A → Call) (first : List ℕ) (end place : ℕ) (parts : List (List ℕ)) (call : Call)
    → ((a : A) (word : List ℕ) → read word ≡ Some a → Spells (first ++ 32 ∷ word) (make a))
    → made read make end (placed place parts) ≡ Ok call → Spells (join_with_byte 32 (first ∷ parts)) call
with_last read make first end place parts call spells h =
    let said = then_is (last read end (placed place parts)) (λ a. Ok (make a)) call h in
    let word = last_is read end place parts said.0 said.1 in
    let is : make said.0 ≡ call = cc in
    let text : first ++ 32 ∷ word.word ≡ join_with_byte 32 (first ∷ parts) = ap (λ ws. join_with_byte 32 (first ∷ ws)) (sym word.parts_are) in
    subst (Spells (join_with_byte 32 (first ∷ parts))) is (subst (λ t. Spells t (make said.0)) text (spells said.0 word.word word.reads))

-- a call of a word that a test takes
spells_taken : (test : List ℕ → Bool) (make : List ℕ → Call) (first : List ℕ) → ((a : List ℕ) → is_call (make a) ≡ test a) → ((a : List ℕ) → call_text (make a) ≡ first ++ 32 ∷ a)
    → (a word : List ℕ) → taken test word ≡ Some a → Spells (first ++ 32 ∷ word) (make a)
spells_taken test make first rule text a word h =
    let is = taken_is test word a h in
    record { right = rule a ∙ is.0; text_is = text a ∙ ap (λ w. first ++ 32 ∷ w) is.1 }

spells_fork : (name word : List ℕ) → name_in word ≡ Some name → Spells (codes "fork" ++ 32 ∷ word) (Fork name)
spells_fork = spells_taken is_process_name Fork (codes "fork") (λ a. refl) (λ a. refl)

spells_exec : (name word : List ℕ) → name_in word ≡ Some name → Spells (codes "exec" ++ 32 ∷ word) (Exec name)
spells_exec = spells_taken is_process_name Exec (codes "exec") (λ a. refl) (λ a. refl)

spells_umount : (dir word : List ℕ) → path_in word ≡ Some dir → Spells (codes "umount" ++ 32 ∷ word) (Umount dir)
spells_umount = spells_taken is_path Umount (codes "umount") (λ a. refl) (λ a. refl)

spells_read : (path word : List ℕ) → path_in word ≡ Some path → Spells (codes "read" ++ 32 ∷ word) (Read path)
spells_read = spells_taken is_path Read (codes "read") (λ a. refl) (λ a. refl)

spells_write : (path word : List ℕ) → path_in word ≡ Some path → Spells (codes "write" ++ 32 ∷ word) (Write path)
spells_write = spells_taken is_path Write (codes "write") (λ a. refl) (λ a. refl)

spells_kill : (signal : Signal) (pid : ℕ) (s p : List ℕ) → signal_in s ≡ Some signal → pid_in p ≡ Some pid → Spells (codes "kill" ++ 32 ∷ (s ++ 32 ∷ p)) (Kill signal pid)
spells_kill signal pid s p is_signal is_pid =
    let written = pid_written pid p is_pid in
    record {
      right = le-leb pid greatest_pid written.0;
      text_is = rw (signalled s signal is_signal, written.1) refl;
    }

kill_is : (end place : ℕ) (parts : List (List ℕ)) (call : Call) → kill_by end (placed place parts) ≡ Ok call → Spells (join_with_byte 32 (codes "kill" ∷ parts)) call
kill_is end place parts call =
    after_next signal_in end place parts _ call (λ ws. Spells (join_with_byte 32 (codes "kill" ∷ ws)) call) (λ word more signal is_signal h.
    let said = then_is (last pid_in end (placed (place + length word + 1) more)) (λ pid. Ok (Kill signal pid)) call h in
    let pid = last_is pid_in end (place + length word + 1) more said.0 said.1 in
    let is : Kill signal said.0 ≡ call = cc in
    rw pid.parts_are (subst (Spells (codes "kill" ++ 32 ∷ (word ++ 32 ∷ pid.word))) is (spells_kill signal said.0 word pid.word is_signal pid.reads)))

-- what stands after a mount's directory
option_is : (word : List ℕ) (read_only : Bool) → ro_in word ≡ Some read_only → 32 ∷ word ≡ read_only_text read_only
option_is word read_only h =
    elim (pick (bytes_eq word (codes "ro")) (Some true) None (Some read_only) h) [
      | inl p ↦
          let is : true ≡ read_only = cc in
          ap (λ w. 32 ∷ w) ((bytes_eq-Decides word (codes "ro")).0 p.0) ∙ ap read_only_text is
      | inr p ↦ absurd (cc)
    ]

read_only_is : (end place : ℕ) (dir : List ℕ) (parts : List (List ℕ)) (read_only : Bool) → read_only_by end (placed place parts) ≡ Ok read_only → dir ++ read_only_text read_only ≡ join_with_byte 32 (dir ∷ parts)
read_only_is end place dir [] read_only h =
    let is : false ≡ read_only = cc in
    ap (λ r. dir ++ read_only_text r) (sym is) ∙ append-nil dir
read_only_is end place dir (word ∷ more) read_only h =
    let option = last_is ro_in end place (word ∷ more) read_only h in
    ap (λ t. dir ++ t) (sym (option_is option.word read_only option.reads)) ∙ ap (λ ws. join_with_byte 32 (dir ∷ ws)) (sym option.parts_are)

spells_mount : (mount : MountCall) (fstype special dir : List ℕ) (more : List (List ℕ)) → taken is_fstype fstype ≡ Some mount.fstype → taken (is_special mount.fstype) special ≡ Some mount.special → path_in dir ≡ Some mount.dir
    → dir ++ read_only_text mount.read_only ≡ join_with_byte 32 (dir ∷ more)
    → Spells (join_with_byte 32 (codes "mount" ∷ fstype ∷ special ∷ dir ∷ more)) (Mount mount)
spells_mount mount fstype special dir more f s d option =
    let is_type = taken_is is_fstype fstype mount.fstype f in
    let is_what = taken_is (is_special mount.fstype) special mount.special s in
    let is_dir = taken_is is_path dir mount.dir d in
    record { right = and_from _ _ (and_from _ _ is_type.0 is_what.0) is_dir.0; text_is = rw (is_type.1, is_what.1, is_dir.1, option) refl }

mount_is : (end place : ℕ) (parts : List (List ℕ)) (call : Call) → mount_by end (placed place parts) ≡ Ok call → Spells (join_with_byte 32 (codes "mount" ∷ parts)) call
mount_is end place parts call =
    after_next (taken is_fstype) end place parts _ call (λ ws. Spells (join_with_byte 32 (codes "mount" ∷ ws)) call) (λ first more fstype is_type.
    let place : ℕ = place + length first + 1 in
    after_next (taken (is_special fstype)) end place more _ call (λ ws. Spells (join_with_byte 32 (codes "mount" ∷ first ∷ ws)) call) (λ second more special is_what.
    let place : ℕ = place + length second + 1 in
    after_next path_in end place more _ call (λ ws. Spells (join_with_byte 32 (codes "mount" ∷ first ∷ second ∷ ws)) call) (λ third more dir is_dir h.
    let said = then_is (read_only_by end (placed (place + length third + 1) more)) (λ read_only. Ok (Mount (record { fstype = fstype; special = special; dir = dir; read_only = read_only }))) call h in
    let option = read_only_is end (place + length third + 1) third more said.0 said.1 in
    let mount : MountCall = record { fstype = fstype; special = special; dir = dir; read_only = said.0 } in
    let is : Mount mount ≡ call = cc in
    subst (Spells (join_with_byte 32 (codes "mount" ∷ first ∷ second ∷ third ∷ more))) is (spells_mount mount first second third more is_type is_what is_dir option))))

-- a line for the console is what stands behind the first word
cons_is : (end place : ℕ) (parts : List (List ℕ)) (call : Call) → cons_by end (placed place parts) ≡ Ok call → Spells (join_with_byte 32 (codes "cons" ∷ parts)) call
cons_is end place [] call h = absurd (cc)
cons_is end place (word ∷ more) call h =
    let text : List ℕ = join_with_byte 32 (word ∷ more) in
    let read = text_read place text call (rw (bytes_of_placed (place + length word + 1) more) at h) in
    subst (Spells (join_with_byte 32 (codes "cons" ∷ word ∷ more))) read.1 (record { right = read.0; text_is = refl })

bare_word : (word : List ℕ) (call c : Call) (rest : Option Call) → is_call c ≡ true → (rest ≡ Some call → Spells word call)
    → (if bytes_eq word (call_text c) then Some c else rest) ≡ Some call → Spells word call
bare_word word call c rest right other h =
    elim (pick (bytes_eq word (call_text c)) (Some c) rest (Some call) h) [
      | inl p ↦
          let is : c ≡ call = cc in
          subst (Spells word) is (record { right = right; text_is = sym ((bytes_eq-Decides word (call_text c)).0 p.0) })
      | inr p ↦ other p.1
    ]

no_call : (word : List ℕ) (call : Call) → None ≡ Some call → Spells word call
no_call word call h = absurd (cc)

bare_is : (word : List ℕ) (call : Call) → bare_call word ≡ Some call → Spells word call
bare_is word call =
    bare_word word call Exit _ refl (bare_word word call Ps _ refl (bare_word word call Privs _ refl
    (bare_word word call Mounts _ refl (bare_word word call Links _ refl (bare_word word call Datasets _ refl (bare_word word call Devices _ refl
    (bare_word word call Zonename _ refl (bare_word word call Bootargs _ refl (bare_word word call True _ refl (bare_word word call False None refl (no_call word call)))))))))))

bare_alone : (end : ℕ) (parts : List (List ℕ)) (call : Call) → last bare_call end (placed 0 parts) ≡ Ok call → Spells (join_with_byte 32 parts) call
bare_alone end parts call h =
    let word = last_is bare_call end 0 parts call h in
    rw word.parts_are (bare_is word.word call word.reads)

spells_drop : (number : ℕ) (word : List ℕ) → number_of word ≡ Some number → Spells (codes "drop" ++ 32 ∷ word) (Drop number)
spells_drop number word h = record { right = lt-ltb number (length privileges) (number_inside word number h); text_is = rw (name_of_number word number h) refl }

-- by the first word
by_first : (word text : List ℕ) (parts : List (List ℕ)) (call : Call) (said other : Said)
    → (said ≡ Ok call → Spells (join_with_byte 32 (text ∷ parts)) call)
    → (other ≡ Ok call → Spells (join_with_byte 32 (word ∷ parts)) call)
    → (if bytes_eq word text then said else other) ≡ Ok call → Spells (join_with_byte 32 (word ∷ parts)) call
by_first word text parts call said other here there h =
    elim (pick (bytes_eq word text) said other (Ok call) h) [
      | inl p ↦ subst (λ w. Spells (join_with_byte 32 (w ∷ parts)) call) (sym ((bytes_eq-Decides word text).0 p.0)) (here p.1)
      | inr p ↦ there p.1
    ]

first_is : (end : ℕ) (word : List ℕ) (more : List (List ℕ)) (call : Call) → call_of_words end (placed 0 (word ∷ more)) ≡ Ok call → Spells (join_with_byte 32 (word ∷ more)) call
first_is end word more call =
    let at : ℕ = 0 + length word + 1 in
    by_first word (codes "fork") more call _ _ (with_last name_in Fork (codes "fork") end at more call spells_fork)
    (by_first word (codes "exec") more call _ _ (with_last name_in Exec (codes "exec") end at more call spells_exec)
    (by_first word (codes "kill") more call _ _ (kill_is end at more call)
    (by_first word (codes "drop") more call _ _ (with_last number_of Drop (codes "drop") end at more call spells_drop)
    (by_first word (codes "mount") more call _ _ (mount_is end at more call)
    (by_first word (codes "umount") more call _ _ (with_last path_in Umount (codes "umount") end at more call spells_umount)
    (by_first word (codes "read") more call _ _ (with_last path_in Read (codes "read") end at more call spells_read)
    (by_first word (codes "write") more call _ _ (with_last path_in Write (codes "write") end at more call spells_write)
    (by_first word (codes "cons") more call _ _ (cons_is end at more call)
    (bare_alone end (word ∷ more) call)))))))))

pub call_is_written : (text : List ℕ) (call : Call) → call_of text ≡ Ok call → Spells text call
unfolding call_of words_from
call_is_written text call h = at_parts (slice_split is_space text) refl h
  where
    at_parts : (parts : List (List ℕ)) → slice_split is_space text ≡ parts → call_of_words (length text) (placed 0 parts) ≡ Ok call → Spells text call
    at_parts [] e g = absurd (cc)
    at_parts (word ∷ more) e g =
        let whole : join_with_byte 32 (word ∷ more) ≡ text = ap (join_with_byte 32) (sym e) ∙ join_with_byte-slice_split 32 text in
        rw (← whole) (first_is (length text) word more call g)

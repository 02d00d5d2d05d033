-- What is sorted of some events, and of one event more.
use Rattle.std.proofs.Common.{◌≡◌, ◌<◌, ◌++◌, ◌∷◌, [], ℕ, zero, suc, Bool, true, false, cond, List, Some, None, append_assoc, ap, arith, below_more, length, nat_eq, refl, set, subst, sym, ◌∙◌, Result, Ok, Err, OnOk}
use Rattle.std.specs.Prelude.{nat_lt, position, slice_index_or, if◌then◌else◌}
use Rattle.std.specs.List.{All, position_or_len}
use Rattle.std.proofs.lemmas.Bool.{eq-eqb, eqb-true, false≢true, ltb-false}
use Rattle.std.proofs.lemmas.List.{append-nil, get_or_append_left, get_or_default, get_or_push, length_push}
use Rattle.std.proofs.lemmas.List.Quantifiers.{position-Some}
use Rattle.std.proofs.lemmas.List.Sums.{fails_before_first}
use Rattle.session_records.specs.Records.{Scripts, typed_by}
use Rattle.session_runs.specs.Far.{Differ, scripts_of}
use Rattle.session_runs.specs.declared.far.Script.{Script}
use Rattle.zone_cases.specs.declared.events.Declaration.{Declaration}
use Rattle.zone_cases.specs.declared.events.Event.{Event}
use Rattle.zone_cases.specs.declared.events.Event.TheVariants.{Process, Restart, Session, System, Turn}
use Rattle.live_input.specs.Input.{IsNumbered}
use Rattle.zones_live.specs.Sorting.{HasNumber, Sorts, declared_by, declared_in, typed_in}
use Rattle.zones_live.specs.declared.sorting.Sorted.{Sorted}

-- a script is of the session
abbrev is_of : ℕ → Script → Bool
is_of m s = nat_eq s.session m

-- what a session types by a line of another, which may be itself
abbrev line : ℕ → ℕ → List ℕ → List (List ℕ)
line n m text = if nat_eq n m then text ∷ [] else []

-- where the first of some scripts is of the session that types a line more
first_typed : (old new : List (List ℕ)) (session m n : ℕ) (text : List ℕ) (rest : List (List ℕ)) → session ≡ m → new ≡ old ++ text ∷ [] → (b : Bool) → nat_eq n m ≡ b
    → (if nat_eq n session then new else rest) ≡ (if nat_eq n session then old else rest) ++ line n m text
first_typed old new session m n text rest same more true is = rw (same, is) more
first_typed old new session m n text rest same more false is = rw (same, is) (sym (append-nil rest))

-- where it is of another
other_typed : (x : Script) (m n : ℕ) (text : List ℕ) (old new : List (List ℕ)) → is_of m x ≡ false → new ≡ old ++ line n m text → (b : Bool) → nat_eq n x.session ≡ b
    → (if nat_eq n x.session then x.lines.items else new) ≡ (if nat_eq n x.session then x.lines.items else old) ++ line n m text
other_typed x m n text old new apart rest true is =
    let other : nat_eq n m ≡ false = ap (λ k. nat_eq k m) (eqb-true n x.session is) ∙ apart in
    rw (is, other) (sym (append-nil x.lines.items))
other_typed x m n text old new apart rest false is = rw is rest

-- a line more of the session whose first script stands at an index
typed_at : (ss : List Script) (i m : ℕ) (text : List ℕ) (new : Script) → i < length ss → ((k : ℕ) (d : Script) → k < i → is_of m (slice_index_or ss k d) ≡ false) → ((d : Script) → (slice_index_or ss i d).session ≡ m)
    → new.session ≡ m → ((d : Script) → new.lines.items ≡ (slice_index_or ss i d).lines.items ++ text ∷ []) → (n : ℕ) → scripts_of (set ss i new) n ≡ scripts_of ss n ++ line n m text
typed_at [] i m text new near before at same more n = absurd (omega arith)
typed_at (x ∷ ss) zero m text new near before at same more n =
    ap (λ k. if nat_eq n k then new.lines.items else scripts_of ss n) (same ∙ sym (at x))
    ∙ first_typed x.lines.items new.lines.items x.session m n text (scripts_of ss n) (at x) (more x) (nat_eq n m) refl
typed_at (x ∷ ss) (suc i) m text new near before at same more n =
    other_typed x m n text (scripts_of ss n) (scripts_of (set ss i new) n) (before 0 x (omega arith))
    (typed_at ss i m text new (omega (arith, near)) (λ k d low. before (suc k) d (omega (arith, low))) at same more n)
    (nat_eq n x.session) refl

-- a line more of the session whose script was found
pub typed_on : (ss seen : List Script) (i m : ℕ) (text : List ℕ) (old new : Script) → Some i ≡ position (is_of m) seen → seen ≡ ss → old ≡ slice_index_or ss i old → new.session ≡ old.session → new.lines.items ≡ old.lines.items ++ text ∷ []
    → (n : ℕ) → scripts_of (set ss i new) n ≡ scripts_of ss n ++ line n m text
typed_on ss seen i m text old new found all here same more =
    typed_at ss i m text new (at old).0 (λ k d. (at d).2 k) session (same ∙ (ap (λ (x : Script). x.session) here ∙ session old)) (λ d. more ∙ ap (λ (x : Script). x.lines.items ++ text ∷ []) (is d))
  where
    at : (d : Script) → (i < length ss) × (is_of m (slice_index_or ss i d) ≡ true) × ((k : ℕ) → k < i → is_of m (slice_index_or ss k d) ≡ false)
    at d = position-Some (is_of m) ss i d (sym (found ∙ ap (position (is_of m)) all))

    is : (d : Script) → old ≡ slice_index_or ss i d
    is d = here ∙ get_or_default ss i old d (at d).0

    session : (d : Script) → (slice_index_or ss i d).session ≡ m
    session d = eqb-true (slice_index_or ss i d).session m (at d).1

-- the first line of a session
pub typed_first : (ss : List Script) (m : ℕ) (text : List ℕ) (new : Script) → All (λ x. is_of m x ≡ false) ss → new.session ≡ m → new.lines.items ≡ text ∷ []
    → (n : ℕ) → scripts_of (ss ++ new ∷ []) n ≡ scripts_of ss n ++ line n m text
typed_first [] m text new apart same is n = at_test (nat_eq n m) refl
  where
    at_test : (b : Bool) → nat_eq n m ≡ b → (if nat_eq n new.session then new.lines.items else []) ≡ line n m text
    at_test true t = rw (same, t) is
    at_test false t = rw (same, t) refl
typed_first (x ∷ ss) m text new apart same is n =
    other_typed x m n text (scripts_of ss n) (scripts_of (ss ++ new ∷ []) n) (apart 0 x (omega arith))
    (typed_first ss m text new (λ k d low. apart (suc k) d (omega (arith, low))) same is n)
    (nat_eq n x.session) refl

-- no script is of a session that has none
pub none_of : (ss seen : List Script) (m : ℕ) → None ≡ position (is_of m) seen → seen ≡ ss → All (λ x. is_of m x ≡ false) ss
none_of ss seen m none all k d low = fails_before_first (is_of m) ss k d (omega (arith, low, ltb-false first (length ss) (is_false (nat_lt first (length ss)) (sym (none ∙ ap (position (is_of m)) all)))))
  where
    first : ℕ
    first = position_or_len (is_of m) ss

    is_false : (b : Bool) → cond b (Some first) None ≡ None → b ≡ false
    is_false true e = absurd (cc)
    is_false false e = refl

-- the first line of a session is of no other script
pub differ_first : (ss : List Script) (m : ℕ) (new : Script) → All (λ x. is_of m x ≡ false) ss → new.session ≡ m → Differ ss → Differ (ss ++ new ∷ [])
differ_first ss m new apart same differ i j s low low' = below_more (λ i. At i j) (length ss) inner outer i (omega (arith, low, length_push ss new))
  where
    At : ℕ → ℕ → Type 0
    At i j = (slice_index_or (ss ++ new ∷ []) i s).session ≡ (slice_index_or (ss ++ new ∷ []) j s).session → i ≡ j

    inside : (k : ℕ) → k < length ss → slice_index_or (ss ++ new ∷ []) k s ≡ slice_index_or ss k s
    inside k near = get_or_append_left ss (new ∷ []) s k near

    last : (slice_index_or (ss ++ new ∷ []) (length ss) s).session ≡ m
    last = ap (λ (x : Script). x.session) (get_or_push ss new s (length ss) refl) ∙ same

    -- none of those is of the new one's session
    other : (k : ℕ) → k < length ss → (slice_index_or ss k s).session ≡ m → ⊥
    other k near is = false≢true (sym (apart k s near) ∙ eq-eqb (slice_index_or ss k s).session m is)

    inner : (i : ℕ) → i < length ss → At i j
    inner i near = below_more (λ j. At i j) (length ss)
        (λ j near' is. differ i j s near near' (ap (λ (x : Script). x.session) (sym (inside i near)) ∙ (is ∙ ap (λ (x : Script). x.session) (inside j near'))))
        (λ is. absurd (other i near (ap (λ (x : Script). x.session) (sym (inside i near)) ∙ (is ∙ last))))
        j (omega (arith, low', length_push ss new))

    outer : At (length ss) j
    outer = below_more (λ j. At (length ss) j) (length ss)
        (λ j near' is. absurd (other j near' (ap (λ (x : Script). x.session) (sym (inside j near')) ∙ (sym is ∙ last))))
        (λ is. refl)
        j (omega (arith, low', length_push ss new))

-- what is declared and typed by an event more
declared_more : (events : List Event) (e : Event) → declared_in (events ++ e ∷ []) ≡ declared_in events ++ declared_by e
declared_more [] e = append-nil (declared_by e)
declared_more (x ∷ events) e = ap (λ l. declared_by x ++ l) (declared_more events e) ∙ sym (append_assoc (declared_by x) (declared_in events) (declared_by e))

typed_more : (events : List Event) (e : Event) (n : ℕ) → typed_in (events ++ e ∷ []) n ≡ typed_in events n ++ typed_by n e
typed_more [] e n = append-nil (typed_by n e)
typed_more (x ∷ events) e n = ap (λ l. typed_by n x ++ l) (typed_more events e n) ∙ sym (append_assoc (typed_by n x) (typed_in events n) (typed_by n e))

front_of : (P : Event → Type 0) (events : List Event) (e : Event) → All P (events ++ e ∷ []) → All P events
front_of P events e all k d near = rw (← get_or_append_left events (e ∷ []) d k near) (all k d (omega (arith, near, length_push events e)))

last_of : (P : Event → Type 0) (events : List Event) (e : Event) → All P (events ++ e ∷ []) → P e
last_of P events e all = rw (← get_or_push events e e (length events) refl) (all (length events) e (omega (arith, length_push events e)))

-- nothing is sorted of no events
pub sorts_none : (sorted : Sorted) → sorted.declared.items ≡ [] → sorted.scripts.items ≡ [] → Sorts [] sorted
sorts_none sorted none nobody = record {
  declared = none;
  typed = λ i n. ap (λ scripts. scripts_of scripts n) nobody i;
  differ = λ i j s low low' is. absurd (omega (arith, low, ap length nobody));
  sessions = λ all k d low. absurd (omega (arith, low, ap length nobody));
}

-- an event more
sorts_more : (events : List Event) (e : Event) (old new : Sorted) → new.declared.items ≡ old.declared.items ++ declared_by e
    → ((n : ℕ) → scripts_of new.scripts.items n ≡ scripts_of old.scripts.items n ++ typed_by n e)
    → (Differ old.scripts.items → Differ new.scripts.items)
    → (IsNumbered e → All HasNumber old.scripts.items → All HasNumber new.scripts.items)
    → Sorts events old → Sorts (events ++ e ∷ []) new
sorts_more events e old new declares types differ numbered is = record {
  declared = declares ∙ (ap (λ l. l ++ declared_by e) is.declared ∙ sym (declared_more events e));
  typed = λ i n. typed n i;
  differ = differ is.differ;
  sessions = λ all. numbered (last_of IsNumbered events e all) (is.sessions (front_of IsNumbered events e all));
}
  where
    typed : (n : ℕ) → scripts_of new.scripts.items n ≡ typed_in (events ++ e ∷ []) n
    typed n = types n ∙ (ap (λ (scripts : Scripts). scripts n ++ typed_by n e) is.typed ∙ sym (typed_more events e n))

pub sorts_declared : (events : List Event) (e : Event) (what : Declaration) (old new : Sorted) → e ≡ System what → new.declared.items ≡ old.declared.items ++ what ∷ [] → new.scripts.items ≡ old.scripts.items → Sorts events old → Sorts (events ++ e ∷ []) new
sorts_declared events e what old new is declares same =
    sorts_more events e old new (declares ∙ ap (λ x. old.declared.items ++ declared_by x) (sym is))
    (λ n. ap (λ l. scripts_of l n) same ∙ (sym (append-nil (scripts_of old.scripts.items n)) ∙ ap (λ x. scripts_of old.scripts.items n ++ typed_by n x) (sym is)))
    (subst Differ (sym same))
    (λ _. subst (All HasNumber) (sym same))

pub sorts_typed : (events : List Event) (e : Event) (m : ℕ) (text : List ℕ) (old new : Sorted) → e ≡ Session m text → new.declared.items ≡ old.declared.items
    → ((n : ℕ) → scripts_of new.scripts.items n ≡ scripts_of old.scripts.items n ++ typed_by n (Session m text)) → (Differ old.scripts.items → Differ new.scripts.items)
    → (IsNumbered (Session m text) → All HasNumber old.scripts.items → All HasNumber new.scripts.items) → Sorts events old → Sorts (events ++ e ∷ []) new
sorts_typed events e m text old new is same types differ numbered =
    sorts_more events e old new (same ∙ (sym (append-nil old.declared.items) ∙ ap (λ x. old.declared.items ++ declared_by x) (sym is)))
    (λ n. types n ∙ ap (λ x. scripts_of old.scripts.items n ++ typed_by n x) (sym is)) differ (λ is_so. numbered (subst IsNumbered is is_so))

-- an event that declares nothing, and that no session types
left_out : (events : List Event) (e : Event) (sorted : Sorted) → declared_by e ≡ [] → ((n : ℕ) → typed_by n e ≡ []) → Sorts events sorted → Sorts (events ++ e ∷ []) sorted
left_out events e sorted none nobody =
    sorts_more events e sorted sorted (sym (ap (λ l. sorted.declared.items ++ l) none ∙ append-nil sorted.declared.items))
    (λ n. sym (ap (λ l. scripts_of sorted.scripts.items n ++ l) (nobody n) ∙ append-nil (scripts_of sorted.scripts.items n))) (λ d. d) (λ _ a. a)

pub sorts_other : (events : List Event) (e : Event) (sorted : Sorted) → ((what : Declaration) → e ≡ System what → ⊥) → ((m : ℕ) (text : List ℕ) → e ≡ Session m text → ⊥) → Sorts events sorted → Sorts (events ++ e ∷ []) sorted
sorts_other events (System what) sorted undeclared untyped = absurd (undeclared what refl)
sorts_other events (Session m text) sorted undeclared untyped = absurd (untyped m text refl)
sorts_other events (Turn zone) sorted undeclared untyped = left_out events (Turn zone) sorted refl (λ n. refl)
sorts_other events (Process zone pid call) sorted undeclared untyped = left_out events (Process zone pid call) sorted refl (λ n. refl)
sorts_other events Restart sorted undeclared untyped = left_out events Restart sorted refl (λ n. refl)

-- what three clauses say of the same `Ok`
pub on_three : {T E : Type 0} (r : Result T E) (P Q R S : Type 0) → (P → Q → R → S) → OnOk r P → OnOk r Q → OnOk r R → OnOk r S
on_three (Ok x) P Q R S f p q r = f p q r
on_three (Err e) P Q R S f p q r = tt

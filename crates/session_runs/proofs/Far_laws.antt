-- How far scripts are by one entry more, and which entry may come.
use Rattle.std.proofs.Common.{◌≡◌, ◌&&◌, ◌⊎◌, ◌<◌, ◌+◌, ◌∷◌, [], ℕ, zero, suc, List, Bool, Option, Some, None, true, false, add-one, ap, arith, drop, drop-cons, inl, inr, length, nat_eq, not, refl, set, sym, ◌∙◌}
use Rattle.std.specs.Prelude.{is_some, slice_index_or, if◌then◌else◌}
use Rattle.std.proofs.lemmas.Bool.{and_parts, eq-eqb, eqb-true, false≢true, false_from_ne_true}
use Rattle.std.proofs.lemmas.List.{get_or-set_other, get_or-set_same, length-set}
use Rattle.zn_base.specs.Names.{Name}
use Rattle.zone_pools.proofs.Owned_laws.{same_self}
use Rattle.zone_cases.specs.declared.events.Entry.{Entry}
use Rattle.zone_cases.specs.declared.events.Event.{Event}
use Rattle.zone_cases.specs.declared.events.Event.TheVariants.{Process as Call_of, Restart, Session, System, Turn}
use Rattle.zone_cases.specs.declared.events.Subject.{Subject}
use Rattle.zone_cases.specs.declared.replies.Head.{Head}
use Rattle.session_records.specs.Folds.{all_right, folded}
use Rattle.session_records.specs.Records.{awaited, ends}
use Rattle.session_records.specs.Scripts.{Progress, is_first, may_come, may_come_by, noted, progress_after, waits_after}
use Rattle.session_runs.specs.Far.{AreFar, Differ, IsAt, awaits_after, far_after, progress_of, scripts_of, wait_of, waits_of}
use Rattle.session_runs.specs.Midway.{HasDone}
use Rattle.session_runs.specs.declared.far.Awaited.{Awaited}
use Rattle.session_runs.specs.declared.far.Far.{Far}
use Rattle.session_runs.specs.declared.far.Script.{Script}

-- what a turn ends, it ends either way
waits-same : (x : Event) (k : Head) (o : Option Awaited) → waits_after x k (waits_of o) ≡ waits_of (awaits_after x k o)
waits-same x k None = refl
waits-same x k (Some w) = at_test (ends (wait_of w) x k)
  where
    at_test : (b : Bool) → (if b then None else Some (wait_of w)) ≡ waits_of (if b then None else Some w)
    at_test true = refl
    at_test false = refl

turn-one : (p : ℕ → Progress) (e : Entry) (z : Name) → e.event ≡ Turn z → (s : Script) (f : Far) → p s.session ≡ progress_of s f → noted p e s.session ≡ progress_of s (far_after e f)
unfolding noted
turn-one p e z turns s f is =
    ap (λ x. progress_after x e.subject e.reply.head s.session (p s.session)) turns
    ∙ (ap (λ (q : Progress). progress_after (Turn z) e.subject e.reply.head s.session q) is
    ∙ ap (λ o. record { left = drop f.done s.lines.items; waits = o }) (waits-same (Turn z) e.reply.head f.awaits ∙ ap (λ x. waits_of (awaits_after x e.reply.head f.awaits)) (sym turns)))

-- after a turn
pub far-turn : (scripts : List Script) (far far' : List Far) (p : ℕ → Progress) (e : Entry) (z : Name) → e.event ≡ Turn z → length far' ≡ length far
    → ((i : ℕ) (f : Far) → i < length far → slice_index_or far' i f ≡ far_after e (slice_index_or far i f)) → AreFar scripts far p → AreFar scripts far' (noted p e)
far-turn scripts far far' p e z turns len each is = record {
  same = len ∙ is.same;
  each = λ i s f near. turn-one p e z turns (slice_index_or scripts i s) (slice_index_or far i f) (is.each i s f near) ∙ ap (progress_of (slice_index_or scripts i s)) (sym (each i f (omega (arith, near, is.same))));
}

-- a line of another session leaves a session as far as it was
other-one : (p : ℕ → Progress) (e : Entry) (m : ℕ) (text : List ℕ) → e.event ≡ Session m text → (n : ℕ) → (nat_eq n m ≡ false) → noted p e n ≡ p n
unfolding noted
other-one p e m text line n other = ap (λ x. progress_after x e.subject e.reply.head n (p n)) line ∙ rw other refl

own-one : (p : ℕ → Progress) (e : Entry) (m : ℕ) (text : List ℕ) → e.event ≡ Session m text → noted p e m ≡ record { left = drop 1 (p m).left; waits = awaited e.subject e.reply.head }
unfolding noted
own-one p e m text line = ap (λ x. progress_after x e.subject e.reply.head m (p m)) line ∙ rw (eq-eqb m m refl) refl

-- what stands at an index doesn't hang on what stands past the end
pub same-at : {A : Type 0} (xs : List A) (i : ℕ) (a b : A) → i < length xs → slice_index_or xs i a ≡ slice_index_or xs i b
same-at [] i a b near = absurd (omega (arith, near))
same-at (x ∷ xs) zero a b near = refl
same-at (x ∷ xs) (suc i) a b near = same-at xs i a b (omega (arith, near))

-- the session of a script types its next line
module _ (scripts : List Script) (far far' : List Far) (p : ℕ → Progress) (e : Entry) (at number : ℕ) (script : Script) (text : List ℕ) (o : Option Awaited) (differ : Differ scripts) (here : (s : Script) → slice_index_or scripts at s ≡ script) (near : at < length far)
    (so_far : (f : Far) → slice_index_or far at f ≡ record { done = number; awaits = None }) (line : e.event ≡ Session script.session text) (is : AreFar scripts far p) (d : List ℕ) (first : number < length script.lines.items) (typed : slice_index_or script.lines.items number d ≡ text) where
  old : p script.session ≡ record { left = drop number script.lines.items; waits = None }
  old =
      let f : Far = record { done = number; awaits = None } in
      ap (λ (s : Script). p s.session) (sym (here script)) ∙ (is.each at script f (omega (arith, near, is.same)) ∙ (ap (λ (s : Script). progress_of s (slice_index_or far at f)) (here script) ∙ ap (progress_of script) (so_far f)))

  lines : drop number script.lines.items ≡ text ∷ drop (number + 1) script.lines.items
  lines = drop-cons script.lines.items number d first ∙ (ap (λ t. t ∷ drop (suc number) script.lines.items) typed ∙ ap (λ i. text ∷ drop i script.lines.items) (sym (add-one number)))

  pub may-line : may_come p e ≡ true
  unfolding may_come
  may-line =
      ap (λ x. may_come_by p x e.reply.head) line
      ∙ (ap (λ (q : Progress). not (is_some q.waits) && is_first text q.left) old ∙ (ap (λ ls. is_first text ls) lines ∙ same_self text))

  pub far-line : waits_of o ≡ awaited e.subject e.reply.head → far' ≡ set far at (record { done = number + 1; awaits = o }) → AreFar scripts far' (noted p e)
  far-line waits put = record { same = ap length put ∙ length-set far at new ∙ is.same; each = each }
    where
      new : Far
      new = record { done = number + 1; awaits = o }

      own : noted p e script.session ≡ progress_of script new
      own =
          own-one p e script.session text line
          ∙ (λ i. record { left = drop 1 (ap (λ (q : Progress). q.left) old i); waits = sym waits i })
          ∙ ap (λ ls. record { left = drop 1 ls; waits = waits_of o }) lines

      each : (i : ℕ) (s : Script) (f : Far) → i < length scripts → noted p e (slice_index_or scripts i s).session ≡ progress_of (slice_index_or scripts i s) (slice_index_or far' i f)
      each i s f within = at_test (nat_eq i at) refl
        where
          at_test : (b : Bool) → nat_eq i at ≡ b → noted p e (slice_index_or scripts i s).session ≡ progress_of (slice_index_or scripts i s) (slice_index_or far' i f)
          at_test true t =
              let same : i ≡ at = eqb-true i at t in
              let there : slice_index_or scripts i s ≡ script = ap (λ j. slice_index_or scripts j s) same ∙ here s in
              let now : slice_index_or far' i f ≡ new = ap (λ l. slice_index_or l i f) put ∙ (ap (λ j. slice_index_or (set far at new) j f) same ∙ get_or-set_same far at new f near) in
              ap (λ (s : Script). noted p e s.session) there ∙ (own ∙ λ j. progress_of (sym there j) (sym now j))
          at_test false t =
              let other : i ≡ at → ⊥ = λ same. false≢true (sym t ∙ eq-eqb i at same) in
              let apart : nat_eq (slice_index_or scripts i s).session script.session ≡ false =
              false_from_ne_true (nat_eq (slice_index_or scripts i s).session script.session) (λ q. other (differ i at s within (omega (arith, near, is.same)) (eqb-true (slice_index_or scripts i s).session script.session q ∙ ap (λ (s : Script). s.session) (sym (here s))))) in
              let now : slice_index_or far' i f ≡ slice_index_or far i f = ap (λ l. slice_index_or l i f) put ∙ get_or-set_other far at i new f other in
              other-one p e script.session text line (slice_index_or scripts i s).session apart ∙ (is.each i s f within ∙ ap (progress_of (slice_index_or scripts i s)) (sym now))

-- a session that is done stays so
done-by : (p : ℕ → Progress) (x : Event) (s : Subject) (k : Head) (n : ℕ) → may_come_by p x k ≡ true → HasDone (p n) → HasDone (progress_after x s k n (p n))
done-by p (Session m text) s k n may done = at_test (nat_eq n m) refl
  where
    at_test : (b : Bool) → nat_eq n m ≡ b → HasDone (progress_after (Session m text) s k n (p n))
    at_test true t =
        let next = and_parts (not (is_some (p m).waits)) (is_first text (p m).left) may in
        absurd (false≢true (sym (ap (λ ls. is_first text ls) done.0) ∙ (ap (λ i. is_first text (p i).left) (eqb-true n m t) ∙ next.1)))
    at_test false t = rw t done
done-by p (Turn z) s k n may done = (done.0, ap (waits_after (Turn z) k) done.1)
done-by p (Call_of z pid c) s k n may done = absurd (false≢true may)
done-by p (System what) s k n may done = absurd (false≢true may)
done-by p Restart s k n may done = absurd (false≢true may)

pub done-stays : (p : ℕ → Progress) (h : List Entry) (n : ℕ) → all_right may_come noted p h ≡ true → HasDone (p n) → HasDone (folded noted p h n)
unfolding noted may_come
done-stays p [] n keeps done = done
done-stays p (e ∷ h) n keeps done =
    let parts = and_parts (may_come p e) (all_right may_come noted (noted p e) h) keeps in
    done-stays (noted p e) h n parts.1 (done-by p e.event e.subject e.reply.head n parts.0 done)

-- a session has a script, or types nothing
pub has-script : (scripts : List Script) (n : ℕ) → (scripts_of scripts n ≡ []) ⊎ ((i : ℕ) × ((i < length scripts) × ((s : Script) → (slice_index_or scripts i s).session ≡ n)))
has-script [] n = inl refl
has-script (x ∷ scripts) n = at_test (nat_eq n x.session) refl (has-script scripts n)
  where
    Has : List Script → Type 0
    Has scripts = (i : ℕ) × ((i < length scripts) × ((s : Script) → (slice_index_or scripts i s).session ≡ n))

    at_test : (b : Bool) → nat_eq n x.session ≡ b → (scripts_of scripts n ≡ []) ⊎ Has scripts → (scripts_of (x ∷ scripts) n ≡ []) ⊎ Has (x ∷ scripts)
    at_test true t rest = inr (0, (omega arith, λ s. sym (eqb-true n x.session t)))
    at_test false t (inl none) = inl (rw t none)
    at_test false t (inr (i, (near, is))) = inr (suc i, (omega (arith, near), λ s. is s))

-- some element of a list that has one
pub some-of : {A : Type 0} (xs : List A) (i : ℕ) → i < length xs → A
some-of [] i near = absurd (omega (arith, near))
some-of (x ∷ xs) i near = x

-- whose script waits, that session waits
pub waits-at : (scripts : List Script) (far : List Far) (p : ℕ → Progress) (at : ℕ) (f : Far) (a : Awaited) → AreFar scripts far p → at < length far → slice_index_or far at f ≡ f → f.awaits ≡ Some a → (n : ℕ) × ((p n).waits ≡ Some (wait_of a))
waits-at scripts far p at f a is near here waits =
    let s = some-of scripts at (omega (arith, near, is.same)) in (
      (slice_index_or scripts at s).session,
      ap (λ (q : Progress). q.waits) (is.each at s f (omega (arith, near, is.same))) ∙ (ap (λ (f : Far). waits_of f.awaits) here ∙ ap waits_of waits),
    )

-- once a ticket was answered, a script is as far as it was, and its session waits for nothing
pub answered-at : (old new : List Far) (at : ℕ) (f : Far) → at < length old → ((d : Far) → slice_index_or new at d ≡ record { done = (slice_index_or old at d).done; awaits = None }) → f ≡ slice_index_or new at f → IsAt new at (record { done = f.done; awaits = None })
answered-at old new at f near answered here d =
    answered d ∙ ap (λ n. record { done = n; awaits = None }) (ap (λ (f : Far). f.done) (same-at old at d f near) ∙ sym (ap (λ (f : Far). f.done) (here ∙ answered f)))

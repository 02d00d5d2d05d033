-- What keeps to the scripts step by step is a record in words of its own.
use Rattle.std.proofs.Common.{◌≡◌, ◌≢◌, ◌⊎◌, inl, inr, ℕ, ◌+◌, ◌%◌, ◌<◌, ◌≤◌, ◌==◌, ◌&&◌, not, Bool, true, false, List, [], ◌∷◌, length, drop, sym, refl, ap, ◌∙◌, subst, arith, zero, suc, if◌then◌else◌, slice_get, Option, Some, None, is_some}
use Rattle.zone_threads.specs.Folds.{all_right, folded}
use Rattle.zone_threads.specs.Machines.{Definitions}
use Rattle.zone_threads.specs.Records.{Middle}
use Rattle.zone_threads.specs.Scripts.{after_turn, answers, awaits_after, beginning, is_idle, is_line_at, may, noted, progress_one, session, ticket_of}
use Rattle.zone_threads.specs.Words.{IsPartial, IsRecord, all_answered, are_lines, begin_lines, ends, entries_of, is_answered, is_answered_if, is_turn, none_idle, opens}
use Rattle.zone_threads.specs.Ends.{HasAll}
use Rattle.zone_threads.specs.declared.machine.Told.{Told}
use Rattle.zone_threads.specs.declared.tally.Progress.{Progress}
use Rattle.zone_threads.specs.declared.tally.Ticket.{Ticket}
use Rattle.zone_threads.proofs.Bools.{apart, are_apart, are_same, both, both_left, both_right, differ, is_same, no_same}

-- what one entry does to a session's progress, by cases
turn_case : (s p : ℕ) (t : Progress) (told : Told) → (told.session == 0) ≡ true → progress_one s t p told ≡ after_turn p told.said t
unfolding progress_one
turn_case s p t told q = rw q refl

other_case : (s p : ℕ) (t : Progress) (told : Told) → (told.session == 0) ≡ false → (told.session == s) ≡ false → progress_one s t p told ≡ t
unfolding progress_one
other_case s p t told q r = rw (q, r) refl

own_case : (s p : ℕ) (t : Progress) (told : Told) → (told.session == 0) ≡ false → (told.session == s) ≡ true → progress_one s t p told ≡ record { done = (t.done + 1) % 18446744073709551616; awaits = ticket_of p told.said }
unfolding progress_one
own_case s p t told q r = rw (q, r) refl

abbrev awaits_none : Option Ticket → Bool
awaits_none None = true
awaits_none (Some k) = false

free_of : (o : Option Ticket) → not (is_some o) ≡ true → o ≡ None
free_of None q = refl
free_of (Some k) q = absurd (apart (sym q))

module _ {State Cell Shared Line Entry Heard : Type 0} (D : Definitions State Cell Shared Line Entry Heard) where
  abbrev MayLine : (ℕ → List Line) → (ℕ → Progress) → Entry → Bool
  MayLine scripts t e = not (is_some (t (session D e)).awaits) && is_line_at D (slice_get (scripts (session D e)) (t (session D e)).done) e

  may_is : (scripts : ℕ → List Line) (t : ℕ → Progress) (e : Entry) → may D scripts t e ≡ true → (b : Bool) → (session D e == 0) ≡ b → (if b then not (is_idle (D.told e).said) else MayLine scripts t e) ≡ true
  unfolding may
  may_is scripts t e ok b q = subst (λ b. (if b then not (is_idle (D.told e).said) else MayLine scripts t e) ≡ true) q ok

  -- what may come of a session
  line_case : (scripts : ℕ → List Line) (t : ℕ → Progress) (s : ℕ) (e : Entry) → (session D e == 0) ≡ false → session D e ≡ s → may D scripts t e ≡ true → ((t s).awaits ≡ None) × (is_line_at D (slice_get (scripts s) (t s).done) e ≡ true)
  line_case scripts t s e q same ok =
      let ok' : MayLine scripts t e ≡ true = may_is scripts t e ok false q in
      let free = both_left (not (is_some (t (session D e)).awaits)) _ ok' in
      let line = both_right (not (is_some (t (session D e)).awaits)) _ ok' in
      (ap (λ k. (t k).awaits) (sym same) ∙ free_of (t (session D e)).awaits free, subst (λ k. is_line_at D (slice_get (scripts k) (t k).done) e ≡ true) same line)

  -- the line that stands at a place
  record Stood (xs : List Line) (n : ℕ) (e : Entry) : Type 0 where
    pub near : n < length xs
    pub line : Line
    pub is_line : D.is_line line e ≡ true
    pub at : drop n xs ≡ line ∷ drop (suc n) xs

  stood : (xs : List Line) (n : ℕ) (e : Entry) → is_line_at D (slice_get xs n) e ≡ true → Stood xs n e
  stood [] n e ok = absurd (apart (sym ok))
  stood (x ∷ xs) zero e ok = record { near = omega arith; line = x; is_line = ok; at = refl }
  stood (x ∷ xs) (suc n) e ok = let rest = stood xs n e ok in record { near = (let l = rest.near in omega arith); line = rest.line; is_line = rest.is_line; at = rest.at }

  -- the entries of a session are of the lines of its script from where it was to where it is
  record Through (script : List Line) (from to : ℕ) (es : List Entry) : Type 0 where
    pub begins : begin_lines D (drop from script) es ≡ true
    pub all : to ≡ length script → are_lines D (drop from script) es ≡ true
    pub within : to ≤ length script

  are_none : (xs : List Line) (n : ℕ) → n ≡ length xs → are_lines D (drop n xs) [] ≡ true
  are_none [] zero q = refl
  are_none [] (suc n) q = refl
  are_none (x ∷ xs) zero q = absurd (omega arith)
  are_none (x ∷ xs) (suc n) q = are_none xs n (omega arith)

  begin_none : (xs : List Line) → begin_lines D xs [] ≡ true
  begin_none [] = refl
  begin_none (x ∷ xs) = refl

  through : (scripts : ℕ → List Line) (s : ℕ) (h : List Entry) (t : ℕ → Progress) → s ≢ 0 → length (scripts s) < 18446744073709551616 → (t s).done ≤ length (scripts s) → all_right (may D scripts) (noted D) t h ≡ true
      → Through (scripts s) (t s).done (folded (noted D) t h s).done (entries_of D s h)
  through scripts s [] t named short near ok = record { begins = begin_none (drop (t s).done (scripts s)); all = are_none (scripts s) (t s).done; within = near }
  through scripts s (e ∷ es) t named short near ok = here (session D e == 0) refl (session D e == s) refl
      (λ n is near'. let r = through scripts s es (noted D t e) named short (subst (λ k. k ≤ length (scripts s)) (sym is) near') (both_right (may D scripts t e) _ ok) in
      subst (λ k. Through (scripts s) k (folded (noted D) (noted D t e) es s).done (entries_of D s es)) is r)
    where
      here : (a : Bool) → (session D e == 0) ≡ a → (b : Bool) → (session D e == s) ≡ b
          → ((n : ℕ) → (noted D t e s).done ≡ n → n ≤ length (scripts s) → Through (scripts s) n (folded (noted D) (noted D t e) es s).done (entries_of D s es))
          → Through (scripts s) (t s).done (folded (noted D) t (e ∷ es) s).done (entries_of D s (e ∷ es))
      here true p true q rest = absurd (named (sym (are_same (session D e) s q) ∙ are_same (session D e) 0 p))
      here true p false q rest = rw q (rest (t s).done (ap (λ (k : Progress). k.done) (turn_case s (D.by e) (t s) (D.told e) p)) near)
      here false p false q rest = rw q (rest (t s).done (ap (λ (k : Progress). k.done) (other_case s (D.by e) (t s) (D.told e) p q)) near)
      here false p true q rest =
          let same : session D e ≡ s = are_same (session D e) s q in
          let st = stood (scripts s) (t s).done e (line_case scripts t s e p same (both_left (may D scripts t e) _ ok)).1 in
          let l = st.near in
          let n : ((t s).done + 1) % 18446744073709551616 ≡ suc (t s).done = omega arith in
          let r = rest (suc (t s).done) (ap (λ (k : Progress). k.done) (own_case s (D.by e) (t s) (D.told e) p q) ∙ n) (omega arith) in
          rw q (record {
            begins = ap (λ ls. begin_lines D ls (e ∷ entries_of D s es)) st.at ∙ both _ _ st.is_line r.begins;
            all = λ full. ap (λ ls. are_lines D ls (e ∷ entries_of D s es)) st.at ∙ both _ _ st.is_line (r.all full);
            within = r.within;
          })

  -- no turn is idle
  turns_busy : (scripts : ℕ → List Line) (h : List Entry) (t : ℕ → Progress) → all_right (may D scripts) (noted D) t h ≡ true → none_idle D h ≡ true
  turns_busy scripts [] t ok = refl
  turns_busy scripts (e ∷ es) t ok = both _ _ (here (session D e == 0) refl (may_is scripts t e (both_left (may D scripts t e) _ ok))) (turns_busy scripts es (noted D t e) (both_right (may D scripts t e) _ ok))
    where
      here : (b : Bool) → (session D e == 0) ≡ b → ((b : Bool) → (session D e == 0) ≡ b → (if b then not (is_idle (D.told e).said) else MayLine scripts t e) ≡ true) → not (is_turn D e && is_idle (D.told e).said) ≡ true
      here true q m = rw q (m true q)
      here false q m = rw q refl

  -- a session that waits for a ticket goes on waiting over an entry that is not its own and ends nothing of the ticket
  still_waits : (s : ℕ) (t : Progress) (ticket : Ticket) (x : Entry) → t.awaits ≡ Some ticket → (session D x == s) ≡ false → ends D ticket x ≡ false → (b : Bool) → (session D x == 0) ≡ b → (progress_one s t (D.by x) (D.told x)).awaits ≡ Some ticket
  still_waits s t ticket x waits other unmet true q =
      let shut : answers ticket (D.by x) (D.told x).said ≡ false = subst (λ b. (b && answers ticket (D.by x) (D.told x).said) ≡ false) q unmet in
      ap (λ (k : Progress). k.awaits) (turn_case s (D.by x) t (D.told x) q) ∙ (ap (awaits_after (D.by x) (D.told x).said) waits ∙ ap (λ (b : Bool). if b then None else Some ticket) shut)
  still_waits s t ticket x waits other unmet false q = ap (λ (k : Progress). k.awaits) (other_case s (D.by x) t (D.told x) q other) ∙ waits

  none_some : (o : Option Ticket) (ticket : Ticket) → o ≡ None → o ≡ Some ticket → ⊥
  none_some o ticket n k = apart (ap awaits_none (sym n ∙ k))

  answered : (scripts : ℕ → List Line) (s : ℕ) (ticket : Ticket) (h : List Entry) (t : ℕ → Progress) (late : Bool) → s ≢ 0 → (t s).awaits ≡ Some ticket → all_right (may D scripts) (noted D) t h ≡ true
      → (late ≡ false → (folded (noted D) t h s).awaits ≡ None) → is_answered D late s ticket h ≡ true
  answered scripts s ticket [] t true named w ok free = refl
  answered scripts s ticket [] t false named w ok free = absurd (none_some (t s).awaits ticket (free refl) w)
  answered scripts s ticket (x ∷ xs) t late named w ok free = here (ends D ticket x) refl (session D x == s) refl (λ u. answered scripts s ticket xs (noted D t x) late named u (both_right (may D scripts t x) _ ok) free)
    where
      here : (a : Bool) → ends D ticket x ≡ a → (b : Bool) → (session D x == s) ≡ b → ((noted D t x s).awaits ≡ Some ticket → is_answered D late s ticket xs ≡ true) → is_answered D late s ticket (x ∷ xs) ≡ true
      here true p b q rest = rw p refl
      here false p true q rest =
          let same : session D x ≡ s = are_same (session D x) s q in
          let far : (session D x == 0) ≡ false = no_same (session D x) 0 (λ k. named (sym same ∙ k)) in
          absurd (none_some (t s).awaits ticket (line_case scripts t s x far same (both_left (may D scripts t x) _ ok)).0 w)
      here false p false q rest = rw (p, q) (rest (still_waits s (t s) ticket x w q p (session D x == 0) refl))

  -- each ticket is answered before its session's next entry
  tickets_answered : (scripts : ℕ → List Line) (h : List Entry) (t : ℕ → Progress) (late : Bool) → all_right (may D scripts) (noted D) t h ≡ true → (late ≡ false → (s : ℕ) → s ≢ 0 → (folded (noted D) t h s).awaits ≡ None) → all_answered D late h ≡ true
  tickets_answered scripts [] t late ok free = refl
  tickets_answered scripts (e ∷ es) t late ok free = both _ _ (here (session D e == 0) refl) (tickets_answered scripts es (noted D t e) late (both_right (may D scripts t e) _ ok) free)
    where
      of_ticket : (named : session D e ≢ 0) (o : Option Ticket) → (noted D t e (session D e)).awaits ≡ o → is_answered_if D late (session D e) o es ≡ true
      of_ticket named None is = refl
      of_ticket named (Some ticket) is = answered scripts (session D e) ticket es (noted D t e) late named is (both_right (may D scripts t e) _ ok) (λ l. free l (session D e) named)

      here : (a : Bool) → (session D e == 0) ≡ a → is_answered_if D late (session D e) (opens D e) es ≡ true
      here true p = rw p refl
      here false p =
          let now = own_case (session D e) (D.by e) (t (session D e)) (D.told e) p (is_same (session D e) (session D e) refl) in
          rw p (of_ticket (are_apart (session D e) 0 p) (ticket_of (D.by e) (D.told e).said) (ap (λ (k : Progress). k.awaits) now))

  free_turn : (p : ℕ) (e : Entry) (t : Progress) → t.awaits ≡ None → (after_turn p (D.told e).said t).awaits ≡ None
  free_turn p e t free = ap (awaits_after p (D.told e).said) free

  abbrev no_entry : List Entry → Bool
  no_entry [] = true
  no_entry (e ∷ es) = false

  -- a session that has no entry waits for nothing
  silent : (s : ℕ) (h : List Entry) (t : ℕ → Progress) → s ≢ 0 → entries_of D s h ≡ [] → (t s).awaits ≡ None → (folded (noted D) t h s).awaits ≡ None
  silent s [] t named none_of free = free
  silent s (e ∷ es) t named none_of free = here (session D e == 0) refl (session D e == s) refl (λ l k. silent s es (noted D t e) named l k)
    where
      miss : (session D e == s) ≡ false → entries_of D s es ≡ []
      miss q = subst (λ b. (if b then e ∷ entries_of D s es else entries_of D s es) ≡ []) q none_of

      here : (a : Bool) → (session D e == 0) ≡ a → (b : Bool) → (session D e == s) ≡ b → (entries_of D s es ≡ [] → (noted D t e s).awaits ≡ None → (folded (noted D) (noted D t e) es s).awaits ≡ None) → (folded (noted D) (noted D t e) es s).awaits ≡ None
      here a p true q rest = absurd (apart (sym (ap no_entry (subst (λ b. (if b then e ∷ entries_of D s es else entries_of D s es) ≡ []) q none_of))))
      here true p false q rest = rest (miss q) (ap (λ (k : Progress). k.awaits) (turn_case s (D.by e) (t s) (D.told e) p) ∙ free_turn (D.by e) e (t s) free)
      here false p false q rest = rest (miss q) (ap (λ (k : Progress). k.awaits) (other_case s (D.by e) (t s) (D.told e) p q) ∙ free)

  no_begin : (xs : List Line) (es : List Entry) → xs ≡ [] → begin_lines D xs es ≡ true → es ≡ []
  no_begin [] [] q b = refl
  no_begin [] (e ∷ es) q b = absurd (apart (sym b))
  no_begin (x ∷ xs) es q b = absurd (differ 0 (length (x ∷ xs)) (omega arith) (sym (ap length q)))

  module _ (start : State) (scripts : ℕ → List Line) (m : Shared) (h : List Entry) (mid : Middle D start scripts m h) (short : (s : ℕ) → length (scripts s) < 18446744073709551616) where
    from_start : (s : ℕ) → s ≢ 0 → Through (scripts s) 0 (folded (noted D) beginning h s).done (entries_of D s h)
    from_start s named = through scripts s h beginning named (short s) (omega arith) mid.kept

    pub partial : IsPartial D start scripts h
    partial = record {
      legal = mid.legal;
      lines = λ s named. (from_start s named).begins;
      turns = turns_busy scripts h beginning mid.kept;
      tickets = tickets_answered scripts h beginning true mid.kept (λ l. absurd (apart l));
    }

    -- each session is finished, or has no line
    pub whole : ((s : ℕ) → HasAll D h s (length (scripts s)) ⊎ (scripts s ≡ [])) → IsRecord D start scripts h
    whole each = record {
      legal = mid.legal;
      lines = λ s named. lines_at s named (each s);
      turns = turns_busy scripts h beginning mid.kept;
      tickets = tickets_answered scripts h beginning false mid.kept (λ l s named. free_at s named (each s));
    }
      where
        lines_at : (s : ℕ) → s ≢ 0 → HasAll D h s (length (scripts s)) ⊎ (scripts s ≡ []) → are_lines D (scripts s) (entries_of D s h) ≡ true
        lines_at s named (inl all) = (from_start s named).all (ap (λ (k : Progress). k.done) all)
        lines_at s named (inr empty) =
            let none_of = no_begin (scripts s) (entries_of D s h) empty (from_start s named).begins in
            (λ i. are_lines D (empty i) (none_of i))

        free_at : (s : ℕ) → s ≢ 0 → HasAll D h s (length (scripts s)) ⊎ (scripts s ≡ []) → (folded (noted D) beginning h s).awaits ≡ None
        free_at s named (inl all) = ap (λ (k : Progress). k.awaits) all
        free_at s named (inr empty) = silent s h beginning named (no_begin (scripts s) (entries_of D s h) empty (from_start s named).begins) refl

-- What keeps to the scripts an entry at a time is a part of a record, and the other way round.
use Rattle.std.proofs.Common.{◌≡◌, ◌&&◌, ◌||◌, ◌∷◌, ◌++◌, [], ℕ, List, Bool, Option, Some, None, true, false, ap, nat_eq, not, refl, sym, subst, ◌∙◌}
use Rattle.std.specs.Prelude.{bytes_eq, drop, is_some, if◌then◌else◌}
use Rattle.std.specs.List.{list_all}
use Rattle.std.proofs.lemmas.Bool.{and_from, and_parts, eq-eqb, eqb-true, false≢true}
use Rattle.std.proofs.lemmas.List.{append-nil, append_assoc}
use Rattle.zone_pools.proofs.Owned_laws.{same_self, same_true}
use Rattle.zone_cases.specs.State.{State}
use Rattle.zone_cases.specs.declared.events.Entry.{Entry}
use Rattle.zone_cases.specs.declared.events.Event.{Event}
use Rattle.zone_cases.specs.declared.events.Event.TheVariants.{Process as Call_of, Restart, Session, System, Turn}
use Rattle.zone_cases.specs.declared.events.Subject.{Subject}
use Rattle.zone_cases.specs.declared.replies.Head.{Head}
use Rattle.zone_machine.specs.Machine.Histories.{is_legal}
use Rattle.session_records.specs.Folds.{all_right, folded}
use Rattle.session_records.specs.Records.{Awaited, IsPartial, IsRecord, Scripts, all_answered, awaited, ends, is_answered, is_answered_to, is_idle_head, is_line_of, lines_of, may_stand, typed_by}
use Rattle.session_records.specs.Scripts.{IsDone, Progress, after_line, begun, is_first, is_next, keeps_scripts, may_come, may_come_by, noted, progress_after, waits_after}

not_true : (b : Bool) → not b ≡ true → b ≡ false
not_true true h = absurd (false≢true h)
not_true false h = refl

none_waits : (w : Option Awaited) → is_some w ≡ false → w ≡ None
none_waits None h = refl
none_waits (Some w) h = absurd (false≢true (sym h))

-- a line that is the first one
first-line : (text : List ℕ) (lines : List (List ℕ)) → is_first text lines ≡ true → lines ≡ text ∷ drop 1 lines
first-line text [] h = absurd (false≢true h)
first-line text (line ∷ lines) h = ap (λ l. l ∷ lines) (sym (same_true text line h))

-- what a session has typed and what is left are its script
left-line : (p : ℕ → Progress) (n : ℕ) (x : Event) (s : Subject) (k : Head) → may_come_by p x k ≡ true → (p n).left ≡ typed_by n x ++ (progress_after x s k n (p n)).left
left-line p n (Session m text) s k h = at_test (nat_eq n m) refl
  where
    at_test : (b : Bool) → nat_eq n m ≡ b → (p n).left ≡ typed_by n (Session m text) ++ (progress_after (Session m text) s k n (p n)).left
    at_test true is =
        let here : is_next text (p n) ≡ true = ap (λ i. is_next text (p i)) (eqb-true n m is) ∙ h in
        rw is (first-line text (p n).left (and_parts (not (is_some (p n).waits)) (is_first text (p n).left) here).1)
    at_test false is = rw is refl
left-line p n (Turn z) s k h = refl
left-line p n (Call_of z pid c) s k h = refl
left-line p n (System what) s k h = refl
left-line p n Restart s k h = refl

pub lines-typed : (p : ℕ → Progress) (h : List Entry) (n : ℕ) → all_right may_come noted p h ≡ true → (p n).left ≡ lines_of n h ++ (folded noted p h n).left
unfolding noted may_come
lines-typed p [] n is = refl
lines-typed p (e ∷ h) n is =
    let parts = and_parts (may_come p e) (all_right may_come noted (noted p e) h) is in
    left-line p n e.event e.subject e.reply.head parts.0 ∙ (ap (λ ls. typed_by n e.event ++ ls) (lines-typed (noted p e) h n parts.1) ∙ sym (append_assoc (typed_by n e.event) (lines_of n h) (folded noted (noted p e) h n).left))

-- no other entry is anything but a turn that isn't idle
stands : (p : ℕ → Progress) (x : Event) (k : Head) → may_come_by p x k ≡ true → may_stand x k ≡ true
stands p (Session n text) k h = refl
stands p (Turn z) k h = h
stands p (Call_of z pid c) k h = h
stands p (System what) k h = h
stands p Restart k h = h

pub others-stand : (p : ℕ → Progress) (h : List Entry) → all_right may_come noted p h ≡ true → list_all (λ e. may_stand e.event e.reply.head) h ≡ true
unfolding may_come
others-stand p [] is = refl
others-stand p (e ∷ h) is =
    let parts = and_parts (may_come p e) (all_right may_come noted (noted p e) h) is in and_from _ _ (stands p e.event e.reply.head parts.0) (others-stand (noted p e) h parts.1)

-- one who waits types nothing before the turn that ends it
waits-on : (p : ℕ → Progress) (n : ℕ) (w : Awaited) (x : Event) (s : Subject) (k : Head) → (p n).waits ≡ Some w → may_come_by p x k ≡ true → ends w x k ≡ false
    → (is_line_of n x ≡ false) × ((progress_after x s k n (p n)).waits ≡ Some w)
waits-on p n w (Session m text) s k waits h e = at_test (nat_eq n m) refl
  where
    at_test : (b : Bool) → nat_eq n m ≡ b → (nat_eq n m ≡ false) × ((progress_after (Session m text) s k n (p n)).waits ≡ Some w)
    at_test true is =
        let here : is_next text (p n) ≡ true = ap (λ i. is_next text (p i)) (eqb-true n m is) ∙ h in
        let free = and_parts (not (is_some (p n).waits)) (is_first text (p n).left) here in
        absurd (false≢true (ap (λ o. not (is_some o)) (sym waits) ∙ free.0))
    at_test false is = (is, rw is waits)
waits-on p n w (Turn z) s k waits h e = (refl, ap (waits_after (Turn z) k) waits ∙ rw e refl)
waits-on p n w (Call_of z pid c) s k waits h e = absurd (false≢true h)
waits-on p n w (System what) s k waits h e = absurd (false≢true h)
waits-on p n w Restart s k waits h e = absurd (false≢true h)

answered : (late : Bool) (p : ℕ → Progress) (h : List Entry) (n : ℕ) (w : Awaited) → (p n).waits ≡ Some w → all_right may_come noted p h ≡ true → (late ≡ false → (folded noted p h n).waits ≡ None) → is_answered late n w h ≡ true
unfolding noted may_come
answered true p [] n w waits is free = refl
answered false p [] n w waits is free = absurd (false≢true (ap is_some (sym (free refl)) ∙ ap is_some waits))
answered late p (e ∷ h) n w waits is free =
    let parts = and_parts (may_come p e) (all_right may_come noted (noted p e) h) is in
    at_end (λ more. answered late (noted p e) h n w more parts.1 free) parts.0 (ends w e.event e.reply.head) refl
  where
    at_end : ((noted p e n).waits ≡ Some w → is_answered late n w h ≡ true) → may_come p e ≡ true → (b : Bool) → ends w e.event e.reply.head ≡ b → is_answered late n w (e ∷ h) ≡ true
    at_end rest may true ended = rw ended refl
    at_end rest may false ended =
        let on = waits-on p n w e.event e.subject e.reply.head waits may ended in rw (ended, on.0) (rest on.1)

answered-to : (late : Bool) (p : ℕ → Progress) (h : List Entry) (x : Event) (s : Subject) (k : Head)
    → ((n : ℕ) (w : Awaited) → (progress_after x s k n (p n)).waits ≡ Some w → is_answered late n w h ≡ true) → is_answered_to late x (awaited s k) h ≡ true
answered-to late p h (Session n text) s k rest = at_ticket (awaited s k) refl
  where
    at_ticket : (o : Option Awaited) → awaited s k ≡ o → is_answered_to late (Session n text) o h ≡ true
    at_ticket None is = refl
    at_ticket (Some w) is = rest n w (rw (eq-eqb n n refl) is)
answered-to late p h (Turn z) s k rest = refl
answered-to late p h (Call_of z pid c) s k rest = refl
answered-to late p h (System what) s k rest = refl
answered-to late p h Restart s k rest = refl

pub tickets-answered : (late : Bool) (p : ℕ → Progress) (h : List Entry) → all_right may_come noted p h ≡ true → (late ≡ false → (n : ℕ) → (folded noted p h n).waits ≡ None) → all_answered late h ≡ true
unfolding noted may_come
tickets-answered late p [] is free = refl
tickets-answered late p (e ∷ h) is free =
    let parts = and_parts (may_come p e) (all_right may_come noted (noted p e) h) is in
    and_from _ _ (answered-to late p h e.event e.subject e.reply.head (λ n w waits. answered late (noted p e) h n w waits parts.1 (λ l. free l n))) (tickets-answered late (noted p e) h parts.1 free)

-- so it is a part of a record, and the whole where each session is done
pub partial-record : (S : State) (scripts : Scripts) (h : List Entry) → is_legal S h ≡ true → keeps_scripts scripts h ≡ true → IsPartial S scripts h
partial-record S scripts h legal keeps = record {
  legal = legal;
  lines = λ n. ((folded noted (begun scripts) h n).left, sym (lines-typed (begun scripts) h n keeps));
  others = others-stand (begun scripts) h keeps;
  tickets = tickets-answered true (begun scripts) h keeps (λ l. absurd (false≢true (sym l)));
}

pub whole-record : (S : State) (scripts : Scripts) (h : List Entry) → is_legal S h ≡ true → keeps_scripts scripts h ≡ true → ((n : ℕ) → IsDone scripts h n) → IsRecord S scripts h
whole-record S scripts h legal keeps done = record {
  legal = legal;
  lines = λ n. sym (lines-typed (begun scripts) h n keeps ∙ (ap (λ ls. lines_of n h ++ ls) (done n).typed ∙ append-nil (lines_of n h)));
  others = others-stand (begun scripts) h keeps;
  tickets = tickets-answered false (begun scripts) h keeps (λ l n. (done n).free);
}

-- the other way round, from however far the sessions are
record Keeps (p : ℕ → Progress) (h : List Entry) : Type 0 where
  lines : (n : ℕ) → (rest : List (List ℕ)) × (lines_of n h ++ rest ≡ (p n).left)
  others : list_all (λ e. may_stand e.event e.reply.head) h ≡ true
  tickets : all_answered true h ≡ true
  waits : (n : ℕ) (w : Awaited) → (p n).waits ≡ Some w → is_answered true n w h ≡ true

module _ (p : ℕ → Progress) (h : List Entry) where
  comes : (x : Event) (k : Head) → may_stand x k ≡ true → ((n : ℕ) → (rest : List (List ℕ)) × ((typed_by n x ++ lines_of n h) ++ rest ≡ (p n).left))
      → ((n : ℕ) (w : Awaited) → (p n).waits ≡ Some w → (ends w x k || (not (is_line_of n x) && is_answered true n w h)) ≡ true) → may_come_by p x k ≡ true
  comes (Session m text) k stands lines waits = and_from _ _ (at_wait (p m).waits refl) at_line
    where
      self : nat_eq m m ≡ true
      self = eq-eqb m m refl

      at_wait : (o : Option Awaited) → (p m).waits ≡ o → not (is_some (p m).waits) ≡ true
      at_wait None is = ap (λ o. not (is_some o)) is
      at_wait (Some w) is = absurd (false≢true (ap (λ b. not b && is_answered true m w h) (sym self) ∙ waits m w is))

      typed : typed_by m (Session m text) ≡ text ∷ []
      typed = rw self refl

      at_line : is_first text (p m).left ≡ true
      at_line = let line = lines m in
          ap (is_first text) (sym line.1 ∙ ap (λ ls. (ls ++ lines_of m h) ++ line.0) typed) ∙ same_self text
  comes (Turn z) k stands lines waits = stands
  comes (Call_of z pid c) k stands lines waits = stands
  comes (System what) k stands lines waits = stands
  comes Restart k stands lines waits = stands

  lines-on : (x : Event) (s : Subject) (k : Head) (n : ℕ) (rest : List (List ℕ)) → (typed_by n x ++ lines_of n h) ++ rest ≡ (p n).left → lines_of n h ++ rest ≡ (progress_after x s k n (p n)).left
  lines-on (Session m text) s k n rest is = at_test (nat_eq n m) refl
    where
      at_test : (b : Bool) → nat_eq n m ≡ b → lines_of n h ++ rest ≡ (progress_after (Session m text) s k n (p n)).left
      at_test true t = let typed : typed_by n (Session m text) ≡ text ∷ [] = rw t refl in
          rw t (ap (λ ls. drop 1 ls) (ap (λ ls. (ls ++ lines_of n h) ++ rest) (sym typed) ∙ is))
      at_test false t = let typed : typed_by n (Session m text) ≡ [] = rw t refl in rw t (ap (λ ls. (ls ++ lines_of n h) ++ rest) (sym typed) ∙ is)
  lines-on (Turn z) s k n rest is = is
  lines-on (Call_of z pid c) s k n rest is = is
  lines-on (System what) s k n rest is = is
  lines-on Restart s k n rest is = is

  -- who waited and waits on
  still : (x : Event) (k : Head) (n : ℕ) (w : Awaited) → is_line_of n x ≡ false → ((v : Awaited) → (p n).waits ≡ Some v → (ends v x k || (not (is_line_of n x) && is_answered true n v h)) ≡ true)
      → (o : Option Awaited) → (p n).waits ≡ o → waits_after x k o ≡ Some w → is_answered true n w h ≡ true
  still x k n w apart waits None is h' = absurd (false≢true (ap is_some h'))
  still x k n w apart waits (Some v) is h' = at_end (ends v x k) refl
    where
      at_end : (b : Bool) → ends v x k ≡ b → is_answered true n w h ≡ true
      at_end true e = absurd (false≢true (sym (ap (λ b. is_some (if b then None else Some v)) e) ∙ ap is_some h'))
      at_end false e =
          let same : Some v ≡ Some w = sym (ap (λ b. if b then None else Some v) e) ∙ h' in
          let on : (ends v x k || (not (is_line_of n x) && is_answered true n v h)) ≡ is_answered true n v h = rw (e, apart) refl in
          subst (λ (o : Option Awaited). is_answered true n (or_else o) h ≡ true) same (sym on ∙ waits v is)
        where
          or_else : Option Awaited → Awaited
          or_else None = w
          or_else (Some u) = u

  waits-on-more : (x : Event) (s : Subject) (k : Head) → is_answered_to true x (awaited s k) h ≡ true
      → ((n : ℕ) (w : Awaited) → (p n).waits ≡ Some w → (ends w x k || (not (is_line_of n x) && is_answered true n w h)) ≡ true)
      → (n : ℕ) (w : Awaited) → (progress_after x s k n (p n)).waits ≡ Some w → is_answered true n w h ≡ true
  waits-on-more (Session m text) s k ticket waits n w is = at_test (nat_eq n m) refl is
    where
      at_test : (b : Bool) → nat_eq n m ≡ b → (progress_after (Session m text) s k n (p n)).waits ≡ Some w → is_answered true n w h ≡ true
      at_test true t is =
          let now : awaited s k ≡ Some w = sym (ap (λ b. (if b then after_line s k (p n) else p n).waits) t) ∙ is in
          subst (λ i. is_answered true i w h ≡ true) (sym (eqb-true n m t)) (sym (ap (λ o. is_answered_to true (Session m text) o h) now) ∙ ticket)
      at_test false t is =
          let now : (p n).waits ≡ Some w = sym (ap (λ b. (if b then after_line s k (p n) else p n).waits) t) ∙ is in
          let on : (ends w (Session m text) k || (not (is_line_of n (Session m text)) && is_answered true n w h)) ≡ is_answered true n w h = rw t refl in
          sym on ∙ waits n w now
  waits-on-more (Turn z) s k ticket waits n w is = still (Turn z) k n w refl (waits n) (p n).waits refl is
  waits-on-more (Call_of z pid c) s k ticket waits n w is = still (Call_of z pid c) k n w refl (waits n) (p n).waits refl is
  waits-on-more (System what) s k ticket waits n w is = still (System what) k n w refl (waits n) (p n).waits refl is
  waits-on-more Restart s k ticket waits n w is = still Restart k n w refl (waits n) (p n).waits refl is

kept-right : (p : ℕ → Progress) (h : List Entry) → Keeps p h → all_right may_come noted p h ≡ true
unfolding noted may_come
kept-right p [] keeps = refl
kept-right p (e ∷ h) keeps =
    let others = and_parts (may_stand e.event e.reply.head) (list_all (λ e. may_stand e.event e.reply.head) h) keeps.others in
    let tickets = and_parts (is_answered_to true e.event (awaited e.subject e.reply.head) h) (all_answered true h) keeps.tickets in
    and_from _ _ (comes p h e.event e.reply.head others.0 keeps.lines keeps.waits)
    (kept-right (noted p e) h (record {
      lines = λ n. ((keeps.lines n).0, lines-on p h e.event e.subject e.reply.head n (keeps.lines n).0 (keeps.lines n).1);
      others = others.1;
      tickets = tickets.1;
      waits = waits-on-more p h e.event e.subject e.reply.head tickets.0 keeps.waits;
    }))

pub record-keeps : (S : State) (scripts : Scripts) (h : List Entry) → IsPartial S scripts h → keeps_scripts scripts h ≡ true
record-keeps S scripts h r = kept-right (begun scripts) h (record { lines = r.lines; others = r.others; tickets = r.tickets; waits = λ n w is. absurd (false≢true (ap is_some is)) })

-- What all zones left that they didn't give, behind the history.
use Rattle.std.proofs.Common.{◌≡◌, ◌≢◌, ℕ, ◌+◌, ◌<◌, ◌≤◌, ◌==◌, Bool, true, false, List, [], ◌∷◌, ◌++◌, map, length, take, slice_index_or, sym, refl, ap, ◌∙◌, subst, arith, zero, suc}
use Rattle.std.specs.List.{All}
use Rattle.std.proofs.Math.Seq.{take-suc}
use Rattle.std.proofs.lemmas.List.{append_assoc, get_or-take, length-take-le, take-append-drop, take_all}
use Rattle.std.proofs.lemmas.List.Elements.{All-cons, All-nil, All-take, filter-append}
use Rattle.zone_turn.specs.Histories.{own}
use Rattle.zone_threads.specs.Folds.{all_right}
use Rattle.zone_threads.specs.Ends.{Closed, Differ, Ended, IsBack, IsLeft, back, gave, log_of, rest, rests}
use Rattle.zone_threads.specs.Machines.{Definitions, Laws}
use Rattle.zone_threads.specs.Records.{Stands, StandsFrom}
use Rattle.zone_threads.specs.Zones.{Logged, left_by}
use Rattle.zone_threads.specs.declared.tally.Progress.{Progress}
use Rattle.zone_threads.specs.declared.zone.Log.{Log}
use Rattle.zone_threads.proofs.Bools.{are_apart, are_same, is_same, no_same}
use Rattle.zone_threads.proofs.Histories.{own_world}
use Rattle.zone_threads.proofs.Steps.{any_default, append_none}

module _ {Entry : Type 0} (by : Entry → ℕ) where
  own_all : (p : ℕ) (es : List Entry) → All (λ (e : Entry). by e ≡ p) es → own by p es ≡ es
  own_all p [] all = refl
  own_all p (e ∷ es) all = let here : (by e == p) ≡ true = is_same (by e) p (all 0 e (omega arith)) in
      rw here (ap (λ l. e ∷ l) (own_all p es (λ k d n. all (suc k) d (omega arith))))

  own_none : (p q : ℕ) (es : List Entry) → All (λ (e : Entry). by e ≡ q) es → q ≢ p → own by p es ≡ []
  own_none p q [] all other = refl
  own_none p q (e ∷ es) all other = let here : (by e == p) ≡ false = no_same (by e) p (λ k. other (sym (all 0 e (omega arith)) ∙ k)) in
      rw here (own_none p q es (λ k d n. all (suc k) d (omega arith)) other)

module _ {Cell Entry : Type 0} where
  rests_append : (xs ys : List (Log Cell Entry)) → rests (xs ++ ys) ≡ rests xs ++ rests ys
  rests_append [] ys = refl
  rests_append (x ∷ xs) ys = ap (λ l. rest x ++ l) (rests_append xs ys) ∙ sym (append_assoc (rest x) (rests xs) (rests ys))

  rests_more : (ls : List (Log Cell Entry)) (i : ℕ) (l : Log Cell Entry) → i < length ls → l ≡ slice_index_or ls i l → rests (take (i + 1) ls) ≡ rests (take i ls) ++ rest l
  rests_more ls i l near is =
      let next : i + 1 ≡ suc i = omega arith in
      ap (λ n. rests (take n ls)) next ∙ (ap rests (take-suc ls i l near ∙ ap (λ x. take i ls ++ x ∷ []) (sym is)) ∙ (rests_append (take i ls) (l ∷ []) ∙ ap (λ es. rests (take i ls) ++ es) (append_none (rest l))))

  away : (ls : List (Log Cell Entry)) (i : ℕ) (l : Log Cell Entry) → Differ ls → i < length ls → l ≡ slice_index_or ls i l → All (λ (k : Log Cell Entry). k.place ≢ l.place) (take i ls)
  away ls i l differ near is k d inside same =
      let short : k < i = (let n = length-take-le i ls (omega arith) in omega arith) in
      differ k i d short near (ap (λ (x : Log Cell Entry). x.place) (sym (get_or-take i ls k d short)) ∙ (same ∙ ap (λ (x : Log Cell Entry). x.place) (is ∙ any_default ls i l d near)))

  -- the log of a place of a list
  log_at : (ls : List (Log Cell Entry)) → Differ ls → (k : ℕ) (d : Log Cell Entry) → k < length ls → log_of ls (slice_index_or ls k d).place ≡ (slice_index_or ls k d).entries.items
  log_at [] differ k d near = absurd (omega arith)
  log_at (l ∷ ls) differ zero d near = rw (is_same l.place l.place refl) refl
  log_at (l ∷ ls) differ (suc k) d near =
      rw (no_same l.place (slice_index_or ls k d).place (differ 0 (suc k) d (omega arith) near)) (log_at ls (λ i j e less inside. differ (suc i) (suc j) e (omega arith) (omega arith)) k d (omega arith))

module _ {State Cell Shared Line Entry Heard : Type 0} (D : Definitions State Cell Shared Line Entry Heard) (starts : State → Type 0) where
  rests_none : (p : ℕ) (ls : List (Log Cell Entry)) → All (IsLeft D starts) ls → All (λ (l : Log Cell Entry). l.place ≢ p) ls → own D.by p (rests ls) ≡ []
  rests_none p [] left others = refl
  rests_none p (l ∷ ls) left others =
      filter-append (λ e. D.by e == p) (rest l) (rests ls)
      ∙ (λ i. own_none D.by p l.place (rest l) (left 0 l (omega arith)).mine (others 0 l (omega arith)) i ++ rests_none p ls (λ k d n. left (suc k) d (omega arith)) (λ k d n. others (suc k) d (omega arith)) i)

  own_each : (p : ℕ) (h : List Entry) (ls : List (Log Cell Entry)) → All (λ (l : Log Cell Entry). own D.by l.place h ≡ gave l) ls → All (IsLeft D starts) ls → Differ ls → (All (λ (l : Log Cell Entry). l.place ≢ p) ls → own D.by p h ≡ []) → own D.by p h ++ own D.by p (rests ls) ≡ log_of ls p
  own_each p h [] mine left differ others = λ i. others (All-nil (λ (l : Log Cell Entry). l.place ≢ p)) i ++ []
  own_each p h (l ∷ ls) mine left differ others = here (l.place == p) refl (own_each p h ls (λ k d n. mine (suc k) d (omega arith)) later (λ i j e less inside. differ (suc i) (suc j) e (omega arith) (omega arith)))
    where
      later : All (IsLeft D starts) ls
      later = λ k d n. left (suc k) d (omega arith)

      split : own D.by p (rest l ++ rests ls) ≡ own D.by p (rest l) ++ own D.by p (rests ls)
      split = filter-append (λ e. D.by e == p) (rest l) (rests ls)

      here : (b : Bool) → (l.place == p) ≡ b → ((All (λ (l : Log Cell Entry). l.place ≢ p) ls → own D.by p h ≡ []) → own D.by p h ++ own D.by p (rests ls) ≡ log_of ls p) → own D.by p h ++ own D.by p (rest l ++ rests ls) ≡ log_of (l ∷ ls) p
      here true q more =
          let at : l.place ≡ p = are_same l.place p q in
          let told : own D.by p h ≡ gave l = subst (λ n. own D.by n h ≡ gave l) at (mine 0 l (omega arith)) in
          let last : own D.by p (rest l) ≡ rest l = subst (λ n. own D.by n (rest l) ≡ rest l) at (own_all D.by l.place (rest l) (left 0 l (omega arith)).mine) in
          let none : own D.by p (rests ls) ≡ [] = rests_none p ls later (λ k d n same. differ 0 (suc k) d (omega arith) (omega arith) (at ∙ sym same)) in
          rw q ((λ i. told i ++ (split ∙ ((λ j. last j ++ none j) ∙ append_none (rest l))) i) ∙ take-append-drop l.given l.entries.items)
      here false q more =
          let other : l.place ≢ p = are_apart l.place p q in
          rw q (ap (λ es. own D.by p h ++ es) (split ∙ (λ i. own_none D.by p l.place (rest l) (left 0 l (omega arith)).mine other i ++ own D.by p (rests ls)))
          ∙ more (λ all. others (All-cons (λ (l : Log Cell Entry). l.place ≢ p) l ls other all)))

module _ {State Cell Shared Line Entry Heard : Type 0} (D : Definitions State Cell Shared Line Entry Heard) (starts : State → Type 0) (scripts : ℕ → List Line) (zones : ℕ) (m : Shared) (ts : List Progress) (rs : List (ℕ × ℕ)) (logs : List (Log Cell Entry)) (C : Closed D starts scripts zones m ts rs logs) where
  -- what a log more has left is noted
  pub noted_log : (i : ℕ) (l : Log Cell Entry) (m1 m2 : Shared) (ts1 ts2 : List Progress) (rs1 rs2 : List (ℕ × ℕ)) → i < length logs → l ≡ slice_index_or logs i l → StandsFrom D starts scripts m1 ts1 rs1 (C.h ++ rests (take i logs))
      → ((start : State) (h : List Entry) → Stands D start scripts m1 ts1 rs1 h → own D.by l.place h ≡ gave l → Logged D start l.place l.cell l.entries.items l.given l.marked → Stands D start scripts m2 ts2 rs2 (h ++ rest l))
      → length ts2 ≡ length ts1 → StandsFrom D starts scripts m2 ts2 rs2 (C.h ++ rests (take (i + 1) logs))
  noted_log i l m1 m2 ts1 ts2 rs1 rs2 near is was stands wide =
      let before : List Entry = C.h ++ rests (take i logs) in
      let left : IsLeft D starts l = subst (IsLeft D starts) (sym is) (C.left i l near) in
      let told : own D.by l.place C.h ≡ gave l = subst (λ (x : Log Cell Entry). own D.by x.place C.h ≡ gave x) (sym is) (C.mine i l near) in
      let none : own D.by l.place (rests (take i logs)) ≡ [] = rests_none D starts l.place (take i logs) (All-take (IsLeft D starts) i logs C.left) (away logs i l C.differ near is) in
      let mine : own D.by l.place before ≡ gave l = filter-append (λ e. D.by e == l.place) C.h (rests (take i logs)) ∙ ((λ k. told k ++ none k) ∙ append_none (gave l)) in
      let after : before ++ rest l ≡ C.h ++ rests (take (i + 1) logs) = append_assoc C.h (rests (take i logs)) (rest l) ∙ ap (λ es. C.h ++ es) (sym (rests_more logs i l near is)) in
      subst (StandsFrom D starts scripts m2 ts2 rs2) after (record {
        wide = wide ∙ was.wide;
        each = λ start from. stands start before (was.each start from) mine (left.logged start from);
      })

  -- nothing is noted yet
  pub noted_none : StandsFrom D starts scripts m ts rs (C.h ++ rests (take 0 logs))
  noted_none = subst (StandsFrom D starts scripts m ts rs) (sym (append_none C.h)) C.stands

  -- all is
  pub noted_all : (L : Laws D) (i : ℕ) (m' : Shared) (ts' : List Progress) (rs' : List (ℕ × ℕ)) → length logs ≤ i → m' ≡ m → StandsFrom D starts scripts m' ts' rs' (C.h ++ rests (take i logs)) → Ended D starts scripts zones m' ts' rs' logs
  noted_all L i m' ts' rs' far same was = record {
    h = h;
    stands = stands.each;
    each = each;
    backs = λ start from. backs_of start from (stands.each start from).middle.legal logs all C.left;
    all_back = C.all_back;
    free = λ sound. C.free (ap D.is_sound (sym same) ∙ sound);
  }
    where
      h : List Entry
      h = C.h ++ rests logs

      stands : StandsFrom D starts scripts m' ts' rs' h
      stands = subst (λ (ls : List (Log Cell Entry)). StandsFrom D starts scripts m' ts' rs' (C.h ++ rests ls)) (take_all i logs far) was

      each : (p : ℕ) → own D.by p h ≡ log_of logs p
      each p = filter-append (λ e. D.by e == p) C.h (rests logs) ∙ own_each D starts p C.h logs C.mine C.left C.differ (C.others p)

      all : All (λ (l : Log Cell Entry). own D.by l.place h ≡ l.entries.items) logs
      all k d near = each (slice_index_or logs k d).place ∙ log_at logs C.differ k d near

      backs_of : (start : State) → starts start → all_right D.right D.one start h ≡ true → (ls : List (Log Cell Entry)) → All (λ (l : Log Cell Entry). own D.by l.place h ≡ l.entries.items) ls → All (IsLeft D starts) ls → All (IsBack D start h) (map back ls)
      backs_of start from legal [] own_all left = All-nil (IsBack D start h)
      backs_of start from legal (l ∷ ls) own_all left =
          All-cons (IsBack D start h) (back l) (map back ls)
          (λ free. subst (D.cell_of l.cell) (sym (own_world D L l.place start h legal ∙ ap (left_by D start l.place) (own_all 0 l (omega arith)))) (((left 0 l (omega arith)).logged start from).stands free))
          (backs_of start from legal ls (λ k d n. own_all (suc k) d (omega arith)) (λ k d n. left (suc k) d (omega arith)))

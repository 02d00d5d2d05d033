-- The passes are taken back, and what the closed turn tells.
use Rattle.std.proofs.Common.{◌≡◌, ◌≢◌, ◌⊎◌, inl, inr, ℕ, ◌+◌, ◌-◌, ◌<◌, ◌≤◌, ◌==◌, Bool, true, false, List, [], ◌∷◌, ◌++◌, map, length, take, slice_index_or, sym, refl, ap, ◌∙◌, subst, arith, zero, suc, Err, IfOk, Ok, Result}
use Rattle.std.specs.List.{All}
use Rattle.std.proofs.lemmas.List.Elements.{All-nil, All-cons}
use lib.ListN.{get_elem?}
use mathlib.Core.Option.{Option, some, none}
use Rattle.zone_turn.specs.Histories.{own}
use Rattle.zone_turn.specs.Passes.{Apart, IsKept, after_join, first_view, is_first, kept_of, role_after_join, role_first}
use Rattle.zone_turn.specs.declared.views.View.{View}
use Rattle.zone_turn.specs.declared.views.Role.{Role}
use Rattle.zone_turn.specs.declared.views.Role.TheVariants.{First, Other, Spent}
use Rattle.zone_threads.specs.Ends.{AreAll, AreFree, AreKept, Closed, Differ, Finished, Gathered, HasAll, IsKeptOf, IsLeft, IsScript, back, gave, pair, pairs, roster}
use Rattle.zone_threads.specs.Machines.{Definitions}
use Rattle.zone_threads.specs.Notes.{dones, has_mark, note_by}
use Rattle.zone_threads.specs.Records.{Stands, Tells}
use Rattle.zone_threads.specs.declared.notes.Note.{Note}
use Rattle.zone_threads.specs.declared.tally.Progress.{Progress}
use Rattle.zone_threads.specs.declared.run.Script.{Script}
use Rattle.zone_threads.specs.declared.zone.Back.{Back}
use Rattle.zone_threads.specs.declared.zone.Log.{Log}
use Rattle.zone_threads.proofs.Bools.{are_apart, are_same, differ, is_same, apart}
use Rattle.zone_threads.proofs.Telling.{dones_own, own_free}

module _ {Cell Entry : Type 0} where
  kept_more : (ks : List (ℕ × List (Note Entry))) (ls : List (Log Cell Entry)) (k : ℕ × List (Note Entry)) (l : Log Cell Entry) → AreKept ks ls → IsKeptOf k l → AreKept (ks ++ k ∷ []) (ls ++ l ∷ [])
  kept_more [] [] k l are is = (is, tt)
  kept_more [] (x ∷ ls) k l are is = absurd are
  kept_more (x ∷ ks) [] k l are is = absurd are
  kept_more (x ∷ ks) (y ∷ ls) k l are is = (are.0, kept_more ks ls k l are.1 is)

  -- no pass is back yet
  pub gathered_none : (role : Role (Note Entry)) (made out : ℕ) (logs : List (Log Cell Entry)) → logs ≡ [] → role ≡ First (roster made out []) → Gathered role made out logs
  gathered_none role made out logs empty is = record { kept = []; is = is; are = subst (AreKept []) (sym empty) tt }

  -- one pass more is back
  pub gathered : (v v' w : View (Note Entry)) (made out : ℕ) (logs logs' : List (Log Cell Entry)) (log : Log Cell Entry) → v' ≡ after_join v w → w.number ≡ log.place → dones w.list ≡ take log.given log.entries.items → (log.marked ≡ true → has_mark w.list ≡ true) → logs' ≡ logs ++ log ∷ []
      → Gathered v.role made (out + 1) logs → Gathered v'.role made out logs'
  gathered v v' w made out logs logs' log is number done marks more was =
      let count : (out + 1) - 1 ≡ out = omega arith in
      let kept : List (ℕ × List (Note Entry)) = was.kept ++ (w.number, w.list) ∷ [] in
      record {
        kept = kept;
        is = ap (λ (x : View (Note Entry)). x.role) is ∙ (ap (role_after_join w.number w.list) was.is ∙ ap (λ n. First (roster made n kept)) count);
        are = subst (AreKept kept) (sym more) (kept_more was.kept logs (w.number, w.list) log was.are (record { place = number; done = done; marks = marks }));
      }

module _ {Entry : Type 0} where
  -- the first pass stays the first
  pub first_stays : (v v' w : View Entry) → v' ≡ after_join v w → is_first v ≡ true → is_first v' ≡ true
  first_stays v v' w is was = ap is_first is ∙ by_role v.role was
    where
      by_role : (r : Role Entry) → role_first r ≡ true → role_first (role_after_join w.number w.list r) ≡ true
      by_role Spent q = q
      by_role Other q = q
      by_role (First r) q = refl

  abbrev from_some : ℕ × List Entry → Option (ℕ × List Entry) → ℕ × List Entry
  from_some d none = d
  from_some d (some x) = x

  abbrev is_there : Option (ℕ × List Entry) → Bool
  is_there none = false
  is_there (some x) = true

module _ {Cell Entry : Type 0} (by : Entry → ℕ) where
  of_pairs : (h : List Entry) (ls : List (Log Cell Entry)) → All (λ (k : ℕ × List Entry). own by k.0 h ≡ k.1) (pairs ls) → All (λ (l : Log Cell Entry). own by l.place h ≡ gave l) ls
  of_pairs h [] all = All-nil (λ (l : Log Cell Entry). own by l.place h ≡ gave l)
  of_pairs h (l ∷ ls) all = All-cons (λ (l : Log Cell Entry). own by l.place h ≡ gave l) l ls (all 0 (pair l) (omega arith)) (of_pairs h ls (λ k d n. all (suc k) d (omega arith)))

module _ {Cell Entry : Type 0} where
  not_kept : (p : ℕ) (ls : List (Log Cell Entry)) → All (λ (l : Log Cell Entry). l.place ≢ p) ls → IsKept (pairs ls) p → ⊥
  not_kept p [] away k = apart (sym (ap is_there k.2))
  not_kept p (l ∷ ls) away (zero, es, is) = away 0 l (omega arith) (ap (λ (o : Option (ℕ × List Entry)). (from_some (p, es) o).0) is)
  not_kept p (l ∷ ls) away (suc k, es, is) = not_kept p ls (λ j d n. away (suc j) d (omega arith)) (k, es, is)

  pair_at : (ls : List (Log Cell Entry)) (i : ℕ) (d : Log Cell Entry) → i < length ls → (slice_index_or (pairs ls) i (pair d)).0 ≡ (slice_index_or ls i d).place
  pair_at [] i d near = absurd (omega arith)
  pair_at (l ∷ ls) zero d near = refl
  pair_at (l ∷ ls) (suc i) d near = pair_at ls i d (omega arith)

-- the cells are all there
module _ {Cell Entry : Type 0} where
  place_at : (ls : List (Log Cell Entry)) (i : ℕ) (d : Back Cell) (e : ℕ × List Entry) → i < length ls → (slice_index_or (map back ls) i d).place ≡ (slice_index_or (pairs ls) i e).0
  place_at [] i d e near = absurd (omega arith)
  place_at (l ∷ ls) zero d e near = refl
  place_at (l ∷ ls) (suc i) d e near = place_at ls i d e (omega arith)

  map_length : (ls : List (Log Cell Entry)) → (length (map back ls) ≡ length ls) × (length (pairs ls) ≡ length ls)
  map_length [] = (refl, refl)
  map_length (l ∷ ls) = (ap suc (map_length ls).0, ap suc (map_length ls).1)

  within : (zones : ℕ) (ls : List (Log Cell Entry)) → All (λ (k : ℕ × List Entry). 0 < k.0) (pairs ls) → All (λ (l : Log Cell Entry). l.place ≤ zones) ls → All (λ (b : Back Cell). (0 < b.place) × (b.place ≤ zones)) (map back ls)
  within zones [] above near = All-nil (λ (b : Back Cell). (0 < b.place) × (b.place ≤ zones))
  within zones (l ∷ ls) above near =
      All-cons (λ (b : Back Cell). (0 < b.place) × (b.place ≤ zones)) (back l) (map back ls) (above 0 (pair l) (omega arith), near 0 l (omega arith))
      (within zones ls (λ k d n. above (suc k) d (omega arith)) (λ k d n. near (suc k) d (omega arith)))

  all_differ : (ls : List (Log Cell Entry)) → Apart (pairs ls) → Differ ls
  all_differ ls apart_all i j d less near same =
      let there : j < length (pairs ls) = (let n = (map_length ls).1 in omega arith) in
      apart_all.1 i j (pair d) less there (pair_at ls i d (omega arith) ∙ (same ∙ sym (pair_at ls j d near)))

  pub all_there : (zones : ℕ) (ls : List (Log Cell Entry)) → Apart (pairs ls) → All (λ (l : Log Cell Entry). l.place ≤ zones) ls → length ls ≡ zones → AreAll zones (map back ls)
  all_there zones ls apart_all near count =
      let n = map_length ls in
      record {
        count = n.0 ∙ count;
        within = within zones ls apart_all.0 near;
        differ = λ i j d less inside same.
            let e : ℕ × List Entry = (0, []) in
            let there : j < length ls = subst (λ k. j < k) n.0 inside in
            apart_all.1 i j e less (subst (λ k. j < k) (sym n.1) there) (sym (place_at ls i d e (omega arith)) ∙ (same ∙ place_at ls j d e there));
      }

-- what passes told, as what was done
module _ {Entry : Type 0} where
  abbrev told_one : ℕ × List (Note Entry) → ℕ × List Entry
  told_one k = (k.0, dones k.1)

  abbrev told : List (ℕ × List (Note Entry)) → List (ℕ × List Entry)
  told ks = map told_one ks

  told_length : (ks : List (ℕ × List (Note Entry))) → length (told ks) ≡ length ks
  told_length [] = refl
  told_length (k ∷ ks) = ap suc (told_length ks)

  told_at : (ks : List (ℕ × List (Note Entry))) (i : ℕ) (d : ℕ × List Entry) (e : ℕ × List (Note Entry)) → i < length ks → (slice_index_or (told ks) i d).0 ≡ (slice_index_or ks i e).0
  told_at [] i d e near = absurd (omega arith)
  told_at (k ∷ ks) zero d e near = refl
  told_at (k ∷ ks) (suc i) d e near = told_at ks i d e (omega arith)

  told_above : (ks : List (ℕ × List (Note Entry))) → All (λ (k : ℕ × List (Note Entry)). 0 < k.0) ks → All (λ (k : ℕ × List Entry). 0 < k.0) (told ks)
  told_above [] above = All-nil (λ (k : ℕ × List Entry). 0 < k.0)
  told_above (k ∷ ks) above = All-cons (λ (k : ℕ × List Entry). 0 < k.0) (told_one k) (told ks) (above 0 k (omega arith)) (told_above ks (λ i d n. above (suc i) d (omega arith)))

  told_apart : (ks : List (ℕ × List (Note Entry))) → Apart ks → Apart (told ks)
  told_apart ks apart_all = (
    told_above ks apart_all.0,
    λ i j d less inside same.
        let e : ℕ × List (Note Entry) = (0, []) in
        let there : j < length ks = subst (λ k. j < k) (told_length ks) inside in
        apart_all.1 i j e less there (sym (told_at ks i d e (omega arith)) ∙ (same ∙ told_at ks j d e there)),
  )

  told_kept : (ks : List (ℕ × List (Note Entry))) (n k : ℕ) (ms : List (Note Entry)) → get_elem? ks k ≡ some (n, ms) → get_elem? (told ks) k ≡ some (n, dones ms)
  told_kept [] n k ms is = absurd (apart (sym (ap is_there is)))
  told_kept (x ∷ ks) n zero ms is = ap (λ (o : Option (ℕ × List (Note Entry))). some (told_one (from_some (n, ms) o))) is
  told_kept (x ∷ ks) n (suc k) ms is = told_kept ks n k ms is

  module _ (by : Entry → ℕ) (ns : List (Note Entry)) where
    told_own : (ks : List (ℕ × List (Note Entry))) → All (λ (k : ℕ × List (Note Entry)). own (note_by by) k.0 ns ≡ k.1) ks → All (λ (k : ℕ × List Entry). own by k.0 (dones ns) ≡ k.1) (told ks)
    told_own [] all = All-nil (λ (k : ℕ × List Entry). own by k.0 (dones ns) ≡ k.1)
    told_own (k ∷ ks) all = All-cons (λ (k : ℕ × List Entry). own by k.0 (dones ns) ≡ k.1) (told_one k) (told ks) (sym (dones_own by k.0 ns) ∙ ap dones (all 0 k (omega arith))) (told_own ks (λ i d n. all (suc i) d (omega arith)))

    told_where : (ks : List (ℕ × List (Note Entry))) (n : ℕ) → IsKept ks n ⊎ (own (note_by by) n ns ≡ []) → IsKept (told ks) n ⊎ (own by n (dones ns) ≡ [])
    told_where ks n (inl k) = inl (k.0, dones k.1, told_kept ks n k.0 k.1 k.2)
    told_where ks n (inr empty) = inr (sym (dones_own by n ns) ∙ ap dones empty)

module _ {Cell Entry : Type 0} where
  told_pairs : (ks : List (ℕ × List (Note Entry))) (ls : List (Log Cell Entry)) → AreKept ks ls → told ks ≡ pairs ls
  told_pairs [] [] are = refl
  told_pairs [] (l ∷ ls) are = absurd are
  told_pairs (k ∷ ks) [] are = absurd are
  told_pairs (k ∷ ks) (l ∷ ls) are = λ i. (are.0.place i, are.0.done i) ∷ told_pairs ks ls are.1 i

  module _ (by : Entry → ℕ) (ns : List (Note Entry)) where
    -- where none told of a mark, no log is marked
    all_free : (ks : List (ℕ × List (Note Entry))) (ls : List (Log Cell Entry)) → has_mark ns ≡ false → All (λ (k : ℕ × List (Note Entry)). own (note_by by) k.0 ns ≡ k.1) ks → AreKept ks ls → AreFree (map back ls)
    all_free [] [] free all are = All-nil (λ (b : Back Cell). b.marked ≡ false)
    all_free [] (l ∷ ls) free all are = absurd are
    all_free (k ∷ ks) [] free all are = absurd are
    all_free (k ∷ ks) (l ∷ ls) free all are =
        All-cons (λ (b : Back Cell). b.marked ≡ false) (back l) (map back ls) (here l.marked are.0.marks) (all_free ks ls free (λ i d n. all (suc i) d (omega arith)) are.1)
      where
        unmarked : has_mark k.1 ≡ false
        unmarked = ap has_mark (sym (all 0 k (omega arith))) ∙ own_free by k.0 ns free

        here : (b : Bool) → (b ≡ true → has_mark k.1 ≡ true) → b ≡ false
        here true marks = sym (marks refl) ∙ unmarked
        here false marks = refl

module _ {State Cell Shared Line Entry Heard : Type 0} (D : Definitions State Cell Shared Line Entry Heard) where
  pub closed : (starts : State → Type 0) (scripts : ℕ → List Line) (zones : ℕ) (m : Shared) (ts : List Progress) (rs : List (ℕ × ℕ)) (logs : List (Log Cell Entry)) (v : View (Note Entry)) (made : ℕ) (ns : List (Note Entry))
      → Tells D starts scripts m ts rs ns → own (note_by D.by) 0 ns ≡ v.list → All (λ (k : ℕ × List (Note Entry)). own (note_by D.by) k.0 ns ≡ k.1) (kept_of v.role) → Apart (kept_of v.role) → ((n : ℕ) → n ≢ 0 → IsKept (kept_of v.role) n ⊎ (own (note_by D.by) n ns ≡ []))
      → v.list ≡ [] → Gathered v.role made 0 logs → All (IsLeft D starts) logs → All (λ (l : Log Cell Entry). l.place ≤ zones) logs → length logs ≡ zones → Closed D starts scripts zones m ts rs logs
  closed starts scripts zones m ts rs logs v made ns tells first all differ_all others empty role left near count = record {
    h = dones ns;
    stands = tells.stands;
    mine = of_pairs D.by (dones ns) logs (subst (All (λ (k : ℕ × List Entry). own D.by k.0 (dones ns) ≡ k.1)) same (told_own D.by ns role.kept known));
    others = at;
    left = left;
    differ = all_differ logs pairs_apart;
    count = count;
    all_back = all_there zones logs pairs_apart near count;
    free = λ sound. all_free D.by ns role.kept logs (tells.free sound) known role.are;
  }
    where
      kept : kept_of v.role ≡ role.kept
      kept = ap kept_of role.is

      same : told role.kept ≡ pairs logs
      same = told_pairs role.kept logs role.are

      known : All (λ (k : ℕ × List (Note Entry)). own (note_by D.by) k.0 ns ≡ k.1) role.kept
      known = subst (All (λ (k : ℕ × List (Note Entry)). own (note_by D.by) k.0 ns ≡ k.1)) kept all

      pairs_apart : Apart (pairs logs)
      pairs_apart = subst Apart same (told_apart role.kept (subst Apart kept differ_all))

      none_of : (p : ℕ) → All (λ (l : Log Cell Entry). l.place ≢ p) logs → IsKept (pairs logs) p ⊎ (own D.by p (dones ns) ≡ []) → own D.by p (dones ns) ≡ []
      none_of p away (inl k) = absurd (not_kept p logs away k)
      none_of p away (inr empty_of) = empty_of

      at : (p : ℕ) → All (λ (l : Log Cell Entry). l.place ≢ p) logs → own D.by p (dones ns) ≡ []
      at zero away = sym (dones_own D.by 0 ns) ∙ ap dones (first ∙ empty)
      at (suc p) away =
          none_of (suc p) away (subst (λ ks. IsKept ks (suc p) ⊎ (own D.by (suc p) (dones ns) ≡ [])) same (told_where D.by ns role.kept (suc p)
          (subst (λ ks. IsKept ks (suc p) ⊎ (own (note_by D.by) (suc p) ns ≡ [])) kept (others (suc p) (λ q. differ 0 (suc p) (omega arith) (sym q))))))

-- where no pass was taken back, nothing was told
module _ {Entry : Type 0} (belongs : Entry → ℕ) where
  no_owner : (ns : List Entry) → ((n : ℕ) → own belongs n ns ≡ []) → ns ≡ []
  no_owner [] empty = refl
  no_owner (n ∷ ns) empty = absurd (some_own (sym (own_first (is_same (belongs n) (belongs n) refl)) ∙ empty (belongs n)))
    where
      own_first : (belongs n == belongs n) ≡ true → own belongs (belongs n) (n ∷ ns) ≡ n ∷ own belongs (belongs n) ns
      own_first is = rw is refl

      some_own : n ∷ own belongs (belongs n) ns ≡ [] → ⊥
      some_own is = cc

  none_kept : (n : ℕ) → IsKept {E = Entry} [] n → ⊥
  none_kept n k = apart (sym (ap is_there k.2))

  pub none_told : (ns : List Entry) (v : View Entry) → v ≡ first_view → own belongs 0 ns ≡ v.list → ((n : ℕ) → n ≢ 0 → IsKept (kept_of v.role) n ⊎ (own belongs n ns ≡ [])) → ns ≡ []
  none_told ns v is first whole = no_owner ns at
    where
      none_of : (n : ℕ) → IsKept (kept_of v.role) n ⊎ (own belongs n ns ≡ []) → own belongs n ns ≡ []
      none_of n (inl k) = absurd (none_kept n (subst (λ (x : View Entry). IsKept (kept_of x.role) n) is k))
      none_of n (inr empty) = empty

      at : (n : ℕ) → own belongs n ns ≡ []
      at zero = first ∙ ap (λ (x : View Entry). x.list) is
      at (suc n) = none_of (suc n) (whole (suc n) (λ q. differ 0 (suc n) (omega arith) (sym q)))

-- what a finished part says of the history
module _ {State Cell Shared Line Entry Heard : Type 0} (D : Definitions State Cell Shared Line Entry Heard) where
  pub have_all : (start : State) (scripts : ℕ → List Line) (m : Shared) (ts : List Progress) (rs : List (ℕ × ℕ)) (h : List Entry) (xs : List (Script Line)) → Stands D start scripts m ts rs h → All (λ (x : Script Line). Finished ts x.session (length x.lines.items)) xs
      → All (λ (x : Script Line). HasAll D h x.session (length x.lines.items)) xs
  have_all start scripts m ts rs h xs stands done k d near = let f = done k d near in sym (stands.tally (slice_index_or xs k d).session f.0) ∙ f.1

  -- each session is that of a script, and so is finished, or of none
  pub each_done : (scripts : ℕ → List Line) (h : List Entry) (xs : List (Script Line)) → All (IsScript scripts) xs → All (λ (x : Script Line). HasAll D h x.session (length x.lines.items)) xs → (s : ℕ) → HasAll D h s (length (scripts s)) ⊎ All (λ (x : Script Line). x.session ≢ s) xs
  each_done scripts h [] are all s = inr (All-nil (λ (x : Script Line). x.session ≢ s))
  each_done scripts h (x ∷ xs) are all s = here (each_done scripts h xs (λ k d n. are (suc k) d (omega arith)) (λ k d n. all (suc k) d (omega arith)) s) (x.session == s) refl
    where
      here : HasAll D h s (length (scripts s)) ⊎ All (λ (x : Script Line). x.session ≢ s) xs → (b : Bool) → (x.session == s) ≡ b → HasAll D h s (length (scripts s)) ⊎ All (λ (x : Script Line). x.session ≢ s) (x ∷ xs)
      here rest true q = inl (subst (λ k. HasAll D h k (length (scripts k))) (are_same x.session s q) (subst (λ (l : List Line). HasAll D h x.session (length l)) (are 0 x (omega arith)).2 (all 0 x (omega arith))))
      here (inl done) false q = inl done
      here (inr none_of) false q = inr (All-cons (λ (x : Script Line). x.session ≢ s) x xs (are_apart x.session s q) none_of)

pub or_none : {P Q R : Type 0} → P ⊎ Q → (Q → R) → P ⊎ R
or_none (inl p) f = inl p
or_none (inr q) f = inr (f q)

pub both_ok : {X Y : Type 0} (r : Result X Y) (P Q : X → Type 0) → IfOk r P → IfOk r Q → IfOk r (λ x. P x × Q x)
both_ok (Ok x) P Q p q = (p, q)
both_ok (Err y) P Q p q = p

-- What the calls promise, from what their steps tell.
use Rattle.std.proofs.Common.{◌≡◌, ◌≢◌, ◌⊎◌, ℕ, ◌+◌, ◌%◌, ◌^◌, ◌<◌, true, List, [], ◌∷◌, ◌++◌, length, sym, refl, ap, ◌∙◌, subst, ⊎_elim, inl, inr, arith, Option, Some, None}
use Rattle.std.specs.List.{All}
use mathlib.Core.Logic.{dite}
use mathlib.Core.Option.{some, none, some-injective}
use native.Mathlib.Decide.{dec_le}
use lib.ListN.{get_elem?}
use Rattle.atomic_table.specs.Table.{State, Me, step, Allows, Final, Joins, Seen, Splits, rest}
use Rattle.zone_turn.specs.declared.views.View.{View}
use Rattle.zone_turn.specs.declared.views.Roster.{Roster}
use Rattle.zone_turn.specs.declared.views.Stage.TheVariants.{Out}
use Rattle.zone_turn.specs.declared.views.Role.{Role}
use Rattle.zone_turn.specs.declared.views.Role.TheVariants.{Spent, Other, First}
use Rattle.zone_turn.specs.Passes.{Apart, IsKept, after_join, after_split, alive, idle_with, is_first, is_idle, kept_of, new_view, out_of, role_alive, role_first, spent, waits_for, with_part}
use Rattle.zone_turn.specs.Histories.{IsMadeBy, joined, own}
use Rattle.zone_turn.specs.Rule.{IsHome, IsOut, IsTurn, Knows, Moment, RoleRule, StageRule, in_word, moment}
use Rattle.zone_turn.specs.Steps.{Counts, Looks}
use Rattle.zone_turn.specs.Calls.{Closes, OneHolder}
use Rattle.zone_turn.proofs.Sums.{total_two, found_at, one_answer}
use Rattle.zone_turn.proofs.Moments.{differ, false_true, idle_is, kind}
use Rattle.zone_turn.proofs.Steps.{counts, joins, looks, splits}

roster_of : {E : Type 0} (r : Role E) → role_first r ≡ true → (l : Roster E) × (r ≡ First l)
roster_of Spent e = absurd (false_true e)
roster_of Other e = absurd (false_true e)
roster_of (First l) e = (l, refl)

module _ {T E : Type 0} (stands : T → List E → Type 0) (belongs : E → ℕ) where
  abbrev Table : Type 0
  Table = State (Option T) (View E)

  abbrev Self : Type 0
  Self = Me (Option T) (View E)

  abbrev Rule : Table → Type 0
  Rule = IsTurn stands belongs

  -- the give, after the part was put into the seat's hand
  pub gives_as : (slots id : ℕ) (was me : Self) (t : ℕ) (h batch named : List E) (x : T) → slots ≡ 1 → batch ≡ named → was.0.stage ≡ Out t h → alive was.0 ≡ 1 → was.1 ≡ (0, None) ∷ []
      → me ≡ (was.0, (0, Some x) ∷ rest was.1) → stands x (h ++ batch) → All (λ e. belongs e ≡ was.0.number) batch
      → Allows Rule slots id me 1 (λ n. (n + 1) % 2 ^ 64) (Counts named (step slots 1 1 0 none) me)
  gives_as slots id was me t h batch named x one same is lives hand put st all =
      let put' : me ≡ (was.0, (0, Some x) ∷ []) = put ∙ ap (λ cs. (was.0, (0, Some x) ∷ rest cs)) hand in
      let there : Self = (was.0, (0, Some x) ∷ []) in
      subst (λ (z : Self × List E). Allows Rule slots id z.0 1 (λ n. (n + 1) % 2 ^ 64) (Counts z.1 (step slots 1 1 0 none) z.0)) (λ i. (sym put' i, same i)) (counts stands belongs slots id there t h batch x one is lives refl st all)

  pub gave_as : (was me me' : Self) (batch named : List E) (x : T) → batch ≡ named → was.1 ≡ (0, None) ∷ [] → me ≡ (was.0, (0, Some x) ∷ rest was.1) → Counts named (step 0 0 0 0 none) me 0 me' → me' ≡ (idle_with (was.0.list ++ batch) was.0, [])
  gave_as was me me' batch named x same hand put did =
      let put' : me ≡ (was.0, (0, Some x) ∷ []) = put ∙ ap (λ cs. (was.0, (0, Some x) ∷ rest cs)) hand in
      (λ i. (did.0 i, did.1 i)) ∙ ((λ i. (idle_with ((put' i).0.list ++ sym same i) (put' i).0, rest (put' i).1)))

  pub looks_as : (slots id : ℕ) (v : View E) (me : Self) (t : ℕ) → alive v ≡ 1 → me ≡ (waits_for t v, []) → Allows Rule slots id me 1 (λ n. n) (Looks stands belongs (step slots 1 0 0 none) me)
  looks_as slots id v me t lives is = subst (λ (z : Self). Allows Rule slots id z 1 (λ n. n) (Looks stands belongs (step slots 1 0 0 none) z)) (sym is) (looks stands belongs slots id (waits_for t v, []) t refl lives)

  -- what the look that finds one's ticket tells
  pub took : (n ticket : ℕ) (v : View E) (me me' : Self) (t : ℕ) → me ≡ (waits_for t v, []) → in_word t ≡ ticket → n ≡ ticket → Looks stands belongs (step 0 0 0 0 none) me n me'
      → (x : T) × (h : List E) × (me'.0 ≡ with_part t h v) × (me'.1 ≡ (0, Some x) ∷ []) × stands x h × (own belongs v.number h ≡ v.list) × IsMadeBy t h
  took n ticket v me me' t is mine hit did =
      let there : Self = (waits_for t v, []) in
      let r = (subst (λ (z : Self). Looks stands belongs (step 0 0 0 0 none) z n me') is did) t refl in r.0 (mine ∙ sym hit)

  pub missed_as : (n ticket : ℕ) (v : View E) (me me' : Self) (t : ℕ) → me ≡ (waits_for t v, []) → in_word t ≡ ticket → n ≢ ticket → Looks stands belongs (step 0 0 0 0 none) me n me' → me' ≡ (waits_for t v, [])
  missed_as n ticket v me me' t is mine miss did = let r = did t (ap (λ (m : Self). m.0.stage) is) in r.1 (λ e. miss (sym e ∙ mine)) ∙ is

  -- with no other pass out and the first one idle, the part is at home
  ends : (id : ℕ) (v : View E) (l : Roster E) (words : List ℕ) (slots : List (Option T)) (old : Option T) → is_idle v ≡ true → v.role ≡ First l → l.out ≡ 0 → Final (Seen Rule id v) words slots → get_elem? slots 0 ≡ some old
      → (x : T) × (old ≡ Some x) × (h : List E) × Closes stands belongs h x v
  ends id v l words slots old idle is none_out (s, (r, at), same, deep, values) there = ⊎_elim home away r.part
    where
      hist : List E
      hist = joined r.batches

      m : Moment E
      m = moment r.owners r.batches s.views r.out

      knows : Knows belongs m id v
      knows = r.each id v at

      lead : RoleRule belongs m id v.stage (First l)
      lead = subst (RoleRule belongs m id v.stage) is knows.role

      lives : alive v ≡ 1
      lives = ap role_alive is

      kept_is : l.kept ≡ kept_of v.role
      kept_is = sym (ap kept_of is)

      Goal : Type 0
      Goal = (x : T) × (old ≡ Some x) × (h : List E) × Closes stands belongs h x v

      whole : (n : ℕ) → n ≢ 0 → IsKept l.kept n ⊎ (own belongs n hist ≡ [])
      whole n positive = dite (dec_le (length s.views) n) (λ far. inr (r.unmade n far)) (λ near. let d = found_at s.views n (omega arith) in go d.0 d.1 d.0.role refl)
        where
          go : (d : View E) → get_elem? s.views n ≡ some d → (q : Role E) → d.role ≡ q → IsKept l.kept n ⊎ (own belongs n hist ≡ [])
          go d there Spent e = inl (lead.5 n (d, there, e))
          go d there Other e = let a = total_two alive s.views id n v d at there (λ z. positive (sym z ∙ lead.0)) in let b = r.living in let c = lead.2 in let f = lives in let g : alive d ≡ 1 = ap role_alive e in absurd (omega arith)
          go d there (First l') e = absurd (positive (subst (RoleRule belongs m n d.stage) e (r.each n d there).role).0)

      home : IsHome stands hist s → Goal
      home (x, at_home, st) = (
        x,
        some-injective old (Some x) (sym there ∙ values 0 (Some x) (ap (λ hs. get_elem? hs 0) at_home)),
        hist,
        record {
          history = st;
          mine = ap (λ k. own belongs k hist) (sym lead.0) ∙ (knows.mine lives).1;
          kept = subst (λ ks. All (λ (k : ℕ × List E). own belongs k.0 hist ≡ k.1) ks) kept_is (λ i y near. (lead.3 i y near).0);
          apart = subst Apart kept_is lead.4;
          whole = subst (λ ks. (n : ℕ) → n ≢ 0 → IsKept ks n ⊎ (own belongs n hist ≡ [])) kept_is whole;
        },
      )

      away : IsOut s → Goal
      away (j, w, t, h, there, out) = absurd (elim_role w.role refl)
        where
          far : id ≢ j
          far e = let same' : v ≡ w = one_answer s.views id j v w e at there in differ 0 2 (omega arith) (sym (ap kind (idle_is v.stage idle)) ∙ (ap (λ (z : View E). kind z.stage) same' ∙ ap kind out))

          lone : alive w ≡ 1 → ⊥
          lone one = let a = total_two alive s.views id j v w at there far in let b = r.living in let c = lead.2 in let d = lives in omega arith

          elim_role : (q : Role E) → w.role ≡ q → ⊥
          elim_role Spent e = differ 0 2 (omega arith) (sym (ap kind (subst (RoleRule belongs m j w.stage) e (r.each j w there).role)) ∙ ap kind out)
          elim_role Other e = lone (ap role_alive e)
          elim_role (First l') e = lone (ap role_alive e)

  -- the same of what a call's contract sees, w, of the seat inside, v
  pub closes : (id : ℕ) (v w : View E) (words : List ℕ) (slots : List (Option T)) (old : Option T) → v ≡ w → is_idle w ≡ true → is_first w ≡ true → out_of w.role ≡ 0 → Final (Seen Rule id v) words slots → get_elem? slots 0 ≡ some old
      → (x : T) × (old ≡ Some x) × (h : List E) × Closes stands belongs h x w
  closes id v w words slots old seen idle first back final there = let f = roster_of w.role first in subst (λ y. (x : T) × (old ≡ Some x) × (h : List E) × Closes stands belongs h x y) seen
      (ends id v f.0 words slots old (ap is_idle seen ∙ idle) (ap (λ (x : View E). x.role) seen ∙ f.1) (sym (ap out_of f.1) ∙ back) final there)

  pub splits_as : (id : ℕ) (v w : View E) → v ≡ w → is_idle w ≡ true → is_first w ≡ true → out_of w.role < 4294967295 → Splits Rule id v (after_split v) (new_view v)
  splits_as id v w seen idle first few = let f = roster_of w.role first in splits stands belongs id v f.0 (ap is_idle seen ∙ idle) (ap (λ (x : View E). x.role) seen ∙ f.1) (subst (λ n. n < 4294967295) (ap out_of f.1) few)

  pub joins_as : (id : ℕ) (v w : View E) (id' : ℕ) (v' w' : View E) → v ≡ w → v' ≡ w' → is_idle w ≡ true → is_idle w' ≡ true → is_first w ≡ true → alive v' ≡ 1 → Joins Rule id v id' v' (after_join v v') spent
  joins_as id v w id' v' w' seen seen' idle idle' first lives = let f = roster_of w.role first in joins stands belongs id v f.0 id' v' (ap is_idle seen ∙ idle) (ap is_idle seen' ∙ idle') (ap (λ (x : View E). x.role) seen ∙ f.1) lives

  pub one_out : (s : Table) → Rule s → OneHolder s.views
  one_out s r i j t u v w g h at there is is' =
      let m : Moment E = moment r.owners r.batches s.views r.out in
      let a : StageRule m i (Out t g) = subst (StageRule m i) is (r.each i v at).stage in
      let b : StageRule m j (Out u h) = subst (StageRule m j) is' (r.each j w there).stage in
      one_answer r.owners t u i j (a.0 ∙ sym b.0) a.1 b.1

  -- what was in the hand is what the exchange answers
  pub in_hand : (cs : List (ℕ × Option T)) (x : T) (old : Option T) → cs ≡ (0, Some x) ∷ [] → cs ≡ (0, old) ∷ rest cs → old ≡ Some x
  in_hand cs x old is was = ap (λ ds. last_or old ds) (sym was ∙ is)
    where
      last_or : Option T → List (ℕ × Option T) → Option T
      last_or d [] = d
      last_or d (c ∷ cs') = c.1

  pub same_value : (x y : T) → Some x ≡ Some y → x ≡ y
  same_value x y e = ap (λ (o : Option T). value_or x o) e
    where
      value_or : T → Option T → T
      value_or d None = d
      value_or d (Some z) = z

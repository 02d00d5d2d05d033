-- What views know as the table moves on.
use Rattle.std.proofs.Common.{◌≡◌, ◌≢◌, ℕ, ◌<◌, ◌≤◌, Bool, true, false, List, [], ◌∷◌, ◌++◌, length, set, get_or, sym, refl, ap, ◌∙◌, subst, ⊎_elim, arith, zero, suc, length-append}
use Rattle.std.specs.List.{All, slice_index_or}
use Rattle.std.proofs.lemmas.List.Elements.{All-append}
use Rattle.std.proofs.Math.ListN.{get_or-append}
use Rattle.std.proofs.Math.Seq.{get_or-append_seam}
use mathlib.Core.Logic.{dite}
use mathlib.Core.Option.{some, some-injective, some-ne-none}
use native.Mathlib.Decide.{ℕ_discrete}
use lib.ListN.{get_elem?}
use Rattle.atomic_table.proofs.Lists.{at_set, set_else}
use Rattle.zone_turn.specs.declared.views.View.{View}
use Rattle.zone_turn.specs.declared.views.Stage.{Stage}
use Rattle.zone_turn.specs.declared.views.Stage.TheVariants.{Idle, Waits, Out}
use Rattle.zone_turn.specs.declared.views.Role.{Role}
use Rattle.zone_turn.specs.declared.views.Role.TheVariants.{Spent, Other, First}
use Rattle.zone_turn.specs.Passes.{Apart, alive, role_alive, stage_idle}
use Rattle.zone_turn.specs.Histories.{own}
use Rattle.zone_turn.specs.Rule.{IsSpent, Knows, Moment, RoleRule, StageRule, history, holds_ticket, pass_count, role_holds, stage_holds}
use Rattle.zone_turn.proofs.Sums.{one_answer}

pub differ : (a b : ℕ) → a < b → a ≡ b → ⊥
differ a b l e = omega arith

abbrev flag : Bool → ℕ
flag false = 0
flag true = 1

pub false_true : false ≡ true → ⊥
false_true e = differ 0 1 (omega arith) (ap flag e)

module _ {E : Type 0} where
  pub holds_alive : (v : View E) → holds_ticket v ≤ alive v
  holds_alive v = go v.role v.stage
    where
      one : (s : Stage E) → stage_holds s ≤ 1
      one Idle = omega arith
      one (Waits t) = omega arith
      one (Out t h) = omega arith

      go : (r : Role E) (s : Stage E) → role_holds r s ≤ role_alive r
      go Spent s = omega arith
      go Other s = one s
      go (First r) s = one s

  -- a view that is not spent holds a ticket as its stage says
  pub holds_as : (v : View E) (s : Stage E) → alive v ≡ 1 → v.stage ≡ s → holds_ticket v ≡ stage_holds s
  holds_as v s lives is = go v.role lives ∙ ap stage_holds is
    where
      go : (r : Role E) → role_alive r ≡ 1 → role_holds r v.stage ≡ stage_holds v.stage
      go Spent l = absurd (omega arith)
      go Other l = refl
      go (First r) l = refl

  -- an idle view, by a number of its stage
  abbrev pub kind : Stage E → ℕ
  kind Idle = 0
  kind (Waits t) = 1
  kind (Out t h) = 2

  abbrev pub ticket_or : Stage E → ℕ
  ticket_or Idle = 0
  ticket_or (Waits t) = t
  ticket_or (Out t h) = t

  pub idle_is : (s : Stage E) → stage_idle s ≡ true → s ≡ Idle
  idle_is Idle e = refl
  idle_is (Waits t) e = absurd (false_true e)
  idle_is (Out t h) e = absurd (false_true e)

  module _ (m : Moment E) (id : ℕ) where
    pub spent_apart : (n : ℕ) (v : View E) → get_elem? m.views id ≡ some v → alive v ≡ 1 → IsSpent m n → id ≢ n
    spent_apart n v at lives spent same = let e : v ≡ spent.0 = one_answer m.views id n v spent.0 same at spent.1 in
        let z : alive v ≡ 0 = ap alive e ∙ ap role_alive spent.2 in omega arith

    -- m' is m but for the view id, which is w
    module _ (m' : Moment E) (w : View E) (changed : m'.views ≡ set m.views id w) where
      pub spent_back : (n : ℕ) → alive w ≡ 1 → IsSpent m' n → IsSpent m n
      spent_back n lives (d, there, gone) = ⊎_elim
          (λ (t : (n ≡ id) × (w ≡ d)). absurd (differ 0 1 (omega arith) (sym (ap role_alive gone) ∙ (sym (ap alive t.1) ∙ lives))))
          (λ (t : (n ≢ id) × (get_elem? m.views n ≡ some d)). (d, t.1, gone)) (at_set m.views id n w d (sym (ap (λ vs. get_elem? vs n) changed) ∙ there))

      pub spent_stays : (n : ℕ) (v : View E) → get_elem? m.views id ≡ some v → alive v ≡ 1 → IsSpent m n → IsSpent m' n
      spent_stays n v at lives spent = let apart = spent_apart n v at lives spent in (spent.0, ap (λ vs. get_elem? vs n) changed ∙ (set_else m.views id n w (λ e. apart (sym e)) ∙ spent.1), spent.2)

  module _ (belongs : E → ℕ) (m m' : Moment E) where
    -- the spent passes of m are those of m', and the counts are the same
    abbrev pub SameCounts : Type 0
    SameCounts = (m'.out ≡ m.out) × (pass_count m' ≡ pass_count m) × ((n : ℕ) → IsSpent m' n → IsSpent m n)

    -- a spent pass stays so, and its entries too
    abbrev pub SpentStay : Type 0
    SpentStay = (n : ℕ) → IsSpent m n → IsSpent m' n × (own belongs n (history m') ≡ own belongs n (history m))

    -- what a role asks, where the first pass need not count otherwise
    pub role_stays : (j : ℕ) (s s' : Stage E) (r : Role E) → (r ≡ Spent → s' ≡ Idle) → SpentStay → (j ≡ 0 → SameCounts) → RoleRule belongs m j s r → RoleRule belongs m' j s' r
    role_stays j s s' Spent still kept counts o = still refl
    role_stays j s s' Other still kept counts o = o
    role_stays j s s' (First r) still kept counts o = let c = counts o.0 in (o.0, o.1 ∙ sym c.1, o.2 ∙ sym c.0, (λ i d near. let t = o.3 i d near in let u = kept _ t.1 in (u.1 ∙ t.0, u.0)), o.4, λ n p. o.5 n (c.2 n p))

    -- what a view knows, where another view steps
    pub carries : (j : ℕ) (v : View E) → (StageRule m j v.stage → StageRule m' j v.stage) → (alive v ≡ 1 → own belongs j (history m') ≡ own belongs j (history m)) → SpentStay → (j ≡ 0 → SameCounts) → Knows belongs m j v → Knows belongs m' j v
    carries j v stages owns kept counts k = record {
      stage = stages k.stage;
      role = role_stays j v.stage v.stage v.role (λ is. subst (RoleRule belongs m j v.stage) is k.role) kept counts k.role;
      mine = λ l. let o = k.mine l in (o.0, owns l ∙ o.1);
    }

    -- what the view that steps knows afterwards
    pub changes : (j : ℕ) (v : View E) (s : Stage E) (es : List E) → alive v ≡ 1 → StageRule m' j s → own belongs j (history m') ≡ es → SpentStay → SameCounts → Knows belongs m j v → Knows belongs m' j record { number = v.number; list = es; stage = s; role = v.role }
    changes j v s es lives stage owns kept counts k = record {
      stage = stage;
      role = role_stays j v.stage s v.role (λ is. absurd (differ 0 1 (omega arith) (sym (ap role_alive is) ∙ lives))) kept (λ _. counts) k.role;
      mine = λ _. ((k.mine lives).0, owns);
    }

  pub views_ok : (K : ℕ → View E → Type 0) (vs : List (View E)) (id : ℕ) (w : View E) → K id w → ((j : ℕ) (d : View E) → j ≢ id → get_elem? vs j ≡ some d → K j d)
      → (j : ℕ) (d : View E) → get_elem? (set vs id w) j ≡ some d → K j d
  views_ok K vs id w mine others j d e = ⊎_elim (λ (t : (j ≡ id) × (w ≡ d)). subst (λ (x : ℕ × View E). K x.0 x.1) (λ i. (sym t.0 i, t.1 i)) mine)
      (λ (t : (j ≢ id) × (get_elem? vs j ≡ some d)). others j d t.0 t.1) (at_set vs id j w d e)

  pub alone : (w : View E) (K : ℕ → View E → Type 0) → K 0 w → (j : ℕ) (v : View E) → get_elem? (w ∷ []) j ≡ some v → K j v
  alone w K k zero v e = subst (K 0) (some-injective w v e) k
  alone w K k (suc j) v e = absurd (some-ne-none v (sym e))

pub only_one : {A : Type 0} (P : A → Type 0) {a : A} → P a → All P (a ∷ [])
only_one P {a} p zero d near = p
only_one P {a} p (suc k) d near = absurd (omega arith)

pub pos_of : (n : ℕ) → (n ≡ 0 → ⊥) → 0 < n
pos_of zero no' = absurd (no' refl)
pos_of (suc n) no' = omega arith

pub apart_push : {E : Type 0} (ks : List (ℕ × List E)) (x : ℕ × List E) → Apart ks → 0 < x.0 → ((i : ℕ) (d : ℕ × List E) → i < length ks → (slice_index_or ks i d).0 ≢ x.0) → Apart (ks ++ x ∷ [])
apart_push {E} ks x apart pos far = (
  All-append (λ (k : ℕ × List E). 0 < k.0) ks (x ∷ []) apart.0 (only_one (λ (k : ℕ × List E). 0 < k.0) {a = x} pos),
  λ i j d before inside'. dite (ℕ_discrete j (length ks))
      (λ last e. let long = length-append ks (x ∷ []) in far i d (omega arith)
      (ap (λ (k : ℕ × List E). k.0) (sym (get_or-append ks (x ∷ []) d i (omega arith))) ∙ (e ∙ ap (λ (k : ℕ × List E). k.0) (ap (λ n. get_or (ks ++ x ∷ []) n d) last ∙ get_or-append_seam ks x [] d))))
      (λ early e. let long = length-append ks (x ∷ []) in apart.1 i j d before (omega arith)
      (ap (λ (k : ℕ × List E). k.0) (sym (get_or-append ks (x ∷ []) d i (omega arith))) ∙ (e ∙ ap (λ (k : ℕ × List E). k.0) (get_or-append ks (x ∷ []) d j (omega arith))))),
)

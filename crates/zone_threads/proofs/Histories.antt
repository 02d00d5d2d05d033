-- Histories put together, and what one zone sees of them.
use Rattle.std.proofs.Common.{◌≡◌, ◌≢◌, ℕ, ◌==◌, not, Bool, true, false, List, [], ◌∷◌, ◌++◌, sym, refl, ap, ◌∙◌, subst}
use Rattle.std.specs.List.{All}
use Rattle.std.proofs.lemmas.List.Elements.{All-cons, All-nil}
use Rattle.zone_turn.specs.Histories.{own}
use Rattle.zone_threads.specs.Folds.{all_right, folded}
use Rattle.zone_threads.specs.Machines.{Definitions, Laws}
use Rattle.zone_threads.specs.Records.{Middle}
use Rattle.zone_threads.specs.Scripts.{beginning, is_idle, may, noted, session}
use Rattle.zone_threads.specs.Zones.{left_by}
use Rattle.zone_threads.specs.declared.machine.Said.{Said}
use Rattle.zone_threads.specs.declared.machine.Said.TheVariants as says
use Rattle.zone_threads.specs.declared.tally.Progress.{Progress}
use Rattle.zone_threads.proofs.Bools.{are_apart, are_same, both, both_left, both_right, is_same}

module _ {A E : Type 0} where
  pub folded_append : (step : A → E → A) (a : A) (xs ys : List E) → folded step a (xs ++ ys) ≡ folded step (folded step a xs) ys
  folded_append step a [] ys = refl
  folded_append step a (x ∷ xs) ys = folded_append step (step a x) xs ys

  pub right_append : (right : A → E → Bool) (step : A → E → A) (a : A) (xs ys : List E) → all_right right step a xs ≡ true → all_right right step (folded step a xs) ys ≡ true → all_right right step a (xs ++ ys) ≡ true
  right_append right step a [] ys p q = q
  right_append right step a (x ∷ xs) ys p q = both _ _ (both_left (right a x) _ p) (right_append right step (step a x) xs ys (both_right (right a x) _ p) q)

works : (said : Said) → said ≢ says.Idle → not (is_idle said) ≡ true
works says.Idle other = absurd (other refl)
works (says.Ticket n) other = refl
works (says.Finished n) other = refl
works says.Stuck other = refl
works says.Other other = refl

module _ {State Cell Shared Line Entry Heard : Type 0} (D : Definitions State Cell Shared Line Entry Heard) where
  -- a turn that isn't idle may come
  pub turn_may : (scripts : ℕ → List Line) (t : ℕ → Progress) (e : Entry) → session D e ≡ 0 → (D.told e).said ≢ says.Idle → may D scripts t e ≡ true
  unfolding may
  turn_may scripts t e turn busy = rw (is_same (session D e) 0 turn) (works (D.told e).said busy)

  -- local entries are right in the whole state, and leave what is common
  pub record Fit (scripts : ℕ → List Line) (p : ℕ) (s : State) (t : ℕ → Progress) (ls : List Entry) : Type 0 where
    pub legal : all_right D.right D.one s ls ≡ true
    pub kept : all_right (may D scripts) (noted D) t ls ≡ true
    pub common : D.common (folded D.one s ls) ≡ D.common s
    pub mine : All (λ e. D.by e ≡ p) ls
    pub after : D.world p (folded D.one s ls) ≡ folded D.world_one (D.world p s) ls

module _ {State Cell Shared Line Entry Heard : Type 0} (D : Definitions State Cell Shared Line Entry Heard) (L : Laws D) where
  own_move : (p : ℕ) (s : State) (e : Entry) → D.right s e ≡ true → D.by e ≡ p → D.world p (D.one s e) ≡ D.world_one (D.world p s) e
  own_move p s e right is = subst (λ k. D.world k (D.one s e) ≡ D.world_one (D.world k s) e) is (L.own_moves s e right)

  -- the world of a zone after a legal history is what its own entries make of it
  pub own_world : (p : ℕ) (s : State) (h : List Entry) → all_right D.right D.one s h ≡ true → D.world p (folded D.one s h) ≡ folded D.world_one (D.world p s) (own D.by p h)
  own_world p s [] legal = refl
  own_world p s (e ∷ es) legal = here (own_world p (D.one s e) es (both_right (D.right s e) _ legal)) (D.by e == p) refl
    where
      is_right : D.right s e ≡ true
      is_right = both_left (D.right s e) _ legal

      here : D.world p (folded D.one (D.one s e) es) ≡ folded D.world_one (D.world p (D.one s e)) (own D.by p es) → (b : Bool) → (D.by e == p) ≡ b → D.world p (folded D.one s (e ∷ es)) ≡ folded D.world_one (D.world p s) (own D.by p (e ∷ es))
      here rest true q = rw q (rest ∙ ap (λ (w : D.World). folded D.world_one w (own D.by p es)) (own_move p s e is_right (are_same (D.by e) p q)))
      here rest false q = rw q (rest ∙ ap (λ (w : D.World). folded D.world_one w (own D.by p es)) (L.others_stay p s e is_right (are_apart (D.by e) p q)))

  pub locals_fit : (scripts : ℕ → List Line) (p : ℕ) (w : D.World) (s : State) (t : ℕ → Progress) (ls : List Entry) → D.world p s ≡ w → all_right (D.is_local p) D.world_one w ls ≡ true → Fit D scripts p s t ls
  locals_fit scripts p w s t [] is ok = record { legal = refl; kept = refl; common = refl; mine = All-nil (λ (e : Entry). D.by e ≡ p); after = refl }
  locals_fit scripts p w s t (e ∷ es) is ok =
      let here : D.is_local p w e ≡ true = both_left (D.is_local p w e) _ ok in
      let there : D.is_local p (D.world p s) e ≡ true = ap (λ (w : D.World). D.is_local p w e) is ∙ here in
      let right = L.local_right p s e there in
      let mine = L.local_by p w e here in
      let moves = own_move p s e right mine in
      let next : D.world p (D.one s e) ≡ D.world_one w e = moves ∙ ap (λ (w : D.World). D.world_one w e) is in
      let rest = locals_fit scripts p (D.world_one w e) (D.one s e) (noted D t e) es next (both_right (D.is_local p w e) _ ok) in
      record {
        legal = both _ _ right rest.legal;
        kept = both _ _ (turn_may D scripts t e (L.local_turn p w e here) (L.local_works p w e here)) rest.kept;
        common = rest.common ∙ L.local_common p s e there;
        mine = All-cons (λ (e : Entry). D.by e ≡ p) e es mine rest.mine;
        after = rest.after ∙ ap (λ (w : D.World). folded D.world_one w es) moves;
      }

  -- what is known with the local entries behind a history
  pub locals_behind : (start : State) (scripts : ℕ → List Line) (p : ℕ) (m : Shared) (h mine locals : List Entry) → Middle D start scripts m h → own D.by p h ≡ mine → all_right (D.is_local p) D.world_one (left_by D start p mine) locals ≡ true
      → Middle D start scripts m (h ++ locals) × All (λ e. D.by e ≡ p) locals × (D.world p (folded D.one start (h ++ locals)) ≡ left_by D start p (mine ++ locals))
  locals_behind start scripts p m h mine locals mid is ok =
      let w : D.world p (folded D.one start h) ≡ left_by D start p mine = own_world p start h mid.legal ∙ ap (left_by D start p) is in
      let fit = locals_fit scripts p (left_by D start p mine) (folded D.one start h) (folded (noted D) beginning h) locals w ok in
      let c : D.common (folded D.one start h) ≡ D.common (folded D.one start (h ++ locals)) = sym (ap D.common (folded_append D.one start h locals) ∙ fit.common) in (
        record {
          legal = right_append D.right D.one start h locals mid.legal fit.legal;
          kept = right_append (may D scripts) (noted D) beginning h locals mid.kept fit.kept;
          shared = subst (D.shared_of m) c mid.shared;
        },
        fit.mine,
        ap (D.world p) (folded_append D.one start h locals) ∙ (fit.after ∙ (ap (λ (w : D.World). folded D.world_one w locals) w ∙ sym (folded_append D.world_one (D.world p start) mine locals))),
      )

-- Changes of what a zone claims, and of who holds what.
use Rattle.std.proofs.Common.{◌≡◌, ◌∷◌, ◌++◌, [], ℕ, List, Bool, Option, Some, None, true, false, not, ◌&&◌, ◌||◌, refl, ap, sym, subst, ◌∙◌, map}
use Rattle.indexmap.specs.IndexMap.{get}
use Rattle.std.specs.Prelude.{◌≢◌, IfNone, IfSome, bytes_eq, nat_eq, if◌then◌else◌}
use Rattle.std.proofs.lemmas.Bool.{and_parts, false≢true, true≢false}
use Rattle.datalink_table.proofs.Kept.{holds-last}
use Rattle.datalink_table.proofs.Same_laws.{claim-Decides}
use Rattle.datalink_table.specs.Claims.{claiming, holds, same_claim}
use Rattle.datalink_table.specs.Shared.{Frees, Shared as Claim_shared, Takes, allows, holder, is_declared, may_hold}
use Rattle.datalink_table.specs.Claims as claims
use Rattle.datalink_table.specs.declared.claims.Claim.{Claim}
use Rattle.zn_base.specs.Names.{Name}
use Rattle.zone_pools.proofs.Holding.{column, gone_column}
use Rattle.zone_pools.proofs.Owned_laws.{same_self, same_true}
use Rattle.zone_pools.specs.Owned_lists.{but_last}
use Rattle.zone_pools.specs.Owners as owners
use Rattle.zone_pools.specs.Owners.{held_by, is_owner}
use Rattle.zone_machine.proofs.Acts_laws.{same_other}
use Rattle.zone_machine.proofs.Doing_laws.{common_by, holds_doing, same_pids, same_sessions, same_zids}
use Rattle.zone_machine.specs.Code.Cells.{Agree, Does, common_in, kept, outside_in}
use Rattle.zone_cases.specs.Code.Cells.{cell_world}
use Rattle.zone_machine.specs.Machine.Common.{Common, came_common, holding}
use Rattle.zone_cases.specs.State.Edits.{Of_objects, comes_world, edits_world}
use Rattle.zone_cases.specs.State.Worlds.{World}
use Rattle.zone_cases.specs.declared.cell.Cell.{Cell}
use Rattle.zone_machine.specs.declared.machine.shared.Shared.{Shared}
use Rattle.zoneadmd_steps.specs.Arrivals.{New_claim}
use Rattle.zoneadmd_steps.specs.Code.Cases.{object_edits}
use Rattle.zoneadmd_steps.specs.declared.objects.changes.ObjectEdit.TheVariants.{EndClaim}

-- a list without its last item
pub but_last_of : {A : Type 0} (xs : List A) (x : A) → but_last (xs ++ x ∷ []) ≡ xs
but_last_of [] x = refl
but_last_of (y ∷ []) x = refl
but_last_of (y ∷ z ∷ xs) x = ap (λ ys. y ∷ ys) (but_last_of (z ∷ xs) x)

-- a claim that is another's is of the same item
is_same : (a b : Claim) → same_claim a b ≡ true → a ≡ b
is_same a b e = (claim-Decides a b).0 e

-- what a zone claims is changed to xs, and the shared part to t, which declares what it did
module _ (z : Name) (c : Cell) (s : Shared) (d : claims.Cell) (t : Claim_shared) where
  abbrev then_cell : Cell
  then_cell = record c { claims = d }

  abbrev then_shared : Shared
  then_shared = record s { claims = t }

  abbrev had : Claim → Bool
  had k = holds k c.claims.claims

  pub does_claims : (f : World → World) (g : Common → Common) → cell_world (outside_in z s) then_cell ≡ f (cell_world (outside_in z s) c) → t.declared ≡ s.claims.declared → g (common_in s) ≡ common_in s
      → (Agree z c s → (y : Name) (k : Claim) → held_by (λ k. holder k t) y k ≡ owners.holding z (λ k. holds k d.claims) (held_by (λ k. holder k s.claims)) y k)
      → Does z f g c s then_cell then_shared
  does_claims f g world declared keeps held = record {
    world = λ a. ap (λ ds. cell_world (record (outside_in z s) { declared = record { items = ds; devices = s.kernel.devices } }) then_cell) declared ∙ world;
    common = λ a.
        common_by z (cell_world (outside_in z s) then_cell) (common_in s) then_shared (get nat_eq c.doings)
        (same_pids z c s a) (same_zids z c s a) (held a) (same_sessions z c s a) (λ n. holds_doing (get nat_eq c.doings n)) refl refl refl refl refl refl
        (ap (λ ds. record { items = ds; devices = s.kernel.devices }) declared) refl refl
        ∙ (ap (λ k. holding z (cell_world (outside_in z s) then_cell) k) (sym keeps) ∙ ap (λ w. holding z w (g (common_in s))) world);
  }

  -- an item comes to the zone, which may hold it
  pub does_claim : (k : Claim) → allows z k s.claims ≡ true → Takes z k s.claims t → d.claims ≡ claiming (had k) k c.claims.claims
      → Does z (comes_world (New_claim k)) (came_common z (Some (New_claim k))) c s then_cell then_shared
  does_claim k allowed takes is = does_claims (comes_world (New_claim k)) (came_common z (Some (New_claim k)))
      (ap (λ cs. record (cell_world (outside_in z s) c) { claims = cs }) is) takes.declared refl
      (λ a y x. column z (λ x. holds x d.claims) (λ x. holder x s.claims) (λ x. holder x t) (here a) (there a) y x)
    where
      more : (b : Bool) (x : Claim) → had k ≡ b → holds x (claiming b k c.claims.claims) ≡ (had x || same_claim k x)
      more true x e = at_test (same_claim k x) refl
        where
          at_test : (q : Bool) → same_claim k x ≡ q → had x ≡ (had x || q)
          at_test true f = or_true (had x) (subst (λ k. had k ≡ true) (is_same k x f) e)
            where
              or_true : (h : Bool) → h ≡ true → h ≡ (h || true)
              or_true true p = refl
              or_true false p = absurd (false≢true p)
          at_test false f = or_false (had x)
            where
              or_false : (h : Bool) → h ≡ (h || false)
              or_false true = refl
              or_false false = refl
      more false x e = holds-last x k c.claims.claims

      other : Option Name → Type 0
      other o = may_hold z o ≡ true

      not_mine : (y : Name) → y ≢ z → (o : Option Name) → may_hold z o ≡ true → is_owner y o ≡ false
      not_mine y ne None h = refl
      not_mine y ne (Some x) h = ap (bytes_eq y) (sym (same_true z x h)) ∙ same_other y z ne

      here : Agree z c s → (x : Claim) → is_owner z (holder x t) ≡ holds x d.claims
      here a x = ap (is_owner z) (takes.holders x) ∙ (at_test (same_claim k x) ∙ sym (ap (holds x) is ∙ more (had k) x refl))
        where
          at_test : (q : Bool) → is_owner z (if q then Some z else holder x s.claims) ≡ (had x || q)
          at_test true = same_self z ∙ or_true (had x)
            where
              or_true : (h : Bool) → true ≡ (h || true)
              or_true true = refl
              or_true false = refl
          at_test false = sym (a.claims x) ∙ or_false (had x)
            where
              or_false : (h : Bool) → h ≡ (h || false)
              or_false true = refl
              or_false false = refl

      there : Agree z c s → (y : Name) → y ≢ z → (x : Claim) → is_owner y (holder x t) ≡ is_owner y (holder x s.claims)
      there a y ne x = ap (is_owner y) (takes.holders x) ∙ at_test (same_claim k x) refl
        where
          at_test : (q : Bool) → same_claim k x ≡ q → is_owner y (if q then Some z else holder x s.claims) ≡ is_owner y (holder x s.claims)
          at_test true f = same_other y z ne ∙ sym (not_mine y ne (holder x s.claims) (subst (λ k. may_hold z (holder k s.claims) ≡ true) (is_same k x f) ((and_parts (is_declared k s.claims) (may_hold z (holder k s.claims)) allowed).1)))
          at_test false f = refl

  -- the latest goes
  pub does_release : (k : Claim) → c.claims.claims ≡ d.claims ++ k ∷ [] → holds k d.claims ≡ false → Frees (Some k) s.claims t
      → (n : Option ℕ) → Does z (edits_world n (map Of_objects (object_edits EndClaim))) kept c s then_cell then_shared
  does_release k was fresh frees n = does_claims (edits_world n (map Of_objects (object_edits EndClaim))) kept
      (ap (λ cs. record (cell_world (outside_in z s) c) { claims = cs }) (sym (ap but_last was ∙ but_last_of d.claims k))) frees.declared refl
      (λ a y x. gone_column z had (λ x. holds x d.claims) (same_claim k) (λ x. holder x s.claims) (λ x. holder x t) a.claims held frees.holders less y x)
    where
      had_is : (x : Claim) → had x ≡ (holds x d.claims || same_claim k x)
      had_is x = ap (holds x) was ∙ holds-last x k d.claims

      held : (x : Claim) → same_claim k x ≡ true → had x ≡ true
      held x e = had_is x ∙ (ap (λ b. holds x d.claims || b) e ∙ or_true (holds x d.claims))
        where
          or_true : (h : Bool) → (h || true) ≡ true
          or_true true = refl
          or_true false = refl

      less : (x : Claim) → holds x d.claims ≡ (had x && not (same_claim k x))
      less x = at_tests (holds x d.claims) (same_claim k x) refl refl ∙ ap (λ h. h && not (same_claim k x)) (sym (had_is x))
        where
          at_tests : (h q : Bool) → holds x d.claims ≡ h → same_claim k x ≡ q → holds x d.claims ≡ ((holds x d.claims || same_claim k x) && not (same_claim k x))
          at_tests true true e f = absurd (true≢false (sym e ∙ (ap (λ k. holds k d.claims) (sym (is_same k x f)) ∙ fresh)))
          at_tests true false e f = rw (e, f) refl
          at_tests false true e f = rw (e, f) refl
          at_tests false false e f = rw (e, f) refl

  -- there is none
  pub does_release_none : c.claims.claims ≡ [] → d.claims ≡ [] → Frees None s.claims t
      → (n : Option ℕ) → Does z (edits_world n (map Of_objects (object_edits EndClaim))) kept c s then_cell then_shared
  does_release_none was is frees n = does_claims (edits_world n (map Of_objects (object_edits EndClaim))) kept
      (ap (λ cs. record (cell_world (outside_in z s) c) { claims = cs }) (is ∙ sym (ap but_last was))) frees.declared refl
      (λ a y x. column z (λ x. holds x d.claims) (λ x. holder x s.claims) (λ x. holder x t)
      (λ x. ap (is_owner z) (frees.holders x) ∙ (sym (a.claims x) ∙ ap (holds x) (was ∙ sym is))) (λ y ne x. ap (is_owner y) (frees.holders x)) y x)

  -- the latest goes, if there is one
  pub does_released : (o : Option Claim) → IfSome o (λ k. c.claims.claims ≡ d.claims ++ k ∷ []) → IfSome o (λ k. holds k d.claims ≡ false) → IfNone o ((c.claims.claims ≡ []) × (d.claims ≡ [])) → Frees o s.claims t
      → (n : Option ℕ) → Does z (edits_world n (map Of_objects (object_edits EndClaim))) kept c s then_cell then_shared
  does_released (Some k) was fresh none frees n = does_release k was fresh frees n
  does_released None was fresh none frees n = does_release_none none.0 none.1 frees n

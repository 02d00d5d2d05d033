-- What the call of a process that entered for it alone leaves, as work does it.
use Rattle.std.proofs.Common.{◌≡◌, None, Some, ◌∷◌, ◌++◌, [], ◌∙◌, ℕ, Bool, List, Option, ap, length, map, refl, sym}
use Rattle.std.specs.Prelude.{◌+◌}
use Rattle.std.specs.List.{insert}
use Rattle.std.specs.Prelude.{nat_lt, not, position, unwrap_or}
use Rattle.zone_cases.specs.Code.Errands.{last_row, placed}
use Rattle.zone_machine.proofs.Claim_doing.{but_last_of}
use Rattle.zone_machine.proofs.Lists_laws.{put-at as put-before, put-nowhere}
use Rattle.kernel_objects.specs.declared.objects.ProcRow.{ProcRow}
use Rattle.zone_pools.specs.Owned_lists.{put}
use Rattle.zoneadmd_steps.specs.Code.Cases.{object_edits}
use Rattle.zoneadmd_steps.specs.Desks as desks
use Rattle.zoneadmd_steps.specs.declared.objects.changes.ObjectEdit.{ObjectEdit}
use Rattle.zone_cases.specs.State.Edits.{Edit, Of_objects, Set_desk, edits_world}
use Rattle.zone_cases.specs.State.Worlds.{World}
use Rattle.zone_machine.proofs.Doing_laws.{desk-objects, edits-then}

-- the desk that a world has already is no change, once objects changed
module _ (n : Option ℕ) (v : World) (d : desks.Desk) (desk : v.desk ≡ d) where
  kept-desk : (o : ObjectEdit) → record (edits_world n (map Of_objects (object_edits o)) v) { desk = d } ≡ edits_world n (map Of_objects (object_edits o)) v
  kept-desk o = (λ i. record (edits_world n (map Of_objects (object_edits o)) v) { desk = sym desk i }) ∙ sym (desk-objects n o v v.desk)

  pub past-desk : (o : ObjectEdit) (rest : List Edit) → edits_world n (map Of_objects (object_edits o) ++ (Set_desk d ∷ rest)) v ≡ edits_world n (map Of_objects (object_edits o) ++ rest) v
  past-desk o rest =
      edits-then n (map Of_objects (object_edits o)) (Set_desk d ∷ rest) v
      ∙ (ap (edits_world n rest) (kept-desk o) ∙ sym (edits-then n (map Of_objects (object_edits o)) rest v))

-- what goes behind all others
insert-end : {A : Type 0} (a : A) (xs : List A) → insert xs (length xs) a ≡ xs ++ a ∷ []
insert-end a [] = refl
insert-end a (x ∷ xs) = ap (λ ys. x ∷ ys) (insert-end a xs)

-- a row stands before the first that isn't below it
pub put-at : {A : Type 0} (f : A → Bool) (a : A) (xs : List A) → put f a xs ≡ insert xs (unwrap_or (position (λ x. not (f x)) xs) (length xs)) a
put-at {A} f a xs = at_place (position (λ x. not (f x)) xs) refl
  where
    at_place : (o : Option ℕ) → position (λ x. not (f x)) xs ≡ o → put f a xs ≡ insert xs (unwrap_or o (length xs)) a
    at_place (Some i) is = put-before f a xs i is
    at_place None is = put-nowhere f a xs is ∙ sym (insert-end a xs)

-- the last of some rows, which takes its number and its place
last-is : (r : ProcRow) (xs : List ProcRow) (y : ProcRow) → last_row r (xs ++ y ∷ []) ≡ y
last-is r [] y = refl
last-is r (x ∷ xs) y = last-is x xs y

pub placed-last : (n : ℕ) (xs : List ProcRow) (y : ProcRow) → placed n (xs ++ y ∷ []) ≡ put (λ r. nat_lt r.pid n) (record y { pid = n }) xs
placed-last n [] y = refl
placed-last n (x ∷ xs) y = λ i. put (λ r. nat_lt r.pid n) (record (last-is x xs y i) { pid = n }) (but_last_of (x ∷ xs) y i)

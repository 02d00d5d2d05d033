-- Room for what comes and what changes, and that what a case of the code asks goes with what comes.
use Rattle.zone_machine.specs.Code.Works.{IsStoredOf, arrival_by}
use Rattle.zone_machine.specs.declared.machine.work.Storing.{Storing}
use Rattle.zone_machine.specs.declared.machine.work.Storing.TheVariants as storing
use Rattle.zone_machine.proofs.Case_asks.{came, came_is}
use Rattle.std.proofs.Common.{◌≡◌, ◌∙◌, ◌⊎◌, ◌∷◌, [], inl, inr, ℕ, List, Bool, true, false, Option, Some, None, IfSome, Result, Ok as Right, Err, refl, sym, subst}
use Rattle.std.proofs.lemmas.Bool.{false≢true}
use Rattle.zn_base.specs.Names.{Name}
use Rattle.zone_pools.specs.Asked.{A_path, A_pid, A_serial, A_source, A_zid, A_zone, An_item, Asked}
use Rattle.zone_pools.specs.Decisions.{Ask, Just, asked_of, number_in}
use Rattle.zone_pools.specs.Pools.{Pools}
use Rattle.zone_pools.specs.declared.grant.Grant.{Grant}
use Rattle.zone_pools.specs.declared.grant.Pool.{Pool}
use Rattle.zone_machine.proofs.Asking.{asks_rightly}
use Rattle.zoneadmd_steps.proofs.Of_turns.{is_asked_for}
use Rattle.zoneadmd_steps.specs.Arrivals.{A_claim, A_process, A_record, An_id, Arrival, Comes, No_thing, in_store}
use Rattle.zone_cases.specs.State.Decisions.{Decision, act_of}
use Rattle.zone_machine.specs.Code.Rooms.{HasRoomBy, HasRoomIf, HasRoomOf, HasRoomToChange, HasRoomToSit, HasRoomToStore, IsFreeOf}
use Rattle.zone_cases.specs.declared.cases.Sitting.{Sitting}
use Rattle.zone_cases.specs.declared.cell.Cell.{Cell}
use Rattle.zone_machine.specs.declared.machine.shared.Shared.{Shared}
use Rattle.zoneadmd_steps.specs.Code.Cases.{Holds, premise_of}
use Rattle.zoneadmd_steps.specs.declared.desks.Desk.{Desk}
use Rattle.zoneadmd_steps.specs.declared.objects.changes.ObjectEdit.{ObjectEdit}

room_came : (c : Comes) (asked : List Asked) (r : Result ℕ Pool) (s : Shared) → is_asked_for c asked ≡ true → HasRoomToStore asked s → HasRoomOf (in_store (came c r)) s
room_came c asked (Err pool) s h room = tt
room_came (A_claim k) (An_item pool item ∷ []) (Right n) s h room = tt
room_came No_thing (A_source z ∷ []) (Right n) s h room = tt
room_came (A_record row) (A_path path ∷ A_serial size ∷ []) (Right n) s h room = room
room_came (A_process p) (A_pid ∷ []) (Right n) s h room = tt
room_came (An_id i) (A_zid ∷ []) (Right n) s h room = tt
room_came (A_record row) (A_serial size ∷ []) (Right n) s h room = room
room_came (A_record row) (A_zone ∷ A_path path ∷ A_serial size ∷ []) (Right n) s h room = room
room_came c asked (Right n) s h room = absurd (false≢true h)

pub roomy : (d : Decision) (g : Grant) (s : Shared) → asks_rightly d ≡ true → HasRoomToStore (asked_of d) s → HasRoomOf (in_store (act_of d g).came) s
roomy (Just e) g s h room = tt
roomy (Ask c asked denied given) g s h room = subst (λ o. HasRoomOf (in_store o) s) (sym (came_is c asked denied given g)) (room_came c asked (number_in g) s h room)

-- room doesn't go by the desk, and not by more of an edit than what it takes for granted
pub room_change : (o p : ObjectEdit) (c : Cell) (d : Desk) → premise_of p ≡ premise_of o → HasRoomToChange o c → HasRoomToChange p (record c { desk = d })
room_change o p c d same h = subst (λ q. HasRoomBy q c.mounts × Holds q c.mounts.list c.claims.claims) (sym same) h

-- where the event's session does something else from now on, there is room for it
pub room_to_sit : (b : Bool) (c : Cell) (s : Shared) (o : Option Sitting) → (b ≡ false → o ≡ None) → HasRoomIf b c s → IfSome o (λ x. HasRoomToSit c s)
room_to_sit true c s None none room = tt
room_to_sit true c s (Some x) none room = room
room_to_sit false c s o none room = subst (λ o. IfSome o (λ x. HasRoomToSit c s)) (sym (none refl)) tt

-- what is stored is free for the zone whose it is
one_owner : (y z : Name) (s : Storing) → IsStoredOf z s → IsStoredOf y s → (arrival_by s ≡ None) ⊎ (z ≡ y)
one_owner y z storing.Nothing h k = inl refl
one_owner y z (storing.Row s) h k = inr (sym h ∙ k)
one_owner y z (storing.Removal x) h k = inr (sym h ∙ k)

pub free_owner : (z : Name) (s : Storing) (a : Option Arrival) (P : Pools) → arrival_by s ≡ a → IsStoredOf z s → IsFreeOf z a P → (y : Name) → IsStoredOf y s → IsFreeOf y (arrival_by s) P
free_owner z s a P is named h y of = at_owner (one_owner y z s named of)
  where
    at_owner : (arrival_by s ≡ None) ⊎ (z ≡ y) → IsFreeOf y (arrival_by s) P
    at_owner (inl none) = subst (λ o. IsFreeOf y o P) (sym none) tt
    at_owner (inr same) = subst (λ x. IsFreeOf x (arrival_by s) P) same (subst (λ o. IsFreeOf z o P) (sym is) h)

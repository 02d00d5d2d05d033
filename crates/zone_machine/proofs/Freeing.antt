-- What comes with a grant that the pools give, or that fits, is free.
use Rattle.commit_journal.specs.Bodies.{stored_text}
use Rattle.commit_journal.specs.declared.records.Record.{Record}
use Rattle.zone_machine.proofs.Case_asks.{AsksWell, IsSizedFor, asks_made, came, came_is}
use Rattle.std.proofs.Common.{◌≡◌, ◌∷◌, ◌+◌, ◌-◌, ◌&&◌, [], ℕ, zero, suc, List, Bool, true, false, Option, Some, None, Result, Ok as Right, Err, refl, sym, ◌∙◌, subst, IfOk, length, ap, arith, ◌≤◌}
use Rattle.std.specs.Prelude.{nat_le, not, if◌then◌else◌}
use Rattle.std.proofs.lemmas.Bool.{and_parts, false≢true, leb-true}
use Rattle.datalink_table.specs.Claims.{pool_of}
use Rattle.datalink_table.specs.declared.claims.Claim.{Claim}
use Rattle.zn_base.specs.Names.{Name}
use Rattle.zone_pools.proofs.Pools_laws.{said_one}
use Rattle.zone_pools.specs.Asked.{A_path, A_pid, A_serial, A_zid, A_zone, An_item, Asked}
use Rattle.zone_pools.specs.Decisions.{Ask, Just, asked_of, number_in}
use Rattle.zone_pools.specs.Pools.{Pools, first_free, fits_asked, has_place, has_room, next_free, numbered, or_else, said_by_all, has_serial}
use Rattle.zone_pools.specs.declared.grant.Grant.{Grant}
use Rattle.zone_pools.specs.declared.grant.Grant.TheVariants.{Nothing, Number, Yes, Denied}
use Rattle.zone_pools.specs.declared.grant.Pool.{Pool}
use Rattle.zone_pools.specs.declared.grant.Pool.TheVariants.{Paths, Pids, Store, Zids, Zones}
use Rattle.zone_pools.specs.declared.limits.TheConstants.{PID_MAX, PID_MIN, ZID_MAX, ZID_MIN}
use Rattle.zoneadmd_steps.proofs.Of_turns.{asked_item, is_asked_for}
use Rattle.zoneadmd_steps.specs.Arrivals.{A_claim, A_process, A_record, An_id, Comes, No_thing, arrived, New_record}
use Rattle.zone_cases.specs.State.Decisions.{Decision, act_of, effects, turned}
use Rattle.zone_machine.specs.Code.Rooms.{IsFreeOf}
use Rattle.zone_machine.specs.Code.Steps.{IsGrantFor}
use Rattle.zoneadmd_steps.specs.Code.Cases.{asked_for, on_job, turn_decision_of, IsNumberedCame, IsNumberedTurn}
use Rattle.zone_cases.specs.Code.Cases.{decision_of, IsNumbered, numbered_row}
use Rattle.zoneadmd_steps.specs.Turns.{Turn_decision}
use Rattle.zone_cases.specs.declared.cases.Case.{Case}
use Rattle.zone_cases.specs.declared.cases.Case.TheVariants as cases
use Rattle.zoneadmd_steps.specs.declared.cases.JobCase.TheVariants as jobs
use Rattle.zoneadmd_steps.specs.declared.cases.TurnCase.{TurnCase}
use Rattle.zoneadmd_steps.specs.declared.cases.TurnCase.TheVariants as turns
use Rattle.zoneadmd_steps.specs.declared.desks.Desk.{Desk}
use Rattle.zoneadmd_steps.specs.declared.desks.Job.{Job}
use Rattle.zoneadmd_steps.specs.declared.objects.changes.Came.{Came}
use Rattle.zoneadmd_steps.specs.declared.objects.changes.Came.TheVariants as came_type

-- a number that is found isn't used
unused_found : (used : ℕ → Bool) (from count n : ℕ) → first_free used from count ≡ Some n → used n ≡ false
unfolding first_free
unused_found used from zero n h = cc
unused_found used from (suc count) n h = at_test (used from) refl h (unused_found used (from + 1) count n)
  where
    at_test : (b : Bool) → used from ≡ b → elim b as (λ b. Option ℕ) [ true ↦ first_free used (from + 1) count | false ↦ Some from ] ≡ Some n
        → (first_free used (from + 1) count ≡ Some n → used n ≡ false) → used n ≡ false
    at_test true e h later = later h
    at_test false e h later = let same : from ≡ n = cc in rw (← same) e

unused_next : (used : ℕ → Bool) (low high last n : ℕ) → next_free used low high last ≡ Some n → used n ≡ false
unused_next used low high last n h = at_upper (first_free used (last + 1) (high - last)) refl h
  where
    at_upper : (upper : Option ℕ) → first_free used (last + 1) (high - last) ≡ upper → or_else upper (first_free used low (high + 1 - low)) ≡ Some n → used n ≡ false
    at_upper (Some x) e h = unused_found used (last + 1) (high - last) n (e ∙ h)
    at_upper None e h = unused_found used low (high + 1 - low) n h

-- what the pools say is free
module _ (P : Pools) (z : Name) where
  free_pid : (c : Comes) (p : ℕ → ℕ) (found : Option ℕ) → ((n : ℕ) → P.pid_used n ≡ false → IsFreeOf z (Some (arrived c n)) P) → next_free P.pid_used PID_MIN PID_MAX P.last_pid ≡ found
      → IsFreeOf z (came c (number_in (numbered Pids found))) P
  free_pid c p None is e = tt
  free_pid c p (Some n) is e = is n (unused_next P.pid_used PID_MIN PID_MAX P.last_pid n e)

  free_zid : (c : Comes) (found : Option ℕ) → ((n : ℕ) → P.zid_used n ≡ false → IsFreeOf z (Some (arrived c n)) P) → next_free P.zid_used ZID_MIN ZID_MAX P.last_zid ≡ found
      → IsFreeOf z (came c (number_in (numbered Zids found))) P
  free_zid c None is e = tt
  free_zid c (Some n) is e = is n (unused_next P.zid_used ZID_MIN ZID_MAX P.last_zid n e)

  free_serial : (c : Comes) (size : ℕ → ℕ) (room : Bool) → ((n : ℕ) → has_room P z size n ≡ true → IsFreeOf z (Some (arrived c n)) P) → has_room P z size (P.serial + 1) ≡ room
      → IsFreeOf z (came c (number_in (if room then Number (P.serial + 1) else Denied Store))) P
  free_serial c size false is e = tt
  free_serial c size true is e = is (P.serial + 1) e

  free_zone : (c : Comes) (size : ℕ → ℕ) (place taken room : Bool) → ((n : ℕ) → has_room P z size n ≡ true → IsFreeOf z (Some (arrived c n)) P) → has_room P z size (P.serial + 1) ≡ room
      → IsFreeOf z (came c (number_in (elim (if place then Yes else Denied Zones) as (λ g. Grant) [
        | Denied pool ↦ Denied pool
        | g ↦ elim (if taken then Denied Paths else Yes) as (λ g. Grant) [
          | Denied pool ↦ Denied pool
          | g ↦ elim (if room then Number (P.serial + 1) else Denied Store) as (λ g. Grant) [ Denied pool ↦ Denied pool | g ↦ g ]
        ]
      ]))) P
  free_zone c size false taken room is e = tt
  free_zone c size true true room is e = tt
  free_zone c size true false false is e = tt
  free_zone c size true false true is e = is (P.serial + 1) e

  free_path : (c : Comes) (size : ℕ → ℕ) (taken room : Bool) → ((n : ℕ) → has_room P z size n ≡ true → IsFreeOf z (Some (arrived c n)) P) → has_room P z size (P.serial + 1) ≡ room
      → IsFreeOf z (came c (number_in (elim (if taken then Denied Paths else Yes) as (λ g. Grant) [
        | Denied pool ↦ Denied pool
        | g ↦ elim (if room then Number (P.serial + 1) else Denied Store) as (λ g. Grant) [ Denied pool ↦ Denied pool | g ↦ g ]
      ]))) P
  free_path c size true room is e = tt
  free_path c size false false is e = tt
  free_path c size false true is e = is (P.serial + 1) e

  -- a record for which there is room under a number
  room_free : (row : ℕ → Option Record) (size : ℕ → ℕ) → ((n : ℕ) → length (stored_text (row n)) ≡ size n) → (n : ℕ) → has_room P z size n ≡ true → IsFreeOf z (Some (New_record (row n))) P
  room_free row size sized n room = let both = and_parts (has_serial P) (P.may_store z (size n)) room in (both.0, ap (P.may_store z) (sized n) ∙ both.1)

  free_item : (c : Claim) (may : Bool) → P.may_hold z (pool_of c.kind) c.item ≡ may → IsFreeOf z (came (A_claim c) (number_in (if may then Yes else Denied (pool_of c.kind)))) P
  free_item c false e = tt
  free_item c true e = e

  nothing_free : (r : Result ℕ Pool) → IsFreeOf z (came No_thing r) P
  nothing_free (Right n) = tt
  nothing_free (Err pool) = tt

  said_item : (c : Claim) → IsFreeOf z (came (A_claim c) (number_in (said_by_all P z (An_item (pool_of c.kind) c.item ∷ []) Nothing))) P
  said_item c = rw (said_one P z (An_item (pool_of c.kind) c.item)) (free_item c (P.may_hold z (pool_of c.kind) c.item) refl)

  said_free : (c : Comes) (asked : List Asked) → is_asked_for c asked ≡ true → IsSizedFor c asked → IsFreeOf z (came c (number_in (said_by_all P z asked Nothing))) P
  said_free (A_process p) (A_pid ∷ []) h sized = rw (said_one P z A_pid) (free_pid (A_process p) (λ n. n) (next_free P.pid_used PID_MIN PID_MAX P.last_pid) (λ n e. e) refl)
  said_free (An_id i) (A_zid ∷ []) h sized = rw (said_one P z A_zid) (free_zid (An_id i) (next_free P.zid_used ZID_MIN ZID_MAX P.last_zid) (λ n e. e) refl)
  said_free (A_record row) (A_serial size ∷ []) h sized = rw (said_one P z (A_serial size)) (free_serial (A_record row) size (has_room P z size (P.serial + 1)) (room_free row size sized) refl)
  said_free (A_record row) (A_zone ∷ A_path path ∷ A_serial size ∷ []) h sized = free_zone (A_record row) size (has_place P) (P.path_taken z path) (has_room P z size (P.serial + 1)) (room_free row size sized) refl
  said_free (A_record row) (A_path path ∷ A_serial size ∷ []) h sized = free_path (A_record row) size (P.path_taken z path) (has_room P z size (P.serial + 1)) (room_free row size sized) refl
  said_free (A_claim c) asked h sized = subst (λ asked. IsFreeOf z (came (A_claim c) (number_in (said_by_all P z asked Nothing))) P) (sym (asked_item c asked h)) (said_item c)
  said_free No_thing asked h sized = nothing_free (number_in (said_by_all P z asked Nothing))
  said_free c asked h sized = absurd (false≢true h)

  -- and so is what fits
  last_of_three : (a b c : Bool) → ((a && b && not c) && true) ≡ true → c ≡ false
  last_of_three true true false h = refl
  last_of_three true true true h = absurd (false≢true h)
  last_of_three true false c h = absurd (false≢true h)
  last_of_three false b c h = absurd (false≢true h)

  room_of_two : (a b : Bool) → ((a && b) && true) ≡ true → b ≡ true
  room_of_two true true h = refl
  room_of_two true false h = absurd (false≢true h)
  room_of_two false b h = absurd (false≢true h)

  room_of_zone : (p a b : Bool) → (p && (true && ((a && b) && true))) ≡ true → b ≡ true
  room_of_zone true true true h = refl
  room_of_zone true true false h = absurd (false≢true h)
  room_of_zone true false b h = absurd (false≢true h)
  room_of_zone false a b h = absurd (false≢true h)

  fit_free : (c : Comes) (asked : List Asked) (n : ℕ) → is_asked_for c asked ≡ true → IsSizedFor c asked → fits_asked P z asked (Number n) ≡ true → IsFreeOf z (Some (arrived c n)) P
  fit_free (A_process p) (A_pid ∷ []) n h sized fit = last_of_three (nat_le PID_MIN n) (nat_le n PID_MAX) (P.pid_used n) fit
  fit_free (An_id i) (A_zid ∷ []) n h sized fit = last_of_three (nat_le ZID_MIN n) (nat_le n ZID_MAX) (P.zid_used n) fit
  fit_free (A_record row) (A_serial size ∷ []) n h sized fit = room_free row size sized n (room_of_two (nat_le 1 n) (has_room P z size n) fit)
  fit_free (A_record row) (A_zone ∷ A_path path ∷ A_serial size ∷ []) n h sized fit = room_free row size sized n (room_of_zone (has_place P) (nat_le 1 n) (has_room P z size n) fit)
  fit_free (A_record row) (A_path path ∷ A_serial size ∷ []) n h sized fit = room_free row size sized n (room_of_two (nat_le 1 n) (has_room P z size n) fit)
  fit_free (A_claim c) asked n h sized fit = absurd (false≢true (subst (λ asked. fits_asked P z asked (Number n) ≡ true) (asked_item c asked h) fit))
  fit_free No_thing asked n h sized fit = tt
  fit_free c asked n h sized fit = absurd (false≢true h)

  -- a yes is stated of an item that the zone may hold, and of what is cloned
  yes_free : (c : Comes) (asked : List Asked) → is_asked_for c asked ≡ true → fits_asked P z asked Yes ≡ true → IsFreeOf z (came c (number_in Yes)) P
  yes_free (A_process p) (A_pid ∷ []) h fit = absurd (false≢true fit)
  yes_free (An_id i) (A_zid ∷ []) h fit = absurd (false≢true fit)
  yes_free (A_record row) (A_serial size ∷ []) h fit = absurd (false≢true fit)
  yes_free (A_record row) (A_path path ∷ A_serial size ∷ []) h fit = absurd (false≢true fit)
  yes_free (A_record row) (A_zone ∷ A_path path ∷ A_serial size ∷ []) h fit = absurd (false≢true fit)
  yes_free (A_claim c) asked h fit = (and_parts (P.may_hold z (pool_of c.kind) c.item) true (subst (λ asked. fits_asked P z asked Yes ≡ true) (asked_item c asked h) fit)).0
  yes_free No_thing asked h fit = tt
  yes_free c asked h fit = absurd (false≢true h)

  grant_free : (c : Comes) (asked : List Asked) (g : Grant) → is_asked_for c asked ≡ true → IsSizedFor c asked → fits_asked P z asked g ≡ true → IsFreeOf z (came c (number_in g)) P
  grant_free c asked (Number n) h sized fit = fit_free c asked n h sized fit
  grant_free c asked Yes h sized fit = yes_free c asked h fit
  grant_free c asked (Denied pool) h sized fit = tt
  grant_free c asked Nothing h sized fit = tt

-- what a decision brings under the grant that is taken
pub freed : (P : Pools) (z : Name) (d : Decision) (stated : Option Grant) (g : Grant) → AsksWell d → IsGrantFor z P (asked_of d) stated g → IsFreeOf z (act_of d g).came P
freed P z (Just e) stated g h takes = tt
freed P z (Ask c asked denied given) None g h takes =
    subst (λ o. IsFreeOf z o P) (sym (came_is c asked denied given g)) (subst (λ g. IsFreeOf z (came c (number_in g)) P) (sym takes) (said_free P z c asked h.0 h.1))
freed P z (Ask c asked denied given) (Some stated) g h takes =
    subst (λ o. IsFreeOf z o P) (sym (came_is c asked denied given g)) (subst (λ g. IsFreeOf z (came c (number_in g)) P) (sym takes.0) (grant_free P z c asked stated h.0 h.1 takes.1))

-- the number of a record is 1 at least
number_said : (n : ℕ) (room : Bool) → IfOk (number_in (if room then Number (n + 1) else Denied Store)) (λ n. 1 ≤ n)
number_said n true = omega arith
number_said n false = tt

module _ (P : Pools) (z : Name) (row : ℕ → Option Record) where
  said_number : (asked : List Asked) → is_asked_for (A_record row) asked ≡ true → IfOk (number_in (said_by_all P z asked Nothing)) (λ n. 1 ≤ n)
  said_number (A_serial size ∷ []) h = rw (said_one P z (A_serial size)) (number_said P.serial (has_room P z size (P.serial + 1)))
  said_number (A_zone ∷ A_path path ∷ A_serial size ∷ []) h = at_place (has_place P) (P.path_taken z path) (has_room P z size (P.serial + 1))
    where
      at_place : (place taken room : Bool) → IfOk (number_in (elim (if place then Yes else Denied Zones) as (λ g. Grant) [
        | Denied pool ↦ Denied pool
        | g ↦ elim (if taken then Denied Paths else Yes) as (λ g. Grant) [
          | Denied pool ↦ Denied pool
          | g ↦ elim (if room then Number (P.serial + 1) else Denied Store) as (λ g. Grant) [ Denied pool ↦ Denied pool | g ↦ g ]
        ]
      ])) (λ n. 1 ≤ n)
      at_place false taken room = tt
      at_place true true room = tt
      at_place true false false = tt
      at_place true false true = omega arith
  said_number (A_path path ∷ A_serial size ∷ []) h = at_path (P.path_taken z path) (has_room P z size (P.serial + 1))
    where
      at_path : (taken room : Bool) → IfOk (number_in (elim (if taken then Denied Paths else Yes) as (λ g. Grant) [
        | Denied pool ↦ Denied pool
        | g ↦ elim (if room then Number (P.serial + 1) else Denied Store) as (λ g. Grant) [ Denied pool ↦ Denied pool | g ↦ g ]
      ])) (λ n. 1 ≤ n)
      at_path true room = tt
      at_path false false = tt
      at_path false true = omega arith
  said_number asked h = absurd (false≢true h)

  first_of_two : (a b : Bool) → ((a && b) && true) ≡ true → a ≡ true
  first_of_two true b h = refl
  first_of_two false b h = absurd (false≢true h)

  first_of_zone : (p a b : Bool) → (p && (true && ((a && b) && true))) ≡ true → a ≡ true
  first_of_zone true true b h = refl
  first_of_zone true false b h = absurd (false≢true h)
  first_of_zone false a b h = absurd (false≢true h)

  fit_number : (asked : List Asked) (n : ℕ) → is_asked_for (A_record row) asked ≡ true → fits_asked P z asked (Number n) ≡ true → 1 ≤ n
  fit_number (A_serial size ∷ []) n h fit = leb-true 1 n (first_of_two (nat_le 1 n) (has_room P z size n) fit)
  fit_number (A_zone ∷ A_path path ∷ A_serial size ∷ []) n h fit = leb-true 1 n (first_of_zone (has_place P) (nat_le 1 n) (has_room P z size n) fit)
  fit_number (A_path path ∷ A_serial size ∷ []) n h fit = leb-true 1 n (first_of_two (nat_le 1 n) (has_room P z size n) fit)
  fit_number asked n h fit = absurd (false≢true h)

  no_yes : (asked : List Asked) → is_asked_for (A_record row) asked ≡ true → fits_asked P z asked Yes ≡ true → false ≡ true
  no_yes (A_serial size ∷ []) h fit = fit
  no_yes (A_zone ∷ A_path path ∷ A_serial size ∷ []) h fit = fit
  no_yes (A_path path ∷ A_serial size ∷ []) h fit = fit
  no_yes asked h fit = h

  fits_number : (asked : List Asked) (g : Grant) → is_asked_for (A_record row) asked ≡ true → fits_asked P z asked g ≡ true → IfOk (number_in g) (λ n. 1 ≤ n)
  fits_number asked (Number n) h fit = fit_number asked n h fit
  fits_number asked Yes h fit = absurd (false≢true (no_yes asked h fit))
  fits_number asked (Denied pool) h fit = tt
  fits_number asked Nothing h fit = tt

  pub record_number : (asked : List Asked) (stated : Option Grant) (g : Grant) → is_asked_for (A_record row) asked ≡ true → IsGrantFor z P asked stated g → IfOk (number_in g) (λ n. 1 ≤ n)
  record_number asked None g h takes = subst (λ g. IfOk (number_in g) (λ n. 1 ≤ n)) (sym takes) (said_number asked h)
  record_number asked (Some stated) g h takes = subst (λ g. IfOk (number_in g) (λ n. 1 ≤ n)) (sym takes.0) (fits_number asked stated h takes.1)

-- where nothing is asked, nothing is given
no_number : (P : Pools) (z : Name) (stated : Option Grant) (g : Grant) → IsGrantFor z P [] stated g → IfOk (number_in g) (λ n. 1 ≤ n)
no_number P z None g takes = subst (λ g. IfOk (number_in g) (λ n. 1 ≤ n)) (sym takes) tt
no_number P z (Some stated) g takes = subst (λ g. IfOk (number_in g) (λ n. 1 ≤ n)) (sym takes.0) (at_grant stated takes.1)
  where
    at_grant : (g : Grant) → fits_asked P z [] g ≡ true → IfOk (number_in g) (λ n. 1 ≤ n)
    at_grant Nothing fit = tt
    at_grant g fit = absurd (false≢true fit)

-- and so is that of the record of a case
module _ (P : Pools) (z : Name) (stated : Option Grant) (g : Grant) where
  weaker_number : (M : Type 0) (r : Result ℕ Pool) → IfOk r (λ n. 1 ≤ n) → IfOk r (λ n. M → 1 ≤ n)
  weaker_number M (Right n) h = λ m. h
  weaker_number M (Err pool) h = tt

  not_moved : (r : Result ℕ Pool) → IfOk r (λ n. ⊥ → 1 ≤ n)
  not_moved (Right n) = λ m. absurd m
  not_moved (Err pool) = tt

  numbered_came : (d : Desk) (o : Option Job) (it : Came) (next : ℕ) → IsGrantFor z P (asked_of (on_job d o (jobs.Ask it next))) stated g → IsNumberedCame it g
  numbered_came d None (came_type.Moved r owner new) next takes = weaker_number (Unit {0}) (number_in g) (no_number P z stated g takes)
  numbered_came d (Some j) (came_type.Moved r owner true) next takes =
      weaker_number (Unit {0}) (number_in g) (record_number P z (λ n. Some (record r.value { revision = n })) (asked_for (came_type.Moved r owner true)) stated g refl takes)
  numbered_came d (Some j) (came_type.Moved r owner false) next takes =
      weaker_number (Unit {0}) (number_in g) (record_number P z (λ n. Some (record r.value { revision = n })) (asked_for (came_type.Moved r owner false)) stated g refl takes)
  numbered_came d o it next takes = not_moved (number_in g)

  numbered_turn : (d : Desk) (c : TurnCase) → IsGrantFor z P (asked_of (turn_decision_of d c)) stated g → IsNumberedTurn c g
  numbered_turn d (turns.GoOn (jobs.Ask it next)) takes = numbered_came d d.job it next takes
  numbered_turn d _ takes = tt

  asks_same : (d : Turn_decision) → asked_of (effects turned d) ≡ asked_of d
  asks_same (Just t) = refl
  asks_same (Ask c asked denied given) = refl

  pub numbered_case : (d : Desk) (case : Case) → IsGrantFor z P (asked_of (decision_of d case)) stated g → IsNumbered case g
  numbered_case d (cases.Commit c) takes =
      record_number P z (λ n. Some (numbered_row c.value.novelty c.value.owner c.value.row.value n)) (asked_of (decision_of d (cases.Commit c))) stated g
      (asks_made c.value.novelty c.value.owner c.value.row.value c.value.told c.value.committer).0 takes
  numbered_case d (cases.Turn c) takes = numbered_turn d c (subst (λ asked. IsGrantFor z P asked stated g) (asks_same (turn_decision_of d c)) takes)
  numbered_case d _ takes = tt

-- No pool gives a number above its greatest, in any state.
use Rattle.std.proofs.Common.{◌≡◌, ◌∷◌, ◌+◌, ◌-◌, ◌<◌, ◌≤◌, ◌&&◌, ◌⊎◌, [], ℕ, zero, suc, List, Bool, true, false, not, Option, Some, None, ap, arith, inl, inr, refl, sym, ◌∙◌}
use Rattle.std.specs.Prelude.{nat_le, if◌then◌else◌}
use Rattle.std.specs.List.{list_all, list_any}
use Rattle.std.proofs.lemmas.Bool.{and_from, and_parts, false≢true, le-leb, leb-true, ltb-true}
use Rattle.zn_base.specs.Names.{Name}
use Rattle.zone_pools.proofs.Pools_laws.{said_one}
use Rattle.zone_pools.proofs.Same_laws.{grant-Decides}
use Rattle.zone_pools.specs.Asked.{A_path, A_pid, A_serial, A_source, A_zid, A_zone, An_item, Asked}
use Rattle.zone_pools.specs.Decisions.{Ask, Just, asked_of}
use Rattle.zone_pools.specs.Pools.{Pools, first_free, fits_asked, has_place, has_room, has_serial, is_pool, next_free, numbered, or_else, said_by_all}
use Rattle.zone_pools.specs.declared.grant.Grant.{Grant}
use Rattle.zone_pools.specs.declared.grant.Grant.TheVariants.{Denied, Nothing, Number, Yes}
use Rattle.zone_pools.specs.declared.grant.Pool.{Pool}
use Rattle.zone_pools.specs.declared.grant.Pool.TheVariants.{Paths, Pids, Source, Store, Zids, Zones}
use Rattle.zone_pools.specs.declared.limits.TheConstants.{PID_MAX, PID_MIN, SERIAL_MAX, ZID_MAX, ZID_MIN}
use Rattle.zoneadmd_steps.proofs.Of_turns.{is_asked_for}
use Rattle.zoneadmd_steps.specs.Arrivals.{A_claim, A_process, A_record, An_id, Comes, No_thing}
use Rattle.zone_cases.specs.State.{State}
use Rattle.zone_cases.specs.State.Decisions.{Decision}
use Rattle.zone_cases.specs.State.Worlds.{view}
use Rattle.zone_cases.specs.declared.events.Entry.{Entry}
use Rattle.zone_cases.specs.declared.events.Event.{Event}
use Rattle.zone_cases.specs.declared.events.Subject.{Subject}
use Rattle.zone_cases.specs.declared.events.Subject.TheVariants.{Global, Whole, Zone}
use Rattle.zone_machine.proofs.Asking.{asks-decide, asks_rightly}
use Rattle.zone_machine.specs.Machine.Histories.{after_entry, is_allowed, is_legal}
use Rattle.zone_machine.specs.Machine.Pools.{allowed, allowed_of, fits, fits_of, pools_of}
use Rattle.zone_machine.specs.Machine.{decide, need, need_of, subject}
use Rattle.zone_views.proofs.Purge.{begins}
use Rattle.zone_views.specs.Numbers.{is_small}

-- a number that is found is one of those that are looked at
record Among (from count n : ℕ) : Type 0 where
  low : from ≤ n
  high : n < from + count

among : (used : ℕ → Bool) (from count n : ℕ) → first_free used from count ≡ Some n → Among from count n
unfolding first_free
among used from zero n h = cc
among used from (suc count) n h = at_test (used from) h (among used (from + 1) count n)
  where
    at_test : (b : Bool) → elim b as (λ b. Option ℕ) [ true ↦ first_free used (from + 1) count | false ↦ Some from ] ≡ Some n
        → (first_free used (from + 1) count ≡ Some n → Among (from + 1) count n) → Among from (suc count) n
    at_test true h later = let f = later h in record { low = omega (arith, f.low); high = omega (arith, f.high) }
    at_test false h later = let same : from ≡ n = cc in record { low = omega (arith, same); high = omega (arith, same) }

next-most : (used : ℕ → Bool) (low high last n : ℕ) → low ≤ high + 1 → next_free used low high last ≡ Some n → n ≤ high
next-most used low high last n some h = at_upper (first_free used (last + 1) (high - last)) refl h
  where
    at_upper : (upper : Option ℕ) → first_free used (last + 1) (high - last) ≡ upper → or_else upper (first_free used low (high + 1 - low)) ≡ Some n → n ≤ high
    at_upper (Some x) e h = let f = among used (last + 1) (high - last) n (e ∙ h) in omega (arith, f.low, f.high)
    at_upper None e h = let f = among used low (high + 1 - low) n h in omega (arith, some, f.low, f.high)

of-numbered : (pool : Pool) (o : Option ℕ) (n : ℕ) → numbered pool o ≡ Number n → o ≡ Some n
of-numbered pool None n h = cc
of-numbered pool (Some m) n h = let same : m ≡ n = cc in ap Some same

-- the greatest number that comes with each thing
abbrev most : Comes → ℕ
most (A_process p) = 29999
most (An_id i) = 9999
most (A_record row) = 4294967295
most (A_claim c) = 0
most No_thing = 0

-- what the pools say
module _ (P : Pools) (z : Name) (n : ℕ) where
  of-serial : (size : ℕ → ℕ) (room : Bool) → has_room P z size (P.serial + 1) ≡ room → (if room then Number (P.serial + 1) else Denied Store) ≡ Number n → n ≤ 4294967295
  of-serial size true e h =
      let same : P.serial + 1 ≡ n = cc in
      let less : P.serial < SERIAL_MAX = ltb-true P.serial SERIAL_MAX (and_parts (has_serial P) (P.may_store z (size (P.serial + 1))) e).0 in
      omega (arith, same, less)
  of-serial size false e h = cc

  of-path : (size : ℕ → ℕ) (taken room : Bool) → has_room P z size (P.serial + 1) ≡ room
      → elim (if taken then Denied Paths else Yes) as (λ g. Grant) [
        | Denied pool ↦ Denied pool
        | g ↦ elim (if room then Number (P.serial + 1) else Denied Store) as (λ g. Grant) [ Denied pool ↦ Denied pool | g ↦ g ]
      ] ≡ Number n → n ≤ 4294967295
  of-path size true room e h = cc
  of-path size false true e h = of-serial size true e h
  of-path size false false e h = cc

  of-zone : (size : ℕ → ℕ) (place taken room : Bool) → has_room P z size (P.serial + 1) ≡ room
      → elim (if place then Yes else Denied Zones) as (λ g. Grant) [
        | Denied pool ↦ Denied pool
        | g ↦ elim (if taken then Denied Paths else Yes) as (λ g. Grant) [
          | Denied pool ↦ Denied pool
          | g ↦ elim (if room then Number (P.serial + 1) else Denied Store) as (λ g. Grant) [ Denied pool ↦ Denied pool | g ↦ g ]
        ]
      ] ≡ Number n → n ≤ 4294967295
  of-zone size false taken room e h = cc
  of-zone size true taken room e h = of-path size taken room e h

  of-item : (pool : Pool) (b : Bool) → (if b then Yes else Denied pool) ≡ Number n → n ≤ 0
  of-item pool true h = cc
  of-item pool false h = cc

  said-most : (c : Comes) (asked : List Asked) → is_asked_for c asked ≡ true → said_by_all P z asked Nothing ≡ Number n → n ≤ most c
  said-most (A_process p) (A_pid ∷ []) a h = next-most P.pid_used PID_MIN PID_MAX P.last_pid n (omega arith) (of-numbered Pids (next_free P.pid_used PID_MIN PID_MAX P.last_pid) n (sym (said_one P z A_pid) ∙ h))
  said-most (An_id i) (A_zid ∷ []) a h = next-most P.zid_used ZID_MIN ZID_MAX P.last_zid n (omega arith) (of-numbered Zids (next_free P.zid_used ZID_MIN ZID_MAX P.last_zid) n (sym (said_one P z A_zid) ∙ h))
  said-most (A_record row) (A_serial size ∷ []) a h = of-serial size (has_room P z size (P.serial + 1)) refl (sym (said_one P z (A_serial size)) ∙ h)
  said-most (A_record row) (A_path path ∷ A_serial size ∷ []) a h = of-path size (P.path_taken z path) (has_room P z size (P.serial + 1)) refl h
  said-most (A_record row) (A_zone ∷ A_path path ∷ A_serial size ∷ []) a h = of-zone size (has_place P) (P.path_taken z path) (has_room P z size (P.serial + 1)) refl h
  said-most (A_claim c) (An_item pool item ∷ []) a h = of-item pool (P.may_hold z pool item) (sym (said_one P z (An_item pool item)) ∙ h)
  said-most No_thing (A_source source ∷ []) a h = of-item Source (P.may_clone source) (sym (said_one P z (A_source source)) ∙ h)
  said-most c asked a h = absurd (false≢true a)

  -- what fits
  fit-pid : (c : Comes) (asked : List Asked) → is_asked_for c asked ≡ true → list_any (is_pool Pids) asked ≡ true → fits_asked P z asked (Number n) ≡ true → n ≤ 29999
  fit-pid (A_process p) (A_pid ∷ []) a any h = let both = and_parts (nat_le PID_MIN n && nat_le n PID_MAX) (not (P.pid_used n)) (and_parts _ true h).0 in leb-true n 29999 (and_parts (nat_le PID_MIN n) (nat_le n PID_MAX) both.0).1
  fit-pid (A_claim c) (An_item pool item ∷ []) a any h = absurd (false≢true h)
  fit-pid (An_id i) (A_zid ∷ []) a any h = absurd (false≢true any)
  fit-pid (A_record row) (A_serial size ∷ []) a any h = absurd (false≢true any)
  fit-pid (A_record row) (A_path path ∷ A_serial size ∷ []) a any h = absurd (false≢true any)
  fit-pid (A_record row) (A_zone ∷ A_path path ∷ A_serial size ∷ []) a any h = absurd (false≢true any)
  fit-pid No_thing (A_source source ∷ []) a any h = absurd (false≢true any)
  fit-pid c asked a any h = absurd (false≢true a)

  fit-zid : (c : Comes) (asked : List Asked) → is_asked_for c asked ≡ true → list_any (is_pool Zids) asked ≡ true → fits_asked P z asked (Number n) ≡ true → n ≤ 9999
  fit-zid (An_id i) (A_zid ∷ []) a any h = let both = and_parts (nat_le ZID_MIN n && nat_le n ZID_MAX) (not (P.zid_used n)) (and_parts _ true h).0 in leb-true n 9999 (and_parts (nat_le ZID_MIN n) (nat_le n ZID_MAX) both.0).1
  fit-zid (A_claim c) (An_item pool item ∷ []) a any h = absurd (false≢true h)
  fit-zid (A_process p) (A_pid ∷ []) a any h = absurd (false≢true any)
  fit-zid (A_record row) (A_serial size ∷ []) a any h = absurd (false≢true any)
  fit-zid (A_record row) (A_path path ∷ A_serial size ∷ []) a any h = absurd (false≢true any)
  fit-zid (A_record row) (A_zone ∷ A_path path ∷ A_serial size ∷ []) a any h = absurd (false≢true any)
  fit-zid No_thing (A_source source ∷ []) a any h = absurd (false≢true any)
  fit-zid c asked a any h = absurd (false≢true a)

-- what asks a pool of numbers has no greater one than the pool
pid-most : (c : Comes) (asked : List Asked) → is_asked_for c asked ≡ true → list_any (is_pool Pids) asked ≡ true → most c ≤ 29999
pid-most (A_process p) (A_pid ∷ []) a any = omega arith
pid-most (A_claim c) (An_item pool item ∷ []) a any = omega arith
pid-most (An_id i) (A_zid ∷ []) a any = absurd (false≢true any)
pid-most (A_record row) (A_serial size ∷ []) a any = absurd (false≢true any)
pid-most (A_record row) (A_path path ∷ A_serial size ∷ []) a any = absurd (false≢true any)
pid-most (A_record row) (A_zone ∷ A_path path ∷ A_serial size ∷ []) a any = absurd (false≢true any)
pid-most No_thing (A_source source ∷ []) a any = absurd (false≢true any)
pid-most c asked a any = absurd (false≢true a)

zid-most : (c : Comes) (asked : List Asked) → is_asked_for c asked ≡ true → list_any (is_pool Zids) asked ≡ true → most c ≤ 9999
zid-most (An_id i) (A_zid ∷ []) a any = omega arith
zid-most (A_claim c) (An_item pool item ∷ []) a any = omega arith
zid-most (A_process p) (A_pid ∷ []) a any = absurd (false≢true any)
zid-most (A_record row) (A_serial size ∷ []) a any = absurd (false≢true any)
zid-most (A_record row) (A_path path ∷ A_serial size ∷ []) a any = absurd (false≢true any)
zid-most (A_record row) (A_zone ∷ A_path path ∷ A_serial size ∷ []) a any = absurd (false≢true any)
zid-most No_thing (A_source source ∷ []) a any = absurd (false≢true any)
zid-most c asked a any = absurd (false≢true a)

least-most : (c : Comes) → most c ≤ 4294967295
least-most (A_process p) = omega arith
least-most (An_id i) = omega arith
least-most (A_record row) = omega arith
least-most (A_claim c) = omega arith
least-most No_thing = omega arith

-- a number that is given: by the pools, or as it is stated
abbrev Given : Pools → Name → List Asked → ℕ → Type 0
Given P z asked n = (said_by_all P z asked Nothing ≡ Number n) ⊎ (fits_asked P z asked (Number n) ≡ true)

module _ (P : Pools) (z : Name) (n : ℕ) where
  given-pid : (d : Decision) → asks_rightly d ≡ true → list_any (is_pool Pids) (asked_of d) ≡ true → Given P z (asked_of d) n → n ≤ 29999
  given-pid (Just e) a any h = absurd (false≢true any)
  given-pid (Ask c asked denied given) a any (inl h) = let le = said-most P z n c asked a h in let top = pid-most c asked a any in omega (arith, le, top)
  given-pid (Ask c asked denied given) a any (inr h) = fit-pid P z n c asked a any h

  given-zid : (d : Decision) → asks_rightly d ≡ true → list_any (is_pool Zids) (asked_of d) ≡ true → Given P z (asked_of d) n → n ≤ 9999
  given-zid (Just e) a any h = absurd (false≢true any)
  given-zid (Ask c asked denied given) a any (inl h) = let le = said-most P z n c asked a h in let top = zid-most c asked a any in omega (arith, le, top)
  given-zid (Ask c asked denied given) a any (inr h) = fit-zid P z n c asked a any h

  given-any : (d : Decision) → asks_rightly d ≡ true → said_by_all P z (asked_of d) Nothing ≡ Number n → n ≤ 4294967295
  given-any (Just e) a h = cc
  given-any (Ask c asked denied given) a h = let le = said-most P z n c asked a h in let top = least-most c in omega (arith, le, top)

-- of each subject's events
module _ (S : State) (e : Event) (n : ℕ) where
  pid-of : (s : Subject) → list_any (is_pool Pids) (need_of s S e) ≡ true → (allowed_of s S e ≡ Number n) ⊎ (fits_of s S e (Number n) ≡ true) → n ≤ 29999
  pid-of (Zone z) any h = given-pid (pools_of S) z n (decide (view z S) e) (asks-decide (view z S) e) any h
  pid-of Global any h = absurd (false≢true any)
  pid-of Whole any h = absurd (false≢true any)

  zid-of : (s : Subject) → list_any (is_pool Zids) (need_of s S e) ≡ true → (allowed_of s S e ≡ Number n) ⊎ (fits_of s S e (Number n) ≡ true) → n ≤ 9999
  zid-of (Zone z) any h = given-zid (pools_of S) z n (decide (view z S) e) (asks-decide (view z S) e) any h
  zid-of Global any h = absurd (false≢true any)
  zid-of Whole any h = absurd (false≢true any)

  any-of : (s : Subject) → allowed_of s S e ≡ Number n → n ≤ 4294967295
  any-of (Zone z) h = given-any (pools_of S) z n (decide (view z S) e) (asks-decide (view z S) e) h
  any-of Global h = cc
  any-of Whole h = cc

  pub small-pid : list_any (is_pool Pids) (need S e) ≡ true → (allowed S e ≡ Number n) ⊎ (fits S e (Number n) ≡ true) → n ≤ 29999
  unfolding need allowed fits
  small-pid any h = pid-of (subject S e) any h

  pub small-zid : list_any (is_pool Zids) (need S e) ≡ true → (allowed S e ≡ Number n) ⊎ (fits S e (Number n) ≡ true) → n ≤ 9999
  unfolding need allowed fits
  small-zid any h = zid-of (subject S e) any h

  pub small-any : allowed S e ≡ Number n → n ≤ 4294967295
  unfolding allowed
  small-any h = any-of (subject S e) h

-- so the grants of a legal history are small
pub small-legal : (S : State) (h : List Entry) → is_legal S h ≡ true → list_all (λ entry. is_small entry.grant) h ≡ true
small-legal S [] is = refl
small-legal S (e ∷ h) is =
    let parts = begins is_allowed S e h is in
    and_from (is_small e.grant) _ (at_grant e.grant (sym ((grant-Decides e.grant (allowed S e.event)).0 parts.permitted))) (small-legal (after_entry S e) h parts.rest)
  where
    at_grant : (g : Grant) → allowed S e.event ≡ g → is_small g ≡ true
    at_grant (Number n) same = le-leb n 4294967295 (small-any S e.event n same)
    at_grant g same = refl

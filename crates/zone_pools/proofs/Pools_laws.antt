-- What the pools say, one after another, fits.
use Rattle.std.proofs.Common.{◌≡◌, ◌∷◌, ◌+◌, ◌-◌, ◌<◌, ◌≤◌, ◌&&◌, [], ℕ, zero, suc, List, Bool, true, false, Option, Some, None, arith, refl, ◌∙◌}
use Rattle.std.specs.Prelude.{nat_le, not, if◌then◌else◌}
use Rattle.std.proofs.lemmas.Bool.{and_from, le-leb, not_from_false}
use Rattle.zn_base.specs.Names.{Name}
use Rattle.zone_pools.specs.Asked.{A_path, A_pid, A_serial, A_source, A_zid, A_zone, An_item, Asked}
use Rattle.zone_pools.specs.Pools.{Pools, first_free, fits_asked, has_place, has_room, next_free, numbered, or_else, said_by, said_by_all}
use Rattle.zone_pools.specs.declared.grant.Grant.{Grant}
use Rattle.zone_pools.specs.declared.grant.Grant.TheVariants.{Nothing, Number, Yes, Denied}
use Rattle.zone_pools.proofs.Same_laws.{pool-Decides}
use Rattle.zone_pools.specs.declared.grant.Pool.{Pool}
use Rattle.zone_pools.specs.declared.grant.Pool.TheVariants.{Pids, Zids, Zones, Paths, Store, Source}
use Rattle.zone_pools.specs.declared.limits.TheConstants.{PID_MAX, PID_MIN, ZID_MAX, ZID_MIN}

-- one pool alone
pub said_one : (P : Pools) (z : Name) (a : Asked) → said_by_all P z (a ∷ []) Nothing ≡ said_by P z a
said_one P z a = of_grant (said_by P z a)
  where
    of_grant : (g : Grant) → elim g as (λ g. Grant) [ Denied pool ↦ Denied pool | g ↦ g ] ≡ g
    of_grant Nothing = refl
    of_grant (Number n) = refl
    of_grant Yes = refl
    of_grant (Denied pool) = refl

-- a number that is found lies in the range, and isn't used
pub record Free (used : ℕ → Bool) (low high n : ℕ) : Type 0 where
  pub from : low ≤ n
  pub below : n < high
  pub unused : used n ≡ false

found : (used : ℕ → Bool) (from count n : ℕ) → first_free used from count ≡ Some n → Free used from (from + count) n
unfolding first_free
found used from zero n h = cc
found used from (suc count) n h = at_test (used from) refl h (found used (from + 1) count n)
  where
    at_test : (b : Bool) → used from ≡ b → elim b as (λ b. Option ℕ) [ true ↦ first_free used (from + 1) count | false ↦ Some from ] ≡ Some n
        → (first_free used (from + 1) count ≡ Some n → Free used (from + 1) (from + 1 + count) n) → Free used from (from + suc count) n
    at_test true e h later = let f = later h in record { from = omega (arith, f.from); below = omega (arith, f.below); unused = f.unused }
    at_test false e h later = let same : from ≡ n = cc in record { from = omega (arith, same); below = omega (arith, same); unused = rw (← same) e }

-- the next free number lies between the lowest and the highest
next-found : (used : ℕ → Bool) (low high last n : ℕ) → low ≤ last + 1 → next_free used low high last ≡ Some n → Free used low (high + 1) n
next-found used low high last n above h = at_upper (first_free used (last + 1) (high - last)) refl h
  where
    at_upper : (upper : Option ℕ) → first_free used (last + 1) (high - last) ≡ upper → or_else upper (first_free used low (high + 1 - low)) ≡ Some n → Free used low (high + 1) n
    at_upper (Some x) e h = let f = found used (last + 1) (high - last) n (e ∙ h) in record { from = omega (arith, above, f.from); below = omega (arith, f.from, f.below); unused = f.unused }
    at_upper None e h = let f = found used low (high + 1 - low) n h in record { from = f.from; below = omega (arith, f.from, f.below); unused = f.unused }

free-fits : (used : ℕ → Bool) (low high n : ℕ) → Free used low (high + 1) n → (nat_le low n && nat_le n high && not (used n)) ≡ true
free-fits used low high n f =
    and_from _ _ (and_from _ _ (le-leb low n f.from) (le-leb n high (omega (arith, f.below)))) (not_from_false (used n) f.unused)

-- what the pools say fits. A last process number of 0 would let the number 1 be given
fits-pid : (P : Pools) (z : Name) (found : Option ℕ) → next_free P.pid_used PID_MIN PID_MAX P.last_pid ≡ found → 1 ≤ P.last_pid → fits_asked P z (A_pid ∷ []) (numbered Pids found) ≡ true
fits-pid P z None e last = refl
fits-pid P z (Some n) e last = and_from _ _ (free-fits P.pid_used PID_MIN PID_MAX n (next-found P.pid_used PID_MIN PID_MAX P.last_pid n (omega (arith, last)) e)) refl

fits-zid : (P : Pools) (z : Name) (found : Option ℕ) → next_free P.zid_used ZID_MIN ZID_MAX P.last_zid ≡ found → fits_asked P z (A_zid ∷ []) (numbered Zids found) ≡ true
fits-zid P z None e = refl
fits-zid P z (Some n) e = and_from _ _ (free-fits P.zid_used ZID_MIN ZID_MAX n (next-found P.zid_used ZID_MIN ZID_MAX P.last_zid n (omega arith) e)) refl

fits-serial : (P : Pools) (z : Name) (size : ℕ → ℕ) (room : Bool) → has_room P z size (P.serial + 1) ≡ room → fits_asked P z (A_serial size ∷ []) (if room then Number (P.serial + 1) else Denied Store) ≡ true
fits-serial P z size true e = and_from _ _ (and_from _ _ (le-leb 1 (P.serial + 1) (omega arith)) e) refl
fits-serial P z size false e = refl

-- the pools of a new zone, by whether each of them has room for it
fits-zone : (P : Pools) (z : Name) (path : List ℕ) (size : ℕ → ℕ) (place taken room : Bool) → has_place P ≡ place → has_room P z size (P.serial + 1) ≡ room
    → fits_asked P z (A_zone ∷ A_path path ∷ A_serial size ∷ []) (elim (if place then Yes else Denied Zones) as (λ g. Grant) [
      | Denied pool ↦ Denied pool
      | g ↦ elim (if taken then Denied Paths else Yes) as (λ g. Grant) [
        | Denied pool ↦ Denied pool
        | g ↦ elim (if room then Number (P.serial + 1) else Denied Store) as (λ g. Grant) [ Denied pool ↦ Denied pool | g ↦ g ]
      ]
    ]) ≡ true
fits-zone P z path size false taken room a b = refl
fits-zone P z path size true true room a b = refl
fits-zone P z path size true false false a b = refl
fits-zone P z path size true false true a b = and_from _ _ a (fits-serial P z size true b)

pub pid-fits : (P : Pools) (z : Name) → 1 ≤ P.last_pid → fits_asked P z (A_pid ∷ []) (said_by_all P z (A_pid ∷ []) Nothing) ≡ true
pid-fits P z last = rw (said_one P z A_pid) (fits-pid P z (next_free P.pid_used PID_MIN PID_MAX P.last_pid) refl last)

pub zid-fits : (P : Pools) (z : Name) → fits_asked P z (A_zid ∷ []) (said_by_all P z (A_zid ∷ []) Nothing) ≡ true
zid-fits P z = rw (said_one P z A_zid) (fits-zid P z (next_free P.zid_used ZID_MIN ZID_MAX P.last_zid) refl)

pub serial-fits : (P : Pools) (z : Name) (size : ℕ → ℕ) → fits_asked P z (A_serial size ∷ []) (said_by_all P z (A_serial size ∷ []) Nothing) ≡ true
serial-fits P z size = rw (said_one P z (A_serial size)) (fits-serial P z size (has_room P z size (P.serial + 1)) refl)

pub zone-fits : (P : Pools) (z : Name) (path : List ℕ) (size : ℕ → ℕ) → fits_asked P z (A_zone ∷ A_path path ∷ A_serial size ∷ []) (said_by_all P z (A_zone ∷ A_path path ∷ A_serial size ∷ []) Nothing) ≡ true
zone-fits P z path size = fits-zone P z path size (has_place P) (P.path_taken z path) (has_room P z size (P.serial + 1)) refl refl

-- a record that asks for a path, as a move does
path_serial : (P : Pools) (z : Name) (path : List ℕ) (size : ℕ → ℕ) (taken room : Bool) → has_room P z size (P.serial + 1) ≡ room
    → fits_asked P z (A_path path ∷ A_serial size ∷ []) (elim (if taken then Denied Paths else Yes) as (λ g. Grant) [
      | Denied pool ↦ Denied pool
      | g ↦ elim (if room then Number (P.serial + 1) else Denied Store) as (λ g. Grant) [ Denied pool ↦ Denied pool | g ↦ g ]
    ]) ≡ true
path_serial P z path size true room b = refl
path_serial P z path size false false b = refl
path_serial P z path size false true b = fits-serial P z size true b

pub path-fits : (P : Pools) (z : Name) (path : List ℕ) (size : ℕ → ℕ) → fits_asked P z (A_path path ∷ A_serial size ∷ []) (said_by_all P z (A_path path ∷ A_serial size ∷ []) Nothing) ≡ true
path-fits P z path size = path_serial P z path size (P.path_taken z path) (has_room P z size (P.serial + 1)) refl

fits_item : (P : Pools) (z : Name) (pool : Pool) (item : List ℕ) (b : Bool) → P.may_hold z pool item ≡ b → fits_asked P z (An_item pool item ∷ []) (if b then Yes else Denied pool) ≡ true
fits_item P z pool item true e = and_from _ _ e refl
fits_item P z pool item false e = rw ((pool-Decides pool pool).1 refl) refl

pub item-fits : (P : Pools) (z : Name) (pool : Pool) (item : List ℕ) → fits_asked P z (An_item pool item ∷ []) (said_by_all P z (An_item pool item ∷ []) Nothing) ≡ true
item-fits P z pool item = rw (said_one P z (An_item pool item)) (fits_item P z pool item (P.may_hold z pool item) refl)

fits_source : (P : Pools) (z source : Name) (b : Bool) → fits_asked P z (A_source source ∷ []) (if b then Yes else Denied Source) ≡ true
fits_source P z source true = refl
fits_source P z source false = refl

pub source-fits : (P : Pools) (z source : Name) → fits_asked P z (A_source source ∷ []) (said_by_all P z (A_source source ∷ []) Nothing) ≡ true
source-fits P z source = rw (said_one P z (A_source source)) (fits_source P z source (P.may_clone source))

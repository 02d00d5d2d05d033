-- What other zones may ask: which items are declared, and which zone holds each.
use Rattle.std.specs.Prelude.{◌≡◌, ℕ, List, [], ◌∷◌, ◌++◌, Option, Some, None, Bool, true, false, ◌&&◌, bytes_eq, is_some, nat_lt, Result, Ok, Err, if◌then◌else◌}
use Rattle.std.specs.List.{count_by}
use Rattle.zn_base.specs.Names.{Name}
use Rattle.zone_pools.specs.Owners.{Holders, is_owner, owner}
use Rattle.zone_pools.specs.declared.grant.Grant.{Grant}
use Rattle.zone_pools.specs.declared.grant.Grant.TheVariants.{Yes, Denied}
use Rattle.datalink_table.specs.Claims.{each_once, holds, is_of, pool_of, same_claim}
use Rattle.datalink_table.specs.declared.claims.Claim.{Claim}
use Rattle.datalink_table.specs.declared.claims.ClaimKind.{ClaimKind}
use Rattle.datalink_table.specs.declared.faults.ClaimFault.{ClaimFault}
use Rattle.datalink_table.specs.declared.faults.ClaimFault.TheVariants.{Duplicate, TooMany, Denied as Refused}
use Rattle.datalink_table.specs.declared.limits.TheConstants.{ITEMS_MAX}

pub record Shared : Type 0 where
  -- in order of declaration
  pub declared : List Claim
  -- how many more are declared without memory
  pub room : ℕ
  pub holders : Holders Claim

-- the zone that holds an item
abbrev pub holder : Claim → Shared → Option Name
holder c s = owner same_claim s.holders c

abbrev pub is_held : Claim → Shared → Bool
is_held c s = is_some (holder c s)

-- declarations
abbrev pub is_declared : Claim → Shared → Bool
is_declared c s = holds c s.declared

abbrev pub count_of : ClaimKind → Shared → ℕ
count_of kind s = count_by (is_of kind) s.declared

abbrev pub declare_answer : Claim → Shared → Result (Unit {0}) ClaimFault
declare_answer c s =
    if is_declared c s then Err Duplicate
    else if nat_lt (count_of c.kind s) ITEMS_MAX then Ok tt
    else Err (TooMany ITEMS_MAX)

-- an item is declared from now on, and nothing else changes
pub record Declares (c : Claim) (s t : Shared) : Type 0 where
  pub declared : t.declared ≡ s.declared ++ c ∷ []
  pub holders : (d : Claim) → holder d t ≡ holder d s

-- whether a zone may hold what this one holds, or what nobody does
abbrev pub may_hold : Name → Option Name → Bool
may_hold z None = true
may_hold z (Some y) = bytes_eq z y

-- whether a zone may claim an item: it is declared, and no other zone holds it
abbrev pub allows : Name → Claim → Shared → Bool
allows z c s = is_declared c s && may_hold z (holder c s)

abbrev pub ask_answer : Name → Claim → Shared → Grant
ask_answer z c s = if allows z c s then Yes else Denied (pool_of c.kind)

abbrev pub claim_answer : Name → Claim → Shared → Result (Unit {0}) ClaimFault
claim_answer z c s = if allows z c s then Ok tt else Err (Refused (pool_of c.kind))

-- the shared part is as it was, but for room
pub record Alike (s t : Shared) : Type 0 where
  pub declared : t.declared ≡ s.declared
  pub holders : (c : Claim) → holder c t ≡ holder c s

-- z holds an item from now on, and nothing else changes
pub record Takes (z : Name) (c : Claim) (s t : Shared) : Type 0 where
  pub declared : t.declared ≡ s.declared
  pub holders : (d : Claim) → holder d t ≡ (if same_claim c d then Some z else holder d s)

abbrev pub is_that : Option Claim → Claim → Bool
is_that None d = false
is_that (Some c) d = same_claim c d

-- an item, if there is one, is nobody's from now on, and nothing else changes
pub record Frees (o : Option Claim) (s t : Shared) : Type 0 where
  pub declared : t.declared ≡ s.declared
  pub holders : (d : Claim) → holder d t ≡ (if is_that o d then None else holder d s)

-- the shared part names z as the holder of just what z claimed, and z claimed each once
pub record Agree (z : Name) (cs : List Claim) (s : Shared) : Type 0 where
  pub held : (c : Claim) → holds c cs ≡ is_owner z (holder c s)
  pub once : each_once cs ≡ true

-- each zone's claims agree with the shared part
abbrev pub AllAgree : (Name → List Claim) → Shared → Type 0
AllAgree cells s = (z : Name) → Agree z (cells z) s

-- z has these claims from now on, and each other zone what it had
abbrev pub with_cell : Name → List Claim → (Name → List Claim) → Name → List Claim
with_cell z cs cells y = if bytes_eq z y then cs else cells y

-- what is held is declared
abbrev pub HeldAreDeclared : Shared → Type 0
HeldAreDeclared s = (c : Claim) → is_held c s ≡ true → is_declared c s ≡ true

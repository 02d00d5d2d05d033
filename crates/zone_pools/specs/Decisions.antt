-- What a case decides: it is done, or it asks pools for something that comes with the grant. E is what a case does and
-- says, C what comes and takes its number from the grant, and A what came, with its number.
use Rattle.std.specs.Prelude.{ℕ, List, [], Option, Some, None, Result, Ok as Right, Err}
use Rattle.zone_pools.specs.Asked.{Asked}
use Rattle.zone_pools.specs.declared.grant.Grant.{Grant}
use Rattle.zone_pools.specs.declared.grant.Grant.TheVariants.{Nothing, Number, Yes, Denied}
use Rattle.zone_pools.specs.declared.grant.Pool.{Pool}
use Rattle.zone_pools.specs.declared.grant.Pool.TheVariants.{Store}

pub data Decision (C E : Type 0) : Type 0 where
  Just : E → Decision C E
  Ask : C → List Asked → (denied : Pool → E) → (given : ℕ → E) → Decision C E

-- what a decision asks of the pools, in order
abbrev pub asked_of : {C E : Type 0} → Decision C E → List Asked
asked_of (Just e) = []
asked_of (Ask c asked denied given) = asked

-- what a decision does under a grant: what came, if anything, and then the effect
pub record Act (A E : Type 0) : Type 0 where
  pub came : Option A
  pub effect : E

-- the number that a grant gives, else the pool that denies it: where nothing was granted that counts as a denial
abbrev pub number_in : Grant → Result ℕ Pool
number_in (Number n) = Right n
number_in Yes = Right 0
number_in (Denied pool) = Err pool
number_in Nothing = Err Store

abbrev pub granted : {C A E : Type 0} → (C → ℕ → A) → C → (Pool → E) → (ℕ → E) → Result ℕ Pool → Act A E
granted arrived c denied given (Right n) = record { came = Some (arrived c n); effect = given n }
granted arrived c denied given (Err pool) = record { came = None; effect = denied pool }

-- by what comes with its number
abbrev pub act_of : {C A E : Type 0} → (C → ℕ → A) → Decision C E → Grant → Act A E
act_of arrived (Just e) g = record { came = None; effect = e }
act_of arrived (Ask c asked denied given) g = granted arrived c denied given (number_in g)

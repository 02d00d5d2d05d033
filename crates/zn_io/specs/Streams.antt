-- What a source has left and a sink holds, and when either may answer a fault.
use Rattle.std.specs.Prelude.{◌≡◌, ◌≤◌, ◌+◌, ◌-◌, ◌^◌, ◌⊎◌, ◌++◌, ℕ, List, length, take, min, Option, Result, OnErr}
use Rattle.std.specs.Option.{option_map}

-- a count that stands still at 2 ^ 64 - 1
abbrev pub one_more : ℕ → ℕ
one_more count = min (count + 1) (2 ^ 64 - 1)

-- a count of faults has risen, or stood at its end
abbrev pub Rose : ℕ → ℕ → Type 0
Rose before now = one_more before ≤ now

-- the count of faults never falls, and a fault is answered only where it rose
pub record HasCause {T E : Type 0} (before now : ℕ) (result : Result T E) : Type 0 where
  pub later : before ≤ now
  pub failed : OnErr result (Rose before now)

-- some bytes, and then what is known
abbrev pub before_known : List ℕ → Option (List ℕ) → Option (List ℕ)
before_known bytes known = option_map (λ known. bytes ++ known) known

-- what is known, and then some bytes
abbrev pub after_known : Option (List ℕ) → List ℕ → Option (List ℕ)
after_known known bytes = option_map (λ known. known ++ bytes) known

-- a front of a text was taken, and all of it where no fault was counted
pub record TakesFront (held holds : Option (List ℕ)) (before now : ℕ) (text : List ℕ) : Type 0 where
  pub count : ℕ
  pub taken : holds ≡ after_known held (take count text)
  pub whole : Rose before now ⊎ (length text ≤ count)

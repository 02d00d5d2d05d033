-- What a source and a sink in memory are, to contracts.
use Rattle.std.specs.Prelude.{ℕ, List}

-- the bytes left, the most that one call gives, the numbers of the calls that fail, counted from 1, and how many
-- calls and faults there were
pub record Supply : Type 0 where
  pub bytes : List ℕ
  pub piece : ℕ
  pub failing : List ℕ
  pub calls : ℕ
  pub faults : ℕ

-- the bytes taken, the most that are ever taken, the numbers of the calls that fail, counted from 1, and how many
-- calls and faults there were
pub record Store : Type 0 where
  pub bytes : List ℕ
  pub room : ℕ
  pub failing : List ℕ
  pub calls : ℕ
  pub faults : ℕ

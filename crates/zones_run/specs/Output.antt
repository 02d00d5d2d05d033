-- What the program writes, and its status.
use Rattle.std.specs.Prelude.{ℕ, List, [], length, Bool, nat_lt, ◌||◌}
use Rattle.zones_run.specs.Statuses.{status_done}

-- the status, and the whole text on standard output and on standard error
pub record Output : Type 0 where
  pub status : ℕ
  pub out : List ℕ
  pub err : List ℕ

abbrev pub written : List ℕ → Output
written text = record { status = status_done; out = text; err = [] }

-- line 200,001, and a line of more than 4,096 bytes
abbrev pub is_past_limit : ℕ → List ℕ → Bool
is_past_limit number line = nat_lt 200000 number || nat_lt 4096 (length line)

-- What the machine stands for once its store was opened.
use Rattle.std.specs.Prelude.{◌≡◌, ℕ, List, length}
use Rattle.brand_hooks.specs.Brands.{Tabled}
use Rattle.commit_journal.specs.Stored.{Rows, stored}
use Rattle.commit_journal.specs.declared.records.Commit.{Commit}
use Rattle.zone_machine.specs.Code.Cells.{Stands as Parts_stand}
use Rattle.zone_machine.specs.Machine.{opening, restarted}
use Rattle.zone_cases.specs.State.{State, bodies_of, bytes_used}
use Rattle.zone_machine.specs.declared.machine.Machine.{Machine}

-- a store has the bodies and the rows of some commits, as many records and as many bytes in use
pub record HasCommits (bodies : List (List ℕ)) (rows : Rows) (records used : ℕ) (R : List Commit) : Type 0 where
  pub bodies_are : bodies_of R ≡ bodies
  pub rows_are : stored R ≡ rows
  pub count : length R ≡ records
  pub bytes : bytes_used R ≡ used

-- the machine stands for a state, and its bank has the bodies of the state's commits
pub record StandsFor {D F : Type 0} (S : State) (m : Machine D F) : Type 0 where
  pub parts : Parts_stand S m.parts
  pub bodies : bodies_of S.commits ≡ m.bank.records

-- the machine begins with some commits
abbrev pub Begins : {D F : Type 0} → List Tabled → Machine D F → Type 0
Begins brands m = (R : List Commit) × StandsFor (opening brands R) m

-- after a restart in the state S, it begins with some commits, and with what was declared in S
abbrev pub BeginsAgain : {D F : Type 0} → State → Machine D F → Type 0
BeginsAgain S m = (R : List Commit) × StandsFor (restarted (record S { commits = R })) m

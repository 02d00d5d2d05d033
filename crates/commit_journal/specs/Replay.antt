-- One record taken in, and why bodies leave no zones.
use Rattle.std.specs.Prelude.{◌≡◌, ◌<◌, ℕ, List, length, IsTrue}
use Rattle.commit_journal.specs.declared.fault.StoreFault.{StoreFault}
use Rattle.commit_journal.specs.declared.fault.StoreFault.TheVariants.{Memory, NotAStore, BadRecord, DiskFault, BankFull, RecordForm}
use Rattle.commit_journal.specs.declared.records.Commit.{Commit}
use Rattle.commit_journal.specs.Bodies.{body_text, IsCommit}
use Rattle.commit_journal.specs.Journal.{IsFirstBad}
use Rattle.commit_journal.specs.Stored.{may_stand, with_commit, Rows}

-- the body says a commit that may come next, and it was applied
pub record TakesIn (body : List ℕ) (old new : Rows) : Type 0 where
  pub commit : Commit
  pub is : IsCommit commit
  pub text : body ≡ body_text commit
  pub may : IsTrue (may_stand commit.zone commit.stored old)
  pub applied : new ≡ with_commit commit old

-- memory is wanted only where there is a body
abbrev pub Stops : List (List ℕ) → StoreFault → Type 0
Stops bodies Memory = 0 < length bodies
Stops bodies (RecordForm serial) = IsFirstBad bodies serial
Stops bodies DiskFault = ⊥
Stops bodies BankFull = ⊥
Stops bodies (NotAStore place) = ⊥
Stops bodies (BadRecord place) = ⊥

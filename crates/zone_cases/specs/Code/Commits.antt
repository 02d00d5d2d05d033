-- What the code's judgement of a commit stands for, and who types a line.
use Rattle.std.specs.Prelude.{◌≡◌, ℕ, List, IsSome, IsSomeAnd, None, Option, Some}
use Rattle.zn_base.specs.Names.{Name}
use Rattle.zone_config.specs.declared.terms.Contents.{Contents}
use Rattle.zonecfg_scopes.specs.Edited.{Edited}
use Rattle.zone_pools.specs.Decisions.{Just}
use Rattle.commit_journal.specs.declared.records.Record.{Record}
use Rattle.zone_cases.specs.Session.Commits as commits
use Rattle.zone_cases.specs.Session.Commits.{Typist, goes, novelty_of, records, refuses, removes, telling}
use Rattle.zone_cases.specs.State.Decisions.{Decision}
use Rattle.zone_cases.specs.declared.cases.Novelty.{Novelty}
use Rattle.zone_cases.specs.declared.replies.Head.TheVariants.{Ok}
use Rattle.zone_cases.specs.declared.replies.Refusal.{Refusal}
use Rattle.zone_cases.specs.declared.session.commits.Hearer.{Hearer}
use Rattle.zone_cases.specs.declared.session.commits.Hearer.TheVariants.{ASession, OfItsOwn}
use Rattle.zone_cases.specs.declared.session.commits.Going.{Going}
use Rattle.zone_cases.specs.declared.session.commits.Going.TheVariants.{Alone, GoesOn, Leaves}
use Rattle.zone_cases.specs.declared.session.judging.Judged.{Judged}
use Rattle.zone_cases.specs.declared.session.judging.Judged.TheVariants.{Records, Refused, Same}

abbrev pub as_hearer : Hearer → commits.Hearer
as_hearer OfItsOwn = commits.Of_its_own
as_hearer ASession = commits.A_session

-- who types a line, by what its editor holds then
abbrev pub typist_by : Going → Edited → Typist
typist_by Alone e = commits.Alone
typist_by GoesOn e = commits.Goes_on e
typist_by Leaves e = commits.Leaves e

-- the decision that a judgement is of what is open
abbrev pub judged_decision : Judged → Name → Option Record → Option Contents → List (List ℕ) → Typist → Decision
judged_decision (Refused refusal) z stored config told t = Just (refuses t refusal told)
judged_decision Same z stored config told t = Just (telling (goes t) Ok told)
judged_decision (Records new) z stored (Some config) told t = records z stored config told t
judged_decision (Records new) z stored None told t = Just (telling (goes t) Ok told)

-- a zone is removed, unless that is refused
abbrev pub removes_unless : Option Refusal → List (List ℕ) → Typist → Decision
removes_unless None told t = removes told t
removes_unless (Some refusal) told t = Just (refuses t refusal told)

-- what is recorded is new as it says, and can be stored
abbrev pub IsOfNovelty : Judged → Option Record → Contents → Type 0
IsOfNovelty (Records new) stored config = new ≡ novelty_of stored config
IsOfNovelty judged stored config = Unit {0}

abbrev pub IsStorableIf : Judged → Contents → Type 0
IsStorableIf (Records new) config = IsSome config.zonepath
IsStorableIf judged config = Unit {0}

-- what is recorded is open, new as it says, and can be stored
pub record IsRecord (new : Novelty) (stored : Option Record) (config : Contents) : Type 0 where
  pub zonepath : IsSome config.zonepath
  pub novelty : new ≡ novelty_of stored config

abbrev pub IsRecordOf : Judged → Option Record → Option Contents → Type 0
IsRecordOf (Records new) stored config = IsSomeAnd config (IsRecord new stored)
IsRecordOf judged stored config = Unit {0}

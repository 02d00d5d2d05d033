-- The zones that commits in form leave are in stored states.
use Rattle.std.proofs.Common.{◌++◌, Bool, true, false, List, [], ◌∷◌, All, Option, Some, None, IfSome, IsTrue, cond, bytes_eq, sym, subst}
use Rattle.std.specs.List.{cons_option}
use Rattle.std.specs.Prelude.{unwrap_or}
use Rattle.std.proofs.lemmas.List.Elements.{All-cons, All-filter, All-head, All-nil, All-tail, All-weaker}
use Rattle.commit_journal.specs.Bodies.{IsCommit, IsRecord}
use Rattle.commit_journal.specs.Journal.{Leave}
use Rattle.commit_journal.specs.Store.{row_of}
use Rattle.commit_journal.specs.Stored.{Rows, from_first, is_removed, last_record, stored, without}
use Rattle.commit_journal.specs.declared.records.Commit.{Commit}
use Rattle.commit_journal.specs.declared.records.Record.{Record}
use Rattle.zn_base.specs.Names.{Name}
use Rattle.zn_base.specs.States.{is_stored}
use Rattle.zone_pools.specs.Firsts.{first_of}
use Rattle.zone_pools.specs.Owned_lists.{mine}
use Rattle.zone_pools.specs.declared.owned.Owned.{Owned}
use Rattle.zone_cases.specs.State.{bodies_of}
use Rattle.zones_run.specs.Resting.{CrashesLeaveStoredStates, HasStoredStates}

abbrev HasForm : Owned Record → Type 0
HasForm row = IsRecord row.it

either : (said : Option Record) (row : Record) → IfSome said IsRecord → IsRecord row → IsRecord (unwrap_or said row)
either None row said h = h
either (Some new) row said h = said

last_form : (row : Record) (z : Name) (commits : List Commit) → IsRecord row → All IsCommit commits → IsRecord (last_record row z commits)
last_form row z [] h all = h
last_form row z (c ∷ commits) h all = last_form (cond (bytes_eq z c.zone) (unwrap_or c.stored row) row) z commits (at_test (bytes_eq z c.zone)) (All-tail IsCommit c commits all)
  where
    at_test : (b : Bool) → IsRecord (cond b (unwrap_or c.stored row) row)
    at_test true = either c.stored row (All-head IsCommit c commits all).stored h
    at_test false = h

form_from : (said : Option Record) (z : Name) (later : List Commit) (rows : Rows) → IfSome said IsRecord → All IsCommit later → All HasForm rows → All HasForm (from_first said z later rows)
form_from None z later rows said all form = form
form_from (Some row) z later rows said all form = at_test (is_removed z later)
  where
    first : Owned Record
    first = record { zone = z; it = last_record row z later }

    at_test : (b : Bool) → All HasForm (cond b rows (first ∷ without z rows))
    at_test true = form
    at_test false = All-cons HasForm first (without z rows) (last_form row z later said all) (All-filter _ HasForm rows form)

form_stored : (commits : List Commit) → All IsCommit commits → All HasForm (stored commits)
form_stored [] all = All-nil HasForm
form_stored (c ∷ commits) all =
    let later = All-tail IsCommit c commits all in
    form_from c.stored c.zone commits (stored commits) (All-head IsCommit c commits all).stored later (form_stored commits later)

form_left : (commits : List Commit) → Leave (bodies_of commits) (stored commits) → All HasForm (stored commits)
form_left commits left = subst (λ (rows : Rows). All HasForm rows) (sym left.are) (form_stored left.commits left.say.each)

pub rest_left : (commits : List Commit) → Leave (bodies_of commits) (stored commits) → HasStoredStates commits
rest_left commits left = All-weaker HasForm (λ (row : Owned Record). IsTrue (is_stored row.it.state)) (λ row h. h.state) (stored commits) (form_left commits left)

-- what is stored of a zone is a record in form
of_zone : (z : Name) (rows : Rows) → All HasForm rows → IfSome (row_of z rows) IsRecord
of_zone z [] all = tt
of_zone z (row ∷ rows) all = at_test (bytes_eq z row.zone) (of_zone z rows (All-tail HasForm row rows all))
  where
    at_test : (b : Bool) → IfSome (row_of z rows) IsRecord → IfSome (first_of (cons_option (cond b (Some row.it) None) (mine z rows))) IsRecord
    at_test true more = All-head HasForm row rows all
    at_test false more = more

pub record_left : (z : Name) (commits : List Commit) → Leave (bodies_of commits) (stored commits) → IfSome (row_of z (stored commits)) IsRecord
record_left z commits left = of_zone z (stored commits) (form_left commits left)

pub crashes_rest : CrashesLeaveStoredStates
crashes_rest brands R h image f = rest_left (R ++ f.front) f.holds.leave

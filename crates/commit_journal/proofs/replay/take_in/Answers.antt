use Rattle.std.proofs.Common.{◌≡◌, false, sym, ◌∙◌, subst}
use Rattle.commit_journal.specs.declared.records.Commit.{Commit}
use Rattle.commit_journal.specs.Bodies.{body_text, IsCommit}
use Rattle.commit_journal.specs.Stored.{may_stand}
use Rattle.commit_journal.specs.Zones.{rows_of}
use Rattle.commit_journal.proofs.OneText.{one_commit}
use Rattle.commit_journal.proofs.replay.take_in.Goals as goal

pub returns-then-not-may_stand-clause-refused : goal.returns-then-not-may_stand-clause-refused
returns-then-not-may_stand-clause-refused c = λ refused d is text.
    let said : IsCommit c.in-Some.commit × (c.args.body.now ≡ body_text c.in-Some.commit) = rw c.in-Some.is at c.in_ok-commit.ensures.some in
    let same : c.in-Some.commit ≡ d = one_commit c.in-Some.commit d said.0 is (sym said.1 ∙ text) in
    let here : may_stand c.in-Some.commit.zone c.in-Some.commit.stored (rows_of c.args.zones.now.entries) ≡ false =
    rw (← c.as_ref.ensures.value) (sym c.may_stand.ensures ∙ c.if-not-may_stand.true) in
    subst (λ (x : Commit). may_stand x.zone x.stored (rows_of c.args.zones.now.entries) ≡ false) same here

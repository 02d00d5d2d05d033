use Rattle.zone_cases.proofs.session.commits.committed_row.Goals as goal

pub returns-in-Some : goal.returns-in-Some
returns-in-Some c = λ z told committer base. rw c.in-Some.is (c.changed_row.ensures z told committer base)

pub returns-in-None : goal.returns-in-None
returns-in-None c = λ z told committer base. rw c.in-None.is (c.new_row.ensures z told committer base)

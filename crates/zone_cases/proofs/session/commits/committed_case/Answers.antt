use Rattle.std.proofs.Common.{◌≡◌, rules}
use Rattle.zone_cases.proofs.session.commits.committed_case.Goals as goal

pub returns-clause-decides : goal.returns-clause-decides
returns-clause-decides c = λ d.
    let committed = c.in_ok-new.field-0.value in
    let novelty : committed.novelty ≡ c.args.novelty = search rules in
    let owner : committed.owner ≡ c.args.zone.now = search rules in
    let row : committed.row.value ≡ c.committed_row.result = search rules in
    let told : committed.told ≡ c.args.told = search rules in
    let committer : committed.committer ≡ c.args.committer = search rules in
    rw (novelty, owner, row, told, committer, c.requires.novelty) (c.committed_row.ensures c.args.zone.now c.args.told c.args.committer c.requires.base)

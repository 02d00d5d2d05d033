use Rattle.std.proofs.Common.{ap}
use Rattle.commit_journal.specs.declared.records.Record.{Record}
use Rattle.zone_cases.proofs.Made.{new_made}
use Rattle.zone_cases.proofs.session.commits.new_row.Goals as goal

pub returns : goal.returns
returns c = λ z told committer base.
    new_made told committer z c.new.result c.args.config (ap (λ (r : Record). r.state) c.new.ensures) (ap (λ (r : Record). r.config) c.new.ensures) base

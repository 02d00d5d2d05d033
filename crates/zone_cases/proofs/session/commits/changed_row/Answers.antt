use Rattle.std.proofs.Common.{◌∙◌, ap, sym}
use Rattle.std.specs.Prelude.{if◌then◌else◌}
use Rattle.commit_journal.specs.declared.records.Record.{Record}
use Rattle.zone_cases.specs.Code.Cases.{made}
use Rattle.zone_cases.specs.Session.Commits.{keeps_path}
use Rattle.zone_cases.specs.declared.cases.Novelty.TheVariants as novelty
use Rattle.zone_cases.proofs.Made.{changed_made}
use Rattle.zone_cases.proofs.session.commits.changed_row.Goals as goal

pub returns : goal.returns
returns c = λ z told committer base.
    let kept = keeps_path c.args.row.now c.args.config in
    changed_made told committer kept z (record c.args.row.now { config = c.args.config }) base
    ∙ ap (λ (r : Record). made (if kept then novelty.Nothing else novelty.Path) z r told committer)
    (sym (c.new.ensures ∙ ap (λ (r : Record). record r { config = c.args.config }) c.record-stored.ensures.same))

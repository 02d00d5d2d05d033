use Rattle.std.proofs.Common.{◌≡◌, ◌++◌, ◌==◌, ◌∙◌, ap, codes, length, ℕ}
use Rattle.std.specs.Fmt.{decimal}
use Rattle.std.specs.List.{count_by}
use Rattle.zone_machine.specs.Machine.Indexed.{index_of}
use Rattle.zones_run.specs.Bulk.{is_installed, is_running, refusals, rows_that, zones_that}
use Rattle.zones_run.proofs.Bulk_texts.{summary_put}
use Rattle.zones_run.proofs.Bulk_told.{marks_all, marks_refused, same_counts}
use Rattle.zones_run.proofs.bulk.summary_of.Goals as goal

pub returns : goal.returns
returns g c = λ entries S marked stands.
    let counts = c.count_zones-counts.result in
    let rows : c.deref.result.now ≡ index_of S.commits = c.deref.ensures.value ∙ c.in-Ok.ensures.ok S stands.parts in
    let events : length c.args.marks.now ≡ length entries = ap length marked ∙ marks_all entries in
    let refused : c.count_refused.result ≡ refusals entries = c.count_refused.ensures ∙ ap (count_by (λ (m : ℕ). m == 1)) marked ∙ marks_refused entries in
    let running : counts.running ≡ zones_that is_running S = c.count_zones-counts.ensures.running S stands ∙ ap (rows_that is_running S) rows in
    let installed : counts.installed ≡ zones_that is_installed S = c.count_zones-counts.ensures.installed S stands ∙ ap (rows_that is_installed S) rows in
    summary_put (codes "zones " ++ decimal c.args.zones) (codes "events " ++ decimal (length c.args.marks.now)) (codes "refused " ++ decimal c.count_refused.result) (codes "running " ++ decimal counts.running) (codes "installed " ++ decimal counts.installed) _ _ _ _ _ _
    c.new-text.ensures.items c.in_ok-push_count.ensures c.in_ok-push_count-2.ensures c.in_ok-push_count-3.ensures c.in_ok-push_count-4.ensures c.in_ok-push_count-5.ensures
    ∙ same_counts c.args.zones (length c.args.marks.now) c.count_refused.result counts.running counts.installed _ _ _ _ events refused running installed

use Rattle.std.proofs.Common.{◌∙◌, [], ◌∷◌, Some, not, bytes_eq, ap, drop, sym}
use Rattle.std.specs.Prelude.{if◌then◌else◌}
use Rattle.commit_journal.specs.declared.records.Record.{Record}
use Rattle.config_terms.specs.Fields.{path_text}
use Rattle.zone_config.specs.declared.terms.Contents.{Contents}
use Rattle.zone_pools.specs.Asked.{A_path}
use Rattle.zoneadmd_steps.proofs.Zonepaths.{asked_path, path_shown}
use Rattle.zoneadmd_steps.specs.Arrivals.{A_record, record_asked}
use Rattle.zoneadmd_steps.specs.Code.Desks.{as_job}
use Rattle.zoneadmd_steps.specs.Configs.{moved_record}
use Rattle.zoneadmd_steps.specs.Turns.{asking}
use Rattle.zoneadmd_steps.specs.declared.requests.Step.TheVariants.{Moved}
use Rattle.zoneadmd_steps.proofs.shared_cases.store_moved.Goals as goal

pub returns-clause-decides : goal.returns-clause-decides
returns-clause-decides c =
    let own = c.args.row.now in
    let is_new = c.is_other-is_new.result in
    let value = c.in_ok-moved.ensures.ok ∙ c.with_config.ensures in
    let other = c.is_other-is_new.ensures ∙ ap (λ p. not (bytes_eq p (path_text c.as_config.result.now.zonepath))) c.bytes.ensures.bytes ∙ ap (λ (own : Contents). not (bytes_eq c.args.path.now (path_text own.zonepath))) c.as_config.ensures ∙ ap (λ (r : Record). not (bytes_eq c.args.path.now (path_text r.config.zonepath))) c.deref.ensures in
    let asked = asked_path c.args.path.now own.config c.args.config is_new (record_asked (λ n. Some (moved_record c.args.config own n))) other (path_shown c.args.path.now own.config c.args.config c.requires) in
    λ d j.
    ap (λ asked. asking d (as_job j) (drop c.args.next j.steps) (A_record (λ n. Some (moved_record c.args.config own n))) asked [] (λ n. Moved)) asked
    ∙ ap (λ (r : Record). asking d (as_job j) (drop c.args.next j.steps) (A_record (λ n. Some (record r { revision = n }))) (if is_new then A_path (path_text r.config.zonepath) ∷ record_asked (λ n. Some (record r { revision = n })) ∷ [] else record_asked (λ n. Some (record r { revision = n })) ∷ []) [] (λ n. Moved)) (sym value)

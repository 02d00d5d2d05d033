use Rattle.std.proofs.Common.{◌∙◌, [], ◌∷◌, Some, ap, refl}
use Rattle.std.specs.Prelude.{if◌then◌else◌}
use Rattle.std.specs.Box.{with_value}
use Rattle.commit_journal.specs.declared.records.Record.{Record}
use Rattle.config_terms.specs.Fields.{path_text}
use Rattle.zone_pools.specs.Asked.{A_path}
use Rattle.zone_machine.proofs.Numbering.{asks-alike}
use Rattle.zone_cases.specs.State.Decisions.{effects, turned}
use Rattle.zoneadmd_steps.specs.Arrivals.{A_record, record_asked}
use Rattle.zoneadmd_steps.specs.declared.objects.changes.Came.TheVariants.{Moved}
use Rattle.zone_machine.proofs.machine.records.number.Goals as goal

pub returns-in-Turn-GoOn-Ask-Moved-default-clause-decision : goal.returns-in-Turn-GoOn-Ask-Moved-default-clause-decision
returns-in-Turn-GoOn-Ask-Moved-default-clause-decision c = λ d.
    let row = c.in-Turn-GoOn-Ask-Moved-default.row in
    let owner = c.in-Turn-GoOn-Ask-Moved-default.field-0-0-0-1 in
    let is_new = c.in-Turn-GoOn-Ask-Moved-default.field-0-0-0-2 in
    let new = c.set_revision.new.self in
    let same = c.set_revision.ensures ∙ ap (λ (r : Record). record r { revision = c.in-Ok.number }) c.deref_mut-in-Turn-GoOn-Ask-Moved-default.ensures.value in
    rw (c.in-Turn-GoOn-Ask-Moved-default.is, c.in-Turn-GoOn-Ask-Moved-default.field-0-is, c.in-Turn-GoOn-Ask-Moved-default.field-0-0-is, c.in-Turn-GoOn-Ask-Moved-default.field-0-0-0-is)
    (ap (effects turned) (asks-alike d d.job (Moved (with_value row new) owner is_new) (Moved row owner is_new) c.in-Turn-GoOn-Ask-Moved-default.field-0-0-1
    (ap (λ (r : Record). A_record (λ n. Some (record r { revision = n }))) same)
    (ap (λ (r : Record). if is_new then A_path (path_text r.config.zonepath) ∷ record_asked (λ n. Some (record r { revision = n })) ∷ [] else record_asked (λ n. Some (record r { revision = n })) ∷ []) same)
    refl refl))

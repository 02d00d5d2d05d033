use Rattle.std.proofs.Common.{◌≡◌, ◌≤◌, ◌∙◌, List, ℕ, Some, refl, subst, sym}
use Rattle.zone_machine.specs.Code.Openings.{StandsFor}
use Rattle.zone_machine.specs.Machine.{opening}
use Rattle.zone_machine.specs.Machine.Histories.{after}
use Rattle.zones_run.specs.Answering.{FindsAlways}
use Rattle.zones_run.specs.Bulk.{bulk_mode, bulk_run, bulk_text, summary_text}
use Rattle.zones_run.specs.Output.{Output}
use Rattle.zones_run.specs.Tracing.{run_of}
use Rattle.zones_run.proofs.Bulk_lines.{bulk_finds}
use Rattle.zones_run.proofs.Bulk_told.{bulked_low, is_low, marks_are, nothing_ran, recorded_as, settled, told_so}
use Rattle.zones_run.proofs.bulk.report_bulk.Goals as goal

pub returns-in-Err-clause-recorded : goal.returns-in-Err-clause-recorded
returns-in-Err-clause-recorded g c = λ brands R s is.
    nothing_ran c.args.zones brands R _ _ (g.D.Disk.view c.args.machine.now.bank.disk) (g.met.D.Disk.sound c.args.machine.now.bank.disk) is (λ a. cc)

pub returns-in-Ok-report_all-clause-told : goal.returns-in-Ok-report_all-clause-told
returns-in-Ok-report_all-clause-told g c = λ brands R s.
    let n = c.args.zones in
    let few = c.requires.few in
    let text : c.new-script.result ≡ bulk_text n = c.new-script.ensures ∙ c.in-Ok.ensures in
    let finds = subst (λ (script : List ℕ). FindsAlways bulk_mode (g.D.Disk.view c.args.machine.now.bank.disk) (Some script)) (sym text) (bulk_finds n (g.D.Disk.view c.args.machine.now.bank.disk) few) in
    let run = bulk_run n brands R in
    let S = after (opening brands R) run.entries in
    let complaint = c.in-Ok-trace_all.complaint in
    let marks = c.trace_all.new.out.bytes.items in
    let tells = settled n brands R complaint c.new-script.result c.new-marks.result.bytes.items marks text c.new-marks.ensures (c.in-Ok-trace_all.ensures.ran brands R s finds).0 in
    let stands = subst (λ (script : List ℕ). StandsFor (after (opening brands R) (run_of bulk_mode brands R script).entries) c.trace_all.new.machine) text (c.in-Ok-trace_all.ensures.stands brands R s finds (is_low n brands R complaint marks tells few)) in
    c.in-Ok-report_all.ensures run.entries S (c.deref.ensures.value ∙ marks_are n brands R complaint marks tells) stands ∙ told_so n brands R complaint marks tells few (summary_text n run.entries S)

pub returns-in-Ok-report_all-clause-low : goal.returns-in-Ok-report_all-clause-low
returns-in-Ok-report_all-clause-low g c =
    let begun = c.requires.stands in
    subst (λ (o : Output). o.status ≤ 1) (sym (returns-in-Ok-report_all-clause-told g c begun.0 begun.1.0 begun.1.1)) (bulked_low c.args.zones begun.0 begun.1.0)

pub returns-in-Ok-report_all-clause-recorded : goal.returns-in-Ok-report_all-clause-recorded
returns-in-Ok-report_all-clause-recorded g c = λ brands R s is.
    recorded_as c.args.zones brands R _ _ _ c.new-script.result _ _ (g.D.Disk.view c.args.machine.now.bank.disk) (g.D.Disk.view c.trace_all.new.machine.bank.disk) (c.new-script.ensures ∙ c.in-Ok.ensures) (c.in-Ok-trace_all.ensures.recorded brands R s is) (λ a. refl) (λ t. absurd (cc))

pub returns-in-Ok-trace_all-clause-recorded : goal.returns-in-Ok-trace_all-clause-recorded
returns-in-Ok-trace_all-clause-recorded g c = λ brands R s is.
    recorded_as c.args.zones brands R _ _ _ c.new-script.result _ _ (g.D.Disk.view c.args.machine.now.bank.disk) (g.D.Disk.view c.trace_all.new.machine.bank.disk) (c.new-script.ensures ∙ c.in-Ok.ensures) (c.in-Ok-trace_all.ensures.recorded brands R s is) (λ a. refl) (λ t. absurd (cc))

pub returns-in-Err-Write-clause-recorded : goal.returns-in-Err-Write-clause-recorded
returns-in-Err-Write-clause-recorded g c = λ brands R s is.
    recorded_as c.args.zones brands R _ _ _ c.new-script.result _ _ (g.D.Disk.view c.args.machine.now.bank.disk) (g.D.Disk.view c.trace_all.new.machine.bank.disk) (c.new-script.ensures ∙ c.in-Ok.ensures) (c.in-Err-Write.ensures.recorded brands R s is) (λ a. absurd (cc)) (λ t. absurd (cc (t, c.in-Err-Write.field-0-is)))

pub returns-in-Err-Memory-clause-recorded : goal.returns-in-Err-Memory-clause-recorded
returns-in-Err-Memory-clause-recorded g c = λ brands R s is.
    recorded_as c.args.zones brands R _ _ _ c.new-script.result _ _ (g.D.Disk.view c.args.machine.now.bank.disk) (g.D.Disk.view c.trace_all.new.machine.bank.disk) (c.new-script.ensures ∙ c.in-Ok.ensures) (c.in-Err-Memory.ensures.recorded brands R s is) (λ a. absurd (cc)) (λ t. absurd (cc (t, c.in-Err-Memory.field-0-is)))

pub returns-in-Err-Disk-clause-recorded : goal.returns-in-Err-Disk-clause-recorded
returns-in-Err-Disk-clause-recorded g c = λ brands R s is.
    recorded_as c.args.zones brands R _ _ _ c.new-script.result _ _ (g.D.Disk.view c.args.machine.now.bank.disk) (g.D.Disk.view c.trace_all.new.machine.bank.disk) (c.new-script.ensures ∙ c.in-Ok.ensures) (c.in-Err-Disk.ensures.recorded brands R s is) (λ a. absurd (cc)) (λ t. refl)

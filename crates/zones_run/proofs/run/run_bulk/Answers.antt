use Rattle.std.proofs.Common.{◌≡◌, ◌∙◌, None, Some, ap, refl}
use Rattle.zones_run.specs.Bulk.{bulk_mode, bulk_text}
use Rattle.zones_run.specs.Run.{fault_status}
use Rattle.zones_run.specs.declared.fault.RunFault.TheVariants.{Disk}
use Rattle.zones_run.proofs.Bulk_told.{fault_not_whole, untold}
use Rattle.zones_run.proofs.run.run_bulk.Goals as goal

pub returns-in-Ok-clause-recorded : goal.returns-in-Ok-clause-recorded
returns-in-Ok-clause-recorded g c = λ brands R s is.
    untold bulk_mode brands R _ _ _ _ _ _ (Some (bulk_text c.args.zones)) None None (g.D.Disk.view c.args.machine.now.bank.disk) (g.D.Disk.view c.report_bulk.new.machine.bank.disk) (c.in-Ok.ensures.recorded brands R s is) (λ a. refl) (λ t. absurd (cc))

pub returns-in-Err-clause-recorded : goal.returns-in-Err-clause-recorded
returns-in-Err-clause-recorded g c = λ brands R s is.
    untold bulk_mode brands R _ _ _ _ _ _ (Some (bulk_text c.args.zones)) None None (g.D.Disk.view c.args.machine.now.bank.disk) (g.D.Disk.view c.report_bulk.new.machine.bank.disk) (c.in-Err.ensures.recorded brands R s is)
    (λ a. absurd (fault_not_whole c.in-Err.fault c.fail.result c.fail.ensures.status a)) (λ t. let same : c.in-Err.fault ≡ Disk = cc in c.fail.ensures.status ∙ ap fault_status same)
